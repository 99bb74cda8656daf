-- What is told of rows stays so where the graph has more nodes, and where more rows are told.
use Rattle.std.proofs.Common.{◌≡◌, ℕ, ◌+◌, ◌<◌, sym, ap, subst, ◌∙◌, arith, List, [], ◌∷◌, ◌++◌, length, get_or, Option, Some, None}
use Rattle.std.proofs.lemmas.List.{length-append, get_or_append_left}
use Rattle.node_bytes.specs.Nodes.{Node}
use Rattle.node_bytes.specs.Tables.{nowhere, row_node}
use Rattle.node_bytes.specs.declared.table.Row.{Row}
use Rattle.semantic_objects.specs.Trees.{TypeScheme}
use Rattle.interface_format.proofs.Entries.{scheme_told}
use Rattle.interface_nodes.specs.Fields.{node_at}
use Rattle.sml_modules.specs.Items.{Item, at, as_type, as_env, IsType, IsEnv}
use Rattle.sml_modules.specs.Graphs.{Graph}
use Rattle.sml_modules.specs.Adding.{Extends}
use Rattle.sml_modules.proofs.Unfolding.{Never, at_more}
use Rattle.row_types.proofs.Added.{last_item, split_below}
use Rattle.row_entries.specs.declared.rows.EntryRows.{EntryRows}
use Rattle.row_entries.specs.Told.{IsOrNone, IsSchemeOf, IsStructureOf, AreEntries, ToldAt}
use Rattle.row_entries.proofs.Cons.{is_at}
use Rattle.row_environments.specs.declared.rows.ToldRows.{ToldRows}
use Rattle.row_environments.specs.declared.values.ValuePlaces.{ValuePlaces}
use Rattle.row_environments.specs.Placed.{IsEnvOf, StandsFor, PlaceOrNone, AreAllPlaced, ArePlaced, AreValues, HavePlaces}
use Rattle.row_environments.specs.Answers.{PlacesType, PlacesEnv, PlacesRow}
use Rattle.row_environments.proofs.Valued.{values_kept}

-- ---- more nodes

stands_more : {A : Type 0} (Kind : Item → Type 0) (read : Item → A) (Is : A → Type 0) → Never Kind
    → (old new : Graph) (p : ℕ) → Extends old new → StandsFor Kind read Is old.items p → StandsFor Kind read Is new.items p
stands_more Kind read Is none old new p e h =
    let same : at new.items p ≡ at old.items p =
    ap (λ z. at z p) e.items ∙ at_more Kind none old.items e.more p h.kind in
    record { kind = subst Kind (sym same) h.kind; is = subst (λ z. Is (read z)) (sym same) h.is }

pub place_more : {A : Type 0} (Kind : Item → Type 0) (read : Item → A) (Is : A → Type 0) → Never Kind
    → (old new : Graph) (found : Option ℕ) → Extends old new → PlaceOrNone Kind read Is old.items found
    → PlaceOrNone Kind read Is new.items found
place_more Kind read Is none old new (Some p) e h = stands_more Kind read Is none old new p e h
place_more Kind read Is none old new None e h = h

pub all_more : {A : Type 0} (Kind : Item → Type 0) (read : Item → A) (Is : Node → A → Type 0) → Never Kind
    → (old new : Graph) (made : List Node) (told : List (Option ℕ)) → Extends old new
    → AreAllPlaced Kind read Is old.items made told → AreAllPlaced Kind read Is new.items made told
all_more Kind read Is none old new made told e h = record {
  counted = h.counted;
  each = λ p lt. place_more Kind read (Is (node_at made p)) none old new (get_or told p None) e (h.each p lt);
}

pub placed_more : (home : List ℕ) (old new : Graph) (made : List Node) (told : ToldRows) → Extends old new
    → ArePlaced home old.items made told → ArePlaced home new.items made told
placed_more home old new made told e h = record {
  entries = h.entries;
  types = all_more IsType as_type (IsStructureOf home) (λ k. k) old new made told.types e h.types;
  envs = all_more IsEnv as_env (IsEnvOf home) (λ k. k) old new made told.envs e h.envs;
}

-- ---- one row more

pub all_push : {A : Type 0} (Kind : Item → Type 0) (read : Item → A) (Is : Node → A → Type 0) (items : List Item)
    (made : List Node) (told new : List (Option ℕ)) (y : Node) (found : Option ℕ)
    → AreAllPlaced Kind read Is items made told → PlaceOrNone Kind read (Is y) items found → new ≡ told ++ found ∷ []
    → AreAllPlaced Kind read Is items (made ++ y ∷ []) new
all_push Kind read Is items made told new y found h k e =
    let count : length (made ++ y ∷ []) ≡ length made + 1 = length-append made (y ∷ []) in
    let n : length new ≡ length told + 1 = ap length e ∙ length-append told (found ∷ []) in
    let a = h.counted in
    record {
      counted = omega (arith, count, n, a);
      each = λ p lt. split_below p (length made) (omega (arith, lt, count)) (earlier p) (last p);
    }
  where
    earlier : (p : ℕ) → p < length made
        → PlaceOrNone Kind read (Is (node_at (made ++ y ∷ []) p)) items (get_or new p None)
    earlier p lt =
        let a = h.counted in
        let at_node : node_at (made ++ y ∷ []) p ≡ node_at made p = get_or_append_left made (y ∷ []) nowhere p lt in
        let at_told : get_or new p None ≡ get_or told p None =
        ap (λ (z : List (Option ℕ)). get_or z p None) e
        ∙ get_or_append_left told (found ∷ []) None p (omega (arith, lt, a)) in
        subst (λ z. PlaceOrNone Kind read (Is z) items (get_or new p None)) (sym at_node)
        (subst (PlaceOrNone Kind read (Is (node_at made p)) items) (sym at_told) (h.each p lt))

    last : (p : ℕ) → p ≡ length made
        → PlaceOrNone Kind read (Is (node_at (made ++ y ∷ []) p)) items (get_or new p None)
    last p i =
        let at_node : node_at (made ++ y ∷ []) p ≡ y = last_item made y nowhere p (sym i) in
        let at_told : get_or new p None ≡ found =
        ap (λ (z : List (Option ℕ)). get_or z p None) e ∙ last_item told found None p (h.counted ∙ sym i) in
        subst (λ z. PlaceOrNone Kind read (Is z) items (get_or new p None)) (sym at_node)
        (subst (PlaceOrNone Kind read (Is y) items) (sym at_told) k)

-- a scheme that is told of a row is told of it again
same_found : (home : List ℕ) (x : Node) (σ : TypeScheme) (found : Option TypeScheme) → IsSchemeOf home x σ
    → IsOrNone (IsSchemeOf home x) found → found ≡ Some σ
same_found home x σ (Some τ) h k = ap Some (scheme_told home τ σ k.rules h.rules (sym k.node ∙ h.node))
same_found home x σ None h k = absurd (k σ h)

scheme_stays : (home : List ℕ) (made : List Node) (y : Node) (old new : EntryRows) (row : ℕ) (σ : TypeScheme)
    → AreEntries home made old → AreEntries home (made ++ y ∷ []) new → ToldAt old.schemes row (Some σ)
    → ToldAt new.schemes row (Some σ)
scheme_stays home made y old new row σ h k t =
    let within = t.within in
    let a = h.schemes.counted in
    let b = k.schemes.counted in
    let count : length (made ++ y ∷ []) ≡ length made + 1 = length-append made (y ∷ []) in
    let lt : row < length made = omega (arith, within, a) in
    let more : row < length (made ++ y ∷ []) = omega (arith, lt, count) in
    let same : node_at (made ++ y ∷ []) row ≡ node_at made row = get_or_append_left made (y ∷ []) nowhere row lt in
    record {
      within = omega (arith, more, b);
      is = same_found home (node_at made row) σ (get_or new.schemes row None)
          (is_at (IsSchemeOf home) made old.schemes row (Some σ) h.schemes t)
          (subst (λ z. IsOrNone (IsSchemeOf home z) (get_or new.schemes row None)) same (k.schemes.each row more));
    }

pub values_stay : (home : List ℕ) (made : List Node) (y : Node) (old new : EntryRows) (items : List Item)
    (places : ValuePlaces) → AreEntries home made old → AreEntries home (made ++ y ∷ []) new
    → AreValues old.schemes items places → AreValues new.schemes items places
values_stay home made y old new items places h k v = record {
  each = λ s row p i. (let w = v.each s row p i in record {
    scheme = w.scheme;
    told = scheme_stays home made y old new row w.scheme h k w.told;
    is = w.is;
  });
}

-- one row more is placed, in the graph after its environment was added
pub row_placed : (home : List ℕ) (before mid after : Graph) (old new : ToldRows) (row : Row) (type_place env_place : Option ℕ)
    → Extends before mid → Extends mid after → PlacesType old.entries row mid.items type_place
    → PlacesEnv old mid.items row after.items env_place
    → ((made : List Node) → AreEntries home made old.entries → AreEntries home (made ++ row_node made row ∷ []) new.entries)
    → new.types ≡ old.types ++ type_place ∷ [] → new.envs ≡ old.envs ++ env_place ∷ []
    → PlacesRow home before.items after.items old row new
row_placed home before mid after old new row type_place env_place e f t k n a b made h =
    let m = placed_more home before mid made old e h in
    let all = placed_more home mid after made old f m in
    record {
      entries = n made h.entries;
      types = all_push IsType as_type (IsStructureOf home) after.items made old.types new.types (row_node made row)
          type_place all.types
          (place_more IsType as_type (IsStructureOf home (row_node made row)) (λ k. k) mid after type_place f
          (t home made h.entries)) a;
      envs = all_push IsEnv as_env (IsEnvOf home) after.items made old.envs new.envs (row_node made row) env_place all.envs
          (k home made m) b;
    }

pub have_more : (home : List ℕ) (old new : Graph) (told : ToldRows) (places : ValuePlaces) → Extends old new
    → HavePlaces home old.items told places → HavePlaces home new.items told places
have_more home old new told places e h = record {
  made = h.made;
  placed = placed_more home old new h.made told e h.placed;
  values = values_kept told.entries.schemes old new places e h.values;
}
