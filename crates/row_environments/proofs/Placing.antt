-- Rows of a graph, and what they stand for.
use Rattle.std.proofs.Common.{◌≡◌, ℕ, zero, suc, ◌<◌, refl, sym, ap, subst, arith, List, [], ◌∷◌, length, get_or, Option, Some, None}
use Rattle.node_bytes.specs.Nodes.{Node}
use Rattle.semantic_objects.specs.declared.entry.TypeStr.{TypeStr}
use Rattle.semantic_objects.specs.declared.entry.ValueEntry.{ValueEntry}
use Rattle.semantic_objects.specs.Tables.{Table}
use Rattle.interface_nodes.specs.declared.fields.NamedPlace.{NamedPlace}
use Rattle.interface_nodes.specs.declared.fields.ValuePlace.{ValuePlace}
use Rattle.interface_nodes.specs.Fields.{node_at, rows_at, values_at}
use Rattle.sml_modules.specs.Items.{Item, at, as_type, as_value, IsType, IsValue, map_rows}
use Rattle.sml_modules.specs.Nodes.{AreAll}
use Rattle.row_entries.specs.declared.rows.EntryRows.{EntryRows}
use Rattle.row_entries.specs.Told.{IsOrNone, IsSchemeOf, IsStructureOf, RowsAre, AreEntries, ToldAt}
use Rattle.row_entries.proofs.Cons.{is_at}
use Rattle.row_environments.specs.Placed.{ValuesAre, PlaceOrNone, AreAllPlaced}
use Rattle.row_environments.specs.Answers.{RowsPlaced, LacksPlace, places_in, ValuesPlaced}

-- ---- a row that is placed

pub placed_at : {A : Type 0} (Kind : Item → Type 0) (read : Item → A) (Is : Node → A → Type 0) (items : List Item)
    (made : List Node) (told : List (Option ℕ)) (place : ℕ) (found : Option ℕ)
    → AreAllPlaced Kind read Is items made told → ToldAt told place found
    → PlaceOrNone Kind read (Is (node_at made place)) items found
placed_at Kind read Is items made told place found h k =
    let count = h.counted in
    let within = k.within in
    subst (PlaceOrNone Kind read (Is (node_at made place)) items) k.is (h.each place (omega (arith, count, within)))

-- ---- rows that are placed

pub rows_are : {A : Type 0} (Kind : Item → Type 0) (read : Item → A) (Is : Node → A → Type 0) (items : List Item)
    (made : List Node) (told : List (Option ℕ)) (table : List NamedPlace) (rows : Table ℕ)
    → AreAllPlaced Kind read Is items made told → RowsPlaced told table rows
    → RowsAre Is (rows_at made table) (map_rows (λ p. read (at items p)) rows)
rows_are Kind read Is items made told [] [] h k = tt
rows_are Kind read Is items made told [] (x ∷ rows) h k = absurd k
rows_are Kind read Is items made told (row ∷ table) [] h k = absurd k
rows_are Kind read Is items made told (row ∷ table) (x ∷ rows) h k = (
  record { name = k.0; is = (placed_at Kind read Is items made told row.place (Some x.1) h k.1).is },
  rows_are Kind read Is items made told table rows h k.2,
)

pub rows_there : {A : Type 0} (Kind : Item → Type 0) (read : Item → A) (Is : Node → A → Type 0) (items : List Item)
    (made : List Node) (told : List (Option ℕ)) (table : List NamedPlace) (rows : Table ℕ)
    → AreAllPlaced Kind read Is items made told → RowsPlaced told table rows → AreAll Kind items rows
rows_there Kind read Is items made told [] [] h k = tt
rows_there Kind read Is items made told [] (x ∷ rows) h k = absurd k
rows_there Kind read Is items made told (row ∷ table) [] h k = absurd k
rows_there Kind read Is items made told (row ∷ table) (x ∷ rows) h k = (
  (placed_at Kind read Is items made told row.place (Some x.1) h k.1).kind,
  rows_there Kind read Is items made told table rows h k.2,
)

-- a row is none
pub rows_lack : {A : Type 0} (Is : Node → A → Type 0) (made : List Node) (table : List NamedPlace) (xs : Table A) (i : ℕ)
    → i < length (places_in table) → ((x : A) → Is (node_at made (get_or (places_in table) i 0)) x → ⊥)
    → RowsAre Is (rows_at made table) xs → ⊥
rows_lack Is made [] xs i lt never h = omega (arith, lt)
rows_lack Is made (row ∷ table) [] i lt never h = h
rows_lack Is made (row ∷ table) (x ∷ xs) zero lt never h = never x.1 h.0.is
rows_lack Is made (row ∷ table) (x ∷ xs) (suc i) lt never h =
    rows_lack Is made table xs i (omega (arith, lt)) never h.1

pub lacking : {A : Type 0} (Kind : Item → Type 0) (read : Item → A) (Is : Node → A → Type 0) (items : List Item)
    (made : List Node) (told : List (Option ℕ)) (table : List NamedPlace) (xs : Table A)
    → AreAllPlaced Kind read Is items made told → LacksPlace told (places_in table) → RowsAre Is (rows_at made table) xs → ⊥
lacking Kind read Is items made told table xs h l k =
    rows_lack Is made table xs l.at l.within
    (placed_at Kind read Is items made told (get_or (places_in table) l.at 0) None h l.none) k

-- ---- values

pub values_are : (home : List ℕ) (made : List Node) (entries : EntryRows) (items : List Item) (table : List ValuePlace)
    (rows : Table ℕ) → AreEntries home made entries → ValuesPlaced entries items table rows
    → ValuesAre home (values_at made table) (map_rows (λ p. as_value (at items p)) rows)
values_are home made entries items [] [] h k = tt
values_are home made entries items [] (x ∷ rows) h k = absurd k
values_are home made entries items (row ∷ table) [] h k = absurd k
values_are home made entries items (row ∷ table) (x ∷ rows) h k =
    let v = k.1 in (
      record {
        name = k.0;
        status = sym (ap (λ (z : ValueEntry). z.status) (ap as_value v.is));
        scheme = subst (IsSchemeOf home (node_at made row.place))
            (sym (ap (λ (z : ValueEntry). z.scheme) (ap as_value v.is)))
            (is_at (IsSchemeOf home) made entries.schemes row.place (Some v.scheme) h.schemes v.told);
      },
      values_are home made entries items table rows h k.2,
    )

pub values_there : (entries : EntryRows) (items : List Item) (table : List ValuePlace) (rows : Table ℕ)
    → ValuesPlaced entries items table rows → AreAll IsValue items rows
values_there entries items [] [] k = tt
values_there entries items [] (x ∷ rows) k = absurd k
values_there entries items (row ∷ table) [] k = absurd k
values_there entries items (row ∷ table) (x ∷ rows) k =
    (subst IsValue (sym k.1.is) tt, values_there entries items table rows k.2)

-- ---- type structures

-- one stands at a place
pub type_placed : (home : List ℕ) (x : Node) (items : List Item) (p : ℕ) (found : Option TypeStr) (entry : TypeStr)
    → IsOrNone (IsStructureOf home x) found → found ≡ Some entry → at items p ≡ Item.TypeItem entry
    → PlaceOrNone IsType as_type (IsStructureOf home x) items (Some p)
type_placed home x items p found entry h e i = record {
  kind = subst IsType (sym i) tt;
  is = subst (IsStructureOf home x) (sym (ap as_type i)) (subst (IsOrNone (IsStructureOf home x)) e h);
}

pub type_none : (home : List ℕ) (x : Node) (items : List Item) (found : Option TypeStr)
    → IsOrNone (IsStructureOf home x) found → ((entry : TypeStr) → found ≡ Some entry → ⊥)
    → PlaceOrNone IsType as_type (IsStructureOf home x) items None
type_none home x items (Some entry) h never = absurd (never entry refl)
type_none home x items None h never = h

-- no row is placed yet
pub none_placed : {A : Type 0} (Kind : Item → Type 0) (read : Item → A) (Is : Node → A → Type 0) (items : List Item)
    (told : List (Option ℕ)) → told ≡ [] → AreAllPlaced Kind read Is items [] told
none_placed Kind read Is items told e = record {
  counted = ap length e;
  each = λ p lt. absurd (omega (arith, lt));
}
