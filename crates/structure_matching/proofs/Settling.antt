-- What a walk for a realisation realises is realised for every later one: the same walk again adds no row.
use Rattle.std.proofs.Common.{◌≡◌, ℕ, refl, sym, ap, ◌∙◌, subst, List, [], ◌∷◌, ◌++◌, Option, Some, None, Bool, true, false, ◌&&◌, not, eqb, cond, append_assoc, append-nil}
use Rattle.std.specs.Prelude.{Ok, Err}
use Rattle.std.specs.Option.{is_none}
use Rattle.cm_base.specs.declared.diag.Place.{Place}
use Rattle.semantic_objects.specs.declared.name.TyName.{TyName}
use Rattle.semantic_objects.specs.declared.entry.TypeFn.{TypeFn}
use Rattle.semantic_objects.specs.declared.entry.TypeStr.{TypeStr}
use Rattle.semantic_objects.specs.Symbols.{same_name}
use Rattle.semantic_objects.specs.Environments.{Env, structures, types}
use Rattle.unification.specs.Types.{State}
use Rattle.realisation.specs.Names.{is_listed}
use Rattle.realisation.specs.Realised.{of_rows, function_admits}
use Rattle.realisation.proofs.Listing.{name_same}
use Rattle.static_semantics.specs.Inferring.{Scope, Answer, ◌>>=◌, gives, refuses_where, found_at}
use Rattle.module_semantics.specs.SignatureNames.{name_alone}
use Rattle.module_semantics.specs.Matching.{Item, Rows, present, if_flexible, realising, realising_item, realising_all}
use Rattle.structure_matching.specs.Searching.{at_of}
use Rattle.structure_matching.proofs.RealisingSteps.{goes_on}

-- ---- rows that come behind others

pub record Grows (old new : Rows) : Type 0 where
  pub more : Rows
  pub is : new ≡ old ++ more

stays : (old new : Rows) → old ≡ new → Grows old new
stays old new e = record { more = []; is = sym e ∙ sym (append-nil old) }

pub grows_on : (old mid new : Rows) → Grows old mid → Grows mid new → Grows old new
grows_on old mid new g h = record {
  more = g.more ++ h.more;
  is = h.is ∙ ap (λ rows. rows ++ h.more) g.is ∙ append_assoc old g.more h.more;
}

some_ok : {A : Type 0} (x y : A) → gives x ≡ gives y → x ≡ y
some_ok x y h = cc

-- a name that has a row keeps one
row_stays : (name : TyName) (rows more : Rows) → is_none (of_rows rows name) ≡ false
    → is_none (of_rows (rows ++ more) name) ≡ false
row_stays name [] more h = absurd (cc)
row_stays name (row ∷ rows) more h =
    step (same_name row.0 name) (of_rows rows name) (of_rows (rows ++ more) name) (row_stays name rows more) h
  where
    step : (b : Bool) (o p : Option TypeFn) → (is_none o ≡ false → is_none p ≡ false)
        → is_none (cond b (Some row.1) o) ≡ false → is_none (cond b (Some row.1) p) ≡ false
    step true o p k e = refl
    step false o p k e = k e

row_there : (name : TyName) (by : TypeFn) (rows more : Rows)
    → is_none (of_rows ((rows ++ (name, by) ∷ []) ++ more) name) ≡ false
row_there name by rows more = row_stays name (rows ++ (name, by) ∷ []) more (last rows)
  where
    last : (rows : Rows) → is_none (of_rows (rows ++ (name, by) ∷ []) name) ≡ false
    last [] = ap (λ b. is_none (cond b (Some by) None)) (name_same name)
    last (row ∷ rows) = either (same_name row.0 name) (of_rows (rows ++ (name, by) ∷ []) name) (last rows)
      where
        either : (b : Bool) (o : Option TypeFn) → is_none o ≡ false → is_none (cond b (Some row.1) o) ≡ false
        either true o h = refl
        either false o h = h

-- ---- one name

-- what is asked of a type that is found for a name, and the row that it gives
abbrev realises_by : Scope → Place → Bool → Bool → Rows → Rows → Answer Rows
realises_by inner place a b rows next =
    refuses_where a 35 inner (at_of place) >>= λ u. refuses_where b 33 inner (at_of place) >>= λ v. gives next

gave : (inner : Scope) (place : Place) (a b : Bool) (rows next r : Rows)
    → realises_by inner place a b rows next ≡ gives r → next ≡ r
gave inner place true b rows next r h = absurd (cc)
gave inner place false true rows next r h = absurd (cc)
gave inner place false false rows next r h = some_ok next r h

-- the row of a name that is realised
pub record AddsRow (name : TyName) (rows r : Rows) : Type 0 where
  pub by : TypeFn
  pub is : r ≡ rows ++ (name, by) ∷ []

adds_row : (inner : Scope) (place : Place) (s : State) (env : Env) (path : List (List ℕ)) (rows r : Rows) (name : TyName)
    → realising inner (at_of place) s env path rows (Some name) ≡ gives r → AddsRow name rows r
adds_row inner place s env path rows r name h = from (found_at types path env) h
  where
    from : (o : Option TypeStr) → (present inner (at_of place) path o
        >>= λ str. realises_by inner place (not (eqb str.function.arity name.arity))
        (name.eq && not (function_admits s.marks str.function)) rows (rows ++ (name, str.function) ∷ [])) ≡ gives r
        → AddsRow name rows r
    from None h = absurd (cc)
    from (Some str) h = record {
      by = str.function;
      is = sym (gave inner place (not (eqb str.function.arity name.arity))
          (name.eq && not (function_admits s.marks str.function)) rows (rows ++ (name, str.function) ∷ []) r h);
    }

-- ---- one item

type_grows : (inner : Scope) (place : Place) (s : State) (env : Env) (path : List (List ℕ)) (rows r : Rows)
    (o : Option TyName) → realising inner (at_of place) s env path rows o ≡ gives r → Grows rows r
type_grows inner place s env path rows r None h = stays rows r (some_ok rows r h)
type_grows inner place s env path rows r (Some name) h =
    let added : AddsRow name rows r = adds_row inner place s env path rows r name h in
    record { more = (name, added.by) ∷ []; is = added.is }

-- a name that is open where the other has no row
open_to : (bound : List TyName) (rows : Rows) (name : TyName) → is_none (of_rows rows name) ≡ false
    → if_flexible bound rows (Some name) ≡ None
open_to bound rows name h = closed (is_listed name bound) (is_none (of_rows rows name)) h
  where
    closed : (b c : Bool) → c ≡ false → cond (b && c) (Some name) None ≡ None
    closed true c e = ap (λ z. cond z (Some name) None) e
    closed false c e = refl

type_again : (inner : Scope) (place : Place) (s : State) (env : Env) (bound : List TyName) (path : List (List ℕ))
    (rows r more : Rows) (alone : Option TyName)
    → realising inner (at_of place) s env path rows (if_flexible bound rows alone) ≡ gives r
    → if_flexible bound (r ++ more) alone ≡ None
type_again inner place s env bound path rows r more None h = refl
type_again inner place s env bound path rows r more (Some name) h =
    by (is_listed name bound) (is_none (of_rows rows name)) refl refl h
  where
    by : (b c : Bool) → is_listed name bound ≡ b → is_none (of_rows rows name) ≡ c
        → realising inner (at_of place) s env path rows (cond (b && c) (Some name) None) ≡ gives r
        → if_flexible bound (r ++ more) (Some name) ≡ None
    by false c e f h = ap (λ z. cond (z && is_none (of_rows (r ++ more) name)) (Some name) None) e
    by true false e f h = open_to bound (r ++ more) name
        (row_stays name r more (ap (λ z. is_none (of_rows z name)) (sym (some_ok rows r h)) ∙ f))
    by true true e f h =
        let added : AddsRow name rows r = adds_row inner place s env path rows r name h in
        open_to bound (r ++ more) name
        (subst (λ z. is_none (of_rows (z ++ more) name) ≡ false) (sym added.is) (row_there name added.by rows more))

structure_gives : (inner : Scope) (place : Place) (path : List (List ℕ)) (o : Option Env) (rows r : Rows)
    → (present inner (at_of place) path o >>= λ e. gives rows) ≡ gives r → rows ≡ r
structure_gives inner place path None rows r h = absurd (cc)
structure_gives inner place path (Some e) rows r h = some_ok rows r h

structure_again : (inner : Scope) (place : Place) (path : List (List ℕ)) (o : Option Env) (rows r later : Rows)
    → (present inner (at_of place) path o >>= λ e. gives rows) ≡ gives r
    → (present inner (at_of place) path o >>= λ e. gives later) ≡ gives later
structure_again inner place path None rows r later h = absurd (cc)
structure_again inner place path (Some e) rows r later h = refl

item_grows : (inner : Scope) (place : Place) (s : State) (env : Env) (bound : List TyName) (item : Item) (rows r : Rows)
    → realising_item inner (at_of place) s env bound item rows ≡ gives r → Grows rows r
item_grows inner place s env bound (Item.StructureItem path) rows r h =
    stays rows r (structure_gives inner place path (found_at structures path env) rows r h)
item_grows inner place s env bound (Item.TypeItem path str) rows r h =
    type_grows inner place s env path rows r (if_flexible bound rows (name_alone str.function)) h
item_grows inner place s env bound (Item.ValueItem path value) rows r h = stays rows r (some_ok rows r h)

item_again : (inner : Scope) (place : Place) (s : State) (env : Env) (bound : List TyName) (item : Item)
    (rows r more : Rows) → realising_item inner (at_of place) s env bound item rows ≡ gives r
    → realising_item inner (at_of place) s env bound item (r ++ more) ≡ gives (r ++ more)
item_again inner place s env bound (Item.StructureItem path) rows r more h =
    structure_again inner place path (found_at structures path env) rows r (r ++ more) h
item_again inner place s env bound (Item.TypeItem path str) rows r more h =
    ap (realising inner (at_of place) s env path (r ++ more))
    (type_again inner place s env bound path rows r more (name_alone str.function) h)
item_again inner place s env bound (Item.ValueItem path value) rows r more h = refl

-- ---- items one after the other

-- the first of two steps that give
first_gave : {A B : Type 0} (m : Answer A) (f : A → Answer B) (r : B) → (m >>= f) ≡ gives r
    → (x : A) × ((m ≡ gives x) × (f x ≡ gives r))
first_gave None f r h = absurd (cc)
first_gave (Some (Err d)) f r h = absurd (cc)
first_gave (Some (Ok x)) f r h = (x, (refl, h))

pub all_grow : (inner : Scope) (place : Place) (s : State) (env : Env) (bound : List TyName) (xs : List Item)
    (rows r : Rows) → realising_all inner (at_of place) s env bound xs rows ≡ gives r → Grows rows r
all_grow inner place s env bound [] rows r h = stays rows r (some_ok rows r h)
all_grow inner place s env bound (x ∷ xs) rows r h =
    let first = first_gave (realising_item inner (at_of place) s env bound x rows)
    (realising_all inner (at_of place) s env bound xs) r h in
    grows_on rows first.0 r (item_grows inner place s env bound x rows first.0 first.1.0)
    (all_grow inner place s env bound xs first.0 r first.1.1)

-- the same walk with the rows that it gave, and more
pub all_again : (inner : Scope) (place : Place) (s : State) (env : Env) (bound : List TyName) (xs : List Item)
    (rows r more : Rows) → realising_all inner (at_of place) s env bound xs rows ≡ gives r
    → realising_all inner (at_of place) s env bound xs (r ++ more) ≡ gives (r ++ more)
all_again inner place s env bound [] rows r more h = refl
all_again inner place s env bound (x ∷ xs) rows r more h =
    let first = first_gave (realising_item inner (at_of place) s env bound x rows)
    (realising_all inner (at_of place) s env bound xs) r h in
    let grown : Grows first.0 r = all_grow inner place s env bound xs first.0 r first.1.1 in
    let later : r ++ more ≡ first.0 ++ (grown.more ++ more) =
    ap (λ z. z ++ more) grown.is ∙ append_assoc first.0 grown.more more in
    goes_on (realising_item inner (at_of place) s env bound x (r ++ more)) (r ++ more)
    (realising_all inner (at_of place) s env bound xs)
    (ap (realising_item inner (at_of place) s env bound x) later
    ∙ item_again inner place s env bound x rows first.0 (grown.more ++ more) first.1.0
    ∙ ap gives (sym later))
    ∙ all_again inner place s env bound xs first.0 r more first.1.1
