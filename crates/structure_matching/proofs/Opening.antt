-- Names that are open, and rows.
use Rattle.std.proofs.Common.{◌≡◌, ℕ, refl, sym, ap, ◌∙◌, List, [], ◌∷◌, map, Option, Some, None, Bool, true, false, ◌&&◌, ◌||◌, not, cond}
use Rattle.std.specs.Option.{is_none, is_some}
use Rattle.std.specs.List.{list_any}
use Rattle.semantic_objects.specs.declared.name.TyName.{TyName}
use Rattle.semantic_objects.specs.declared.entry.TypeFn.{TypeFn}
use Rattle.semantic_objects.specs.Symbols.{same_name}
use Rattle.realisation.specs.Names.{is_listed, place_in}
use Rattle.realisation.specs.Realised.{of_rows}
use Rattle.type_walks.specs.declared.replacing.Replace.{Replace}
use Rattle.type_walks.specs.Replaced.{rows_of}
use Rattle.type_walks.specs.Tables.{place_among}
use Rattle.type_walks.proofs.Keys.{turned}

chosen : (b c d : Bool) (f : TypeFn) (o : Option TypeFn) → b ≡ c → is_none o ≡ not d
    → is_none (cond b (Some f) o) ≡ not (c || d)
chosen true true d f o e h = refl
chosen true false d f o e h = absurd (cc)
chosen false true d f o e h = absurd (cc)
chosen false false d f o e h = h

-- a name has a row where it stands among those of the rows
pub row_listed : (name : TyName) (list : List Replace)
    → is_none (of_rows (rows_of list) name) ≡ not (is_listed name (map (λ (r : Replace). r.name) list))
row_listed name [] = refl
row_listed name (r ∷ list) = chosen (same_name r.name name) (same_name name r.name)
    (is_listed name (map (λ (q : Replace). q.name) list)) r.by (of_rows (rows_of list) name) (turned r.name name)
    (row_listed name list)

place_some : (b : Bool) (p : ℕ) → is_some (cond b (Some p) None) ≡ b
place_some true p = refl
place_some false p = refl

-- the place of a name tells whether it stands in a list
pub listed_by : (name : TyName) (names : List TyName) (o : Option ℕ) → o ≡ place_among name names
    → is_some o ≡ is_listed name names
listed_by name names o e = ap is_some e ∙ place_some (is_listed name names) (place_in name names)

pub open_by : (name : TyName) (bound : List TyName) (list : List Replace) (names : List TyName) (o p : Option ℕ) (b c : Bool)
    → o ≡ place_among name bound → names ≡ map (λ (r : Replace). r.name) list → p ≡ place_among name names
    → is_some o ≡ not b → b ≡ false → is_some p ≡ not c
    → c ≡ (is_listed name bound && is_none (of_rows (rows_of list) name))
open_by name bound list names o p b c e f g h i j =
    let there : is_listed name bound ≡ true = sym (listed_by name bound o e) ∙ h ∙ ap not i in
    let same : not c ≡ not (is_none (of_rows (rows_of list) name)) =
    sym j ∙ listed_by name names p g ∙ ap (is_listed name) f ∙ sym (twice (is_listed name (map (λ (r : Replace). r.name) list)))
    ∙ ap not (sym (row_listed name list)) in
    sym (twice c) ∙ ap not same ∙ twice (is_none (of_rows (rows_of list) name))
    ∙ sym (ap (λ z. z && is_none (of_rows (rows_of list) name)) there)
  where
    twice : (b : Bool) → not (not b) ≡ b
    twice true = refl
    twice false = refl

-- nothing realises a name that has no place
pub left_by : (name : TyName) (list : List Replace) (names : List TyName) (o : Option ℕ) (b : Bool)
    → names ≡ map (λ (r : Replace). r.name) list → o ≡ place_among name names → is_some o ≡ not b
    → b ≡ is_none (of_rows (rows_of list) name)
left_by name list names o b e f g =
    sym (twice b) ∙ ap not (sym g ∙ listed_by name names o f ∙ ap (is_listed name) e) ∙ sym (row_listed name list)
  where
    twice : (b : Bool) → not (not b) ≡ b
    twice true = refl
    twice false = refl

pub any_next : {A : Type 0} (f : A → Bool) (all rest more : List A) (x : A) (b : Bool) → rest ≡ x ∷ more → b ≡ f x
    → list_any f rest ≡ list_any f all → (b || list_any f more) ≡ list_any f all
any_next f all rest more x b at e h = ap (λ z. z || list_any f more) e ∙ sym (ap (list_any f) at) ∙ h

pub any_found : (b c d : Bool) → b ≡ true → (b || c) ≡ d → true ≡ d
any_found true c d h e = e
any_found false c d h e = absurd (cc)

pub any_later : (b c d : Bool) → b ≡ false → (b || c) ≡ d → c ≡ d
any_later true c d h e = absurd (cc)
any_later false c d h e = e
