-- Names that are put for others: what is made of them, and where a list of rows has one.
use Rattle.std.proofs.Common.{◌≡◌, ℕ, zero, suc, ◌+◌, List, [], ◌∷◌, map, length, refl, sym, ap, ◌∙◌, subst, arith, Option, Some, None, Bool, true, false, ◌&&◌, cond, eqb}
use Rattle.std.proofs.lemmas.Bool.{eq-eqb}
use Rattle.std.proofs.lemmas.List.{length-map}
use Rattle.std.specs.Option.{is_none}
use Rattle.semantic_objects.specs.declared.name.TyName.{TyName}
use Rattle.semantic_objects.specs.declared.symbol.Symbol.TheVariants as symbol
use Rattle.semantic_objects.specs.declared.entry.TypeFn.{TypeFn}
use Rattle.semantic_objects.specs.Symbols.{same_name}
use Rattle.unification.specs.Types.{Ty}
use Rattle.unification.proofs.Walking.{or_left, or_right, or_either, and_left, and_both}
use Rattle.realisation.specs.Names.{is_listed}
use Rattle.realisation.specs.Realised.{of_rows}
use Rattle.realisation.proofs.Listing.{name_is, name_same}
use Rattle.static_semantics.specs.DatatypeInference.{own_ty, counted, own_type}
use Rattle.static_semantics.specs.Holding.{AllItems, IfSome, TypeHas}
use Rattle.inference_laws.specs.Nodes.{Nodes, TyOf, TreeOf, SchemeOf, FunctionOf, NumberedFrom, MayStand}
use Rattle.inference_laws.proofs.Nodes.{ty_made}
use Rattle.inference_laws.proofs.TypesMade.{function_closed}
use Rattle.module_semantics.specs.SignatureNames.{rows_between, unit_names, bound_names}
use Rattle.unit_laws.specs.Parts.{allowing, AreBoundFrom}
use Rattle.unit_laws.proofs.Realised.{PutOf, Realises}

-- ---- a type name over its variables

variables_of : (q : Nodes) (vs : List ℕ) → AllItems (TyOf q) (map Ty.Var vs)
variables_of q [] = tt
variables_of q (v ∷ vs) = (tt, variables_of q vs)

count_counted : (n first : ℕ) → length (counted n first) ≡ n
count_counted zero first = refl
count_counted (suc n) first = ap suc (count_counted n (suc first))

pub own_function : (q : Nodes) (name : TyName) → MayStand q name → FunctionOf q (own_type name).function
own_function q name h = function_closed q (counted name.arity 0) (own_ty name (counted name.arity 0))
    (ty_made q (symbol.Name name) (map Ty.Var (counted name.arity 0))
    (subst (λ z. q (symbol.Name name) z ≡ true)
    (sym (length-map (counted name.arity 0) Ty.Var ∙ count_counted name.arity 0)) h)
    (variables_of q (counted name.arity 0)))

pub own_type_of : (q : Nodes) (name : TyName) → MayStand q name → TypeHas (SchemeOf q) (FunctionOf q) (own_type name)
own_type_of q name h = (own_function q name h, tt)

-- ---- rows

-- what rows put is made of such nodes
abbrev pub RowsOf : Nodes → List (TyName × TypeFn) → Type 0
RowsOf q rows = AllItems (λ (row : TyName × TypeFn). TreeOf q row.1.body) rows

if_first : (q : Nodes) (c : Bool) (f : TypeFn) (rest : Option TypeFn) → TreeOf q f.body
    → IfSome (λ (x : TypeFn). TreeOf q x.body) rest → IfSome (λ (x : TypeFn). TreeOf q x.body) (cond c (Some f) rest)
if_first q true f rest h k = h
if_first q false f rest h k = k

rows_put : (q : Nodes) (rows : List (TyName × TypeFn)) (name : TyName) → RowsOf q rows
    → IfSome (λ (x : TypeFn). TreeOf q x.body) (of_rows rows name)
rows_put q [] name h = tt
rows_put q (row ∷ rows) name h =
    if_first q (same_name row.0 name) row.1 (of_rows rows name) h.0 (rows_put q rows name h.1)

put_case : (r : Nodes) (name : TyName) (parts : ℕ) (o : Option TypeFn) → IfSome (λ (x : TypeFn). TreeOf r x.body) o
    → (is_none o ≡ true → r (symbol.Name name) parts ≡ true) → PutOf r name parts o
put_case r name parts None h k = k refl
put_case r name parts (Some f) h k = h

-- what may stand of the one kind may stand of the other, type names aside
pub record Passes (q r : Nodes) : Type 0 where
  pub arrow : (parts : ℕ) → q symbol.Arrow parts ≡ true → r symbol.Arrow parts ≡ true
  pub labels : (labels : List (List ℕ)) (parts : ℕ) → q (symbol.Record labels) parts ≡ true
      → r (symbol.Record labels) parts ≡ true

pub passes_same : (q : Nodes) → Passes q q
passes_same q = record { arrow = λ parts h. h; labels = λ labels parts h. h }

pub passes_from : (names : List TyName) (q : Nodes) → Passes (allowing names q) q
passes_from names q = record { arrow = λ parts h. h; labels = λ labels parts h. h }

pub passes_to : (names : List TyName) (q : Nodes) → Passes q (allowing names q)
passes_to names q = record { arrow = λ parts h. h; labels = λ labels parts h. h }

pub rows_realise : (q r : Nodes) (rows : List (TyName × TypeFn)) → Passes q r → r (symbol.Record []) 0 ≡ true
    → RowsOf r rows
    → ((name : TyName) (parts : ℕ) → is_none (of_rows rows name) ≡ true → q (symbol.Name name) parts ≡ true
    → r (symbol.Name name) parts ≡ true) → Realises q r (of_rows rows)
rows_realise q r rows p e h k = record {
  arrow = p.arrow;
  record_ = p.labels;
  empty = e;
  names = λ name parts i. put_case r name parts (of_rows rows name) (rows_put r rows name h) (λ n. k name parts n i);
}

-- ---- where there is a row

none_false : (o : Option TypeFn) → is_none o ≡ false → is_none o ≡ true → ⊥
none_false None h k = absurd (cc)
none_false (Some f) h k = absurd (cc)

there_first : (c : Bool) (f : TypeFn) (rest : Option TypeFn) → (c ≡ false → is_none rest ≡ false)
    → is_none (cond c (Some f) rest) ≡ false
there_first true f rest h = refl
there_first false f rest h = h refl

-- each name of a list has a row
abbrev pub HasRows : List TyName → List (TyName × TypeFn) → Type 0
HasRows names rows = (name : TyName) → is_listed name names ≡ true → is_none (of_rows rows name) ≡ false

same_both : (m n : TyName) → same_name n m ≡ true → same_name m n ≡ true
same_both m n h = subst (λ z. same_name z n ≡ true) (name_is n m h) (name_same n)

false_not : (b : Bool) → b ≡ true → b ≡ false → ⊥
false_not true h k = absurd (cc)
false_not false h k = absurd (cc)

pub has_between : (olds news : List TyName) → length news ≡ length olds → HasRows olds (rows_between olds news)
has_between [] news e name l = absurd (cc)
has_between (old ∷ olds) [] e name l = absurd (omega (arith, (let k : 0 ≡ suc (length olds) = e in k)))
has_between (old ∷ olds) (new ∷ news) e name l =
    there_first (same_name old name) (own_type new).function (of_rows (rows_between olds news) name)
    (λ n. has_between olds news (let k : suc (length news) ≡ suc (length olds) = e in omega (arith, k)) name
    (or_either (same_name name old) (is_listed name olds) l
    (λ i. absurd (false_not (same_name old name) (same_both old name i) n)) (λ i. i)))

pub between_of : (q : Nodes) (olds news : List TyName) → AllItems (MayStand q) news → RowsOf q (rows_between olds news)
between_of q [] news h = tt
between_of q (old ∷ olds) [] h = tt
between_of q (old ∷ olds) (new ∷ news) h = ((own_function q new h.0).body, between_of q olds news h.1)

-- names that are allowed have rows, and all others may stand
pub from_allowed : (q : Nodes) (names : List TyName) (rows : List (TyName × TypeFn)) → q (symbol.Record []) 0 ≡ true
    → RowsOf q rows → HasRows names rows → Realises (allowing names q) q (of_rows rows)
from_allowed q names rows e h k = rows_realise (allowing names q) q rows (passes_from names q) e h
    (λ name parts n i. or_either (is_listed name names && eqb parts name.arity) (q (symbol.Name name) parts) i
    (λ l. absurd (none_false (of_rows rows name)
    (k name (and_left (is_listed name names) (eqb parts name.arity) l)) n)) (λ l. l))

-- names of a list are allowed
pub listed_stand : (q : Nodes) (names more : List TyName) → ((name : TyName) → is_listed name more ≡ true
    → is_listed name names ≡ true) → AllItems (MayStand (allowing names q)) more
listed_stand q names [] h = tt
listed_stand q names (name ∷ more) h = (
  or_left (is_listed name names && eqb name.arity name.arity) (q (symbol.Name name) name.arity)
      (and_both (is_listed name names) (eqb name.arity name.arity)
      (h name (or_left (same_name name name) (is_listed name more) (name_same name)))
      (eq-eqb name.arity name.arity refl)),
  listed_stand q names more (λ m l. h m (or_right (same_name m name) (is_listed m more) l)),
)

-- names are put for others that are closed
pub to_allowed : (q : Nodes) (olds news : List TyName) → q (symbol.Record []) 0 ≡ true
    → Realises q (allowing news q) (of_rows (rows_between olds news))
to_allowed q olds news e = rows_realise q (allowing news q) (rows_between olds news) (passes_to news q) e
    (between_of (allowing news q) olds news (listed_stand q news news (λ name l. l)))
    (λ name parts n i. or_right (is_listed name news && eqb parts name.arity) (q (symbol.Name name) parts) i)

-- ---- numbered names

pub unit_numbered : (home : List ℕ) (number : ℕ) (names : List TyName)
    → NumberedFrom home number (unit_names home number names) (number + length names)
unit_numbered home number [] = omega arith
unit_numbered home number (name ∷ names) = (
  refl,
  refl,
  subst (NumberedFrom home (suc number) (unit_names home (suc number) names))
      (let k : suc number + length names ≡ number + length (name ∷ names) = omega arith in k)
      (unit_numbered home (suc number) names),
)

pub unit_length : (home : List ℕ) (number : ℕ) (names : List TyName)
    → length (unit_names home number names) ≡ length names
unit_length home number [] = refl
unit_length home number (name ∷ names) = ap suc (unit_length home (suc number) names)

pub bound_numbered : (number : ℕ) (names : List TyName) → AreBoundFrom number (bound_names number names)
bound_numbered number [] = tt
bound_numbered number (name ∷ names) = (refl, refl, bound_numbered (suc number) names)

pub bound_length : (number : ℕ) (names : List TyName) → length (bound_names number names) ≡ length names
bound_length number [] = refl
bound_length number (name ∷ names) = ap suc (bound_length (suc number) names)
