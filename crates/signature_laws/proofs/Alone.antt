-- A type name alone, over its own variables in their order, and what becomes of it where names are replaced.
use Rattle.std.proofs.Common.{◌≡◌, ℕ, zero, suc, ◌+◌, ◌<◌, ◌≤◌, List, [], ◌∷◌, ◌++◌, map, length, refl, sym, ap, ap₂, ◌∙◌, subst, arith, Some, None, Bool, true, false, eqb}
use Rattle.std.proofs.lemmas.Bool.{eqb-true, eq-eqb}
use Rattle.semantic_objects.specs.declared.name.TyName.{TyName}
use Rattle.semantic_objects.specs.declared.entry.TypeFn.{TypeFn}
use Rattle.semantic_objects.specs.declared.symbol.Symbol.TheVariants as symbol
use Rattle.semantic_objects.specs.Trees.{Tree, Trees}
use Rattle.unification.specs.Types.{Ty}
use Rattle.unification.specs.Closing.{is_among, place_of, closed_over, closed_over_all, plug, plug_all}
use Rattle.unification.specs.Generality.{same_trees}
use Rattle.unification.proofs.Walking.{and_left, and_right, and_both}
use Rattle.unification.proofs.Filling.{tree_is}
use Rattle.realisation.specs.Realised.{Realisation, argument, put_function, realised_tree, realised_trees, realised_function}
use Rattle.static_semantics.specs.BasicTypes.{types_of}
use Rattle.static_semantics.specs.DatatypeInference.{counted, own_ty, own_type}
use Rattle.static_semantics.specs.TypeInference.{type_function}
use Rattle.static_semantics.specs.Holding.{AllItems}
use Rattle.module_semantics.specs.SignatureNames.{variables_from, if_all, applies_all, name_over, name_alone}

-- ---- what it is

trees_are : (ts us : Trees) → same_trees ts us ≡ true → ts ≡ us
trees_are ts us h =
    let k : Tree.Made symbol.Arrow ts ≡ Tree.Made symbol.Arrow us =
    tree_is (Tree.Made symbol.Arrow ts) (Tree.Made symbol.Arrow us) h in cc

if_all_is : (c : Bool) (n name : TyName) → if_all c n ≡ Some name → (c ≡ true) × (n ≡ name)
if_all_is true n name h = (refl, (let k : n ≡ name = cc in k))
if_all_is false n name h = absurd (cc)

pub record IsAlone (arity : ℕ) (body : Tree) (name : TyName) : Type 0 where
  pub over : body ≡ Tree.Made (symbol.Name name) (variables_from arity 0)
  pub counted : name.arity ≡ arity

pub alone_is : (arity : ℕ) (body : Tree) (name : TyName) → name_over arity body ≡ Some name → IsAlone arity body name
alone_is arity (Tree.Bound i) name h = absurd (cc)
alone_is arity (Tree.Free n) name h = absurd (cc)
alone_is arity (Tree.Made symbol.Arrow ts) name h = absurd (cc)
alone_is arity (Tree.Made (symbol.Record labels) ts) name h = absurd (cc)
alone_is arity (Tree.Made (symbol.Name n) ts) name h =
    let k : (applies_all arity n ts ≡ true) × (n ≡ name) = if_all_is (applies_all arity n ts) n name h in
    record {
      over = ap₂ (λ m us. Tree.Made (symbol.Name m) us) k.1 (trees_are ts (variables_from arity 0)
          (and_right (eqb n.arity arity) (same_trees ts (variables_from arity 0)) k.0));
      counted = sym (ap (λ (m : TyName). m.arity) k.1) ∙ eqb-true n.arity arity
          (and_left (eqb n.arity arity) (same_trees ts (variables_from arity 0)) k.0);
    }

same_itself : (n k : ℕ) → same_trees (variables_from n k) (variables_from n k) ≡ true
same_itself zero k = refl
same_itself (suc n) k = and_both (eqb k k) (same_trees (variables_from n (suc k)) (variables_from n (suc k)))
    (eq-eqb k k refl) (same_itself n (suc k))

if_true : (c : Bool) (name : TyName) → c ≡ true → if_all c name ≡ Some name
if_true true name h = refl
if_true false name h = absurd (cc)

-- a name over its variables in their order is alone
pub is_alone : (name : TyName) (arity : ℕ) → name.arity ≡ arity
    → name_over arity (Tree.Made (symbol.Name name) (variables_from arity 0)) ≡ Some name
is_alone name arity h = if_true (applies_all arity name (variables_from arity 0)) name
    (and_both (eqb name.arity arity) (same_trees (variables_from arity 0) (variables_from arity 0))
    (eq-eqb name.arity arity h) (same_itself arity 0))

-- ---- closing over variables in their order

abbrev Below : ℕ → List ℕ → Type 0
Below m vs = AllItems (λ v. v < m) vs

-- variables that rise, from one on
abbrev pub RisingFrom : ℕ → List ℕ → Type 0
RisingFrom m [] = Unit {0}
RisingFrom m (v ∷ vs) = (m ≤ v) × RisingFrom (suc v) vs

below_more : (m n : ℕ) (vs : List ℕ) → m ≤ n → Below m vs → Below n vs
below_more m n [] h k = tt
below_more m n (v ∷ vs) h k = (omega (arith, h, k.0), below_more m n vs h k.1)

below_after : (m v : ℕ) (before : List ℕ) → m ≤ v → Below m before → Below (suc v) (before ++ v ∷ [])
below_after m v [] h k = ((let l : v < suc v = omega arith in l), tt)
below_after m v (u ∷ before) h k = (omega (arith, h, k.0), below_after m v before h k.1)

differs : (v u : ℕ) → u < v → eqb v u ≡ false
differs v u h = not_eqb (eqb v u) refl
  where
    not_eqb : (c : Bool) → eqb v u ≡ c → eqb v u ≡ false
    not_eqb false e = e
    not_eqb true e = absurd (let k : v ≡ u = eqb-true v u e in omega (arith, h, k))

among_at : (v m : ℕ) (before vs : List ℕ) → m ≤ v → Below m before → is_among v (before ++ v ∷ vs) ≡ true
among_at v m [] vs h k = rw (eq-eqb v v refl)
among_at v m (u ∷ before) vs h k = rw (differs v u (omega (arith, h, k.0)), among_at v m before vs h k.1)

place_at : (v m : ℕ) (before vs : List ℕ) → m ≤ v → Below m before → place_of v (before ++ v ∷ vs) ≡ length before
place_at v m [] vs h k = rw (eq-eqb v v refl)
place_at v m (u ∷ before) vs h k = rw (differs v u (omega (arith, h, k.0)), place_at v m before vs h k.1)

regroup : (before vs : List ℕ) (v : ℕ) → (before ++ v ∷ []) ++ vs ≡ before ++ v ∷ vs
regroup [] vs v = refl
regroup (u ∷ before) vs v = ap (λ z. u ∷ z) (regroup before vs v)

longer : (before : List ℕ) (v : ℕ) → length (before ++ v ∷ []) ≡ suc (length before)
longer [] v = refl
longer (u ∷ before) v = ap suc (longer before v)

closed_at : (vs : List ℕ) (v k : ℕ) → is_among v vs ≡ true → place_of v vs ≡ k
    → closed_over vs (Ty.Var v) ≡ Tree.Bound k
closed_at vs v k h e = rw (h, e)

closed_rest : (m : ℕ) (before vs : List ℕ) → Below m before → RisingFrom m vs
    → closed_over_all (before ++ vs) (types_of (map Ty.Var vs)) ≡ variables_from (length vs) (length before)
closed_rest m before [] h k = refl
closed_rest m before (v ∷ vs) h k = ap₂ Trees.Cons
    (closed_at (before ++ v ∷ vs) v (length before) (among_at v m before vs k.0 h) (place_at v m before vs k.0 h))
    (subst (λ z. closed_over_all z (types_of (map Ty.Var vs)) ≡ variables_from (length vs) (suc (length before)))
    (regroup before vs v)
    (subst (λ z. closed_over_all ((before ++ v ∷ []) ++ vs) (types_of (map Ty.Var vs)) ≡ variables_from (length vs) z)
    (longer before v) (closed_rest (suc v) (before ++ v ∷ []) vs (below_after m v before k.0 h) k.1)))

-- the function of a type name over variables that rise
pub function_alone : (name : TyName) (m : ℕ) (vs : List ℕ) → RisingFrom m vs → name.arity ≡ length vs
    → name_alone (type_function vs (own_ty name vs)) ≡ Some name
function_alone name m vs h e =
    ap (λ us. name_over (length vs) (Tree.Made (symbol.Name name) us)) (closed_rest m [] vs tt h)
    ∙ is_alone name (length vs) e

counted_rise : (n first : ℕ) → RisingFrom first (counted n first)
counted_rise zero first = tt
counted_rise (suc n) first = ((let k : first ≤ first = omega arith in k), counted_rise n (suc first))

count_counted : (n first : ℕ) → length (counted n first) ≡ n
count_counted zero first = refl
count_counted (suc n) first = ap suc (count_counted n (suc first))

pub own_alone : (name : TyName) → name_alone (own_type name).function ≡ Some name
own_alone name = function_alone name 0 (counted name.arity 0) (counted_rise name.arity 0)
    (sym (count_counted name.arity 0))

-- ---- where names are replaced

variables_stay : (φ : Realisation) (n k : ℕ) → realised_trees φ (variables_from n k) ≡ variables_from n k
variables_stay φ zero k = refl
variables_stay φ (suc n) k = ap (Trees.Cons (Tree.Bound k)) (variables_stay φ n (suc k))

variable_at : (n k i : ℕ) → i < n → argument i (variables_from n k) ≡ Tree.Bound (k + i)
variable_at zero k i h = absurd (omega (arith, h))
variable_at (suc n) k zero h = ap Tree.Bound (let e : k ≡ k + 0 = omega arith in e)
variable_at (suc n) k (suc i) h = variable_at n (suc k) i (omega (arith, h))
    ∙ ap Tree.Bound (let e : suc k + i ≡ k + suc i = omega arith in e)

plugged : (n k : ℕ) (args : Trees) → ((i : ℕ) → k ≤ i → i < k + n → argument i args ≡ Tree.Bound i)
    → plug_all (λ i. argument i args) (variables_from n k) ≡ variables_from n k
plugged zero k args h = refl
plugged (suc n) k args h = ap₂ Trees.Cons
    (h k (let l : k ≤ k = omega arith in l) (let l : k < k + suc n = omega arith in l))
    (plugged n (suc k) args (λ i l m. h i (omega (arith, l)) (omega (arith, m))))

at_zero : (n i : ℕ) → 0 ≤ i → i < 0 + n → argument i (variables_from n 0) ≡ Tree.Bound i
at_zero n i l m = variable_at n 0 i (omega (arith, m)) ∙ ap Tree.Bound (let e : 0 + i ≡ i = omega arith in e)

-- another name of the same arity, alone
pub put_other : (φ : Realisation) (f : TypeFn) (name new : TyName) → name_alone f ≡ Some name
    → φ name ≡ Some (own_type new).function → new.arity ≡ name.arity
    → name_alone (realised_function φ f) ≡ Some new
put_other φ f name new h e a =
    let k : IsAlone f.arity f.body name = alone_is f.arity f.body name h in
    let own : IsAlone (own_type new).function.arity (own_type new).function.body new =
    alone_is (own_type new).function.arity (own_type new).function.body new (own_alone new) in
    let many : new.arity ≡ f.arity = a ∙ k.counted in
    ap (λ z. name_over f.arity (realised_tree φ z)) k.over
    ∙ ap (λ z. name_over f.arity (put_function name (realised_trees φ (variables_from f.arity 0)) z)) e
    ∙ ap (λ us. name_over f.arity (plug (λ i. argument i us) (own_type new).function.body))
    (variables_stay φ f.arity 0)
    ∙ ap (λ z. name_over f.arity (plug (λ i. argument i (variables_from f.arity 0)) z))
    (own.over ∙ ap (λ n. Tree.Made (symbol.Name new) (variables_from n 0)) (sym own.counted ∙ many))
    ∙ ap (λ us. name_over f.arity (Tree.Made (symbol.Name new) us))
    (plugged f.arity 0 (variables_from f.arity 0) (at_zero f.arity))
    ∙ is_alone new f.arity many

-- a name for which nothing is put
pub put_same : (φ : Realisation) (f : TypeFn) (name : TyName) → name_alone f ≡ Some name → φ name ≡ None
    → name_alone (realised_function φ f) ≡ Some name
put_same φ f name h e =
    let k : IsAlone f.arity f.body name = alone_is f.arity f.body name h in
    ap (λ z. name_over f.arity (realised_tree φ z)) k.over
    ∙ ap (λ z. name_over f.arity (put_function name (realised_trees φ (variables_from f.arity 0)) z)) e
    ∙ ap (λ us. name_over f.arity (Tree.Made (symbol.Name name) us)) (variables_stay φ f.arity 0)
    ∙ is_alone name f.arity k.counted
