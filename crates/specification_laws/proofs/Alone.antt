-- A type name alone, over variables that differ.
use Rattle.std.proofs.Common.{◌≡◌, ℕ, zero, suc, List, [], ◌∷◌, ◌++◌, map, length, refl, sym, ap, ap₂, ◌∙◌, subst, Some, Bool, true, false, ◌||◌, not, cond, eqb}
use Rattle.std.proofs.lemmas.Bool.{eqb-true, eq-eqb}
use Rattle.semantic_objects.specs.declared.name.TyName.{TyName}
use Rattle.semantic_objects.specs.declared.symbol.Symbol.TheVariants as symbol
use Rattle.semantic_objects.specs.Trees.{Tree, Trees}
use Rattle.unification.specs.Types.{Ty}
use Rattle.unification.specs.Closing.{is_among, place_of, closed_over, closed_over_all}
use Rattle.unification.proofs.Walking.{either_way, or_left, or_right, or_false_left, or_false_right, and_left, and_right}
use Rattle.static_semantics.specs.BasicTypes.{types_of}
use Rattle.static_semantics.specs.DatatypeInference.{own_ty}
use Rattle.static_semantics.specs.RuleConditions.{do_differ}
use Rattle.static_semantics.specs.TypeInference.{type_function}
use Rattle.module_semantics.specs.SignatureNames.{variables_from, name_over, name_alone}
use Rattle.phrase_laws.proofs.Patterns.{not_true}
use Rattle.signature_laws.proofs.Alone.{is_alone}

among_mid : (v : ℕ) (before vs : List ℕ) → is_among v (before ++ v ∷ vs) ≡ true
among_mid v [] vs = or_left (eqb v v) (is_among v vs) (eq-eqb v v refl)
among_mid v (u ∷ before) vs = or_right (eqb v u) (is_among v (before ++ v ∷ vs)) (among_mid v before vs)

place_mid : (v : ℕ) (before vs : List ℕ) → is_among v before ≡ false → place_of v (before ++ v ∷ vs) ≡ length before
place_mid v [] vs h = ap (λ b. cond b zero (suc (place_of v vs))) (eq-eqb v v refl)
place_mid v (u ∷ before) vs h =
    ap (λ b. cond b zero (suc (place_of v (before ++ v ∷ vs)))) (or_false_left (eqb v u) (is_among v before) h)
    ∙ ap suc (place_mid v before vs (or_false_right (eqb v u) (is_among v before) h))

neither : (a b : Bool) → a ≡ false → b ≡ false → (a || b) ≡ false
neither true b h k = h
neither false b h k = k

-- one behind others differs from them
differ_mid : (v : ℕ) (before vs : List ℕ) → do_differ (before ++ v ∷ vs) ≡ true → is_among v before ≡ false
differ_mid v [] vs h = refl
differ_mid v (u ∷ before) vs h =
    let rest : List ℕ = before ++ v ∷ vs in
    let apart : is_among u rest ≡ false = not_true (is_among u rest) (and_left (not (is_among u rest)) (do_differ rest)
    h) in
    neither (eqb v u) (is_among v before)
    (either_way (eqb v u)
    (λ e. let same : is_among u rest ≡ true = subst (λ z. is_among z rest ≡ true) (eqb-true v u e)
    (among_mid v before vs) in absurd (cc)) (λ e. e))
    (differ_mid v before vs (and_right (not (is_among u rest)) (do_differ rest) h))

closed_at : (vs : List ℕ) (v k : ℕ) → is_among v vs ≡ true → place_of v vs ≡ k
    → closed_over vs (Ty.Var v) ≡ Tree.Bound k
closed_at vs v k h e = rw (h, e)

regroup : (before vs : List ℕ) (v : ℕ) → (before ++ v ∷ []) ++ vs ≡ before ++ v ∷ vs
regroup [] vs v = refl
regroup (u ∷ before) vs v = ap (λ z. u ∷ z) (regroup before vs v)

longer : (before : List ℕ) (v : ℕ) → length (before ++ v ∷ []) ≡ suc (length before)
longer [] v = refl
longer (u ∷ before) v = ap suc (longer before v)

closed_rest : (before vs : List ℕ) → do_differ (before ++ vs) ≡ true
    → closed_over_all (before ++ vs) (types_of (map Ty.Var vs)) ≡ variables_from (length vs) (length before)
closed_rest before [] h = refl
closed_rest before (v ∷ vs) h = ap₂ Trees.Cons
    (closed_at (before ++ v ∷ vs) v (length before) (among_mid v before vs)
    (place_mid v before vs (differ_mid v before vs h)))
    (subst (λ z. closed_over_all z (types_of (map Ty.Var vs)) ≡ variables_from (length vs) (suc (length before)))
    (regroup before vs v)
    (subst (λ z. closed_over_all ((before ++ v ∷ []) ++ vs) (types_of (map Ty.Var vs)) ≡ variables_from (length vs) z)
    (longer before v)
    (closed_rest (before ++ v ∷ []) vs (subst (λ z. do_differ z ≡ true) (sym (regroup before vs v)) h))))

-- the function of a type name over variables that differ
pub function_alone : (name : TyName) (vs : List ℕ) → do_differ vs ≡ true → name.arity ≡ length vs
    → name_alone (type_function vs (own_ty name vs)) ≡ Some name
function_alone name vs h e =
    ap (λ us. name_over (length vs) (Tree.Made (symbol.Name name) us)) (closed_rest [] vs h)
    ∙ is_alone name (length vs) e
