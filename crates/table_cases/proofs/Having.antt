-- Ids of tables that grow, and labels that differ.
use Rattle.std.proofs.Common.{◌≡◌, ℕ, List, [], ◌∷◌, ◌++◌, ◌+◌, length, sym, subst, Some, Bool, true, false, slice_get, arith, ◌⊎◌, inl, inr}
use Rattle.std.specs.Prelude.{not}
use Rattle.semantic_objects.specs.declared.name.TyId.{TyId}
use Rattle.semantic_objects.specs.declared.name.TyId.TheVariants as id
use Rattle.semantic_objects.specs.Symbols.{same_text}
use Rattle.semantic_objects.proofs.Same.{text_is}
use Rattle.semantic_objects.specs.Trees.{TypeScheme}
use Rattle.unification.specs.Generality.{IsOf}
use Rattle.unification.specs.Fitting.{IsSchemeOf}
use Rattle.unification.proofs.Putting.{either_way}
use Rattle.type_nodes.specs.Nodes.{IsIdOf}
use Rattle.type_nodes.specs.declared.node.Birth.{Birth}
use Rattle.type_nodes.specs.Tables.{Table, Has, IsFrontOf, state, with_variable_of}
use Rattle.type_nodes.proofs.Making.{get_snoc, length_snoc}
use Rattle.type_schemes.specs.Schemes.{HaveAll}
use Rattle.sml_types.specs.Unifying.{Grown}

have_by : (t : Table) (ids : List TyId) (a b : TyId) (i : ℕ) → HaveAll t ids → Has t a
    → (slice_get ids i ≡ Some b) ⊎ ((i ≡ length ids) × (a ≡ b)) → Has t b
have_by t ids a b i h k (inl e) = h i b e
have_by t ids a b i h k (inr e) = subst (Has t) e.1 k

pub have_nothing : (t : Table) (ids : List TyId) → ids ≡ [] → HaveAll t ids
have_nothing t ids e = subst (HaveAll t) (sym e) (λ i a k. absurd (cc))

pub have_snoc : (t : Table) (ids new : List TyId) (a : TyId) → new ≡ ids ++ a ∷ [] → HaveAll t ids → Has t a → HaveAll t new
have_snoc t ids new a e h k = subst (HaveAll t) (sym e) (λ i b f. have_by t ids a b i h k (get_snoc ids a b i f))

pub have_one : (t : Table) (none new : List TyId) (a : TyId) → none ≡ [] → new ≡ none ++ a ∷ [] → Has t a → HaveAll t new
have_one t none new a e f h = have_snoc t none new a f (have_nothing t none e) h

pub have_later : (t u : Table) (ids : List TyId) → ((a : TyId) → Has t a → Has u a) → HaveAll t ids → HaveAll u ids
have_later t u ids later h i a e = later a (h i a e)

pub has_grown : (t u : Table) → Grown t u → (a : TyId) → Has t a → Has u a
has_grown t u g a h = subst (λ bs. IsIdOf (length bs) (length u.nodes) a) (sym g.births)
    (subst (λ ns. IsIdOf (length t.births) (length ns) a) (sym g.nodes) h)

pub new_has : (t u : Table) (b : Birth) (a : TyId) → a ≡ id.Variable (length t.births) → u ≡ with_variable_of b t → Has u a
new_has t u b a e f = subst (λ z. Has z a) (sym f) (subst (Has (with_variable_of b t)) (sym e)
    (let k : length (t.births ++ b ∷ []) ≡ length t.births + 1 = length_snoc t.births b in omega (arith, k)))

pub front_stays : (t u v : Table) → IsFrontOf t u → v ≡ u → IsFrontOf t v
front_stays t u v h e = subst (IsFrontOf t) (sym e) h

-- a scheme of a table is one of the table that is the same
pub of_same : (t u : Table) (σ : TypeScheme) → u ≡ t → IsSchemeOf (state t) σ → IsOf (state u) σ.body
of_same t u σ e h = subst (λ z. IsOf (state z) σ.body) (sym e) h.of

-- texts that aren't one are told apart
pub texts_differ : (l m : List ℕ) (r : Bool) → (r ≡ true → l ≡ m) × (l ≡ m → r ≡ true) → not r ≡ true → same_text l m ≡ false
texts_differ l m true one e = absurd (cc)
texts_differ l m false one e = either_way (same_text l m)
    (λ k. let no : false ≡ true = one.1 (text_is l m k) in absurd (cc)) (λ k. k)
