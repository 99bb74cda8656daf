-- types that are closed by age are schemes of the table
use Rattle.std.proofs.Common.{◌≡◌, ℕ, zero, suc, refl, sym, subst, List, [], ◌∷◌}
use Rattle.semantic_objects.specs.declared.name.TyId.{TyId}
use Rattle.semantic_objects.specs.Trees.{TypeScheme}
use Rattle.unification.specs.Closing.{found_in, kept_since}
use Rattle.unification.specs.Fitting.{IsSchemeOf}
use Rattle.unification.proofs.Closing.{closed_fits}
use Rattle.type_nodes.specs.Tables.{Table, state, whole}
use Rattle.type_nodes.specs.Keeping.{IsKept}
use Rattle.type_nodes.proofs.Binding.{whole_below}
use Rattle.type_schemes.specs.Schemes.{HaveAll, scheme_since, schemes_since, AreSchemesOf}
use Rattle.sml_types.proofs.Frames.{some_same}

since_fit : (t : Table) (n : ℕ) (ids : List TyId) → IsKept t → HaveAll t ids → AreSchemesOf (state t) (schemes_since t n ids)
since_fit t n [] k h i σ e = absurd (cc)
since_fit t n (a ∷ ids) k h zero σ e = subst (IsSchemeOf (state t)) (some_same (scheme_since t n a) σ e)
    (closed_fits (state t) (found_in (kept_since n (state t).stands) (whole t a) []) (state t).marks (whole t a)
    (whole_below t a k (h 0 a refl)))
since_fit t n (a ∷ ids) k h (suc i) σ e = since_fit t n ids k (λ j b f. h (suc j) b f) i σ e

pub since_of : (t : Table) (n : ℕ) (ids : List TyId) (σs : List TypeScheme) → IsKept t → HaveAll t ids
    → σs ≡ schemes_since t n ids → AreSchemesOf (state t) σs
since_of t n ids σs k h e = subst (AreSchemesOf (state t)) (sym e) (since_fit t n ids k h)
