use Rattle.std.proofs.Common.{◌≡◌, subst, sym}
use Rattle.semantic_objects.specs.Trees.{TypeScheme}
use Rattle.unification.specs.Generality.{IsOf}
use Rattle.unification.specs.Fitting.{IsSchemeOf}
use Rattle.type_nodes.specs.Tables.{Table, state}
use Rattle.table_cases.proofs.Having.{of_same}
use Rattle.table_cases.proofs.scene.TableScene.covers.Goals as goal

of_same_twice : (t u v : Table) (σ : TypeScheme) → u ≡ t → v ≡ u → IsSchemeOf (state t) σ → IsOf (state v) σ.body
of_same_twice t u v σ e f h = subst (λ z. IsOf (state z) σ.body) (sym f) (of_same t u σ e h)

pub covers-requires-clause-general : goal.covers-requires-clause-general
covers-requires-clause-general c = of_same_twice _ c.generalise.new.self c.generalise-2.new.self c.in_ok-general.general
    c.generalise.ensures.same c.generalise-2.ensures.same c.in_ok-general.ensures.of
