use Rattle.std.proofs.Common.{drop}
use Rattle.std.specs.Prelude.{◌↔◌}
use Rattle.sml_modules.specs.Items.{at, as_functor}
use Rattle.static_semantics.specs.Holding.{AllItems}
use Rattle.given_tops.specs.Names.{nodes_of}
use Rattle.given_tops.specs.Fitting.{FunctorFits}
use Rattle.given_tops.specs.Walking.{AreFit}
use Rattle.given_tops.proofs.tops.functors_fit.Given as goal

abbrev pub invariant-loop-place : goal.invariant-loop-place
invariant-loop-place l = record {
  fit : AreFit (nodes_of l.fn.limits) l.fn.g.items l.done;
  left : AllItems (λ p. FunctorFits (nodes_of l.fn.limits) (as_functor (at l.fn.g.items p))) (drop l.place-index l.place-items)
      ↔ AllItems (λ p. FunctorFits (nodes_of l.fn.limits) (as_functor (at l.fn.g.items p))) l.place-items;
}
