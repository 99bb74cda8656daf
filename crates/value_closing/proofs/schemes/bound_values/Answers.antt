use Rattle.std.proofs.Common.{◌∙◌}
use Rattle.std.specs.Prelude.{IsTrue}
use Rattle.value_closing.proofs.Bounding.{bound_begin, bound_next}
use Rattle.value_closing.proofs.schemes.bound_values.Goals as goal

pub loop-named-init : goal.loop-named-init
loop-named-init c =
    bound_begin (IsTrue c.args.with_schemes) c.args.t.now c.args.values c.into_iter-named-iterator.result.rest.items
    c.new-bounds.result c.new-bounds.ensures
    (c.into_iter-named-iterator.ensures.into_iter_gives.0 ∙ c.into_vec-named-items.ensures)

pub loop-named-preserved : goal.loop-named-preserved
loop-named-preserved c =
    bound_next (IsTrue c.args.with_schemes) c.args.t.now c.loop-named.t c.bound_value.new.t c.args.values
    c.loop-named.bounds c.add.new.self c.in-Some.named c.in_ok-bound.bound c.loop-named.named-iterator.rest.items
    c.next.new.self.rest.items c.loop-named.invariant c.in-Some.ensures.steps.0 c.in_ok-bound.ensures.value
    c.in_ok-bound.ensures.entered c.in_ok-bound.ensures.given c.bound_value.ensures.state c.bound_value.ensures.kept
    c.in_ok-add.ensures.ok
