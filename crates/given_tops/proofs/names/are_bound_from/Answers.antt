use Rattle.std.proofs.Common.{◌+◌, drop, arith}
use Rattle.unit_laws.specs.Parts.{AreBoundFrom}
use Rattle.given_tops.proofs.Looping.{left_at, none_left}
use Rattle.given_tops.proofs.Walking.{refuted, shown}
use Rattle.given_tops.proofs.Bound.{bound_next, bound_fails, bound_end}
use Rattle.given_tops.proofs.names.are_bound_from.Goals as goal

pub loop-name-preserved : goal.loop-name-preserved
loop-name-preserved c =
    let names = c.args.names.now in
    let i = c.loop-name.name-index in
    record {
      number = omega (arith, c.loop-name.invariant.number);
      left = bound_next c.loop-name.number _ (drop i names) (drop (i + 1) names) names c.name-item.result c.args.first
          c.is_bound_as.result (omega arith)
          (left_at names c.as_slice-name-items.result.now i c.name-item.result c.as_slice-name-items.ensures
          c.loop-name-test.true c.name-item.is)
          c.is_bound_as.ensures c.if-not-is_bound_as.false c.loop-name.invariant.left;
    }

pub returns-then-not-is_bound_as : goal.returns-then-not-is_bound_as
returns-then-not-is_bound_as c =
    let names = c.args.names.now in
    let i = c.loop-name.name-index in
    refuted (AreBoundFrom c.args.first names)
    (bound_fails c.loop-name.number (drop i names) (drop (i + 1) names) names c.name-item.result c.args.first
    c.is_bound_as.result
    (left_at names c.as_slice-name-items.result.now i c.name-item.result c.as_slice-name-items.ensures
    c.loop-name-test.true c.name-item.is)
    c.is_bound_as.ensures c.if-not-is_bound_as.true c.loop-name.invariant.left)

pub returns : goal.returns
returns c =
    let names = c.args.names.now in
    let i = c.loop-name.name-index in
    shown (AreBoundFrom c.args.first names)
    (bound_end c.loop-name.number (drop i names) names c.args.first
    (none_left names c.as_slice-name-items.result.now i c.as_slice-name-items.ensures c.loop-name-test.false)
    c.loop-name.invariant.left)
