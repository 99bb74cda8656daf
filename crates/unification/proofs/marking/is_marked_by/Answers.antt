use Rattle.std.proofs.Common.{◌≡◌, ap, arith, length}
use Rattle.unification.specs.Plain.{variables_of}
use Rattle.unification.proofs.Steps.{marked_done}
use Rattle.unification.proofs.marking.is_marked_by.Goals as goal

pub returns : goal.returns
returns c =
    let same : length c.as_slice-other-items.result.now ≡ length c.args.marked.now =
    ap length c.as_slice-other-items.ensures in
    let k = c.loop-other-test.false in
    let l = c.loop-other.auto.other-index-end in
    marked_done c.args.marked.now (variables_of c.args.kinds.now).marks c.args.variable c.loop-other.other-index
    c.loop-other.has (omega (arith, same, k, l)) c.loop-other.invariant
