use Rattle.std.proofs.Common.{◌≡◌, ap, arith, length}
use Rattle.unification.specs.Types.{Ty, put}
use Rattle.unification.specs.Plain.{type_of, bound_by}
use Rattle.unification.proofs.Steps.{whole_step, whole_done}
use Rattle.unification.proofs.unifier.Unifier.whole.Goals as goal

pub loop-binding-preserved : goal.loop-binding-preserved
loop-binding-preserved c =
    whole_step c.args.self.now.bindings c.as_slice-binding-items.result.now c.loop-binding.binding-index
    c.binding-item.result c.loop-binding.whole c.in_ok-whole-2.whole
    (put (bound_by c.args.self.now.bindings Ty.Var) (type_of c.args.ty.now)) c.as_slice-binding-items.ensures
    c.loop-binding-test.true c.binding-item.is c.in_ok-whole-2.ensures c.loop-binding.invariant

pub returns : goal.returns
returns c =
    let same : length c.as_slice-binding-items.result.now ≡ length c.args.self.now.bindings =
    ap length c.as_slice-binding-items.ensures in
    let k = c.loop-binding-test.false in
    let l = c.loop-binding.auto.binding-index-end in
    whole_done c.args.self.now.bindings c.loop-binding.binding-index c.loop-binding.whole
    (put (bound_by c.args.self.now.bindings Ty.Var) (type_of c.args.ty.now)) (omega (arith, same, k, l))
    c.loop-binding.invariant
