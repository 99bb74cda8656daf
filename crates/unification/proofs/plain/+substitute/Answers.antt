use Rattle.std.proofs.Common.{arith}
use Rattle.unification.specs.Unification.{single}
use Rattle.unification.specs.Plain.{type_of}
use Rattle.unification.proofs.Steps.{substituted_all}
use Rattle.unification.proofs.plain.+substitute.Goals as goal

pub substitute_all-returns : goal.substitute_all-returns
substitute_all-returns t c =
    substituted_all (single c.args.by.now.variable (type_of c.args.by.now.to)) c.loop-ty.new c.args.types.now
    c.loop-ty.ty-index (let k = c.loop-ty-test.false in let l = c.loop-ty.auto.ty-index-end in omega (arith, k, l))
    c.loop-ty.invariant
