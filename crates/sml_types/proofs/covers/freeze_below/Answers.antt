use Rattle.std.proofs.Common.{arith}
use Rattle.sml_types.proofs.covers.freeze_below.Goals as goal

pub freeze-requires : goal.freeze-requires
freeze-requires c = (let k = c.if-variable-own.true in let l = c.requires in omega (arith, k, l))
