use Rattle.std.proofs.Common.{arith}
use Rattle.loader_parts.proofs.loader.Loader.is_full.Goals as goal

pub overflow_sub-result : goal.overflow_sub-result
overflow_sub-result c = let sum = c.requires.sum in omega (arith, sum)
