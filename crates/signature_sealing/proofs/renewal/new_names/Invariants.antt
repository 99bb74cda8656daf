use Rattle.std.proofs.Common.{drop}
use Rattle.signature_sealing.proofs.Naming.{Named}
use Rattle.signature_sealing.proofs.renewal.new_names.Given as goal

abbrev pub invariant-loop-old : goal.invariant-loop-old
invariant-loop-old l = Named l.fn.g l.g l.olds (drop l.old-index l.olds) l.names l.list
