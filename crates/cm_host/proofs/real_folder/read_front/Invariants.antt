use Rattle.std.proofs.Common.{◌≤◌, length}
use Rattle.cm_host.proofs.real_folder.read_front.Given as goal

-- no more bytes are read than are wanted
abbrev pub invariant-loop : goal.invariant-loop
invariant-loop g l = length l.bytes.items ≤ l.most
