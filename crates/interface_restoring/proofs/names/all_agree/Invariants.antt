use Rattle.std.proofs.Common.{take}
use Rattle.imported_interfaces.specs.Known.{AreKept}
use Rattle.interface_restoring.proofs.Agreeing.{Covers}
use Rattle.interface_restoring.proofs.names.all_agree.Given as goal

abbrev pub invariant-loop-name : goal.invariant-loop-name
invariant-loop-name l = record {
  kept : AreKept l.known;
  covers : Covers l.known.names (take l.name-index l.fn.names);
}
