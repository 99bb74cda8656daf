use Rattle.std.proofs.Common.{◌≡◌, ◌++◌, drop}
use Rattle.imported_interfaces.specs.Known.{AreKept}
use Rattle.imported_interfaces.proofs.fitting.add_all.Given as goal

abbrev pub invariant-loop-name : goal.invariant-loop-name
invariant-loop-name l = record {
  kept : AreKept l.known;
  names : l.known.names ++ drop l.name-index l.fn.names ≡ l.fn.known.names ++ l.fn.names;
}
