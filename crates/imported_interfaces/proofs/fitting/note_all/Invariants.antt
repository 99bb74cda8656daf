use Rattle.std.proofs.Common.{◌≡◌, drop}
use Rattle.imported_interfaces.specs.Known.{AreKept, noted_all}
use Rattle.imported_interfaces.proofs.fitting.note_all.Given as goal

abbrev pub invariant-loop-name : goal.invariant-loop-name
invariant-loop-name l = record {
  kept : AreKept l.known;
  names : noted_all l.known.names (drop l.name-index l.fn.names) ≡ noted_all l.fn.known.names l.fn.names;
}
