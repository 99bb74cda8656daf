use Rattle.std.proofs.Common.{take}
use Rattle.sml_modules.specs.Adding.{Extends}
use Rattle.import_reading.specs.Reading.{AreAllRead}
use Rattle.import_reading.specs.Restored.{AreRestored}
use Rattle.import_reading.proofs.reading.read_all.Given as goal

abbrev pub invariant-loop-given : goal.invariant-loop-given
invariant-loop-given l = record {
  extends : Extends l.fn.graph l.graph;
  restored : AreRestored l.graph.items l.restored;
  reads : AreAllRead l.fn.unit (take l.given-index l.fn.imports) l.graph.items l.read;
}
