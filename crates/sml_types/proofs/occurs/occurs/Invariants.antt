use Rattle.std.proofs.Common.{◌≡◌}
use Rattle.unification.specs.Types.{occurs}
use Rattle.type_nodes.specs.Tables.{whole}
use Rattle.sml_types.specs.Frames.{AreFrames, any_symbol, nothing, seen, steps_left}
use Rattle.sml_types.specs.Occurring.{occurs_left, lacks, IsClear}
use Rattle.sml_types.proofs.occurs.occurs.Given as goal

abbrev pub invariant-loop-frame : goal.invariant-loop-frame
invariant-loop-frame l = record {
  answer : occurs_left l.fn.variable (seen l.fn.table) l.frames ≡ occurs l.fn.variable (whole l.fn.table l.fn.id);
  frames : AreFrames any_symbol (lacks l.fn.variable) nothing (seen l.fn.table) l.frames;
  clear : IsClear l.fn.variable (seen l.fn.table) l.clear;
}

abbrev pub decreases-loop-frame : goal.decreases-loop-frame
decreases-loop-frame l = steps_left (seen l.fn.table) l.frames
