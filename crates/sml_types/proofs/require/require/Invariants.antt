use Rattle.std.proofs.Common.{◌≡◌}
use Rattle.unification.specs.Types.{require}
use Rattle.type_nodes.specs.Tables.{state, whole}
use Rattle.sml_types.specs.Frames.{AreFrames, nothing, seen, steps_left}
use Rattle.sml_types.specs.Requiring.{MarksMore, admitted, by_parts, IsAdmitted, require_left}
use Rattle.sml_types.proofs.require.require.Given as goal

abbrev pub invariant-loop-frame : goal.invariant-loop-frame
invariant-loop-frame l = record {
  only : MarksMore l.fn.table l.table;
  answer : require (state l.fn.table).rigid (whole l.fn.table l.fn.id) (state l.fn.table).marks
      ≡ require_left (state l.table).rigid (seen l.table) l.frames (state l.table).marks;
  frames : AreFrames by_parts (admitted (state l.table).marks) nothing (seen l.table) l.frames;
  done : IsAdmitted (state l.table).marks (seen l.table) l.done;
}

abbrev pub decreases-loop-frame : goal.decreases-loop-frame
decreases-loop-frame l = steps_left (seen l.table) l.frames
