use Rattle.std.proofs.Common.{◌≡◌, ◌+◌, ◌≤◌, length}
use Rattle.path_anchors.specs.Pathconfig.{after_lines, bindings_of, lines_of}
use Rattle.path_anchors.proofs.pathconfig.read_lines.Given as goal

-- the lines that are left, after the bindings so far, give what all lines give; a line is counted for its line feed
abbrev pub invariant-loop-rest : goal.invariant-loop-rest
invariant-loop-rest l = record {
  so : after_lines l.anchors l.number (lines_of l.rest) ≡ bindings_of l.fn.text;
  first : 1 ≤ l.number;
  room : l.number + length l.rest ≤ length l.fn.text + 1;
}

abbrev pub decreases-loop-rest : goal.decreases-loop-rest
decreases-loop-rest l = length l.rest
