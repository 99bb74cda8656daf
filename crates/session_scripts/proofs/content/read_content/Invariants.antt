use Rattle.std.proofs.Common.{◌≡◌, ◌+◌, ◌++◌, ◌≤◌, ℕ, List, length}
use Rattle.path_anchors.specs.Pathconfig.{lines_of}
use Rattle.session_scripts.specs.Scripts.{content_of, steps_of}
use Rattle.session_scripts.proofs.content.read_content.Given as goal

-- the content so far and that of what is left are the content of the whole; the steps behind it are those of what is
-- left
abbrev pub invariant-loop-after : goal.invariant-loop-after
invariant-loop-after l = record {
  content : l.bytes.items ++ content_of (lines_of l.rest) ≡ content_of (lines_of l.fn.text);
  later : (file : List ℕ) (number : ℕ)
      → steps_of file (number + l.lines) (lines_of l.rest) ≡ steps_of file number (lines_of l.fn.text);
  room : l.lines + length l.rest ≤ length l.fn.text;
}

abbrev pub decreases-loop-after : goal.decreases-loop-after
decreases-loop-after l = length l.rest
