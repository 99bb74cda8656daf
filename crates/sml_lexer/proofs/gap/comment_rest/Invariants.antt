use Rattle.std.proofs.Common.{◌≡◌, ◌≤◌, ◌-◌, length, drop}
use Rattle.sml_lexer.specs.Gaps.{further, comment_rest}
use Rattle.sml_lexer.proofs.gap.comment_rest.Given as goal

-- the rest of the comment is what is passed and its rest from here on
abbrev pub invariant-loop-at : goal.invariant-loop-at
invariant-loop-at l = record {
  rest : further l.at (comment_rest l.depth (drop l.at l.text)) ≡ comment_rest 0 l.fn.text;
  within : l.at ≤ length l.text;
  depth : l.depth ≤ l.at;
}

abbrev pub decreases-loop-at : goal.decreases-loop-at
decreases-loop-at l = length l.text - l.at
