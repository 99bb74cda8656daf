-- Runs of tools, one list behind another.
use Rattle.std.proofs.Common.{◌∙◌, ap, sym, List, [], ◌++◌, append-nil, append_assoc}
use Rattle.tool_deriving.specs.Deriving.{ToolState, ToolUse}
use Rattle.box_deriving.specs.Boxes.{after_runs, counts_of}
use Rattle.box_deriving.proofs.Stepping.{runs_behind}
use Rattle.use_laws.specs.Left.{RanFor, RanUpTo}

pub up_to_all : (runs : List ToolUse) (old new : List ToolState) → RanFor runs old new → RanUpTo runs old new
up_to_all runs old new is = record { front = runs; rest = []; all = sym (append-nil runs); ran = is }

module _ (first more : List ToolUse) (a b c : List ToolState) (one : RanFor first a b) where
  pub both_ran : RanFor more b c → RanFor (first ++ more) a c
  both_ran two = two ∙ ap (after_runs more) one ∙ sym (runs_behind first more (counts_of a))

  pub front_ran : RanUpTo more b c → RanUpTo (first ++ more) a c
  front_ran two = record {
    front = first ++ two.front;
    rest = two.rest;
    all = ap (λ (jobs : List ToolUse). first ++ jobs) two.all ∙ sym (append_assoc first two.front two.rest);
    ran = two.ran ∙ ap (after_runs two.front) one ∙ sym (runs_behind first two.front (counts_of a));
  }

pub front_more : (first more : List ToolUse) (old new : List ToolState) → RanUpTo first old new
    → RanUpTo (first ++ more) old new
front_more first more old new up = record {
  front = up.front;
  rest = up.rest ++ more;
  all = ap (λ (jobs : List ToolUse). jobs ++ more) up.all ∙ append_assoc up.front up.rest more;
  ran = up.ran;
}
