-- Uses behind uses, and counts of runs.
use Rattle.std.proofs.Common.{◌≡◌, ◌∙◌, ap, refl, Bool, true, false, cond, List, [], ◌∷◌, ◌++◌}
use Rattle.cm_base.specs.Files.{Files}
use Rattle.tool_deriving.specs.Deriving.{ToolUse, uses, after_use}
use Rattle.member_deriving.specs.Laws.{UsesInTurn}
use Rattle.member_deriving.specs.Uses.{after_uses, runs_of}

pub leave_in_turn : (files : Files) (first more : List ToolUse)
    → after_uses files (first ++ more) ≡ after_uses (after_uses files first) more
leave_in_turn files [] more = refl
leave_in_turn files (job ∷ first) more = leave_in_turn (after_use files job) first more

-- one that runs or not before others
front : (b : Bool) (job : ToolUse) (one two : List ToolUse)
    → cond b (job ∷ (one ++ two)) (one ++ two) ≡ cond b (job ∷ one) one ++ two
front true job one two = refl
front false job one two = refl

run_in_turn : (files : Files) (first more : List ToolUse)
    → runs_of files (first ++ more) ≡ runs_of files first ++ runs_of (after_uses files first) more
run_in_turn files [] more = refl
run_in_turn files (job ∷ first) more =
    ap (λ (runs : List ToolUse). cond (uses files job) (job ∷ runs) runs) (run_in_turn (after_use files job) first more)
    ∙ front (uses files job) job (runs_of (after_use files job) first)
    (runs_of (after_uses (after_use files job) first) more)

pub in_turn : UsesInTurn
in_turn files first more = record { leave = leave_in_turn files first more; run = run_in_turn files first more }
