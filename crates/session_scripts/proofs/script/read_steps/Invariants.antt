use Rattle.std.proofs.Common.{◌≡◌, ◌+◌, ◌++◌, ◌≤◌, length}
use Rattle.std.specs.Prelude.{Ok}
use Rattle.cm_base.specs.Diags.{◌>>=◌}
use Rattle.path_anchors.specs.Pathconfig.{lines_of}
use Rattle.session_scripts.specs.Scripts.{steps_from}
use Rattle.session_scripts.proofs.script.read_steps.Given as goal

-- the steps so far, and those of what is left
abbrev pub invariant-loop-rest : goal.invariant-loop-rest
invariant-loop-rest l = record {
  so : (steps_from l.file l.number (lines_of l.rest) >>= λ more. Ok (l.steps ++ more))
      ≡ steps_from l.file 1 (lines_of l.fn.text);
  room : l.number + length l.rest ≤ length l.fn.text + 1;
}

abbrev pub decreases-loop-rest : goal.decreases-loop-rest
decreases-loop-rest l = length l.rest
