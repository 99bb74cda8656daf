-- The steps of sessions and generated projects where there are tools: edits, and words that mean nothing, use none.
use Rattle.std.proofs.Common.{◌≡◌, ◌≢◌, refl, false, ℕ, List, Option, Some}
use Rattle.std.specs.Prelude.{Result, Ok, Err}
use Rattle.std.specs.FinMap.{insert, remove}
use Rattle.cm_base.specs.Calls.{RemoveLeaves, WriteLeaves}
use Rattle.cm_base.specs.Definitions.{Definitions}
use Rattle.cm_base.specs.Files.{Files, is_stored}
use Rattle.cm_base.specs.declared.diag.Diag.{Diag}
use Rattle.cm_base.specs.declared.fault.FolderFault.{FolderFault}
use Rattle.cm_base.specs.declared.fault.FolderFault.TheVariants as folder
use Rattle.tool_deriving.specs.Deriving.{ToolState}
use Rattle.command_parts.specs.Headline.{Ends, IsPlain, IsUsageEnd}
use Rattle.command_parts.specs.InTurn.{edit}
use Rattle.command_parts.specs.Meaning.{usage}
use Rattle.command_parts.specs.Performing.{State, between, edit_end, state_of}
use Rattle.command_parts.specs.Performing as plain
use Rattle.command_parts.specs.Sessions.{refused}
use Rattle.command_parts.specs.declared.status.Status.{Status}
use Rattle.command_parts.specs.declared.status.Status.TheVariants as status
use Rattle.command_parts.proofs.Steps.{remove_performs, usage_performs, write_performs}
use Rattle.cm_top.specs.Meaning.{without_tools}
use Rattle.cm_top.specs.Performing.{Does, IsSessionEnd, IsStepEnd}
use Rattle.cm_top.proofs.InTurn.{lift_does, stage}

edit_no_tool : (r : Result (Unit {0}) FolderFault) → edit_end r ≢ status.ToolFault
edit_no_tool (Ok done) e = cc
edit_no_tool (Err folder.Failed) e = cc
edit_no_tool (Err folder.NoMemory) e = cc

module _ (by : Definitions) (path : List ℕ) (out : is_stored path ≡ false) (s0 s1 : State) (tools : List ToolState)
    (same : s1.written ≡ s0.written) (asked : s1.asked ≡ s0.asked) (skeletons : s1.skeletons ≡ s0.skeletons) where
  pub write_does : (content : List ℕ) (r : Result (Unit {0}) FolderFault)
      → WriteLeaves r s0.holds s1.holds path content
      → Does by (λ files. without_tools (edit path (insert files path content)))
      (λ files. without_tools (edit path (insert files path content))) (edit_end r) (stage s0 tools) (stage s1 tools)
  write_does content r left =
      lift_does by (λ files. edit path (insert files path content)) (λ files. edit path (insert files path content))
      (edit_end r) s0 s1 tools (edit_no_tool r) (write_performs by path out s0 s1 same asked skeletons content r left)

  pub remove_does : (r : Result (Unit {0}) FolderFault) → RemoveLeaves r s0.holds s1.holds path
      → Does by (λ files. without_tools (edit path (remove files path)))
      (λ files. without_tools (edit path (remove files path))) (edit_end r) (stage s0 tools) (stage s1 tools)
  remove_does r left =
      lift_does by (λ files. edit path (remove files path)) (λ files. edit path (remove files path)) (edit_end r) s0 s1
      tools (edit_no_tool r) (remove_performs by path out s0 s1 same asked skeletons r left)

pub step_fault : (end : Status) → IsStepEnd end → (end ≡ status.Ok → ⊥) → IsPlain end → ⊥
step_fault status.Ok is other plain = other refl
step_fault status.Diagnostic is other plain = is
step_fault status.Usage is other plain = is
step_fault status.FolderFault is other plain = plain
step_fault status.SinkFault is other plain = plain
step_fault status.NoMemory is other plain = plain
step_fault status.ToolFault is other plain = plain

pub usage_does : (by : Definitions) (end : Status) (s : State) (tools : List ToolState) (new : Option (List ℕ))
    → IsUsageEnd end → end ≢ status.ToolFault
    → ((files : Files) → s.holds ≡ Some files → (text : List ℕ) → s.written ≡ Some text
    → Ends end (usage files) (between text s (state_of new s.holds s.asked s.skeletons)))
    → Does by (λ files. without_tools (usage files)) (λ files. without_tools (usage files)) end (stage s tools)
    (stage (state_of new s.holds s.asked s.skeletons) tools)
usage_does by end s tools new is other ends =
    lift_does by usage usage end s (state_of new s.holds s.asked s.skeletons) tools other
    (usage_performs by end s new is ends)

pub session_no_tool : (end : Status) → plain.IsSessionEnd end → end ≢ status.ToolFault
session_no_tool status.Ok is e = cc
session_no_tool status.Diagnostic is e = cc
session_no_tool status.Usage is e = cc
session_no_tool status.FolderFault is e = cc
session_no_tool status.SinkFault is e = cc
session_no_tool status.NoMemory is e = cc
session_no_tool status.ToolFault is e = is

-- how a refusal's printing ends is an end of a session
pub session_end : (end : Status) → plain.IsSessionEnd end → IsSessionEnd end
session_end status.Ok is = tt
session_end status.Diagnostic is = tt
session_end status.Usage is = is
session_end status.FolderFault is = tt
session_end status.SinkFault is = tt
session_end status.NoMemory is = tt
session_end status.ToolFault is = tt

pub usage_no_tool : (end : Status) → IsUsageEnd end → end ≢ status.ToolFault
usage_no_tool status.Ok is e = cc
usage_no_tool status.Diagnostic is e = cc
usage_no_tool status.Usage is e = cc
usage_no_tool status.FolderFault is e = cc
usage_no_tool status.SinkFault is e = cc
usage_no_tool status.NoMemory is e = cc
usage_no_tool status.ToolFault is e = is

pub refused_does : (by : Definitions) (diag : Diag) (end : Status) (s0 s1 : State) (tools : List ToolState)
    → plain.IsSessionEnd end
    → plain.Performs by (λ files. refused files diag) (λ files. refused files diag) end s0 s1
    → Does by (λ files. without_tools (refused files diag)) (λ files. without_tools (refused files diag)) end
    (stage s0 tools) (stage s1 tools)
refused_does by diag end s0 s1 tools is one =
    lift_does by (λ files. refused files diag) (λ files. refused files diag) end s0 s1 tools (session_no_tool end is) one
