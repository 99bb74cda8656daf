-- What a whole loading says of the files at entry and of the tools as they were.
use Rattle.std.proofs.Common.{◌≡◌, ◌∙◌, ◌⊎◌, ap, sym, subst, refl, inl, inr, ℕ, List, [], ◌∷◌, ◌++◌, map, Bool, true, false, cond, Option, Some, Result, Ok, Err}
use Rattle.std.specs.Prelude.{filter, not}
use Rattle.cm_base.specs.Files.{Files}
use Rattle.cm_base.specs.Keeping.{Keeps, Touches}
use Rattle.cm_base.specs.declared.record.Def.{Def}
use Rattle.cm_base.proofs.KeepingLemmas.{keeps_same, keeps_then, keeps_touches, touches_written}
use Rattle.bin_formats.specs.Format.{record_file}
use Rattle.bin_store.specs.Paths.{tool_path}
use Rattle.cm_description.specs.declared.loaded.Project.{Project}
use Rattle.tool_records.specs.Stored.{with_record}
use Rattle.tool_deriving.specs.Deriving.{ToolState, ToolUse, after_use, record_of_use, uses}
use Rattle.tool_deriving.specs.Toolboxes.{is_built_in, rules_of}
use Rattle.member_deriving.specs.Laws.{HasTrueRecords}
use Rattle.member_deriving.specs.Uses.{Outcome, Work, after_uses, outcome, work_of}
use Rattle.box_deriving.specs.Boxes.{CutOff, InStep, Origin, Reached, World, world_of}
use Rattle.tool_loading.specs.Projects.{loaded_over, project_of, tool_uses}
use Rattle.tool_loading.proofs.Stores.{over_true}
use Rattle.group_loader.specs.Loading.{Loads, StepsTo, origin_of, rules_at, scene_of, states_by}
use Rattle.group_loader.specs.declared.fault.LoadFault.{LoadFault}
use Rattle.group_loader.specs.declared.fault.LoadFault.TheVariants as fault
use Rattle.group_loader.proofs.MemberSteps.{fused}
use Rattle.group_loader.proofs.Whole.{projecting}

-- ---- from the start

begins : (files : Files) (holds : Option Files) (tools : List ToolState) → holds ≡ Some files
    → InStep (origin_of files tools) (work_of files []) (world_of holds tools)
begins files holds tools is = record { holds = is; made = refl; ran = refl; rules = refl }

module _ {A : Type 0} (class_of rule_of : A → List ℕ) (ran_of faults_of : A → ℕ) (tools : List A) (files : Files)
    (defs : List Def) (root : List ℕ) (freezing : Bool) where
  abbrev states : List ToolState
  states = states_by class_of rule_of ran_of faults_of tools

  begun_rules : rules_at (origin_of files states) ≡ rules_of class_of rule_of tools
  begun_rules =
      ap (λ (both : List (List ℕ × List ℕ)). filter (λ (tool : List ℕ × List ℕ). not (is_built_in tool.0)) both)
      (fused class_of rule_of ran_of faults_of tools)

  pub over_store : (r : Result Project LoadFault) (holds after : Option Files) (before now : ℕ)
      (left : List ToolState)
      → Loads r (scene_of holds before states) (scene_of after now left) (projecting defs root freezing)
      → holds ≡ Some files
      → StepsTo (origin_of files states) (loaded_over files (rules_of class_of rule_of tools) defs root freezing) r
      (world_of after left)
  over_store r holds after before now left loads is =
      subst (λ (rules : List (List ℕ × List ℕ)). StepsTo (origin_of files states)
      (loaded_over files rules defs root freezing)
      r (world_of after left)) begun_rules
      (loads.steps (origin_of files states) (work_of files []) (begins files holds states is))

  pub by_rules : (r : Result Project LoadFault) (now : World) → HasTrueRecords files
      → StepsTo (origin_of files states) (loaded_over files (rules_of class_of rule_of tools) defs root freezing) r now
      → StepsTo (origin_of files states)
      (outcome (work_of (after_uses files (tool_uses files (rules_of class_of rule_of tools) defs root))
      (tool_uses files (rules_of class_of rule_of tools) defs root))
      (project_of files (rules_of class_of rule_of tools) defs root freezing)) r now
  by_rules r now true_records steps =
      subst (λ (step : Outcome Project). StepsTo (origin_of files states) step r now)
      (over_true files (rules_of class_of rule_of tools) defs root freezing true_records) steps

-- ---- nothing but records is written

abbrev pub paths_of : List ToolUse → List (List ℕ)
paths_of jobs = map (λ (job : ToolUse). tool_path job.unit) jobs

use_keeps : (files : Files) (job : ToolUse)
    → Keeps (Some files) (Some (after_use files job)) (tool_path job.unit ∷ [])
use_keeps files job = by_test (uses files job)
  where
    by_test : (b : Bool) → Keeps (Some files) (Some (cond b (with_record files (record_of_use job)) files))
        (tool_path job.unit ∷ [])
    by_test true =
        keeps_touches
        (touches_written (Some files) (Some (with_record files (record_of_use job))) (tool_path job.unit)
        (record_file (record_of_use job)) refl)
    by_test false = keeps_same (Some files) (Some files) (tool_path job.unit ∷ []) refl

uses_keep : (files : Files) (jobs : List ToolUse) → Keeps (Some files) (Some (after_uses files jobs)) (paths_of jobs)
uses_keep files [] = keeps_same (Some files) (Some files) [] refl
uses_keep files (job ∷ jobs) = keeps_then (use_keeps files job) (uses_keep (after_use files job) jobs)

more_paths : (front rest : List ToolUse) → paths_of (front ++ rest) ≡ paths_of front ++ paths_of rest
more_paths [] rest = refl
more_paths (job ∷ front) rest = ap (λ (paths : List (List ℕ)). tool_path job.unit ∷ paths) (more_paths front rest)

module _ (origin : Origin) (now : World) where
  step_keeps : (work : Work) → InStep origin work now → Keeps (Some origin.files) now.holds (paths_of work.uses)
  step_keeps work here =
      subst (λ (holds : Option Files). Keeps (Some origin.files) holds (paths_of work.uses))
      (sym (here.holds ∙ ap (λ (f : Files). Some f) here.made)) (uses_keep origin.files work.uses)

  -- what comes behind a front of uses
  rest_keeps : (front rest : List ToolUse) → Reached origin front rest now
      → Keeps (Some (after_uses origin.files front)) now.holds (paths_of rest)
  rest_keeps front [] here =
      keeps_same (Some (after_uses origin.files front)) now.holds [] here.holds
  rest_keeps front (job ∷ rest) (inl here) =
      keeps_same (Some (after_uses origin.files front)) now.holds (paths_of (job ∷ rest)) here.holds
  rest_keeps front (job ∷ rest) (inr way) = by_left way.leaves
    where
      by_left : (now.holds ≡ Some (after_uses origin.files front))
          ⊎ Touches (Some (after_uses origin.files front)) now.holds (tool_path job.unit)
          (record_file (record_of_use job))
          → Keeps (Some (after_uses origin.files front)) now.holds (paths_of (job ∷ rest))
      by_left (inl same) = keeps_same (Some (after_uses origin.files front)) now.holds (paths_of (job ∷ rest)) same
      by_left (inr touched) =
          keeps_then
          (keeps_touches touched)
          (keeps_same now.holds now.holds (paths_of rest) refl)

  cut_keeps : (jobs : List ToolUse) → CutOff origin jobs now → Keeps (Some origin.files) now.holds (paths_of jobs)
  cut_keeps jobs cut =
      subst (λ (paths : List (List ℕ)). Keeps (Some origin.files) now.holds paths)
      (sym (ap paths_of cut.all ∙ more_paths cut.front cut.rest))
      (keeps_then (uses_keep origin.files cut.front) (rest_keeps cut.front cut.rest cut.reached))

  pub keeps_others : {A : Type 0} (step : Outcome A) (r : Result A LoadFault) → StepsTo origin step r now
      → Keeps (Some origin.files) now.holds (paths_of step.work.uses)
  keeps_others step (Ok value) steps = step_keeps step.work steps.leads
  keeps_others step (Err (fault.Diag diag)) steps = step_keeps step.work steps.leads
  keeps_others step (Err fault.Folder) steps = cut_keeps step.work.uses steps.cut
  keeps_others step (Err fault.Tool) steps = cut_keeps step.work.uses steps.cut
  keeps_others step (Err fault.NoMemory) steps = cut_keeps step.work.uses steps.cut

pub keeps_from : (old new : Option Files) (files : Files) (paths : List (List ℕ)) → old ≡ Some files
    → Keeps (Some files) new paths → Keeps old new paths
keeps_from old new files paths is keeps = subst (λ (holds : Option Files). Keeps holds new paths) (sym is) keeps
