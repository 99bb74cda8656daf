-- A project that is loaded and then built, as one meaning.
use Rattle.std.proofs.Common.{◌≡◌, ◌∙◌, ap, sym, subst, false, ℕ, List, ◌++◌, Option, Some}
use Rattle.std.specs.Prelude.{Result, unwrap_or}
use Rattle.std.specs.FinMap.{empty}
use Rattle.cm_base.specs.Definitions.{Definitions}
use Rattle.cm_base.specs.Derived.{ToolRules}
use Rattle.cm_base.specs.Files.{Files, Told}
use Rattle.cm_base.specs.declared.diag.Diag.{Diag}
use Rattle.cm_base.specs.declared.record.Def.{Def}
use Rattle.cm_bytes.specs.Hashes.{HashesApart}
use Rattle.bin_store.specs.GoodStore.{IsGoodStore}
use Rattle.cm_description.specs.declared.loaded.Project.{Project}
use Rattle.tool_records.proofs.Storing.{good_is_true}
use Rattle.tool_deriving.specs.Deriving.{ToolState}
use Rattle.tool_deriving.specs.Toolboxes.{rules_of}
use Rattle.member_deriving.specs.Uses.{Outcome}
use Rattle.box_deriving.specs.Boxes.{world_of}
use Rattle.tool_loading.specs.Projects.{loaded_over}
use Rattle.tool_loading.proofs.Stores.{over_true}
use Rattle.group_loader.specs.Loading.{StepsTo, origin_of, states_by}
use Rattle.group_loader.specs.declared.fault.LoadFault.{LoadFault}
use Rattle.command_parts.specs.Headline.{IsPlain}
use Rattle.command_parts.specs.ProjectBuild as build
use Rattle.command_parts.specs.declared.status.Status.{Status}
use Rattle.command_parts.specs.declared.status.Status.TheVariants as status
use Rattle.cm_top.specs.Meaning.{Meaning, loading, of_loaded, of_project, of_root, then_command, without_tools}
use Rattle.cm_top.specs.Performing.{Does, Stage, rules_among}
use Rattle.cm_top.specs.Ways.{by_rules, plain_way, store_way}
use Rattle.cm_top.specs.declared.printed.Printed.{Printed}
use Rattle.cm_top.proofs.Counts.{box_rules}
use Rattle.cm_top.proofs.InTurn.{does_alike, first_does, then_does}

module _ (by : Definitions) (rules : ToolRules) (part : Printed) (target : Option (List ℕ)) (defs : List Def)
    (root : List ℕ) where
  abbrev pub over : Files → Outcome Project
  over files = loaded_over files rules defs root false

  abbrev pub loaded : Files → Meaning
  loaded files = loading files (over files).work

  abbrev pub built_by : build.Way → Result Project Diag → Files → Meaning
  built_by works result files = without_tools (of_project part works target defs result files)

  abbrev pub both_of : build.Way → Result Project Diag → Files → Meaning
  both_of works result files = then_command (loaded files) (built_by works result (loaded files).effect.files)

  -- over true records loading gives what the tools' rules give
  over_good : (files : Files) (known : List (List ℕ)) → IsGoodStore by known files
      → over files ≡ by_rules rules files defs root
  over_good files known good = over_true files rules defs root false (λ unit. good_is_true by known files unit good)

  abbrev doing : Files → Meaning
  doing = of_root part (store_way by rules) target defs root

  abbrev meant : Files → Meaning
  meant = of_root part (plain_way by rules) target defs root

  module _ (s0 s1 : Stage) (end : Status) (result : Result Project Diag)
      (given : Told s0.state.holds (λ files. (over files).result ≡ result))
      (one : Does by (both_of (build.store_way by) result) (both_of (build.plain_way by) result) end s0 s1) where
    store_is : (files : Files) → s0.state.holds ≡ Some files → both_of (build.store_way by) result files ≡ doing files
    store_is files is =
        ap (λ (r : Result Project Diag). then_command (loaded files)
        (built_by (build.store_way by) r (loaded files).effect.files)) (sym (given files is))

    plain_is : (files : Files) → s0.state.holds ≡ Some files → (known : List (List ℕ))
        → HashesApart (known ++ (meant files).effect.interfaces) → IsGoodStore by known files
        → both_of (build.plain_way by) result files ≡ meant files
    plain_is files is known apart good =
        ap (λ (r : Result Project Diag). then_command (loaded files)
        (built_by (build.plain_way by) r (loaded files).effect.files)) (sym (given files is))
        ∙ ap (λ (o : Outcome Project). of_loaded part (build.plain_way by) target defs files o)
        (over_good files known good)

    root_does : Does by doing meant end s0 s1
    root_does =
        does_alike by (both_of (build.store_way by) result) (both_of (build.plain_way by) result) doing meant end s0 s1
        store_is plain_is one

  -- loaded, or refused, and then built
  pub root_goes : (s0 s1 s2 : Stage) (end : Status) (result : Result Project Diag)
      → Told s0.state.holds (λ files. (over files).result ≡ result)
      → Does by loaded loaded status.Ok s0 s1
      → Does by (built_by (build.store_way by) result) (built_by (build.plain_way by) result) end s1 s2
      → Does by doing meant end s0 s2
  root_goes s0 s1 s2 end result given one two =
      root_does s0 s2 end result given
      (then_does by loaded loaded (built_by (build.store_way by) result) (built_by (build.plain_way by) result) end s0 s1 s2
      one two)

  -- .. where loading was cut off
  pub root_stops : (s0 s1 : Stage) (end : Status) → (IsPlain end → ⊥) → Does by loaded loaded end s0 s1
      → Does by doing meant end s0 s1
  root_stops s0 s1 end fault one =
      let entry : Files = unwrap_or s0.state.holds empty in
      let result : Result Project Diag = (over entry).result in
      root_does s0 s1 end result
      (λ files is. ap (λ (o : Option Files). (over (unwrap_or o empty)).result) (sym is))
      (first_does by loaded loaded (built_by (build.store_way by) result) (built_by (build.plain_way by) result) end s0 s1
      fault one)

-- ---- what a call says of its loading, by the box as it was

pub over_box : {A : Type 0} (class_of rule_of : A → List ℕ) (ran_of faults_of : A → ℕ) (tools : List A) (defs : List Def)
    (root : List ℕ) (r : Result Project LoadFault) (old new : Option Files) (after : List ToolState)
    → Told old (λ files. StepsTo (origin_of files (states_by class_of rule_of ran_of faults_of tools))
    (loaded_over files (rules_of class_of rule_of tools) defs root false) r (world_of new after))
    → Told old (λ files. StepsTo (origin_of files (states_by class_of rule_of ran_of faults_of tools))
    (loaded_over files (rules_among (states_by class_of rule_of ran_of faults_of tools)) defs root false) r
    (world_of new after))
over_box class_of rule_of ran_of faults_of tools defs root r old new after over = λ files is.
    subst (λ (rules : ToolRules). StepsTo (origin_of files (states_by class_of rule_of ran_of faults_of tools))
    (loaded_over files rules defs root false) r (world_of new after))
    (sym (box_rules class_of rule_of ran_of faults_of tools)) (over files is)
