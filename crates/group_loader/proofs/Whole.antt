-- The steps of loading a whole project.
use Rattle.std.proofs.Common.{◌≡◌, ◌∙◌, ap, refl, ℕ, ◌≤◌, List, Bool, Option, Result, Ok, Err}
use Rattle.std.specs.Prelude.{IsErrAnd}
use Rattle.std.specs.FinMap.{get}
use Rattle.cm_base.specs.Calls.{Gives}
use Rattle.cm_base.specs.Causes.{HasCause}
use Rattle.cm_base.specs.Diags.{◌>>=◌}
use Rattle.cm_base.specs.Files.{Files, Told}
use Rattle.cm_base.specs.declared.diag.Diag.{Diag}
use Rattle.cm_base.specs.declared.diag.Place.{Place}
use Rattle.cm_base.specs.declared.fault.Fault.{Fault}
use Rattle.cm_base.specs.declared.record.Def.{Def}
use Rattle.path_anchors.specs.Names.{Bindings, folder_path_of}
use Rattle.cm_description.specs.declared.description.Description.{Description}
use Rattle.cm_description.specs.declared.loaded.Project.{Project}
use Rattle.project_checks.specs.Checks.{checked}
use Rattle.project_checks.specs.Loaded.{nothing}
use Rattle.project_checks.specs.declared.progress.Progress.{Progress}
use Rattle.project_loading.specs.Projects.{anchors_of, command_place, described_by, root_name}
use Rattle.loader_parts.specs.Answers.{Loads as Reads}
use Rattle.loader_parts.specs.declared.fault.ReadFault.{ReadFault}
use Rattle.loader_parts.specs.declared.fault.ReadFault.TheVariants as plain
use Rattle.tool_deriving.specs.Deriving.{ToolState}
use Rattle.member_deriving.specs.Uses.{Outcome, Work, goes_on, outcome, ◌>>◌}
use Rattle.box_deriving.specs.Boxes.{Origin}
use Rattle.tool_loading.specs.Projects.{Entering, entered, entered_within, finished_loading, reached_by, reached_from, store_means, with_described, with_root}
use Rattle.group_loader.specs.Answers.{of_plain, of_refusal}
use Rattle.group_loader.specs.Loading.{Loads, Scene, rules_at, scene_of, setting_at}
use Rattle.group_loader.specs.declared.fault.LoadFault.{LoadFault}
use Rattle.group_loader.specs.declared.fault.LoadFault.TheVariants as fault
use Rattle.group_loader.proofs.Adding.{adds_none, described_adds, levels_add, rest_adds, root_adds}
use Rattle.group_loader.proofs.Ending.{as_passed, computes, gives_at, goes, reads, steps_as, stops_with, wants}
use Rattle.group_loader.proofs.Groups.{describing, enter_in, in_setting}

-- all levels are loaded as any of them
enters_is : (defs : List Def) (anchors : Bindings) (origin : Origin)
    → entered_within (setting_at origin defs anchors) 513 ≡ entered (setting_at origin defs anchors)
unfolding entered
enters_is defs anchors origin = refl

module _ (defs : List Def) (anchors : Bindings) (root : List ℕ) where
  abbrev pub reaching : Origin → Work → Outcome Progress
  reaching origin work = reached_from (in_setting defs anchors origin) root work

  abbrev naming : Origin → Work → Outcome (List ℕ)
  naming origin work = outcome work (root_name anchors root)

  abbrev then_named : Origin → List ℕ → Work → Outcome Progress
  then_named origin name work = with_root (in_setting defs anchors origin) name work

  pub name_stops : (r : Result Progress LoadFault) (e : Fault) (scene : Scene) → IsErrAnd r (λ y. y ≡ of_refusal e)
      → Gives {A = List ℕ} (Err e) (root_name anchors root) → Loads r scene scene reaching
  name_stops r e scene is gives =
      as_passed r (of_refusal e) scene scene reaching is
      (stops_with (of_refusal e) scene scene naming then_named
      (computes {A = List ℕ} (Err e) scene (root_name anchors root) gives)
      (λ origin name work. root_adds (in_setting defs anchors origin) name work))

  pub place_stops : (r : Result Progress LoadFault) (scene : Scene) → IsErrAnd r (λ y. y ≡ fault.NoMemory)
      → Loads r scene scene reaching
  place_stops r scene is =
      as_passed r fault.NoMemory scene scene reaching is
      (wants scene reaching (λ origin work.
      rest_adds work (root_name anchors root) (then_named origin)
      (λ name after. root_adds (in_setting defs anchors origin) name after)))

  module _ (name : List ℕ) (at : Place) (p : Progress) (named : root_name anchors root ≡ Ok name)
      (at_is : at ≡ command_place) (p_is : p ≡ nothing) where
    abbrev description_from : Files → Result Description Diag
    description_from files = described_by at name p (get files (folder_path_of anchors name))

    abbrev reading : Origin → Work → Outcome Description
    reading origin work = outcome work (description_from work.files)

    abbrev then_described : Origin → Description → Work → Outcome Progress
    then_described origin d work = describing defs anchors 513 name d p origin work

    root_is : (origin : Origin) (work : Work)
        → (reading origin work >> then_described origin) ≡ with_root (in_setting defs anchors origin) name work
    root_is origin work =
        ap (λ (at : Place). outcome work (described_by at name p (get work.files (folder_path_of anchors name)))
        >> then_described origin) at_is
        ∙ ap (λ (p : Progress). outcome work
        (described_by command_place name p (get work.files (folder_path_of anchors name)))
        >> λ d after. describing defs anchors 513 name d p origin after) p_is
        ∙ ap (λ (enter : Entering). outcome work
        (described_by command_place name nothing (get work.files (folder_path_of anchors name)))
        >> λ d after. with_described (in_setting defs anchors origin) enter name d nothing after)
        (enters_is defs anchors origin)

    after_name : (r : Result Progress LoadFault) (old new : Scene)
        → Loads r old new (λ origin work. reading origin work >> then_described origin) → Loads r old new reaching
    after_name r old new loads =
        goes name r old old new naming then_named (gives_at name old (root_name anchors root) named)
        (steps_as r old new (λ origin work. reading origin work >> then_described origin)
        (λ origin. then_named origin name)
        (λ origin work here. root_is origin work) loads)

    module _ (holds after : Option Files) (before now : ℕ) (tools : List ToolState) (same : after ≡ holds) where
      pub description_stops : (r : Result Progress LoadFault) (e : ReadFault) → IsErrAnd r (λ y. y ≡ of_plain e)
          → HasCause before now (◌≡◌ {A = Result Description ReadFault} (Err e) (Err plain.Folder))
          → Told holds (λ files. Reads {A = Description} (Err e) (description_from files))
          → Loads r (scene_of holds before tools) (scene_of after now tools) reaching
      description_stops r e is cause told =
          as_passed r (of_plain e) (scene_of holds before tools) (scene_of after now tools) reaching is
          (after_name (Err (of_plain e)) (scene_of holds before tools) (scene_of after now tools)
          (stops_with (of_plain e) (scene_of holds before tools) (scene_of after now tools) reading then_described
          (reads holds after before now tools description_from same (Err e) cause told)
          (λ origin d work. described_adds (in_setting defs anchors origin) (enter_in defs anchors 513 name d p origin)
          (levels_add (in_setting defs anchors origin) 513) name d p work)))

      module _ (d : Description) (later : before ≤ now)
          (found : Told holds (λ files. description_from files ≡ Ok d)) where
        pub described_so : (r : Result Progress LoadFault) (new : Scene)
            → Loads r (scene_of after now tools) new (describing defs anchors 513 name d p)
            → Loads r (scene_of holds before tools) new reaching
        described_so r new loads =
            after_name r (scene_of holds before tools) new
            (goes d r (scene_of holds before tools) (scene_of after now tools) new reading then_described
            (reads holds after before now tools description_from same (Ok d)
            (record { later = later; rose = λ failed. absurd (cc) }) found)
            loads)

        pub members_stop : (r : Result Progress LoadFault) (e : LoadFault) (new : Scene) → IsErrAnd r (λ y. y ≡ e)
            → Loads {A = Progress} (Err e) (scene_of after now tools) new (describing defs anchors 513 name d p)
            → Loads r (scene_of holds before tools) new reaching
        members_stop r e new is stopped =
            as_passed r e (scene_of holds before tools) new reaching is (described_so (Err e) new stopped)

-- ---- with anchors, and the checks after all loading

module _ (defs : List Def) (root : List ℕ) (freezing : Bool) where
  abbrev pub projecting : Origin → Work → Outcome Project
  projecting origin work = finished_loading freezing (reached_by store_means (rules_at origin) defs root work)

  abbrev anchoring : Origin → Work → Outcome Bindings
  anchoring origin work = outcome work (anchors_of work.files)

  abbrev then_reached : Origin → Bindings → Work → Outcome Progress
  then_reached origin anchors work = reaching defs anchors root origin work

  abbrev reached_all : Origin → Work → Outcome Progress
  reached_all origin work = anchoring origin work >> then_reached origin

  abbrev then_checked : Origin → Progress → Work → Outcome Project
  then_checked origin p work = outcome work (checked freezing p)

  finished : (work : Work) (r : Result Progress Diag)
      → goes_on work r (λ p after. outcome after (checked freezing p)) ≡ outcome work (r >>= λ p. checked freezing p)
  finished work (Ok p) = refl
  finished work (Err diag) = refl

  project_is : (origin : Origin) (work : Work)
      → (reached_all origin work >> then_checked origin) ≡ projecting origin work
  project_is origin work = finished (reached_all origin work).work (reached_all origin work).result

  after_all : (r : Result Project LoadFault) (old new : Scene)
      → Loads r old new (λ origin work. reached_all origin work >> then_checked origin) → Loads r old new projecting
  after_all r old new loads =
      steps_as r old new (λ origin work. reached_all origin work >> then_checked origin) projecting
      (λ origin work here. project_is origin work) loads

  reached_stops : (r : Result Project LoadFault) (e : LoadFault) (old new : Scene) → IsErrAnd r (λ y. y ≡ e)
      → Loads {A = Progress} (Err e) old new reached_all → Loads r old new projecting
  reached_stops r e old new is stopped =
      as_passed r e old new projecting is
      (after_all (Err e) old new
      (stops_with e old new reached_all then_checked stopped (λ origin p work. adds_none work)))

  module _ (holds after : Option Files) (before now : ℕ) (tools : List ToolState) (same : after ≡ holds) where
    pub anchors_stop : (r : Result Project LoadFault) (e : ReadFault) → IsErrAnd r (λ y. y ≡ of_plain e)
        → HasCause before now (◌≡◌ {A = Result Bindings ReadFault} (Err e) (Err plain.Folder))
        → Told holds (λ files. Reads {A = Bindings} (Err e) (anchors_of files))
        → Loads r (scene_of holds before tools) (scene_of after now tools) projecting
    anchors_stop r e is cause told =
        reached_stops r (of_plain e) (scene_of holds before tools) (scene_of after now tools) is
        (stops_with (of_plain e) (scene_of holds before tools) (scene_of after now tools) anchoring then_reached
        (reads holds after before now tools (λ files. anchors_of files) same (Err e) cause told)
        (λ origin anchors work. rest_adds work (root_name anchors root) (then_named defs anchors root origin)
        (λ name after. root_adds (in_setting defs anchors origin) name after)))

    module _ (anchors : Bindings) (later : before ≤ now) (bound : Told holds (λ files. anchors_of files ≡ Ok anchors))
      where
        anchored : (r : Result Progress LoadFault) (new : Scene)
            → Loads r (scene_of after now tools) new (reaching defs anchors root)
            → Loads r (scene_of holds before tools) new reached_all
        anchored r new loads =
            goes anchors r (scene_of holds before tools) (scene_of after now tools) new anchoring then_reached
            (reads holds after before now tools (λ files. anchors_of files) same (Ok anchors)
            (record { later = later; rose = λ failed. absurd (cc) }) bound)
            loads

        pub groups_stop : (r : Result Project LoadFault) (e : LoadFault) (new : Scene) → IsErrAnd r (λ y. y ≡ e)
            → Loads {A = Progress} (Err e) (scene_of after now tools) new (reaching defs anchors root)
            → Loads r (scene_of holds before tools) new projecting
        groups_stop r e new is stopped =
            reached_stops r e (scene_of holds before tools) new is (anchored (Err e) new stopped)

        module _ (p : Progress) (new : Scene)
            (loaded : Loads (Ok p) (scene_of after now tools) new (reaching defs anchors root)) where
          after_groups : (r : Result Project LoadFault) → Loads r new new
              (λ origin work. outcome work (checked freezing p))
              → Loads r (scene_of holds before tools) new projecting
          after_groups r loads =
              after_all r (scene_of holds before tools) new
              (goes p r (scene_of holds before tools) new new reached_all then_checked
              (anchored (Ok p) new loaded) loads)

          pub checks_stop : (r : Result Project LoadFault) (e : Fault) → IsErrAnd r (λ y. y ≡ of_refusal e)
              → Gives {A = Project} (Err e) (checked freezing p) → Loads r (scene_of holds before tools) new projecting
          checks_stop r e is gives =
              as_passed r (of_refusal e) (scene_of holds before tools) new projecting is
              (after_groups (Err (of_refusal e)) (computes {A = Project} (Err e) new (checked freezing p) gives))

          pub project_done : (project : Project) → checked freezing p ≡ Ok project
              → Loads (Ok project) (scene_of holds before tools) new projecting
          project_done project is = after_groups (Ok project) (gives_at project new (checked freezing p) is)
