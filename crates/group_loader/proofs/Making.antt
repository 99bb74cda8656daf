-- The steps of loading a member of a tool's class.
use Rattle.std.proofs.Common.{◌≡◌, ◌∙◌, ap, sym, refl, ℕ, ◌+◌, ◌≤◌, List, length, take, Option, Some, None, Bool, true, false, Result, Ok, Err, if◌then◌else◌}
use Rattle.std.specs.Prelude.{IsErrAnd, nat_lt}
use Rattle.std.specs.FinMap.{get}
use Rattle.cm_base.specs.Calls.{Gives}
use Rattle.cm_base.specs.Causes.{HasCause}
use Rattle.cm_base.specs.Diags.{whole_file}
use Rattle.cm_base.specs.Files.{Files, Told, front_read}
use Rattle.cm_base.specs.declared.diag.Diag.{Diag}
use Rattle.cm_base.specs.declared.fault.Fault.{Fault}
use Rattle.cm_base.specs.declared.fault.Fault.TheVariants as refusal
use Rattle.cm_base.specs.declared.record.Def.{Def}
use Rattle.path_anchors.specs.Names.{Bindings, folder_path_of}
use Rattle.cm_description.specs.declared.description.MemberEntry.{MemberEntry}
use Rattle.project_checks.specs.declared.limits.TheConstants.{SOURCE}
use Rattle.project_checks.specs.declared.progress.Progress.{Progress}
use Rattle.project_loading.specs.Projects.{there, with_source}
use Rattle.loader_parts.specs.Answers.{LeavesBy}
use Rattle.loader_parts.specs.Answers.{Loads as Reads}
use Rattle.loader_parts.specs.declared.fault.ReadFault.{ReadFault}
use Rattle.loader_parts.specs.declared.fault.ReadFault.TheVariants as plain
use Rattle.loader_parts.proofs.Fronts.{by_front}
use Rattle.std.specs.Option.{option_map}
use Rattle.cm_base.specs.Derived.{ToolRules}
use Rattle.tool_deriving.specs.Deriving.{ToolState, ToolUse, tool_use}
use Rattle.tool_deriving.specs.Toolboxes.{is_built_in, rules_of}
use Rattle.member_deriving.specs.Classes.{IsToolOf, rule_named}
use Rattle.member_deriving.proofs.Naming.{built_in_none}
use Rattle.member_deriving.specs.Sources.{Texts, source_by, texts_over_stores, used_within}
use Rattle.member_deriving.specs.Uses.{Outcome, Work, outcome, ◌>>◌}
use Rattle.box_deriving.specs.Boxes.{Origin}
use Rattle.tool_loading.specs.Projects.{tool_member_name, tool_of, tool_of_class, with_derived, with_tool_member, with_use_of, without_options}
use Rattle.group_loader.specs.Answers.{answer, of_plain, of_refusal}
use Rattle.group_loader.specs.Loading.{Loads, Scene, scene_of}
use Rattle.group_loader.specs.Makers.{IsMaker}
use Rattle.group_loader.specs.declared.fault.LoadFault.{LoadFault}
use Rattle.group_loader.proofs.Adding.{adds_none, derived_adds, use_adds}
use Rattle.group_loader.proofs.Ending.{answered, computes, gives_at, goes, reads, steps_as, stops_with}
use Rattle.group_loader.proofs.Groups.{in_setting}

-- ---- the input's size is known by one byte more than the limit

used_if : (b : Bool) (diag : Diag) (texts : Texts) (job : ToolUse) (work : Work)
    → used_within (if b then Err diag else Ok tt) texts job work
    ≡ (if b then outcome work (Err diag) else used_within (Ok tt) texts job work)
used_if true diag texts job work = refl
used_if false diag texts job work = refl

pub source_front : (texts : Texts) (class rule name bytes : List ℕ) (work : Work)
    → source_by texts (tool_use class rule name (take (SOURCE + 1) bytes)) work
    ≡ source_by texts (tool_use class rule name bytes) work
source_front texts class rule name bytes work =
    used_if (nat_lt SOURCE (length (take (SOURCE + 1) bytes))) (whole_file 12 name) texts
    (tool_use class rule name (take (SOURCE + 1) bytes)) work
    ∙ by_front SOURCE bytes (outcome work (Err (whole_file 12 name)))
    (λ input. used_within (Ok tt) texts (tool_use class rule name input) work)
    ∙ sym (used_if (nat_lt SOURCE (length bytes)) (whole_file 12 name) texts (tool_use class rule name bytes) work)

module _ (defs : List Def) (anchors : Bindings) (holder : ℕ) (holder_name : List ℕ) (member : MemberEntry)
    (class rule : List ℕ) (p : Progress) where
  abbrev pub making : Origin → Work → Outcome Progress
  making origin work =
      with_tool_member (in_setting defs anchors origin) holder holder_name member (class, rule) p work

  abbrev naming : Origin → Work → Outcome (List ℕ)
  naming origin work = outcome work (tool_member_name anchors holder_name member)

  abbrev then_named : Origin → List ℕ → Work → Outcome Progress
  then_named origin name work =
      with_derived (in_setting defs anchors origin) holder member.at (class, rule) name p work

  pub name_stops : (r : Result (Unit {0}) LoadFault) (e : Fault) (now : Progress) (scene : Scene)
      → IsErrAnd r (λ y. y ≡ of_refusal e)
      → Gives {A = List ℕ} (Err e) (tool_member_name anchors holder_name member)
      → Loads (answer r now) scene scene making
  name_stops r e now scene is gives =
      answered r (of_refusal e) now scene scene making is
      (stops_with (of_refusal e) scene scene naming then_named
      (computes {A = List ℕ} (Err e) scene (tool_member_name anchors holder_name member) gives)
      (λ origin name work. derived_adds (in_setting defs anchors origin) holder member.at (class, rule) name p work))

  module _ (name : List ℕ) (named : tool_member_name anchors holder_name member ≡ Ok name) where
    -- the input, or a front of it
    abbrev front_from : Files → Result (List ℕ) Diag
    front_from files = there member.at name (front_read SOURCE (get files (folder_path_of anchors name)))

    abbrev fronting : Origin → Work → Outcome (List ℕ)
    fronting origin work = outcome work (front_from work.files)

    abbrev then_used : Origin → List ℕ → Work → Outcome Progress
    then_used origin input work =
        with_use_of (in_setting defs anchors origin) holder name (class, rule) input p work

    use_front : (origin : Origin) (bytes : List ℕ) (work : Work)
        → then_used origin (take (SOURCE + 1) bytes) work ≡ then_used origin bytes work
    use_front origin bytes work =
        ap (λ (step : Outcome (List ℕ)). step >> λ source after. outcome after
        (with_source holder name without_options source p))
        (source_front texts_over_stores class rule name bytes work)

    front_is : (origin : Origin) (work : Work) (file : Option (List ℕ))
        → (outcome work (there member.at name (front_read SOURCE file)) >> then_used origin)
        ≡ (outcome work (there member.at name file) >> then_used origin)
    front_is origin work None = refl
    front_is origin work (Some bytes) = use_front origin bytes work

    after_name : (r : Result Progress LoadFault) (old new : Scene)
        → Loads r old new (λ origin work. fronting origin work >> then_used origin) → Loads r old new making
    after_name r old new loads =
        goes name r old old new naming then_named
        (gives_at name old (tool_member_name anchors holder_name member) named)
        (steps_as r old new (λ origin work. fronting origin work >> then_used origin) (λ origin. then_named origin name)
        (λ origin work here. front_is origin work (get work.files (folder_path_of anchors name))) loads)

    module _ (holds after : Option Files) (before now : ℕ) (tools : List ToolState) (same : after ≡ holds) where
      pub input_stops : (r : Result (Unit {0}) LoadFault) (e : ReadFault) (end : Progress)
          → IsErrAnd r (λ y. y ≡ of_plain e)
          → HasCause before now (◌≡◌ {A = Result (List ℕ) ReadFault} (Err e) (Err plain.Folder))
          → Told holds (λ files. Reads {A = List ℕ} (Err e) (front_from files))
          → Loads (answer r end) (scene_of holds before tools) (scene_of after now tools) making
      input_stops r e end is cause told =
          answered r (of_plain e) end (scene_of holds before tools) (scene_of after now tools) making is
          (after_name (Err (of_plain e)) (scene_of holds before tools) (scene_of after now tools)
          (stops_with (of_plain e) (scene_of holds before tools) (scene_of after now tools) fronting then_used
          (reads holds after before now tools front_from same (Err e) cause told)
          (λ origin input work. use_adds (in_setting defs anchors origin) holder name (class, rule) input p work)))

      module _ (input : List ℕ) (cause : before ≤ now) (found : Told holds (λ files. front_from files ≡ Ok input)) where
        abbrev pub sourcing : Origin → Work → Outcome (List ℕ)
        sourcing origin work = source_by texts_over_stores (tool_use class rule name input) work

        abbrev then_added : Origin → List ℕ → Work → Outcome Progress
        then_added origin source work = outcome work (with_source holder name without_options source p)

        after_input : (r : Result Progress LoadFault) (new : Scene)
            → Loads r (scene_of after now tools) new (λ origin work. sourcing origin work >> then_added origin)
            → Loads r (scene_of holds before tools) new making
        after_input r new loads =
            after_name r (scene_of holds before tools) new
            (goes input r (scene_of holds before tools) (scene_of after now tools) new fronting then_used
            (reads holds after before now tools front_from same (Ok input)
            (record { later = cause; rose = λ failed. absurd (cc) }) found)
            loads)

        pub source_stops : (r : Result (Unit {0}) LoadFault) (e : LoadFault) (end : Progress) (new : Scene)
            → IsErrAnd r (λ y. y ≡ e) → Loads {A = List ℕ} (Err e) (scene_of after now tools) new sourcing
            → Loads (answer r end) (scene_of holds before tools) new making
        source_stops r e end new is stopped =
            answered r e end (scene_of holds before tools) new making is
            (after_input (Err e) new
            (stops_with e (scene_of after now tools) new sourcing then_added stopped
            (λ origin source work. adds_none work)))

        module _ (source : List ℕ) (new : Scene) (derived : Loads (Ok source) (scene_of after now tools) new sourcing)
          where
            after_source : (r : Result Progress LoadFault)
                → Loads r new new (λ origin work. outcome work (with_source holder name without_options source p))
                → Loads r (scene_of holds before tools) new making
            after_source r loads =
                after_input r new
                (goes source r (scene_of after now tools) new new sourcing then_added derived loads)

            pub added_stops : (r : Result (Unit {0}) LoadFault) (e : Fault) (end : Progress)
                → IsErrAnd r (λ y. y ≡ of_refusal e)
                → Gives {A = Progress} (Err e) (with_source holder name without_options source p)
                → Loads (answer r end) (scene_of holds before tools) new making
            added_stops r e end is gives =
                answered r (of_refusal e) end (scene_of holds before tools) new making is
                (after_source (Err (of_refusal e))
                (computes {A = Progress} (Err e) new (with_source holder name without_options source p) gives))

            pub made : (end : Progress) → with_source holder name without_options source p ≡ Ok end
                → Loads (Ok end) (scene_of holds before tools) new making
            made end is =
                after_source (Ok end) (gives_at end new (with_source holder name without_options source p) is)

-- the rule of the tool that makes a member
pub rule_is : {A : Type 0} (class_of rule_of : A → List ℕ) (tools : List A) (member : MemberEntry) (place : ℕ)
    (class rule : List ℕ) → IsMaker class_of rule_of tools member place class
    → tool_of (rules_of class_of rule_of tools) member ≡ Some (class, rule)
    → rule_named (rules_of class_of rule_of tools) class ≡ Some rule
rule_is class_of rule_of tools member place class rule maker named =
    let both : (class, rule_of maker.tool.place.tool) ≡ (class, rule) = cc (maker.named, named) in
    maker.tool.named ∙ ap (λ (tool : List ℕ × List ℕ). Some tool.1) both

-- a tool whose class is written behind a member makes its source
not_built_in : (b : Bool) (found : Option (List ℕ)) (rule : List ℕ) → (b ≡ true → found ≡ None) → found ≡ Some rule
    → b ≡ false
not_built_in true found rule none some = absurd (cc (none refl, some))
not_built_in false found rule none some = refl

module _ {A : Type 0} (class_of rule_of : A → List ℕ) (tools : List A) (member : MemberEntry) (class : List ℕ)
    (written : member.class ≡ Some class) where
  abbrev rules : ToolRules
  rules = rules_of class_of rule_of tools

  abbrev of_class : Bool → Option (List ℕ) → Option (List ℕ × List ℕ)
  of_class built_in found = if built_in then None else option_map (λ (rule : List ℕ). (class, rule)) found

  tool_is : tool_of rules member ≡ of_class (is_built_in class) (rule_named rules class)
  tool_is = ap (tool_of_class rules) written

  unnamed : (b : Bool) → of_class b None ≡ None
  unnamed true = refl
  unnamed false = refl

  pub no_maker : rule_named rules class ≡ None → tool_of rules member ≡ None
  no_maker none = tool_is ∙ ap (of_class (is_built_in class)) none ∙ unnamed (is_built_in class)

  pub is_maker : (place : ℕ) → IsToolOf class_of rule_of class tools place
      → IsMaker class_of rule_of tools member place class
  is_maker place tool = record {
    tool = tool;
    named = tool_is
        ∙ ap (λ (b : Bool). of_class b (rule_named rules class))
        (not_built_in (is_built_in class) (rule_named rules class) (rule_of tool.place.tool)
        (built_in_none class_of rule_of tools class) tool.named)
        ∙ ap (of_class false) tool.named;
  }

-- a refusal of one unit more
pub left_gives : (e : Fault) (m : Result Progress Diag) (now : Progress) → LeavesBy (Err e) m now
    → Gives {A = Progress} (Err e) m
left_gives (refusal.Diag diag) m now left = left
left_gives refusal.NoMemory m now left = tt
