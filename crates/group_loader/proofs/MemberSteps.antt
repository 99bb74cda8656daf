-- The steps of loading members one after the other, and one member.
use Rattle.std.proofs.Common.{◌≡◌, ◌∙◌, ap, sym, subst, refl, ℕ, suc, ◌+◌, ◌<◌, add-one, ◌≤◌, List, [], ◌∷◌, length, drop, drop-cons, get_or, map, Option, Some, None, Bool, true, false, Result, Ok, Err, if◌then◌else◌}
use Rattle.std.specs.Prelude.{IsErrAnd, filter, not, slice_get}
use Rattle.std.specs.List.{filter_map, cons_option}
use Rattle.std.proofs.lemmas.List.{drop_all}
use Rattle.cm_base.specs.Derived.{ToolRules}
use Rattle.cm_base.specs.Calls.{Gives}
use Rattle.cm_base.specs.Causes.{HasCause}
use Rattle.cm_base.specs.Files.{Files, Told}
use Rattle.cm_base.specs.declared.diag.Diag.{Diag}
use Rattle.cm_base.specs.declared.fault.Fault.{Fault}
use Rattle.cm_base.specs.declared.record.Def.{Def}
use Rattle.path_anchors.specs.Names.{Bindings}
use Rattle.cm_description.specs.declared.description.MemberEntry.{MemberEntry}
use Rattle.project_checks.specs.declared.progress.Progress.{Progress}
use Rattle.project_loading.specs.Projects.{found_of, is_skipped, number_of, setting_of}
use Rattle.project_loading.specs.declared.classes.Class.{Class}
use Rattle.project_loading.specs.declared.classes.Class.TheVariants as classes
use Rattle.project_loading.specs.declared.found.Found.{Found}
use Rattle.loader_parts.specs.Answers.{Leaves}
use Rattle.loader_parts.specs.Answers.{Loads as Reads}
use Rattle.loader_parts.specs.StepsInARow.{with_source_of}
use Rattle.loader_parts.specs.declared.fault.ReadFault.{ReadFault}
use Rattle.loader_parts.specs.declared.fault.ReadFault.TheVariants as plain
use Rattle.tool_deriving.specs.Deriving.{ToolState}
use Rattle.tool_deriving.specs.Toolboxes.{is_built_in, rules_of}
use Rattle.member_deriving.specs.Uses.{Outcome, Work, outcome, ◌>>◌}
use Rattle.box_deriving.specs.Boxes.{InStep, Origin, rules_in}
use Rattle.tool_loading.specs.Projects.{Entering, entered_within, tool_of, with_classed, with_member, with_member_of, with_members, with_plain_member, with_tool_member}
use Rattle.group_loader.specs.Answers.{answer, of_plain, of_refusal}
use Rattle.group_loader.specs.Loading.{Loads, Scene, rules_at, scene_of, states_by, world_in}
use Rattle.group_loader.specs.declared.fault.LoadFault.{LoadFault}
use Rattle.group_loader.specs.declared.fault.LoadFault.TheVariants as fault
use Rattle.group_loader.proofs.Adding.{classed_adds, levels_add, member_adds, members_add}
use Rattle.group_loader.proofs.Ending.{answered, computes, gives_at, goes, reads, steps_as, stops_with, wants}
use Rattle.group_loader.proofs.Groups.{in_setting, meeting}

-- what is left of a list begins with the item that is looked at
left_at : (items : List ℕ) (i item : ℕ) → i < length items → item ≡ get_or items i item
    → drop i items ≡ item ∷ drop (i + 1) items
left_at items i item lt is = drop-cons items i item lt ∙ ap (λ (m : ℕ). m ∷ drop (suc i) items) (sym is)
    ∙ ap (λ (n : ℕ). item ∷ drop n items) (sym (add-one i))

-- a loading so far, whose rest is that of a whole
pub record LeadsBack (now before : Scene) (rest whole : Origin → Work → Outcome Progress) : Type 0 where
  pub back : (r : Result Progress LoadFault) (new : Scene) → Loads r now new rest → Loads r before new whole

-- the classes and rules of a box
module _ {A : Type 0} (class_of rule_of : A → List ℕ) (ran_of faults_of : A → ℕ) where
  pub fused : (tools : List A) → rules_in (states_by class_of rule_of ran_of faults_of tools)
      ≡ map (λ (tool : A). (class_of tool, rule_of tool)) tools
  fused [] = refl
  fused (tool ∷ tools) =
      ap (λ (rules : List (List ℕ × List ℕ)). (class_of tool, rule_of tool) ∷ rules) (fused tools)

module _ (defs : List Def) (anchors : Bindings) (levels holder : ℕ) (name : List ℕ) where
  abbrev enter_at : Origin → Entering
  enter_at origin = entered_within (in_setting defs anchors origin) levels

  -- ---- several members

  module _ (members : List MemberEntry) where
    -- the members that these numbers choose
    abbrev pub all_of : List ℕ → Progress → Origin → Work → Outcome Progress
    all_of items p origin work =
        with_members (in_setting defs anchors origin) (enter_at origin) holder name
        (filter_map (λ item. slice_get members item) items) p work

    abbrev pub one_of : MemberEntry → Progress → Origin → Work → Outcome Progress
    one_of member p origin work =
        with_member (in_setting defs anchors origin) (enter_at origin) holder name member p work

    abbrev then_rest : List ℕ → Origin → Progress → Work → Outcome Progress
    then_rest items origin more work = all_of items more origin work

    module _ (items : List ℕ) (i item : ℕ) (p : Progress) (lt : i < length items) (here : item ≡ get_or items i item)
        (before : Scene) (whole : Origin → Work → Outcome Progress) where
      item_is : (found : Option MemberEntry) → slice_get members item ≡ found → (origin : Origin) (work : Work)
          → with_members (in_setting defs anchors origin) (enter_at origin) holder name
          (cons_option found (filter_map (λ item. slice_get members item) (drop (i + 1) items))) p work
          ≡ all_of (drop i items) p origin work
      item_is found is origin work =
          ap (λ (o : Option MemberEntry). with_members (in_setting defs anchors origin) (enter_at origin) holder name
          (cons_option o (filter_map (λ item. slice_get members item) (drop (i + 1) items))) p work) (sym is)
          ∙ ap (λ (xs : List ℕ). all_of xs p origin work) (sym (left_at items i item lt here))

      module _ (now : Scene) (so : LeadsBack now before (all_of (drop i items) p) whole) where
        pub member_passed : slice_get members item ≡ None → LeadsBack now before (all_of (drop (i + 1) items) p) whole
        member_passed none = record {
          back = λ r new rest.
              so.back r new
              (steps_as r now new (all_of (drop (i + 1) items) p) (all_of (drop i items) p)
              (λ origin work at. item_is None none origin work) rest);
        }

        module _ (member : MemberEntry) (some : slice_get members item ≡ Some member) where
          whole_of : (r : Result Progress LoadFault) (new : Scene)
              → Loads r now new (λ origin work. one_of member p origin work >> then_rest (drop (i + 1) items) origin)
              → Loads r before new whole
          whole_of r new rest =
              so.back r new
              (steps_as r now new (λ origin work. one_of member p origin work >> then_rest (drop (i + 1) items) origin)
              (all_of (drop i items) p) (λ origin work at. item_is (Some member) some origin work) rest)

          pub member_loaded : (more : Progress) (after : Scene) → Loads (Ok more) now after (one_of member p)
              → LeadsBack after before (all_of (drop (i + 1) items) more) whole
          member_loaded more after loaded = record {
            back = λ r new rest.
                whole_of r new
                (goes more r now after new (one_of member p) (then_rest (drop (i + 1) items)) loaded rest);
          }

          pub member_stops : (r : Result (Unit {0}) LoadFault) (e : LoadFault) (end : Progress) (new : Scene)
              → IsErrAnd r (λ y. y ≡ e) → Loads {A = Progress} (Err e) now new (one_of member p)
              → Loads (answer r end) before new whole
          member_stops r e end new is stopped =
              answered r e end before new whole is
              (whole_of (Err e) new
              (stops_with e now new (one_of member p) (then_rest (drop (i + 1) items)) stopped
              (λ origin more work. members_add (in_setting defs anchors origin) (enter_at origin)
              (levels_add (in_setting defs anchors origin) levels) holder name
              (filter_map (λ item. slice_get members item) (drop (i + 1) items)) more work)))

    -- none is left
    pub members_done : (items : List ℕ) (i : ℕ) (p : Progress) (now before : Scene)
        (whole : Origin → Work → Outcome Progress)
        → length items ≤ i → LeadsBack now before (all_of (drop i items) p) whole → Loads (Ok p) before now whole
    members_done items i p now before whole le so =
        so.back (Ok p) now
        (subst (λ (xs : List ℕ). Loads (Ok p) now now (all_of xs p)) (sym (drop_all i items le))
        (gives_at p now (Ok p) refl))

    -- the same loading, said of what it became
    pub leads_as : (items : List ℕ) (now after before : Scene) (p q : Progress)
        (whole : Origin → Work → Outcome Progress)
        → after ≡ now → q ≡ p → LeadsBack now before (all_of items p) whole → LeadsBack after before
        (all_of items q) whole
    leads_as items now after before p q whole same is so =
        subst (λ (scene : Scene). LeadsBack scene before (all_of items q) whole) (sym same)
        (subst (λ (q : Progress). LeadsBack now before (all_of items q) whole) (sym is) so)

  -- ---- one member

  module _ (member : MemberEntry) (p : Progress) where
    abbrev pub membering : Origin → Work → Outcome Progress
    membering origin work =
        with_member (in_setting defs anchors origin) (enter_at origin) holder name member p work

    abbrev unless_skipped : Bool → Origin → Work → Outcome Progress
    unless_skipped skipped origin work =
        if skipped then outcome work (Ok p)
        else with_member_of (in_setting defs anchors origin) (enter_at origin) holder name member
        (tool_of (rules_at origin) member) p work

    pub skip_stops : (r : Result (Unit {0}) LoadFault) (now : Progress) (scene : Scene)
        → IsErrAnd r (λ y. y ≡ fault.NoMemory) → Loads (answer r now) scene scene membering
    skip_stops r now scene is =
        answered r fault.NoMemory now scene scene membering is
        (wants scene membering (λ origin work. member_adds (in_setting defs anchors origin) (enter_at origin)
        (levels_add (in_setting defs anchors origin) levels) holder name member p work))

    pub skipped : (scene : Scene) → is_skipped anchors member ≡ true → Loads (Ok p) scene scene membering
    skipped scene is =
        steps_as (Ok p) scene scene (λ origin work. outcome work (Ok p)) membering
        (λ origin work here. ap (λ (b : Bool). unless_skipped b origin work) (sym is)) (gives_at p scene (Ok p) refl)

    abbrev pub plainly : Origin → Work → Outcome Progress
    plainly origin work =
        with_plain_member (in_setting defs anchors origin) (enter_at origin) holder name member p work

    abbrev pub making : List ℕ × List ℕ → Origin → Work → Outcome Progress
    making tool origin work = with_tool_member (in_setting defs anchors origin) holder name member tool p work

    module _ {A : Type 0} (class_of rule_of : A → List ℕ) (ran_of faults_of : A → ℕ) (tools : List A) where
      module _ (r : Result Progress LoadFault) (old new : Scene)
          (box : old.tools ≡ states_by class_of rule_of ran_of faults_of tools) where
        rules_same : (origin : Origin) → map (λ (tool : A). (class_of tool, rule_of tool)) tools ≡ rules_in origin.tools
            → rules_of class_of rule_of tools ≡ rules_at origin
        rules_same origin same =
            ap (λ (both : List (List ℕ × List ℕ)). filter
            (λ (tool : List ℕ × List ℕ). not (is_built_in tool.0)) both) same

        rules_here : (origin : Origin) (work : Work) → InStep origin work (world_in old)
            → rules_of class_of rule_of tools ≡ rules_at origin
        rules_here origin work here =
            let same : rules_in old.tools ≡ rules_in origin.tools = here.rules in
            rules_same origin (sym (fused class_of rule_of ran_of faults_of tools) ∙ ap rules_in (sym box) ∙ same)

        not_skipped : (found : Option (List ℕ × List ℕ)) → is_skipped anchors member ≡ false
            → tool_of (rules_of class_of rule_of tools) member ≡ found
            → (origin : Origin) (work : Work) → InStep origin work (world_in old)
            → with_member_of (in_setting defs anchors origin) (enter_at origin) holder name member found p work
            ≡ membering origin work
        not_skipped found skipped is origin work here =
            ap (λ (o : Option (List ℕ × List ℕ)). with_member_of (in_setting defs anchors origin)
            (enter_at origin) holder name member o p work)
            (sym is ∙ ap (λ (rules : ToolRules). tool_of rules member) (rules_here origin work here))
            ∙ ap (λ (b : Bool). unless_skipped b origin work) (sym skipped)

        pub is_plain : is_skipped anchors member ≡ false → tool_of (rules_of class_of rule_of tools) member ≡ None
            → Loads r old new plainly → Loads r old new membering
        is_plain skipped none loads = steps_as r old new plainly membering (not_skipped None skipped none) loads

        pub is_made : (tool : List ℕ × List ℕ) → is_skipped anchors member ≡ false
            → tool_of (rules_of class_of rule_of tools) member ≡ Some tool → Loads r old new (making tool)
            → Loads r old new membering
        is_made tool skipped some loads =
            steps_as r old new (making tool) membering (not_skipped (Some tool) skipped some) loads

    -- ---- what a member of no tool's class is found to be

    abbrev then_classed : Origin → Found → Work → Outcome Progress
    then_classed origin found work =
        with_classed (in_setting defs anchors origin) (enter_at origin) holder member.at found found.class p work

    abbrev finding : Origin → Work → Outcome Found
    finding origin work = outcome work (found_of anchors name member)

    pub found_stops : (r : Result (Unit {0}) LoadFault) (e : Fault) (now : Progress) (scene : Scene)
        → IsErrAnd r (λ y. y ≡ of_refusal e) → Gives {A = Found} (Err e) (found_of anchors name member)
        → Loads (answer r now) scene scene plainly
    found_stops r e now scene is gives =
        answered r (of_refusal e) now scene scene plainly is
        (stops_with (of_refusal e) scene scene finding then_classed
        (computes {A = Found} (Err e) scene (found_of anchors name member) gives)
        (λ origin found work. classed_adds (in_setting defs anchors origin) (enter_at origin)
        (levels_add (in_setting defs anchors origin) levels) holder member.at found found.class p work))

    module _ (found : Found) (is : found_of anchors name member ≡ Ok found) where
      classed : (class : Class) (r : Result Progress LoadFault) (old new : Scene) → found.class ≡ class
          → Loads r old new
          (λ origin work. with_classed (in_setting defs anchors origin) (enter_at origin) holder member.at
          found class p work)
          → Loads r old new plainly
      classed class r old new same loads =
          goes found r old old new finding then_classed (gives_at found old (found_of anchors name member) is)
          (subst (λ (class : Class). Loads r old new (λ origin work. with_classed (in_setting defs anchors origin)
          (enter_at origin) holder member.at found class p work)) (sym same) loads)

      pub found_group : (r : Result Progress LoadFault) (old new : Scene) → found.class ≡ classes.Cm
          → Loads r old new (meeting defs anchors levels holder member.at found.name p (number_of p found.name))
          → Loads r old new plainly
      found_group r old new same loads = classed classes.Cm r old new same loads

      abbrev source_from : Files → Result Progress Diag
      source_from files = with_source_of (setting_of files anchors defs) holder member.at found p

      left_reads : (e : ReadFault) (m : Result Progress Diag) (now : Progress) → Leaves (Err e) m now
          → Reads {A = Progress} (Err e) m
      left_reads (plain.Diag diag) m now left = left
      left_reads plain.Folder m now left = tt
      left_reads plain.NoMemory m now left = tt

      module _ (holds after : Option Files) (before now : ℕ) (tools : List ToolState) (same : after ≡ holds)
          (class : found.class ≡ classes.Sml) where
        same_plain : (e : ReadFault) → ◌≡◌ {A = Result Progress ReadFault} (Err e) (Err plain.Folder)
            → ◌≡◌ {A = Result (Unit {0}) ReadFault} (Err e) (Err plain.Folder)
        same_plain e both = let is : e ≡ plain.Folder = cc in ap Err is

        pub source_stops : (r : Result (Unit {0}) LoadFault) (e : ReadFault) (mid end : Progress)
            → IsErrAnd r (λ y. y ≡ of_plain e)
            → HasCause before now (◌≡◌ {A = Result (Unit {0}) ReadFault} (Err e) (Err plain.Folder))
            → Told holds (λ files. Leaves (Err e) (source_from files) mid)
            → Loads (answer r end) (scene_of holds before tools) (scene_of after now tools) plainly
        source_stops r e mid end is cause told =
            answered r (of_plain e) end (scene_of holds before tools) (scene_of after now tools) plainly is
            (classed classes.Sml (Err (of_plain e)) (scene_of holds before tools) (scene_of after now tools) class
            (reads holds after before now tools source_from same (Err e)
            (record { later = cause.later; rose = λ failed. cause.rose (same_plain e failed) })
            (λ files here. left_reads e (source_from files) mid (told files here))))

        pub source_done : (more : Progress) → before ≤ now → Told holds (λ files. source_from files ≡ Ok more)
            → Loads (Ok more) (scene_of holds before tools) (scene_of after now tools) plainly
        source_done more later told =
            classed classes.Sml (Ok more) (scene_of holds before tools) (scene_of after now tools) class
            (reads holds after before now tools source_from same (Ok more)
            (record { later = later; rose = λ failed. absurd (cc) }) told)
