-- The steps of loading a group: its level, its description, its members, and its end.
use Rattle.std.proofs.Common.{◌≡◌, ◌∙◌, ap, sym, subst, refl, ℕ, zero, suc, ◌+◌, add-one, List, [], length, Option, Some, None, Bool, true, false, Result, Ok, Err}
use Rattle.std.specs.Prelude.{IsErrAnd, slice_get}
use Rattle.std.specs.List.{filter_map}
use Rattle.cm_base.specs.Calls.{Gives}
use Rattle.cm_base.specs.Diags.{whole_file}
use Rattle.cm_base.specs.declared.diag.Diag.{Diag}
use Rattle.cm_base.specs.declared.diag.Place.{Place}
use Rattle.cm_base.specs.declared.fault.Fault.{Fault}
use Rattle.cm_base.specs.declared.record.Def.{Def}
use Rattle.path_anchors.specs.Names.{Bindings}
use Rattle.cm_description.specs.declared.description.Description.{Description}
use Rattle.cm_description.specs.declared.description.MemberEntry.{MemberEntry}
use Rattle.cm_description.specs.declared.loaded.Group.{Group}
use Rattle.description_values.specs.Choice.{chosen_items}
use Rattle.project_checks.specs.Loaded.{with_begun, with_finished, with_membership}
use Rattle.project_checks.specs.declared.progress.Progress.{Progress}
use Rattle.project_loading.specs.Projects.{begun, chosen_members, is_finished, with_known}
use Rattle.member_deriving.specs.Uses.{Outcome, Work, outcome, ◌>>◌}
use Rattle.box_deriving.specs.Boxes.{Origin}
use Rattle.tool_loading.specs.Projects.{Entering, Setting, described, entered_within, with_chosen, with_described, with_entered, with_members, with_met}
use Rattle.group_loader.specs.Answers.{answer, of_refusal}
use Rattle.group_loader.specs.Loading.{Loads, Refuses, Scene, setting_at}
use Rattle.group_loader.specs.declared.fault.LoadFault.{LoadFault}
use Rattle.group_loader.specs.declared.fault.LoadFault.TheVariants as fault
use Rattle.group_loader.proofs.Adding.{AddsNext, adds_none, chosen_add, described_adds, levels_add, met_adds}
use Rattle.group_loader.proofs.Ending.{answered, computes, gives_at, goes, refused_by, steps_as, stops_with, wants}

none_left : (setting : Setting) (at : Place) (name : List ℕ) (p : Progress) (work : Work)
    → outcome work (Err (whole_file 12 name)) ≡ entered_within setting zero at name p work
unfolding entered_within
none_left setting at name p work = refl

one_level : (setting : Setting) (levels : ℕ) (at : Place) (name : List ℕ) (p : Progress) (work : Work)
    → with_entered setting (entered_within setting levels) at name p work
    ≡ entered_within setting (suc levels) at name p work
unfolding entered_within
one_level setting levels at name p work = refl

module _ (defs : List Def) (anchors : Bindings) where
  abbrev pub in_setting : Origin → Setting
  in_setting origin = setting_at origin defs anchors

  -- ---- a level

  module _ (levels : ℕ) (at : Place) (name : List ℕ) (p : Progress) where
    abbrev pub entering : Origin → Work → Outcome Progress
    entering origin work = entered_within (in_setting origin) levels at name p work

    pub level_none : (e : LoadFault) (scene : Scene) → levels ≡ zero → Refuses e (whole_file 12 name)
        → Loads {A = Progress} (Err e) scene scene entering
    level_none e scene is refused =
        steps_as {A = Progress} (Err e) scene scene (λ origin work. outcome work (Err (whole_file 12 name))) entering
        (λ origin work here. none_left (in_setting origin) at name p work
        ∙ ap (λ (n : ℕ). entered_within (in_setting origin) n at name p work) (sym is))
        (refused_by e (whole_file 12 name) scene (Err (whole_file 12 name)) refused refl)

    module _ (below : ℕ) (level : levels ≡ below + 1) where
      abbrev described_in : Origin → Work → Outcome Description
      described_in origin work = outcome work (described (in_setting origin) at name p work)

      abbrev then_below : Origin → Description → Work → Outcome Progress
      then_below origin d work =
          with_described (in_setting origin) (entered_within (in_setting origin) below) name d p work

      level_is : (origin : Origin) (work : Work) → (described_in origin work >> then_below origin)
          ≡ entering origin work
      level_is origin work =
          one_level (in_setting origin) below at name p work
          ∙ ap (λ (n : ℕ). entered_within (in_setting origin) n at name p work) (sym (level ∙ add-one below))

      pub level_stops : (r : Result (Unit {0}) LoadFault) (e : LoadFault) (now : Progress) (old new : Scene)
          → IsErrAnd r (λ y. y ≡ e) → Loads {A = Description} (Err e) old new described_in
          → Loads (answer r now) old new entering
      level_stops r e now old new is stopped =
          answered r e now old new entering is
          (steps_as {A = Progress} (Err e) old new
          (λ origin work. described_in origin work >> then_below origin) entering
          (λ origin work here. level_is origin work)
          (stops_with e old new described_in then_below stopped
          (λ origin d work. described_adds (in_setting origin) (entered_within (in_setting origin) below)
          (levels_add (in_setting origin) below) name d p work)))

      pub level_goes : (d : Description) (r : Result Progress LoadFault) (old mid new : Scene)
          → Loads (Ok d) old mid described_in → Loads r mid new (λ origin. then_below origin d)
          → Loads r old new entering
      level_goes d r old mid new found rest =
          steps_as r old new (λ origin work. described_in origin work >> then_below origin) entering
          (λ origin work here. level_is origin work)
          (goes d r old mid new described_in then_below found rest)

  -- ---- a description

  module _ (levels : ℕ) (name : List ℕ) (d : Description) (p : Progress) where
    abbrev pub enter_in : Origin → Entering
    enter_in origin = entered_within (in_setting origin) levels

    abbrev pub describing : Origin → Work → Outcome Progress
    describing origin work = with_described (in_setting origin) (enter_in origin) name d p work

    abbrev then_chosen : Origin → List ℕ → Work → Outcome Progress
    then_chosen origin items work = with_chosen (in_setting origin) (enter_in origin) name d p items work

    chosen_adds : (origin : Origin) → AddsNext (then_chosen origin)
    chosen_adds origin items work =
        chosen_add (in_setting origin) (enter_in origin) (levels_add (in_setting origin) levels) name d p items work

    pub chosen_stops : (r : Result (Unit {0}) LoadFault) (e : Fault) (now : Progress) (scene : Scene)
        → IsErrAnd r (λ y. y ≡ of_refusal e) → Gives {A = List ℕ} (Err e) (chosen_items defs [] d.member_lines)
        → Loads (answer r now) scene scene describing
    chosen_stops r e now scene is gives =
        answered r (of_refusal e) now scene scene describing is
        (stops_with (of_refusal e) scene scene (λ origin work. outcome work (chosen_items defs [] d.member_lines))
        then_chosen (computes {A = List ℕ} (Err e) scene (chosen_items defs [] d.member_lines) gives) chosen_adds)

    -- want of memory before any member
    pub start_stops : (r : Result (Unit {0}) LoadFault) (now : Progress) (scene : Scene)
        → IsErrAnd r (λ y. y ≡ fault.NoMemory) → Loads (answer r now) scene scene describing
    start_stops r now scene is =
        answered r fault.NoMemory now scene scene describing is
        (wants scene describing
        (λ origin work. described_adds (in_setting origin) (enter_in origin)
        (levels_add (in_setting origin) levels) name d p work))

    module _ (items : List ℕ) (number : ℕ) (group : Group) (members : List MemberEntry) (started : Progress)
        (chosen : chosen_items defs [] d.member_lines ≡ Ok items) (number_is : number ≡ length p.groups)
        (group_is : group ≡ begun name d) (members_are : members ≡ d.members) (starts : started ≡ with_begun group p)
      where
        -- what the members are loaded as
        abbrev pub loading : Origin → Work → Outcome Progress
        loading origin work =
            with_members (in_setting origin) (enter_in origin) number name
            (filter_map (λ item. slice_get members item) items) started work

        abbrev listed : Origin → Work → Outcome Progress
        listed origin work =
            with_members (in_setting origin) (enter_in origin) (length p.groups) name (chosen_members d items)
            (with_begun (begun name d) p) work

        abbrev then_ended : Origin → Progress → Work → Outcome Progress
        then_ended origin more work = outcome work (Ok (with_finished (length p.groups) more))

        loading_is : (origin : Origin) (work : Work) → loading origin work ≡ listed origin work
        loading_is origin work =
            ap (λ (n : ℕ). with_members (in_setting origin) (enter_in origin) n name
            (filter_map (λ item. slice_get members item) items) started work) number_is
            ∙ ap (λ (ms : List MemberEntry). with_members (in_setting origin) (enter_in origin) (length p.groups) name
            (filter_map (λ item. slice_get ms item) items) started work) members_are
            ∙ ap (λ (q : Progress). with_members (in_setting origin) (enter_in origin) (length p.groups) name
            (chosen_members d items) q work) (starts ∙ ap (λ (g : Group). with_begun g p) group_is)

        after_choice : (r : Result Progress LoadFault) (old new : Scene)
            → Loads r old new (λ origin. then_chosen origin items)
            → Loads r old new describing
        after_choice r old new rest =
            goes items r old old new (λ origin work. outcome work (chosen_items defs [] d.member_lines)) then_chosen
            (gives_at items old (chosen_items defs [] d.member_lines) chosen) rest

        pub members_stop : (r : Result (Unit {0}) LoadFault) (e : LoadFault) (now : Progress) (old new : Scene)
            → IsErrAnd r (λ y. y ≡ e) → Loads {A = Progress} (Err e) old new loading
            → Loads (answer r now) old new describing
        members_stop r e now old new is stopped =
            answered r e now old new describing is
            (after_choice (Err e) old new
            (stops_with e old new listed then_ended
            (steps_as {A = Progress} (Err e) old new loading listed
            (λ origin work here. loading_is origin work) stopped)
            (λ origin more work. adds_none work)))

        -- all are loaded, and the rest ends so
        members_then : (mid : Progress) (r : Result Progress LoadFault) (old new : Scene)
            → Loads (Ok mid) old new loading
            → Loads r new new (λ origin. then_ended origin mid) → Loads r old new describing
        members_then mid r old new loaded rest =
            after_choice r old new
            (goes mid r old new new listed then_ended
            (steps_as (Ok mid) old new loading listed (λ origin work here. loading_is origin work) loaded) rest)

        pub end_stops : (r : Result (Unit {0}) LoadFault) (mid now : Progress) (old new : Scene)
            → IsErrAnd r (λ y. y ≡ fault.NoMemory) → Loads (Ok mid) old new loading
            → Loads (answer r now) old new describing
        end_stops r mid now old new is loaded =
            answered r fault.NoMemory now old new describing is
            (members_then mid (Err fault.NoMemory) old new loaded
            (wants new (λ origin. then_ended origin mid) (λ origin work. adds_none work)))

        pub members_done : (mid now : Progress) (old new : Scene) → Loads (Ok mid) old new loading
            → now ≡ with_finished number mid → Loads (Ok now) old new describing
        members_done mid now old new loaded ends =
            let same : ◌≡◌ {A = Result Progress Diag} (Ok (with_finished (length p.groups) mid)) (Ok now) =
            ap Ok (ap (λ (n : ℕ). with_finished n mid) (sym number_is) ∙ sym ends) in
            members_then mid (Ok now) old new loaded
            (gives_at now new (Ok (with_finished (length p.groups) mid)) same)

  -- ---- a group that is a member

  module _ (levels : ℕ) (holder : ℕ) (at : Place) (name : List ℕ) (p : Progress) where
    abbrev pub meeting : Option ℕ → Origin → Work → Outcome Progress
    meeting found origin work = with_met (entered_within (in_setting origin) levels) holder at name found p work

    meeting_is : (r : Result Progress LoadFault) (old new : Scene) (one two : Option ℕ) → one ≡ two
        → Loads r old new (meeting two) → Loads r old new (meeting one)
    meeting_is r old new one two same loads =
        subst (λ (found : Option ℕ). Loads r old new (meeting found)) (sym same) loads

    abbrev then_joined : Origin → Progress → Work → Outcome Progress
    then_joined origin more work = outcome work (Ok (with_membership holder (length p.groups) more))

    module _ (found : Option ℕ) (none : found ≡ None) where
      pub group_stops : (r : Result (Unit {0}) LoadFault) (e : LoadFault) (now : Progress) (old new : Scene)
          → IsErrAnd r (λ y. y ≡ e) → Loads {A = Progress} (Err e) old new (entering levels at name p)
          → Loads (answer r now) old new (meeting found)
      group_stops r e now old new is stopped =
          meeting_is (answer r now) old new found None none
          (answered r e now old new (meeting None) is
          (stops_with e old new (entering levels at name p) then_joined stopped (λ origin more work. adds_none work)))

      pub join_stops : (r : Result (Unit {0}) LoadFault) (mid now : Progress) (old new : Scene)
          → IsErrAnd r (λ y. y ≡ fault.NoMemory) → Loads (Ok mid) old new (entering levels at name p)
          → Loads (answer r now) old new (meeting found)
      join_stops r mid now old new is loaded =
          meeting_is (answer r now) old new found None none
          (answered r fault.NoMemory now old new (meeting None) is
          (goes mid (Err fault.NoMemory) old new new (entering levels at name p) then_joined loaded
          (wants new (λ origin. then_joined origin mid) (λ origin work. adds_none work))))

      pub group_done : (number : ℕ) (mid now : Progress) (old new : Scene) → number ≡ length p.groups
          → Loads (Ok mid) old new (entering levels at name p) → now ≡ with_membership holder number mid
          → Loads (Ok now) old new (meeting found)
      group_done number mid now old new number_is loaded joined =
          let same : ◌≡◌ {A = Result Progress Diag} (Ok (with_membership holder (length p.groups) mid)) (Ok now) =
          ap Ok (ap (λ (n : ℕ). with_membership holder n mid) (sym number_is) ∙ sym joined) in
          meeting_is (Ok now) old new found None none
          (goes mid (Ok now) old new new (entering levels at name p) then_joined loaded
          (gives_at now new (Ok (with_membership holder (length p.groups) mid)) same))

    module _ (found : Option ℕ) (number : ℕ) (there : found ≡ Some number) where
      abbrev known : Result Progress Diag
      known = with_known holder number name (is_finished p number) p

      pub open_stops : (e : LoadFault) (scene : Scene) → is_finished p number ≡ false
          → Refuses e (whole_file 10 name)
          → Loads {A = Progress} (Err e) scene scene (meeting found)
      open_stops e scene goes_on refused =
          meeting_is (Err e) scene scene found (Some number) there
          (refused_by e (whole_file 10 name) scene known refused
          (ap (λ (done : Bool). with_known holder number name done p) goes_on))

      pub known_stops : (r : Result (Unit {0}) LoadFault) (now : Progress) (scene : Scene)
          → IsErrAnd r (λ y. y ≡ fault.NoMemory) → Loads (answer r now) scene scene (meeting found)
      known_stops r now scene is =
          answered r fault.NoMemory now scene scene (meeting found) is
          (wants scene (meeting found)
          (λ origin work. met_adds (in_setting origin) (entered_within (in_setting origin) levels)
          (levels_add (in_setting origin) levels) holder at name found p work))

      pub known_done : (now : Progress) (scene : Scene) → is_finished p number ≡ true
          → now ≡ with_membership holder number p → Loads (Ok now) scene scene (meeting found)
      known_done now scene done joined =
          let same : ◌≡◌ {A = Result Progress Diag} (Ok (with_membership holder number p)) (Ok now) =
          ap Ok (sym joined) in
          meeting_is (Ok now) scene scene found (Some number) there
          (gives_at now scene known
          (ap (λ (done : Bool). with_known holder number name done p) done ∙ same))
