-- More levels of groups change nothing: each group that is entered is one more of at most 512. A use of a tool comes to no
-- group.
use Rattle.std.proofs.Common.{◌≡◌, ◌∙◌, ℕ, zero, suc, ◌+◌, ◌≤◌, List, [], ◌∷◌, length, length-append, Bool, true, false, Option, Some, None, Result, Ok, Err, inl, inr, refl, ap, sym, arith, if◌then◌else◌}
use Rattle.std.specs.Prelude.{nat_lt}
use Rattle.std.proofs.lemmas.Bool.Decides.{nat_tests}
use Rattle.cm_base.specs.Diags.{whole_file, ◌>>=◌}
use Rattle.cm_base.specs.declared.diag.Diag.{Diag}
use Rattle.cm_base.specs.declared.diag.Place.{Place}
use Rattle.cm_base.specs.declared.record.Options.{Options}
use Rattle.description_values.specs.Choice.{chosen_items}
use Rattle.description_values.specs.Described.{description_of}
use Rattle.cm_description.specs.declared.description.Description.{Description}
use Rattle.cm_description.specs.declared.description.MemberEntry.{MemberEntry}
use Rattle.project_checks.specs.Loaded.{with_begun, with_finished, with_membership, with_unit}
use Rattle.project_checks.specs.declared.progress.Progress.{Progress}
use Rattle.project_loading.specs.Projects.{begun, chosen_members, counted, described_by, found_of, frozen, is_finished, is_skipped, number_of, passes_limits, source_unit, there, with_known, with_source}
use Rattle.project_loading.specs.declared.classes.Class.{Class}
use Rattle.project_loading.specs.declared.classes.Class.TheVariants as classes
use Rattle.project_loading.specs.declared.found.Found.{Found}
use Rattle.project_loading.proofs.Levels.{either, went_on}
use Rattle.tool_deriving.specs.Deriving.{tool_use}
use Rattle.member_deriving.specs.Sources.{source_by}
use Rattle.member_deriving.specs.Uses.{Outcome, Work, goes_on, outcome, ◌>>◌}
use Rattle.tool_loading.specs.Laws.{LoadingIsWhole}
use Rattle.tool_loading.specs.Projects.{Entering, Setting, described, entered, entered_within, file_in, is_frozen, source_in, tool_member_name, tool_of, with_chosen, with_classed, with_derived, with_described, with_entered, with_member, with_member_of, with_members, with_met, with_tool_member, with_use_of, without_options}

-- ---- steps

-- a step that gives a value went on from one
went : {A B : Type 0} (work : Work) (r : Result A Diag) (next : A → Work → Outcome B) (b : B)
    → (goes_on work r next).result ≡ Ok b → (a : A) × (r ≡ Ok a) × ((next a work).result ≡ Ok b)
went work (Ok a) next b h = (a, refl, h)
went work (Err diag) next b h = absurd (cc)

-- two steps are alike where they go on alike
alike_on : {A B : Type 0} (work : Work) (r : Result A Diag) (next other : A → Work → Outcome B)
    → ((a : A) → r ≡ Ok a → next a work ≡ other a work) → goes_on work r next ≡ goes_on work r other
alike_on work (Ok a) next other same = same a refl
alike_on work (Err diag) next other same = refl

-- ---- groups only come to those that are there

abbrev Grows : Progress → Result Progress Diag → Type 0
Grows p r = (q : Progress) → r ≡ Ok q → length p.groups ≤ length q.groups

abbrev AllGrow : Entering → Type 0
AllGrow enter = (at : Place) (name : List ℕ) (p : Progress) (work : Work) → Grows p (enter at name p work).result

-- .. by a change that leaves them
kept : (p r : Progress) → r.groups ≡ p.groups → Grows p (Ok r)
kept p r same q h =
    let is : r ≡ q = cc in
    let long : length p.groups ≡ length q.groups =
    ap length (sym same) ∙ ap (λ (x : Progress). length x.groups) is in omega (arith, long)

refused_grows : (p : Progress) (diag : Diag) → Grows p (Err diag)
refused_grows p diag q h = absurd (cc)

known_grows : (holder number : ℕ) (name : List ℕ) (done : Bool) (p : Progress)
    → Grows p (with_known holder number name done p)
known_grows holder number name true p = kept p (with_membership holder number p) refl
known_grows holder number name false p = refused_grows p (whole_file 10 name)

unless_grows : (b : Bool) (p : Progress) (diag : Diag) (r : Progress) → r.groups ≡ p.groups
    → Grows p (if b then Err diag else Ok r)
unless_grows true p diag r same = refused_grows p diag
unless_grows false p diag r same = kept p r same

source_grows : (group : ℕ) (name : List ℕ) (options : Options) (source : List ℕ) (p : Progress)
    → Grows p (with_source group name options source p)
source_grows group name options source p =
    unless_grows (passes_limits p (length source)) p (whole_file 12 name)
    (with_unit (source_unit name group options source) (length source) p) refl

use_grows : (setting : Setting) (holder : ℕ) (name : List ℕ) (tool : List ℕ × List ℕ) (input : List ℕ) (p : Progress)
    (work : Work) → Grows p (with_use_of setting holder name tool input p work).result
use_grows setting holder name tool input p work q h =
    let step = source_by setting.means.texts (tool_use tool.0 tool.1 name input) work in
    let on = went step.work step.result
    (λ source after. outcome after (with_source holder name without_options source p)) q h in
    source_grows holder name without_options on.0 p q on.2

tool_grows : (setting : Setting) (holder : ℕ) (holder_name : List ℕ) (member : MemberEntry) (tool : List ℕ × List ℕ)
    (p : Progress) (work : Work) → Grows p (with_tool_member setting holder holder_name member tool p work).result
tool_grows setting holder holder_name member tool p work q h =
    let named = went work (tool_member_name setting.anchors holder_name member)
    (λ name after. with_derived setting holder member.at tool name p after) q h in
    let read = went work (there member.at named.0 (file_in setting work named.0))
    (λ input after. with_use_of setting holder named.0 tool input p after) q named.2 in
    use_grows setting holder named.0 tool read.0 p work q read.2

module _ (setting : Setting) (enter : Entering) (grows : AllGrow enter) where
  met_grows : (holder : ℕ) (at : Place) (name : List ℕ) (found : Option ℕ) (p : Progress) (work : Work)
      → Grows p (with_met enter holder at name found p work).result
  met_grows holder at name (Some number) p work = known_grows holder number name (is_finished p number) p
  met_grows holder at name None p work = λ q h.
      let step = enter at name p work in
      let on = went step.work step.result
      (λ more after. outcome after (Ok (with_membership holder (length p.groups) more))) q h in
      let before = grows at name p work on.0 on.1 in
      let after = kept on.0 (with_membership holder (length p.groups) on.0) refl q on.2 in omega (arith, before, after)

  classed_grows : (holder : ℕ) (at : Place) (found : Found) (class : Class) (p : Progress) (work : Work)
      → Grows p (with_classed setting enter holder at found class p work).result
  classed_grows holder at found classes.Cm p work =
      met_grows holder at found.name (number_of p found.name) p work
  classed_grows holder at found classes.Sml p work = λ q h.
      let on = went_on (source_in setting at found.name work)
      (λ source. with_source holder found.name found.options source p) q h in
      source_grows holder found.name found.options on.0 p q on.2

  member_of_grows : (holder : ℕ) (holder_name : List ℕ) (member : MemberEntry) (tool : Option (List ℕ × List ℕ))
      (p : Progress) (work : Work) → Grows p (with_member_of setting enter holder holder_name member tool p work).result
  member_of_grows holder holder_name member None p work = λ q h.
      let on = went work (found_of setting.anchors holder_name member)
      (λ found after. with_classed setting enter holder member.at found found.class p after) q h in
      classed_grows holder member.at on.0 on.0.class p work q on.2
  member_of_grows holder holder_name member (Some tool) p work =
      tool_grows setting holder holder_name member tool p work

  unless_skipped : (b : Bool) (p : Progress) (work : Work) (o : Outcome Progress) → Grows p o.result
      → Grows p (if b then outcome work (Ok p) else o).result
  unless_skipped true p work o grow = kept p p refl
  unless_skipped false p work o grow = grow

  pub member_grows : (holder : ℕ) (holder_name : List ℕ) (member : MemberEntry) (p : Progress) (work : Work)
      → Grows p (with_member setting enter holder holder_name member p work).result
  member_grows holder holder_name member p work =
      unless_skipped (is_skipped setting.anchors member) p work
      (with_member_of setting enter holder holder_name member (tool_of setting.rules member) p work)
      (member_of_grows holder holder_name member (tool_of setting.rules member) p work)

  members_grow : (holder : ℕ) (holder_name : List ℕ) (members : List MemberEntry) (p : Progress) (work : Work)
      → Grows p (with_members setting enter holder holder_name members p work).result
  members_grow holder holder_name [] p work = kept p p refl
  members_grow holder holder_name (member ∷ members) p work = λ q h.
      let step = with_member setting enter holder holder_name member p work in
      let on = went step.work step.result
      (λ more after. with_members setting enter holder holder_name members more after) q h in
      let before = member_grows holder holder_name member p work on.0 on.1 in
      let after = members_grow holder holder_name members on.0 step.work q on.2 in omega (arith, before, after)

  group_grows : (name : List ℕ) (d : Description) (p : Progress) (work : Work)
      → Grows p (with_described setting enter name d p work).result
  group_grows name d p work q h =
      let chosen = went work (chosen_items setting.defs [] d.member_lines)
      (λ items after. with_chosen setting enter name d p items after) q h in
      let step = with_members setting enter (length p.groups) name (chosen_members d chosen.0)
      (with_begun (begun name d) p) work in
      let loaded = went step.work step.result
      (λ more after. outcome after (Ok (with_finished (length p.groups) more))) q chosen.2 in
      let below = members_grow (length p.groups) name (chosen_members d chosen.0) (with_begun (begun name d) p) work
      loaded.0 loaded.1 in
      let end = kept loaded.0 (with_finished (length p.groups) loaded.0) refl q loaded.2 in
      omega (arith, below, end, length-append p.groups (begun name d ∷ []))

  entered_grows : AllGrow (with_entered setting enter)
  entered_grows at name p work q h =
      let on = went work (described setting at name p work)
      (λ d after. with_described setting enter name d p after) q h in
      group_grows name on.0 p work q on.2

-- ---- levels

module _ (setting : Setting) where
  none_left : (at : Place) (name : List ℕ) (p : Progress) (work : Work)
      → entered_within setting zero at name p work ≡ outcome work (Err (whole_file 12 name))
  unfolding entered_within
  none_left at name p work = refl

  one_level : (levels : ℕ) (at : Place) (name : List ℕ) (p : Progress) (work : Work)
      → entered_within setting (suc levels) at name p work
      ≡ with_entered setting (entered_within setting levels) at name p work
  unfolding entered_within
  one_level levels at name p work = refl

  levels_grow : (levels : ℕ) → AllGrow (entered_within setting levels)
  levels_grow zero at name p work q h =
      refused_grows p (whole_file 12 name) q
      (ap (λ (o : Outcome Progress). o.result) (sym (none_left at name p work)) ∙ h)
  levels_grow (suc levels) at name p work q h =
      entered_grows setting (entered_within setting levels) (levels_grow levels) at name p work q
      (ap (λ (o : Outcome Progress). o.result) (sym (one_level levels at name p work)) ∙ h)

-- ---- groups that are loaded alike

-- two ways to enter groups agree, from so many groups on
abbrev Agree : ℕ → Entering → Entering → Type 0
Agree count enter other =
    (at : Place) (name : List ℕ) (p : Progress) (work : Work) → count ≤ length p.groups
    → enter at name p work ≡ other at name p work

module _ (setting : Setting) (count : ℕ) (enter other : Entering) (agree : Agree count enter other)
    (grows : AllGrow other) where
  met_alike : (holder : ℕ) (at : Place) (name : List ℕ) (found : Option ℕ) (p : Progress) (work : Work)
      → count ≤ length p.groups
      → with_met enter holder at name found p work ≡ with_met other holder at name found p work
  met_alike holder at name (Some number) p work many = refl
  met_alike holder at name None p work many =
      ap (λ (o : Outcome Progress). o >> λ more after.
      outcome after (Ok (with_membership holder (length p.groups) more))) (agree at name p work many)

  classed_alike : (holder : ℕ) (at : Place) (found : Found) (class : Class) (p : Progress) (work : Work)
      → count ≤ length p.groups
      → with_classed setting enter holder at found class p work ≡ with_classed setting other holder at found class p work
  classed_alike holder at found classes.Cm p work many =
      met_alike holder at found.name (number_of p found.name) p work many
  classed_alike holder at found classes.Sml p work many = refl

  member_of_alike : (holder : ℕ) (holder_name : List ℕ) (member : MemberEntry) (tool : Option (List ℕ × List ℕ))
      (p : Progress) (work : Work) → count ≤ length p.groups
      → with_member_of setting enter holder holder_name member tool p work
      ≡ with_member_of setting other holder holder_name member tool p work
  member_of_alike holder holder_name member None p work many =
      alike_on work (found_of setting.anchors holder_name member)
      (λ found after. with_classed setting enter holder member.at found found.class p after)
      (λ found after. with_classed setting other holder member.at found found.class p after)
      (λ found is. classed_alike holder member.at found found.class p work many)
  member_of_alike holder holder_name member (Some tool) p work many = refl

  member_alike : (holder : ℕ) (holder_name : List ℕ) (member : MemberEntry) (p : Progress) (work : Work)
      → count ≤ length p.groups
      → with_member setting enter holder holder_name member p work
      ≡ with_member setting other holder holder_name member p work
  member_alike holder holder_name member p work many =
      ap (λ (o : Outcome Progress). if is_skipped setting.anchors member then outcome work (Ok p) else o)
      (member_of_alike holder holder_name member (tool_of setting.rules member) p work many)

  members_alike : (holder : ℕ) (holder_name : List ℕ) (members : List MemberEntry) (p : Progress) (work : Work)
      → count ≤ length p.groups
      → with_members setting enter holder holder_name members p work
      ≡ with_members setting other holder holder_name members p work
  members_alike holder holder_name [] p work many = refl
  members_alike holder holder_name (member ∷ members) p work many =
      let step = with_member setting other holder holder_name member p work in
      ap (λ (o : Outcome Progress). o >> λ more after. with_members setting enter holder holder_name members more after)
      (member_alike holder holder_name member p work many)
      ∙ alike_on step.work step.result
      (λ more after. with_members setting enter holder holder_name members more after)
      (λ more after. with_members setting other holder holder_name members more after)
      (λ more is. members_alike holder holder_name members more step.work
      (let longer = member_grows setting other grows holder holder_name member p work more is in
      omega (arith, many, longer)))

  group_alike : (name : List ℕ) (d : Description) (p : Progress) (work : Work) → count ≤ length p.groups + 1
      → with_described setting enter name d p work ≡ with_described setting other name d p work
  group_alike name d p work many =
      let long : count ≤ length (with_begun (begun name d) p).groups =
      omega (arith, many, length-append p.groups (begun name d ∷ [])) in
      alike_on work (chosen_items setting.defs [] d.member_lines)
      (λ items after. with_chosen setting enter name d p items after)
      (λ items after. with_chosen setting other name d p items after)
      (λ items is. ap (λ (o : Outcome Progress). o >> λ more after.
      outcome after (Ok (with_finished (length p.groups) more)))
      (members_alike (length p.groups) name (chosen_members d items) (with_begun (begun name d) p) work long))

-- ---- enough levels

-- a group that is entered has room
room_by : (n : ℕ) (name : List ℕ) (b : Bool) (room : Unit {0}) → nat_lt 512 n ≡ b
    → ◌≡◌ {A = Result (Unit {0}) Diag} (if b then Err (whole_file 12 name) else Ok tt) (Ok room) → n ≤ 512
room_by n name true room e is = absurd (cc)
room_by n name false room e is = grind (arith, nat_tests)

counted_room : (name : List ℕ) (p : Progress) (room : Unit {0}) → counted name p ≡ Ok room → length p.groups + 1 ≤ 512
counted_room name p room h = room_by (length p.groups + 1) name (nat_lt 512 (length p.groups + 1)) room refl h

file_room : (at : Place) (name : List ℕ) (p : Progress) (file : Option (List ℕ)) (d : Description)
    → described_by at name p file ≡ Ok d → length p.groups + 1 ≤ 512
file_room at name p file d h =
    let found = went_on (there at name file) (λ text. counted name p >>= λ room. description_of name text) d h in
    let room = went_on (counted name p) (λ room. description_of name found.0) d found.2 in
    counted_room name p room.0 room.1

frozen_room : (name : List ℕ) (p : Progress) (d : Description)
    → ◌≡◌ {A = Result Description Diag} (counted name p >>= λ room. Err (whole_file 60 (frozen name))) (Ok d)
    → length p.groups + 1 ≤ 512
frozen_room name p d h =
    let room = went_on (counted name p) (λ room. Err (whole_file 60 (frozen name))) d h in
    counted_room name p room.0 room.1

described_room : (setting : Setting) (at : Place) (name : List ℕ) (p : Progress) (work : Work) (d : Description)
    → described setting at name p work ≡ Ok d → length p.groups + 1 ≤ 512
described_room setting at name p work d h =
    elim (either (is_frozen setting work name) (counted name p >>= λ room. Err (whole_file 60 (frozen name)))
    (described_by at name p (file_in setting work name)) d h)
    [ inl one ↦ frozen_room name p d one | inr other ↦ file_room at name p (file_in setting work name) d other ]

module _ (setting : Setting) where
  -- one level more, where what is described is loaded alike
  more_level : (n m : ℕ) (at : Place) (name : List ℕ) (p : Progress) (work : Work)
      → ((d : Description) → length p.groups + 1 ≤ 512
      → with_described setting (entered_within setting n) name d p work
      ≡ with_described setting (entered_within setting m) name d p work)
      → entered_within setting (suc n) at name p work ≡ entered_within setting (suc m) at name p work
  more_level n m at name p work alike =
      one_level setting n at name p work
      ∙ alike_on work (described setting at name p work)
      (λ d after. with_described setting (entered_within setting n) name d p after)
      (λ d after. with_described setting (entered_within setting m) name d p after)
      (λ d is. alike d (described_room setting at name p work d is))
      ∙ sym (one_level setting m at name p work)

  stable : (n m : ℕ) → n ≤ m → (at : Place) (name : List ℕ) (p : Progress) (work : Work) → 512 ≤ n + length p.groups
      → entered_within setting (suc n) at name p work ≡ entered_within setting (suc m) at name p work
  stable zero m le at name p work enough =
      more_level zero m at name p work (λ d room. absurd (omega (arith, enough, room)))
  stable (suc n) zero le at name p work enough = absurd (omega (arith, le))
  stable (suc n) (suc m) le at name p work enough =
      more_level (suc n) (suc m) at name p work (λ d room.
      group_alike setting (length p.groups + 1) (entered_within setting (suc n)) (entered_within setting (suc m))
      (λ at name more after many. stable n m (omega (arith, le)) at name more after (omega (arith, enough, many)))
      (levels_grow setting (suc m)) name d p work (omega arith))

  more_levels : (levels : ℕ) (at : Place) (name : List ℕ) (p : Progress) (work : Work) → 513 ≤ levels
      → entered_within setting levels at name p work ≡ entered_within setting 513 at name p work
  more_levels zero at name p work many = absurd (omega (arith, many))
  more_levels (suc levels) at name p work many =
      sym (stable 512 levels (omega (arith, many)) at name p work (omega arith))

  same_level : (at : Place) (name : List ℕ) (p : Progress) (work : Work)
      → entered_within setting 513 at name p work
      ≡ with_entered setting (entered_within setting 513) at name p work
  same_level at name p work =
      stable 512 513 (omega arith) at name p work (omega arith) ∙ one_level setting 513 at name p work

pub loading_whole : LoadingIsWhole
unfolding entered
loading_whole setting = record {
  level = λ at name p work. same_level setting at name p work;
  further = λ levels at name p work many. more_levels setting levels at name p work many;
}
