-- More levels of groups change nothing: each group that is entered is one more of at most 512.
use Rattle.std.proofs.Common.{◌≡◌, ◌∙◌, ◌⊎◌, ℕ, zero, suc, ◌+◌, ◌≤◌, List, [], ◌∷◌, length, length-append, Bool, true, false, Option, Some, None, Result, Ok, Err, inl, inr, refl, ap, sym, arith, if◌then◌else◌}
use Rattle.std.specs.Prelude.{nat_lt}
use Rattle.std.proofs.lemmas.Bool.Decides.{nat_tests}
use Rattle.cm_base.specs.Diags.{whole_file, ◌>>=◌}
use Rattle.cm_base.specs.declared.diag.Diag.{Diag}
use Rattle.cm_base.specs.declared.diag.Place.{Place}
use Rattle.cm_base.specs.declared.record.Options.{Options}
use Rattle.description_values.specs.Choice.{chosen_items}
use Rattle.description_values.specs.Described.{description_of}
use Rattle.cm_description.specs.declared.description.Description.{Description}
use Rattle.cm_description.specs.declared.description.MemberEntry.{MemberEntry}
use Rattle.project_loading.specs.Projects.{Setting, Entering, LoadingIsWhole, begun, chosen_members, counted, described, described_by, entered, entered_within, file_of, found_of, frozen, is_finished, is_frozen, is_skipped, number_of, passes_limits, source_of, there, with_classed, with_described, with_entered, with_found, with_group, with_known, with_member, with_members, with_met, with_source, source_unit}
use Rattle.project_checks.specs.Loaded.{with_begun, with_finished, with_membership, with_unit}
use Rattle.project_loading.specs.declared.classes.Class.{Class}
use Rattle.project_loading.specs.declared.classes.Class.TheVariants as classes
use Rattle.project_loading.specs.declared.found.Found.{Found}
use Rattle.project_checks.specs.declared.progress.Progress.{Progress}

-- ---- steps

-- a step that gives a value went on from one
pub went_on : {A B : Type 0} (m : Result A Diag) (next : A → Result B Diag) (b : B) → (m >>= next) ≡ Ok b
    → (a : A) × (m ≡ Ok a) × (next a ≡ Ok b)
went_on (Ok a) next b h = (a, refl, h)
went_on (Err diag) next b h = absurd (cc)

-- two steps are alike where they go on alike
pub goes_alike : {A B : Type 0} (m : Result A Diag) (next other : A → Result B Diag)
    → ((a : A) → m ≡ Ok a → next a ≡ other a) → (m >>= next) ≡ (m >>= other)
goes_alike (Ok a) next other same = same a refl
goes_alike (Err diag) next other same = refl

-- a choice gives what one of its sides gives
pub either : {A : Type 0} (b : Bool) (x y : Result A Diag) (a : A) → (if b then x else y) ≡ Ok a
    → (x ≡ Ok a) ⊎ (y ≡ Ok a)
either true x y a h = inl h
either false x y a h = inr h

-- ---- groups only come to those that are there

abbrev pub Grows : Progress → Result Progress Diag → Type 0
Grows p r = (q : Progress) → r ≡ Ok q → length p.groups ≤ length q.groups

abbrev pub AllGrow : Entering → Type 0
AllGrow enter = (at : Place) (name : List ℕ) (p : Progress) → Grows p (enter at name p)

-- .. by a change that leaves them
kept : (p r : Progress) → r.groups ≡ p.groups → Grows p (Ok r)
kept p r same q h =
    let is : r ≡ q = cc in
    let long : length p.groups ≡ length q.groups =
    ap length (sym same) ∙ ap (λ (x : Progress). length x.groups) is in omega (arith, long)

refused_grows : (p : Progress) (diag : Diag) → Grows p (Err diag)
refused_grows p diag q h = absurd (cc)

known_grows : (holder number : ℕ) (name : List ℕ) (done : Bool) (p : Progress)
    → Grows p (with_known holder number name done p)
known_grows holder number name true p = kept p (with_membership holder number p) refl
known_grows holder number name false p = refused_grows p (whole_file 10 name)

met_grows : (enter : Entering) → AllGrow enter → (holder : ℕ) (at : Place) (name : List ℕ) (found : Option ℕ)
    (p : Progress) → Grows p (with_met enter holder at name found p)
met_grows enter grows holder at name (Some number) p = known_grows holder number name (is_finished p number) p
met_grows enter grows holder at name None p = λ q h.
    let on = went_on (enter at name p) (λ more. Ok (with_membership holder (length p.groups) more)) q h in
    let before = grows at name p on.0 on.1 in
    let after = kept on.0 (with_membership holder (length p.groups) on.0) refl q on.2 in omega (arith, before, after)

unless_grows : (b : Bool) (p : Progress) (diag : Diag) (r : Progress) → r.groups ≡ p.groups
    → Grows p (if b then Err diag else Ok r)
unless_grows true p diag r same = refused_grows p diag
unless_grows false p diag r same = kept p r same

source_grows : (group : ℕ) (name : List ℕ) (options : Options) (source : List ℕ) (p : Progress)
    → Grows p (with_source group name options source p)
source_grows group name options source p =
    unless_grows (passes_limits p (length source)) p (whole_file 12 name)
    (with_unit (source_unit name group options source) (length source) p) refl

module _ (setting : Setting) (enter : Entering) (grows : AllGrow enter) where
  classed_grows : (holder : ℕ) (at : Place) (found : Found) (class : Class) (p : Progress)
      → Grows p (with_classed setting enter holder at found class p)
  classed_grows holder at found classes.Cm p = met_grows enter grows holder at found.name (number_of p found.name) p
  classed_grows holder at found classes.Sml p = λ q h.
      let on = went_on (source_of setting at found.name)
      (λ source. with_source holder found.name found.options source p) q h in
      source_grows holder found.name found.options on.0 p q on.2

  found_grows : (holder : ℕ) (name : List ℕ) (member : MemberEntry) (p : Progress)
      → Grows p (found_of setting.anchors name member >>= λ found. with_found setting enter holder member.at found p)
  found_grows holder name member p q h =
      let on = went_on (found_of setting.anchors name member)
      (λ found. with_found setting enter holder member.at found p) q h in
      classed_grows holder member.at on.0 on.0.class p q on.2

  pub member_grows : (holder : ℕ) (name : List ℕ) (member : MemberEntry) (p : Progress)
      → Grows p (with_member setting enter holder name member p)
  member_grows holder name member p q h =
      elim (either (is_skipped setting.anchors member) (Ok p)
      (found_of setting.anchors name member >>= λ found. with_found setting enter holder member.at found p) q h)
      [ inl same ↦ kept p p refl q same | inr went ↦ found_grows holder name member p q went ]

  pub members_grow : (holder : ℕ) (name : List ℕ) (members : List MemberEntry) (p : Progress)
      → Grows p (with_members setting enter holder name members p)
  members_grow holder name [] p = kept p p refl
  members_grow holder name (member ∷ members) p = λ q h.
      let on = went_on (with_member setting enter holder name member p)
      (λ more. with_members setting enter holder name members more) q h in
      let before = member_grows holder name member p on.0 on.1 in
      let after = members_grow holder name members on.0 q on.2 in omega (arith, before, after)

  pub described_grows : (name : List ℕ) (d : Description) (p : Progress)
      → Grows p (with_described setting enter name d p)
  described_grows name d p q h =
      let chosen = went_on (chosen_items setting.defs [] d.member_lines) (λ items.
      with_members setting enter (length p.groups) name (chosen_members d items) (with_begun (begun name d) p)
      >>= λ more. Ok (with_finished (length p.groups) more)) q h in
      let loaded = went_on (with_members setting enter (length p.groups) name (chosen_members d chosen.0)
      (with_begun (begun name d) p)) (λ more. Ok (with_finished (length p.groups) more)) q chosen.2 in
      let below = members_grow (length p.groups) name (chosen_members d chosen.0) (with_begun (begun name d) p)
      loaded.0 loaded.1 in
      let end = kept loaded.0 (with_finished (length p.groups) loaded.0) refl q loaded.2 in
      omega (arith, below, end, length-append p.groups (begun name d ∷ []))

  pub entered_grows : AllGrow (with_entered setting enter)
  entered_grows at name p q h =
      let on = went_on (described setting at name p) (λ d. with_described setting enter name d p) q h in
      described_grows name on.0 p q on.2

-- ---- levels

module _ (setting : Setting) where
  pub none_left : (at : Place) (name : List ℕ) (p : Progress)
      → entered_within setting zero at name p ≡ Err (whole_file 12 name)
  unfolding entered_within
  none_left at name p = refl

  pub one_level : (levels : ℕ) (at : Place) (name : List ℕ) (p : Progress)
      → entered_within setting (suc levels) at name p ≡ with_entered setting (entered_within setting levels) at name p
  unfolding entered_within
  one_level levels at name p = refl

  levels_grow : (levels : ℕ) → AllGrow (entered_within setting levels)
  levels_grow zero at name p q h = refused_grows p (whole_file 12 name) q (sym (none_left at name p) ∙ h)
  levels_grow (suc levels) at name p q h =
      entered_grows setting (entered_within setting levels) (levels_grow levels) at name p q
      (sym (one_level levels at name p) ∙ h)

-- ---- groups that are loaded alike

-- two ways to enter groups agree, from so many groups on
abbrev Agree : ℕ → Entering → Entering → Type 0
Agree count enter other =
    (at : Place) (name : List ℕ) (p : Progress) → count ≤ length p.groups → enter at name p ≡ other at name p

module _ (setting : Setting) (count : ℕ) (enter other : Entering) (agree : Agree count enter other)
    (grows : AllGrow other) where
  met_alike : (holder : ℕ) (at : Place) (name : List ℕ) (found : Option ℕ) (p : Progress) → count ≤ length p.groups
      → with_met enter holder at name found p ≡ with_met other holder at name found p
  met_alike holder at name (Some number) p many = refl
  met_alike holder at name None p many =
      ap (λ (r : Result Progress Diag). r >>= λ more. Ok (with_membership holder (length p.groups) more))
      (agree at name p many)

  classed_alike : (holder : ℕ) (at : Place) (found : Found) (class : Class) (p : Progress) → count ≤ length p.groups
      → with_classed setting enter holder at found class p ≡ with_classed setting other holder at found class p
  classed_alike holder at found classes.Cm p many = met_alike holder at found.name (number_of p found.name) p many
  classed_alike holder at found classes.Sml p many = refl

  member_alike : (holder : ℕ) (name : List ℕ) (member : MemberEntry) (p : Progress) → count ≤ length p.groups
      → with_member setting enter holder name member p ≡ with_member setting other holder name member p
  member_alike holder name member p many =
      ap (λ (r : Result Progress Diag). if is_skipped setting.anchors member then Ok p else r)
      (goes_alike (found_of setting.anchors name member)
      (λ found. with_found setting enter holder member.at found p)
      (λ found. with_found setting other holder member.at found p)
      (λ found is. classed_alike holder member.at found found.class p many))

  members_alike : (holder : ℕ) (name : List ℕ) (members : List MemberEntry) (p : Progress) → count ≤ length p.groups
      → with_members setting enter holder name members p ≡ with_members setting other holder name members p
  members_alike holder name [] p many = refl
  members_alike holder name (member ∷ members) p many =
      ap (λ (r : Result Progress Diag). r >>= λ more. with_members setting enter holder name members more)
      (member_alike holder name member p many)
      ∙ goes_alike (with_member setting other holder name member p)
      (λ more. with_members setting enter holder name members more)
      (λ more. with_members setting other holder name members more)
      (λ more is. members_alike holder name members more
      (let longer = member_grows setting other grows holder name member p more is in omega (arith, many, longer)))

  described_alike : (name : List ℕ) (d : Description) (p : Progress) → count ≤ length p.groups + 1
      → with_described setting enter name d p ≡ with_described setting other name d p
  described_alike name d p many =
      let long : count ≤ length (with_begun (begun name d) p).groups =
      omega (arith, many, length-append p.groups (begun name d ∷ [])) in
      goes_alike (chosen_items setting.defs [] d.member_lines)
      (λ items. with_members setting enter (length p.groups) name (chosen_members d items) (with_begun (begun name d) p)
      >>= λ more. Ok (with_finished (length p.groups) more))
      (λ items. with_members setting other (length p.groups) name (chosen_members d items) (with_begun (begun name d) p)
      >>= λ more. Ok (with_finished (length p.groups) more))
      (λ items is. ap (λ (r : Result Progress Diag). r >>= λ more. Ok (with_finished (length p.groups) more))
      (members_alike (length p.groups) name (chosen_members d items) (with_begun (begun name d) p) long))

-- ---- enough levels

-- a group that is entered has room
room_by : (n : ℕ) (name : List ℕ) (b : Bool) (room : Unit {0}) → nat_lt 512 n ≡ b
    → ◌≡◌ {A = Result (Unit {0}) Diag} (if b then Err (whole_file 12 name) else Ok tt) (Ok room) → n ≤ 512
room_by n name true room e is = absurd (cc)
room_by n name false room e is = grind (arith, nat_tests)

counted_room : (name : List ℕ) (p : Progress) (room : Unit {0}) → counted name p ≡ Ok room → length p.groups + 1 ≤ 512
counted_room name p room h = room_by (length p.groups + 1) name (nat_lt 512 (length p.groups + 1)) room refl h

file_room : (at : Place) (name : List ℕ) (p : Progress) (file : Option (List ℕ)) (d : Description)
    → described_by at name p file ≡ Ok d → length p.groups + 1 ≤ 512
file_room at name p file d h =
    let found = went_on (there at name file) (λ text. counted name p >>= λ room. description_of name text) d h in
    let room = went_on (counted name p) (λ room. description_of name found.0) d found.2 in
    counted_room name p room.0 room.1

frozen_room : (name : List ℕ) (p : Progress) (d : Description)
    → ◌≡◌ {A = Result Description Diag} (counted name p >>= λ room. Err (whole_file 60 (frozen name))) (Ok d)
    → length p.groups + 1 ≤ 512
frozen_room name p d h =
    let room = went_on (counted name p) (λ room. Err (whole_file 60 (frozen name))) d h in
    counted_room name p room.0 room.1

described_room : (setting : Setting) (at : Place) (name : List ℕ) (p : Progress) (d : Description)
    → described setting at name p ≡ Ok d → length p.groups + 1 ≤ 512
described_room setting at name p d h =
    elim (either (is_frozen setting name) (counted name p >>= λ room. Err (whole_file 60 (frozen name)))
    (described_by at name p (file_of setting name)) d h)
    [ inl one ↦ frozen_room name p d one | inr other ↦ file_room at name p (file_of setting name) d other ]

module _ (setting : Setting) where
  -- one level more, where what is described is loaded alike
  more_level : (n m : ℕ) (at : Place) (name : List ℕ) (p : Progress)
      → ((d : Description) → length p.groups + 1 ≤ 512
      → with_described setting (entered_within setting n) name d p
      ≡ with_described setting (entered_within setting m) name d p)
      → entered_within setting (suc n) at name p ≡ entered_within setting (suc m) at name p
  more_level n m at name p alike =
      one_level setting n at name p
      ∙ goes_alike (described setting at name p)
      (λ d. with_described setting (entered_within setting n) name d p)
      (λ d. with_described setting (entered_within setting m) name d p)
      (λ d is. alike d (described_room setting at name p d is))
      ∙ sym (one_level setting m at name p)

  stable : (n m : ℕ) → n ≤ m → (at : Place) (name : List ℕ) (p : Progress) → 512 ≤ n + length p.groups
      → entered_within setting (suc n) at name p ≡ entered_within setting (suc m) at name p
  stable zero m le at name p enough =
      more_level zero m at name p (λ d room. absurd (omega (arith, enough, room)))
  stable (suc n) zero le at name p enough = absurd (omega (arith, le))
  stable (suc n) (suc m) le at name p enough =
      more_level (suc n) (suc m) at name p (λ d room.
      described_alike setting (length p.groups + 1) (entered_within setting (suc n)) (entered_within setting (suc m))
      (λ at name more many. stable n m (omega (arith, le)) at name more (omega (arith, enough, many)))
      (levels_grow setting (suc m)) name d p (omega arith))

  more_levels : (levels : ℕ) (at : Place) (name : List ℕ) (p : Progress) → 513 ≤ levels
      → entered_within setting levels at name p ≡ entered_within setting 513 at name p
  more_levels zero at name p many = absurd (omega (arith, many))
  more_levels (suc levels) at name p many =
      sym (stable 512 levels (omega (arith, many)) at name p (omega arith))

  same_level : (at : Place) (name : List ℕ) (p : Progress)
      → entered_within setting 513 at name p ≡ with_entered setting (entered_within setting 513) at name p
  same_level at name p = stable 512 513 (omega arith) at name p (omega arith) ∙ one_level setting 513 at name p

pub loading_whole : LoadingIsWhole
unfolding entered
loading_whole setting = record {
  level = λ at name p. same_level setting at name p;
  further = λ levels at name p many. more_levels setting levels at name p many;
}
