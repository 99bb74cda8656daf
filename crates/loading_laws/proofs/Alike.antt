-- Over two folders with the same files outside the store the same is loaded. A group is entered by a name, so that all
-- that is read lies outside the store.
use Rattle.std.proofs.Common.{◌≡◌, ◌∙◌, ap, ap₂, sym, refl, ℕ, zero, suc, List, [], ◌∷◌, length, Bool, Option, Some, None, Result, Ok, Err, if◌then◌else◌}
use Rattle.std.specs.Prelude.{is_some}
use Rattle.std.specs.FinMap.{get}
use Rattle.cm_base.specs.Diags.{whole_file, ◌>>=◌}
use Rattle.cm_base.specs.Files.{Files, project_part}
use Rattle.cm_base.specs.declared.diag.Diag.{Diag}
use Rattle.cm_base.specs.declared.diag.Place.{Place}
use Rattle.cm_base.specs.declared.record.Def.{Def}
use Rattle.description_values.specs.Choice.{chosen_items}
use Rattle.cm_description.specs.declared.description.Description.{Description}
use Rattle.cm_description.specs.declared.description.MemberEntry.{MemberEntry}
use Rattle.path_anchors.specs.Names.{Bindings, IsName, folder_path_of}
use Rattle.path_anchors.specs.Pathconfig.{AreBindings, config_file}
use Rattle.project_checks.specs.Checks.{checked}
use Rattle.project_checks.specs.Loaded.{nothing, with_begun, with_finished, with_membership}
use Rattle.project_checks.specs.declared.progress.Progress.{Progress}
use Rattle.project_loading.specs.Projects.{Setting, Entering, anchors_of, begun, bound_by, chosen_members, command_place, counted, described, described_by, entered, entered_within, file_of, found_of, frozen, is_skipped, loaded_from, number_of, project_of, root_name, setting_of, there, with_classed, with_described, with_entered, with_found, with_member, with_members, with_met, with_root, with_source, within_size}
use Rattle.project_loading.specs.declared.classes.Class.{Class}
use Rattle.project_loading.specs.declared.classes.Class.TheVariants as classes
use Rattle.project_loading.specs.declared.found.Found.{Found}
use Rattle.project_loading.proofs.Levels.{goes_alike, none_left, one_level}
use Rattle.loading_laws.specs.Laws.{SameProjectFiles, LoadingReadsTheProject, LoadingKnowsNoStore}
use Rattle.loading_laws.proofs.Outside.{anchors_bound, config_outside, goes_by_names, names_outside, part_same}

module _ (a b : Files) (same : SameProjectFiles a b) (defs : List Def) (anchors : Bindings)
    (are : AreBindings anchors) where
  abbrev in_a : Setting
  in_a = setting_of a anchors defs

  abbrev in_b : Setting
  in_b = setting_of b anchors defs

  -- ---- files of names

  file_alike : (name : List ℕ) → IsName anchors name → file_of in_a name ≡ file_of in_b name
  file_alike name is = same (folder_path_of anchors name) (names_outside anchors name are is).file

  beside_alike : (name : List ℕ) → IsName anchors name
      → get a (frozen (folder_path_of anchors name)) ≡ get b (frozen (folder_path_of anchors name))
  beside_alike name is = same (frozen (folder_path_of anchors name)) (names_outside anchors name are is).beside

  described_alike : (at : Place) (name : List ℕ) (p : Progress) → IsName anchors name
      → described in_a at name p ≡ described in_b at name p
  described_alike at name p is =
      ap₂ (λ (beside file : Option (List ℕ)).
      if is_some beside then (counted name p >>= λ room. Err (whole_file 60 (frozen name)))
      else described_by at name p file) (beside_alike name is) (file_alike name is)

  -- ---- members

  module _ (enter other : Entering)
      (agree : (at : Place) (name : List ℕ) (p : Progress) → IsName anchors name
      → enter at name p ≡ other at name p) where
    met_alike : (holder : ℕ) (at : Place) (name : List ℕ) (found : Option ℕ) (p : Progress) → IsName anchors name
        → with_met enter holder at name found p ≡ with_met other holder at name found p
    met_alike holder at name (Some number) p is = refl
    met_alike holder at name None p is =
        ap (λ (r : Result Progress Diag). r >>= λ more. Ok (with_membership holder (length p.groups) more))
        (agree at name p is)

    classed_alike : (holder : ℕ) (at : Place) (found : Found) (class : Class) (p : Progress) → IsName anchors found.name
        → with_classed in_a enter holder at found class p ≡ with_classed in_b other holder at found class p
    classed_alike holder at found classes.Cm p is = met_alike holder at found.name (number_of p found.name) p is
    classed_alike holder at found classes.Sml p is =
        ap (λ (file : Option (List ℕ)). (there at found.name file >>= λ source. within_size found.name source)
        >>= λ source. with_source holder found.name found.options source p) (file_alike found.name is)

    member_alike : (holder : ℕ) (name : List ℕ) (member : MemberEntry) (p : Progress)
        → with_member in_a enter holder name member p ≡ with_member in_b other holder name member p
    member_alike holder name member p =
        ap (λ (r : Result Progress Diag). if is_skipped anchors member then Ok p else r)
        (goes_alike (found_of anchors name member)
        (λ found. with_found in_a enter holder member.at found p)
        (λ found. with_found in_b other holder member.at found p)
        (λ found is. classed_alike holder member.at found found.class p
        ((goes_by_names anchors).member name member found is)))

    members_alike : (holder : ℕ) (name : List ℕ) (members : List MemberEntry) (p : Progress)
        → with_members in_a enter holder name members p ≡ with_members in_b other holder name members p
    members_alike holder name [] p = refl
    members_alike holder name (member ∷ members) p =
        ap (λ (r : Result Progress Diag). r >>= λ more. with_members in_a enter holder name members more)
        (member_alike holder name member p)
        ∙ goes_alike (with_member in_b other holder name member p)
        (λ more. with_members in_a enter holder name members more)
        (λ more. with_members in_b other holder name members more)
        (λ more is. members_alike holder name members more)

    group_alike : (name : List ℕ) (d : Description) (p : Progress)
        → with_described in_a enter name d p ≡ with_described in_b other name d p
    group_alike name d p =
        goes_alike (chosen_items defs [] d.member_lines)
        (λ items. with_members in_a enter (length p.groups) name (chosen_members d items)
        (with_begun (begun name d) p) >>= λ more. Ok (with_finished (length p.groups) more))
        (λ items. with_members in_b other (length p.groups) name (chosen_members d items)
        (with_begun (begun name d) p) >>= λ more. Ok (with_finished (length p.groups) more))
        (λ items is. ap (λ (r : Result Progress Diag). r >>= λ more. Ok (with_finished (length p.groups) more))
        (members_alike (length p.groups) name (chosen_members d items) (with_begun (begun name d) p)))

    entered_alike : (at : Place) (name : List ℕ) (p : Progress) → IsName anchors name
        → with_entered in_a enter at name p ≡ with_entered in_b other at name p
    entered_alike at name p is =
        ap (λ (r : Result Description Diag). r >>= λ d. with_described in_a enter name d p)
        (described_alike at name p is)
        ∙ goes_alike (described in_b at name p)
        (λ d. with_described in_a enter name d p)
        (λ d. with_described in_b other name d p)
        (λ d is. group_alike name d p)

  -- ---- groups in groups

  levels_alike : (levels : ℕ) (at : Place) (name : List ℕ) (p : Progress) → IsName anchors name
      → entered_within in_a levels at name p ≡ entered_within in_b levels at name p
  levels_alike zero at name p is = none_left in_a at name p ∙ sym (none_left in_b at name p)
  levels_alike (suc levels) at name p is =
      one_level in_a levels at name p
      ∙ entered_alike (entered_within in_a levels) (entered_within in_b levels) (levels_alike levels) at name p is
      ∙ sym (one_level in_b levels at name p)

  below_alike : (at : Place) (name : List ℕ) (p : Progress) → IsName anchors name
      → entered in_a at name p ≡ entered in_b at name p
  unfolding entered
  below_alike at name p is = levels_alike 513 at name p is

  -- ---- from ROOT on

  root_alike : (name : List ℕ) → IsName anchors name → with_root in_a name ≡ with_root in_b name
  root_alike name is =
      ap (λ (file : Option (List ℕ)). described_by command_place name nothing file >>= λ d.
      with_described in_a (entered in_a) name d nothing) (file_alike name is)
      ∙ goes_alike (described_by command_place name nothing (file_of in_b name))
      (λ d. with_described in_a (entered in_a) name d nothing)
      (λ d. with_described in_b (entered in_b) name d nothing)
      (λ d is_d. group_alike (entered in_a) (entered in_b) below_alike name d nothing)

  loaded_alike : (root : List ℕ) (freezing : Bool)
      → loaded_from in_a root freezing ≡ loaded_from in_b root freezing
  loaded_alike root freezing =
      goes_alike (root_name anchors root)
      (λ name. with_root in_a name >>= λ p. checked freezing p)
      (λ name. with_root in_b name >>= λ p. checked freezing p)
      (λ name is. ap (λ (r : Result Progress Diag). r >>= λ p. checked freezing p)
      (root_alike name ((goes_by_names anchors).root root name is)))

module _ (a b : Files) (same : SameProjectFiles a b) where
  anchors_alike : anchors_of a ≡ anchors_of b
  anchors_alike = ap bound_by (same config_file config_outside)

  project_alike : (defs : List Def) (root : List ℕ) (freezing : Bool)
      → project_of a defs root freezing ≡ project_of b defs root freezing
  project_alike defs root freezing =
      ap (λ (r : Result Bindings Diag). r >>= λ anchors. loaded_from (setting_of a anchors defs) root freezing)
      anchors_alike
      ∙ goes_alike (anchors_of b)
      (λ anchors. loaded_from (setting_of a anchors defs) root freezing)
      (λ anchors. loaded_from (setting_of b anchors defs) root freezing)
      (λ anchors is. loaded_alike a b same defs anchors (anchors_bound b anchors is) root freezing)

pub loading_reads : LoadingReadsTheProject
loading_reads a b same = record { anchors = anchors_alike a b same; project = project_alike a b same }

pub loading_storeless : LoadingKnowsNoStore
loading_storeless files = loading_reads files (project_part files) (part_same files)
