-- Without tools, loading is that of folders whose members are of no tool's class.
use Rattle.std.proofs.Common.{◌≡◌, ◌∙◌, ap, sym, refl, ℕ, zero, suc, List, [], ◌∷◌, length, Bool, true, false, cond, Option, Some, None, Result, Ok, Err, if◌then◌else◌}
use Rattle.cm_base.specs.Derived.{ToolRules}
use Rattle.cm_base.specs.Diags.{whole_file, ◌>>=◌}
use Rattle.cm_base.specs.Files.{Files}
use Rattle.cm_base.specs.declared.diag.Diag.{Diag}
use Rattle.cm_base.specs.declared.diag.Place.{Place}
use Rattle.cm_base.specs.declared.record.Def.{Def}
use Rattle.path_anchors.specs.Names.{Bindings}
use Rattle.description_values.specs.Choice.{chosen_items}
use Rattle.cm_description.specs.declared.description.Description.{Description}
use Rattle.cm_description.specs.declared.description.MemberEntry.{MemberEntry}
use Rattle.project_checks.specs.Checks.{checked}
use Rattle.project_checks.specs.Loaded.{nothing, with_begun, with_finished, with_membership}
use Rattle.project_checks.specs.declared.progress.Progress.{Progress}
use Rattle.project_loading.specs.Projects as plain
use Rattle.project_loading.specs.Projects.{begun, bound_by, chosen_members, command_place, described_by, found_of, is_finished, is_skipped, number_of, root_name, there, with_known, with_source, within_size}
use Rattle.project_loading.specs.declared.classes.Class.{Class}
use Rattle.project_loading.specs.declared.classes.Class.TheVariants as classes
use Rattle.project_loading.specs.declared.found.Found.{Found}
use Rattle.project_loading.proofs.Levels.{none_left, one_level}
use Rattle.tool_deriving.specs.Toolboxes.{is_built_in}
use Rattle.member_deriving.specs.Uses.{Outcome, Work, outcome, work_of}
use Rattle.tool_loading.specs.Laws.{LoadingWithoutTools}
use Rattle.tool_loading.specs.Projects.{Entering, Setting, entered, entered_within, file_in, plain_means, reached_from, reached_in, setting_by, tool_of, tool_of_class, with_chosen, with_classed, with_described, with_entered, with_member, with_member_of, with_members, with_met, with_plain_member, with_root}
use Rattle.tool_loading.proofs.Steps.{in_a_row, rests_on, step_rests}

-- no class is a tool's
no_tools : ToolRules
no_tools = []

none_of_class : (class : Option (List ℕ)) → tool_of_class [] class ≡ None
none_of_class None = refl
none_of_class (Some class) = by_test (is_built_in class)
  where
    by_test : (b : Bool) → ◌≡◌ {A = Option (List ℕ × List ℕ)} (cond b None None) None
    by_test true = refl
    by_test false = refl

module _ (files : Files) (anchors : Bindings) (defs : List Def) (work : Work) where
  abbrev here : Setting
  here = setting_by (plain_means files) [] defs anchors

  abbrev there_plain : plain.Setting
  there_plain = plain.setting_of files anchors defs

  module _ (enter : Entering) (other : plain.Entering)
      (rests : (at : Place) (name : List ℕ) (p : Progress) → enter at name p work ≡ outcome work (other at name p)) where
    met_rests : (holder : ℕ) (at : Place) (name : List ℕ) (found : Option ℕ) (p : Progress)
        → with_met enter holder at name found p work ≡ outcome work (plain.with_met other holder at name found p)
    met_rests holder at name (Some number) p = refl
    met_rests holder at name None p =
        step_rests work (enter at name p work) (other at name p)
        (λ more after. outcome after (Ok (with_membership holder (length p.groups) more)))
        (λ more. Ok (with_membership holder (length p.groups) more)) (rests at name p) (λ more is. refl)

    classed_rests : (holder : ℕ) (at : Place) (found : Found) (class : Class) (p : Progress)
        → with_classed here enter holder at found class p work
        ≡ outcome work (plain.with_classed there_plain other holder at found class p)
    classed_rests holder at found classes.Cm p = met_rests holder at found.name (number_of p found.name) p
    classed_rests holder at found classes.Sml p = refl

    plain_rests : (holder : ℕ) (holder_name : List ℕ) (member : MemberEntry) (p : Progress)
        → with_plain_member here enter holder holder_name member p work
        ≡ outcome work (found_of anchors holder_name member >>= λ found.
        plain.with_found there_plain other holder member.at found p)
    plain_rests holder holder_name member p =
        rests_on work (found_of anchors holder_name member)
        (λ found after. with_classed here enter holder member.at found found.class p after)
        (λ found. plain.with_found there_plain other holder member.at found p)
        (λ found is. classed_rests holder member.at found found.class p)

    unless_skipped : (b : Bool) (x : Outcome Progress) (y : Result Progress Diag) (p : Progress) → x ≡ outcome work y
        → (if b then outcome work (Ok p) else x) ≡ outcome work (if b then Ok p else y)
    unless_skipped true x y p is = refl
    unless_skipped false x y p is = is

    member_rests : (holder : ℕ) (holder_name : List ℕ) (member : MemberEntry) (p : Progress)
        → with_member here enter holder holder_name member p work
        ≡ outcome work (plain.with_member there_plain other holder holder_name member p)
    member_rests holder holder_name member p =
        unless_skipped (is_skipped anchors member)
        (with_member_of here enter holder holder_name member (tool_of [] member) p work)
        (found_of anchors holder_name member >>= λ found. plain.with_found there_plain other holder member.at found p) p
        (ap (λ (tool : Option (List ℕ × List ℕ)). with_member_of here enter holder holder_name member tool p work)
        (none_of_class member.class) ∙ plain_rests holder holder_name member p)

    members_rest : (holder : ℕ) (holder_name : List ℕ) (members : List MemberEntry) (p : Progress)
        → with_members here enter holder holder_name members p work
        ≡ outcome work (plain.with_members there_plain other holder holder_name members p)
    members_rest holder holder_name [] p = refl
    members_rest holder holder_name (member ∷ members) p =
        step_rests work (with_member here enter holder holder_name member p work)
        (plain.with_member there_plain other holder holder_name member p)
        (λ more after. with_members here enter holder holder_name members more after)
        (λ more. plain.with_members there_plain other holder holder_name members more)
        (member_rests holder holder_name member p) (λ more is. members_rest holder holder_name members more)

    chosen_rest : (name : List ℕ) (d : Description) (p : Progress) (items : List ℕ)
        → with_chosen here enter name d p items work
        ≡ outcome work (plain.with_members there_plain other (length p.groups) name (chosen_members d items)
        (with_begun (begun name d) p) >>= λ more. Ok (with_finished (length p.groups) more))
    chosen_rest name d p items =
        step_rests work
        (with_members here enter (length p.groups) name (chosen_members d items) (with_begun (begun name d) p) work)
        (plain.with_members there_plain other (length p.groups) name (chosen_members d items)
        (with_begun (begun name d) p))
        (λ more after. outcome after (Ok (with_finished (length p.groups) more)))
        (λ more. Ok (with_finished (length p.groups) more))
        (members_rest (length p.groups) name (chosen_members d items) (with_begun (begun name d) p)) (λ more is. refl)

    group_rests : (name : List ℕ) (d : Description) (p : Progress)
        → with_described here enter name d p work ≡ outcome work (plain.with_described there_plain other name d p)
    group_rests name d p =
        rests_on work (chosen_items defs [] d.member_lines)
        (λ items after. with_chosen here enter name d p items after)
        (λ items. plain.with_members there_plain other (length p.groups) name (chosen_members d items)
        (with_begun (begun name d) p) >>= λ more. Ok (with_finished (length p.groups) more))
        (λ items is. chosen_rest name d p items)

    entered_rests : (at : Place) (name : List ℕ) (p : Progress)
        → with_entered here enter at name p work ≡ outcome work (plain.with_entered there_plain other at name p)
    entered_rests at name p =
        rests_on work (plain.described there_plain at name p)
        (λ d after. with_described here enter name d p after)
        (λ d. plain.with_described there_plain other name d p)
        (λ d is. group_rests name d p)

  none_left_here : (at : Place) (name : List ℕ) (p : Progress)
      → entered_within here zero at name p work ≡ outcome work (Err (whole_file 12 name))
  unfolding entered_within
  none_left_here at name p = refl

  one_level_here : (levels : ℕ) (at : Place) (name : List ℕ) (p : Progress)
      → entered_within here (suc levels) at name p work
      ≡ with_entered here (entered_within here levels) at name p work
  unfolding entered_within
  one_level_here levels at name p = refl

  levels_rest : (levels : ℕ) (at : Place) (name : List ℕ) (p : Progress)
      → entered_within here levels at name p work
      ≡ outcome work (plain.entered_within there_plain levels at name p)
  levels_rest zero at name p =
      none_left_here at name p ∙ ap (λ (r : Result Progress Diag). outcome work r) (sym (none_left there_plain at name p))
  levels_rest (suc levels) at name p =
      one_level_here levels at name p
      ∙ entered_rests (entered_within here levels) (plain.entered_within there_plain levels) (levels_rest levels) at name p
      ∙ ap (λ (r : Result Progress Diag). outcome work r) (sym (one_level there_plain levels at name p))

  below_rest : (at : Place) (name : List ℕ) (p : Progress)
      → entered here at name p work ≡ outcome work (plain.entered there_plain at name p)
  unfolding entered plain.entered
  below_rest at name p = levels_rest 513 at name p

  root_rests : (name : List ℕ) → with_root here name work ≡ outcome work (plain.with_root there_plain name)
  root_rests name =
      rests_on work (described_by command_place name nothing (file_in here work name))
      (λ d after. with_described here (entered here) name d nothing after)
      (λ d. plain.with_described there_plain (plain.entered there_plain) name d nothing)
      (λ d is. group_rests (entered here) (plain.entered there_plain) below_rest name d nothing)

  reached_rests : (root : List ℕ)
      → reached_from here root work ≡ outcome work (root_name anchors root >>= λ name. plain.with_root there_plain name)
  reached_rests root =
      rests_on work (root_name anchors root)
      (λ name after. with_root here name after) (λ name. plain.with_root there_plain name)
      (λ name is. root_rests name)

module _ (files : Files) (defs : List Def) (root : List ℕ) where
  -- all that ROOT leads to, without tools
  abbrev reached_without : Result Progress Diag
  reached_without =
      plain.anchors_of files >>= λ anchors. root_name anchors root >>= λ name.
      plain.with_root (plain.setting_of files anchors defs) name

  rests : reached_in files [] defs root ≡ outcome (work_of files []) reached_without
  rests =
      rests_on (work_of files []) (plain.anchors_of files)
      (λ anchors after. reached_from (setting_by (plain_means files) [] defs anchors) root after)
      (λ anchors. root_name anchors root >>= λ name. plain.with_root (plain.setting_of files anchors defs) name)
      (λ anchors is. reached_rests files anchors defs (work_of files []) root)

  -- .. and the checks behind it
  checks_behind : (freezing : Bool)
      → (reached_without >>= λ p. checked freezing p) ≡ plain.project_of files defs root freezing
  checks_behind freezing =
      in_a_row (plain.anchors_of files)
      (λ anchors. root_name anchors root >>= λ name. plain.with_root (plain.setting_of files anchors defs) name)
      (λ p. checked freezing p)
      ∙ by_anchors (plain.anchors_of files)
    where
      by_anchors : (r : Result Bindings Diag)
          → (r >>= λ anchors. (root_name anchors root >>= λ name.
          plain.with_root (plain.setting_of files anchors defs) name) >>= λ p. checked freezing p)
          ≡ (r >>= λ anchors. plain.loaded_from (plain.setting_of files anchors defs) root freezing)
      by_anchors (Ok anchors) =
          in_a_row (root_name anchors root) (λ name. plain.with_root (plain.setting_of files anchors defs) name)
          (λ p. checked freezing p)
      by_anchors (Err diag) = refl

pub without_tools : LoadingWithoutTools
without_tools files defs root = record {
  project = λ freezing.
      ap (λ (reached : Outcome Progress). reached.result >>= λ p. checked freezing p) (rests files defs root)
      ∙ checks_behind files defs root freezing;
  uses = ap (λ (reached : Outcome Progress). reached.work.uses) (rests files defs root);
}
