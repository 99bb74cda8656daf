-- Steps of loading add uses behind those that were made before, and take none away.
use Rattle.std.proofs.Common.{◌≡◌, ◌∙◌, ap, refl, ℕ, zero, suc, List, [], ◌∷◌, ◌++◌, append-nil, append_assoc, length, sym, Bool, true, false, Option, Some, None, Result, Ok, Err, if◌then◌else◌}
use Rattle.cm_base.specs.declared.diag.Diag.{Diag}
use Rattle.cm_base.specs.declared.diag.Place.{Place}
use Rattle.description_values.specs.Choice.{chosen_items}
use Rattle.cm_description.specs.declared.description.Description.{Description}
use Rattle.cm_description.specs.declared.description.MemberEntry.{MemberEntry}
use Rattle.project_checks.specs.Loaded.{nothing, with_begun, with_finished, with_membership}
use Rattle.project_checks.specs.declared.progress.Progress.{Progress}
use Rattle.project_loading.specs.Projects.{begun, chosen_members, command_place, described_by, found_of, is_skipped, number_of, there, with_source}
use Rattle.project_loading.specs.declared.classes.Class.{Class}
use Rattle.project_loading.specs.declared.classes.Class.TheVariants as classes
use Rattle.project_loading.specs.declared.found.Found.{Found}
use Rattle.tool_deriving.specs.Deriving.{ToolUse, tool_use}
use Rattle.member_deriving.specs.Sources.{source_by, used_within, within_source}
use Rattle.member_deriving.specs.Uses.{Outcome, Work, goes_on, outcome, ◌>>◌}
use Rattle.tool_loading.specs.Projects.{Entering, Setting, described, entered, entered_within, file_in, tool_member_name, tool_of, with_chosen, with_classed, with_derived, with_described, with_entered, with_member, with_member_of, with_members, with_met, with_plain_member, with_root, with_tool_member, with_use_of, without_options}

-- these uses, and others behind them
pub record Adds (before : List ToolUse) (work : Work) : Type 0 where
  pub more : List ToolUse
  pub is : work.uses ≡ before ++ more

pub adds_none : (work : Work) → Adds work.uses work
adds_none work = record { more = []; is = sym (append-nil work.uses) }

pub adds_further : (before : List ToolUse) (one two : Work) → Adds before one → Adds one.uses two → Adds before two
adds_further before one two first next = record {
  more = first.more ++ next.more;
  is = next.is ∙ ap (λ (uses : List ToolUse). uses ++ next.more) first.is ∙ append_assoc before first.more next.more;
}

-- whatever follows a step that adds
abbrev pub AddsNext : {A B : Type 0} → (A → Work → Outcome B) → Type 0
AddsNext {A} {B} next = (a : A) (work : Work) → Adds work.uses (next a work).work

on_adds : {A B : Type 0} (before : List ToolUse) (work : Work) (r : Result A Diag) (next : A → Work → Outcome B)
    → Adds before work → AddsNext next → Adds before (goes_on work r next).work
on_adds before work (Ok a) next first more = adds_further before work (next a work).work first (more a work)
on_adds before work (Err diag) next first more = first

pub goes_adds : {A B : Type 0} (before : List ToolUse) (step : Outcome A) (next : A → Work → Outcome B)
    → Adds before step.work → AddsNext next → Adds before (step >> next).work
goes_adds before step next first more = on_adds before step.work step.result next first more

-- .. a step that uses no tool
pub rest_adds : {A B : Type 0} (work : Work) (r : Result A Diag) (next : A → Work → Outcome B) → AddsNext next
    → Adds work.uses (outcome work r >> next).work
rest_adds work r next more = on_adds work.uses work r next (adds_none work) more

module _ (setting : Setting) where
  used_adds : (within : Result (Unit {0}) Diag) (job : ToolUse) (work : Work)
      → Adds work.uses (used_within within setting.means.texts job work).work
  used_adds (Err diag) job work = adds_none work
  used_adds (Ok within) job work = record { more = job ∷ []; is = refl }

  pub use_adds : (holder : ℕ) (name : List ℕ) (tool : List ℕ × List ℕ) (input : List ℕ) (p : Progress) (work : Work)
      → Adds work.uses (with_use_of setting holder name tool input p work).work
  use_adds holder name tool input p work =
      let job = tool_use tool.0 tool.1 name input in
      goes_adds work.uses (source_by setting.means.texts job work)
      (λ source after. outcome after (with_source holder name without_options source p))
      (used_adds (within_source name input) job work) (λ source after. adds_none after)

  pub derived_adds : (holder : ℕ) (at : Place) (tool : List ℕ × List ℕ) (name : List ℕ) (p : Progress) (work : Work)
      → Adds work.uses (with_derived setting holder at tool name p work).work
  derived_adds holder at tool name p work =
      rest_adds work (there at name (file_in setting work name))
      (λ input after. with_use_of setting holder name tool input p after)
      (λ input after. use_adds holder name tool input p after)

  pub tool_adds : (holder : ℕ) (holder_name : List ℕ) (member : MemberEntry) (tool : List ℕ × List ℕ) (p : Progress)
      (work : Work) → Adds work.uses (with_tool_member setting holder holder_name member tool p work).work
  tool_adds holder holder_name member tool p work =
      rest_adds work (tool_member_name setting.anchors holder_name member)
      (λ name after. with_derived setting holder member.at tool name p after)
      (λ name after. derived_adds holder member.at tool name p after)

  module _ (enter : Entering)
      (below : (at : Place) (name : List ℕ) (p : Progress) (work : Work) → Adds work.uses (enter at name p work).work)
    where
      pub met_adds : (holder : ℕ) (at : Place) (name : List ℕ) (found : Option ℕ) (p : Progress) (work : Work)
          → Adds work.uses (with_met enter holder at name found p work).work
      met_adds holder at name (Some number) p work = adds_none work
      met_adds holder at name None p work =
          goes_adds work.uses (enter at name p work)
          (λ more after. outcome after (Ok (with_membership holder (length p.groups) more)))
          (below at name p work) (λ more after. adds_none after)

      pub classed_adds : (holder : ℕ) (at : Place) (found : Found) (class : Class) (p : Progress) (work : Work)
          → Adds work.uses (with_classed setting enter holder at found class p work).work
      classed_adds holder at found classes.Cm p work = met_adds holder at found.name (number_of p found.name) p work
      classed_adds holder at found classes.Sml p work = adds_none work

      pub plain_adds : (holder : ℕ) (holder_name : List ℕ) (member : MemberEntry) (p : Progress) (work : Work)
          → Adds work.uses (with_plain_member setting enter holder holder_name member p work).work
      plain_adds holder holder_name member p work =
          rest_adds work (found_of setting.anchors holder_name member)
          (λ found after. with_classed setting enter holder member.at found found.class p after)
          (λ found after. classed_adds holder member.at found found.class p after)

      of_adds : (holder : ℕ) (holder_name : List ℕ) (member : MemberEntry) (tool : Option (List ℕ × List ℕ))
          (p : Progress)
          (work : Work) → Adds work.uses (with_member_of setting enter holder holder_name member tool p work).work
      of_adds holder holder_name member None p work = plain_adds holder holder_name member p work
      of_adds holder holder_name member (Some tool) p work = tool_adds holder holder_name member tool p work

      skipped_adds : (skipped : Bool) (holder : ℕ) (holder_name : List ℕ) (member : MemberEntry) (p : Progress)
          (work : Work)
          → Adds work.uses (if skipped then outcome work (Ok p)
          else with_member_of setting enter holder holder_name member (tool_of setting.rules member) p work).work
      skipped_adds true holder holder_name member p work = adds_none work
      skipped_adds false holder holder_name member p work =
          of_adds holder holder_name member (tool_of setting.rules member) p work

      pub member_adds : (holder : ℕ) (holder_name : List ℕ) (member : MemberEntry) (p : Progress) (work : Work)
          → Adds work.uses (with_member setting enter holder holder_name member p work).work
      member_adds holder holder_name member p work =
          skipped_adds (is_skipped setting.anchors member) holder holder_name member p work

      pub members_add : (holder : ℕ) (holder_name : List ℕ) (members : List MemberEntry) (p : Progress) (work : Work)
          → Adds work.uses (with_members setting enter holder holder_name members p work).work
      members_add holder holder_name [] p work = adds_none work
      members_add holder holder_name (member ∷ members) p work =
          goes_adds work.uses (with_member setting enter holder holder_name member p work)
          (λ more after. with_members setting enter holder holder_name members more after)
          (member_adds holder holder_name member p work)
          (λ more after. members_add holder holder_name members more after)

      pub chosen_add : (name : List ℕ) (d : Description) (p : Progress) (items : List ℕ) (work : Work)
          → Adds work.uses (with_chosen setting enter name d p items work).work
      chosen_add name d p items work =
          goes_adds work.uses
          (with_members setting enter (length p.groups) name (chosen_members d items)
          (with_begun (begun name d) p) work)
          (λ more after. outcome after (Ok (with_finished (length p.groups) more)))
          (members_add (length p.groups) name (chosen_members d items) (with_begun (begun name d) p) work)
          (λ more after. adds_none after)

      pub described_adds : (name : List ℕ) (d : Description) (p : Progress) (work : Work)
          → Adds work.uses (with_described setting enter name d p work).work
      described_adds name d p work =
          rest_adds work (chosen_items setting.defs [] d.member_lines)
          (λ items after. with_chosen setting enter name d p items after)
          (λ items after. chosen_add name d p items after)

      pub entered_adds : (at : Place) (name : List ℕ) (p : Progress) (work : Work)
          → Adds work.uses (with_entered setting enter at name p work).work
      entered_adds at name p work =
          rest_adds work (described setting at name p work)
          (λ d after. with_described setting enter name d p after)
          (λ d after. described_adds name d p after)

  pub levels_add : (levels : ℕ) (at : Place) (name : List ℕ) (p : Progress) (work : Work)
      → Adds work.uses (entered_within setting levels at name p work).work
  unfolding entered_within
  levels_add zero at name p work = adds_none work
  levels_add (suc levels) at name p work =
      entered_adds (entered_within setting levels) (levels_add levels) at name p work

  all_add : (at : Place) (name : List ℕ) (p : Progress) (work : Work)
      → Adds work.uses (entered setting at name p work).work
  unfolding entered
  all_add at name p work = levels_add 513 at name p work

  pub root_adds : (name : List ℕ) (work : Work) → Adds work.uses (with_root setting name work).work
  root_adds name work =
      rest_adds work (described_by command_place name nothing (file_in setting work name))
      (λ d after. with_described setting (entered setting) name d nothing after)
      (λ d after. described_adds (entered setting) all_add name d nothing after)
