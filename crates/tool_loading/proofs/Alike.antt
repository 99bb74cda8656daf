-- Loadings that go alike: by two means that read the same of the names that loading goes by, and give the same texts.
use Rattle.std.proofs.Common.{◌≡◌, ◌∙◌, ap, ap₂, refl, ℕ, zero, suc, List, [], ◌∷◌, length, Bool, true, false, Option, Some, None, Result, Ok, Err, if◌then◌else◌}
use Rattle.std.specs.Prelude.{is_some}
use Rattle.cm_base.specs.Derived.{ToolRules}
use Rattle.cm_base.specs.Diags.{whole_file, ◌>>=◌}
use Rattle.cm_base.specs.declared.diag.Diag.{Diag}
use Rattle.cm_base.specs.declared.diag.Place.{Place}
use Rattle.cm_base.specs.declared.record.Def.{Def}
use Rattle.path_anchors.specs.Names.{Bindings, IsName, folder_path_of, resolved}
use Rattle.description_values.specs.Choice.{chosen_items}
use Rattle.cm_description.specs.declared.description.Description.{Description}
use Rattle.cm_description.specs.declared.description.MemberEntry.{MemberEntry}
use Rattle.project_checks.specs.Loaded.{nothing, with_begun, with_finished, with_membership}
use Rattle.project_checks.specs.declared.progress.Progress.{Progress}
use Rattle.project_loading.specs.Projects.{begun, chosen_members, command_place, counted, described_by, found_of, frozen, is_skipped, member_name, number_of, or_refused, root_name, there, with_source, within_size}
use Rattle.project_loading.specs.declared.classes.Class.{Class}
use Rattle.project_loading.specs.declared.classes.Class.TheVariants as classes
use Rattle.project_loading.specs.declared.found.Found.{Found}
use Rattle.project_loading.proofs.Levels.{went_on}
use Rattle.loading_laws.proofs.Outside.{goes_by_names}
use Rattle.tool_deriving.specs.Deriving.{ToolUse, tool_use}
use Rattle.member_deriving.specs.Sources.{if_within, source_by, used_within, within_source}
use Rattle.member_deriving.specs.Uses.{Outcome, Work, outcome, with_use}
use Rattle.tool_loading.specs.Projects.{Entering, Means, Setting, described, entered, entered_within, file_in, no_options, reached_from, setting_by, tool_member_name, tool_of, with_chosen, with_classed, with_derived, with_described, with_entered, with_member, with_member_of, with_members, with_met, with_plain_member, with_root, with_tool_member, with_use_of, without_options}
use Rattle.tool_loading.proofs.Steps.{Same, goes_same}

-- ---- names of tools' members

path_is : (at : Place) (written : List ℕ) (r : Result (List ℕ) ℕ) (name : List ℕ)
    → or_refused at written r ≡ Ok name → r ≡ Ok name
path_is at written (Ok found) name is = let same : found ≡ name = cc in ap Ok same
path_is at written (Err number) name is = absurd cc

tool_name_is : (anchors : Bindings) (holder : List ℕ) (member : MemberEntry) (name : List ℕ)
    → tool_member_name anchors holder member ≡ Ok name → IsName anchors name
tool_name_is anchors holder member name is =
    let named = went_on (member_name anchors holder member)
    (λ found. no_options member.at member.options >>= λ none. Ok found) name is in
    let whole = went_on (no_options member.at member.options) (λ none. Ok named.0) name named.2 in
    record {
      base = holder;
      written = member.path;
      gives = path_is member.at member.path (resolved anchors holder member.path) name
          (named.1 ∙ whole.2);
    }

-- ---- steps

module _ (one two : Means) (anchors : Bindings) (defs : List Def) (rules : ToolRules)
    (Related : Work → Work → Type 0)
    (file_alike : (name : List ℕ) → IsName anchors name → (v w : Work) → Related v w
    → one.file v (folder_path_of anchors name) ≡ two.file w (folder_path_of anchors name))
    (beside_alike : (name : List ℕ) → IsName anchors name → (v w : Work) → Related v w
    → one.file v (frozen (folder_path_of anchors name)) ≡ two.file w (frozen (folder_path_of anchors name)))
    (text_alike : (v w : Work) → Related v w → (job : ToolUse) → one.texts v.files job ≡ two.texts w.files job)
    (use_alike : (v w : Work) → Related v w → (job : ToolUse) → Related (with_use job v) (with_use job w)) where
  abbrev in_one : Setting
  in_one = setting_by one rules defs anchors

  abbrev in_two : Setting
  in_two = setting_by two rules defs anchors

  -- ---- members of tools' classes

  used_alike : (within : Result (Unit {0}) Diag) (job : ToolUse) (v w : Work) → Related v w
      → Same Related (used_within within one.texts job v) (used_within within two.texts job w)
  used_alike (Err diag) job v w related = record { work = related; result = refl }
  used_alike (Ok within) job v w related = record {
    work = use_alike v w related job;
    result = ap (λ (text : List ℕ). if_within (within_source job.unit text) text) (text_alike v w related job);
  }

  use_of_alike : (holder : ℕ) (name : List ℕ) (tool : List ℕ × List ℕ) (input : List ℕ) (p : Progress) (v w : Work)
      → Related v w
      → Same Related (with_use_of in_one holder name tool input p v) (with_use_of in_two holder name tool input p w)
  use_of_alike holder name tool input p v w related =
      let job = tool_use tool.0 tool.1 name input in
      let end : List ℕ → Work → Outcome Progress =
      λ source after. outcome after (with_source holder name without_options source p) in
      goes_same Related (source_by one.texts job v) (source_by two.texts job w) end end
      (used_alike (within_source name input) job v w related)
      (λ source x y is so. record { work = so; result = refl })

  derived_alike : (holder : ℕ) (at : Place) (tool : List ℕ × List ℕ) (name : List ℕ) (p : Progress) (v w : Work)
      → IsName anchors name → Related v w
      → Same Related (with_derived in_one holder at tool name p v) (with_derived in_two holder at tool name p w)
  derived_alike holder at tool name p v w is related =
      goes_same Related (outcome v (there at name (file_in in_one v name))) (outcome w (there at name (file_in in_two w name)))
      (λ input after. with_use_of in_one holder name tool input p after)
      (λ input after. with_use_of in_two holder name tool input p after)
      (record { work = related; result = ap (there at name) (file_alike name is v w related) })
      (λ input x y got so. use_of_alike holder name tool input p x y so)

  tool_alike : (holder : ℕ) (holder_name : List ℕ) (member : MemberEntry) (tool : List ℕ × List ℕ) (p : Progress)
      (v w : Work) → Related v w
      → Same Related (with_tool_member in_one holder holder_name member tool p v)
      (with_tool_member in_two holder holder_name member tool p w)
  tool_alike holder holder_name member tool p v w related =
      let named = tool_member_name anchors holder_name member in
      goes_same Related (outcome v named) (outcome w named)
      (λ name after. with_derived in_one holder member.at tool name p after)
      (λ name after. with_derived in_two holder member.at tool name p after)
      (record { work = related; result = refl })
      (λ name x y is so. derived_alike holder member.at tool name p x y (tool_name_is anchors holder_name member name is) so)

  -- ---- other members

  described_alike : (at : Place) (name : List ℕ) (p : Progress) (v w : Work) → IsName anchors name → Related v w
      → described in_one at name p v ≡ described in_two at name p w
  described_alike at name p v w is related =
      ap₂ (λ (beside file : Option (List ℕ)).
      if is_some beside then (counted name p >>= λ room. Err (whole_file 60 (frozen name)))
      else described_by at name p file) (beside_alike name is v w related) (file_alike name is v w related)

  module _ (enter other : Entering)
      (agree : (at : Place) (name : List ℕ) (p : Progress) (v w : Work) → IsName anchors name → Related v w
      → Same Related (enter at name p v) (other at name p w)) where
    met_alike : (holder : ℕ) (at : Place) (name : List ℕ) (found : Option ℕ) (p : Progress) (v w : Work)
        → IsName anchors name → Related v w
        → Same Related (with_met enter holder at name found p v) (with_met other holder at name found p w)
    met_alike holder at name (Some number) p v w is related = record { work = related; result = refl }
    met_alike holder at name None p v w is related =
        let end : Progress → Work → Outcome Progress =
        λ more after. outcome after (Ok (with_membership holder (length p.groups) more)) in
        goes_same Related (enter at name p v) (other at name p w) end end (agree at name p v w is related)
        (λ more x y got so. record { work = so; result = refl })

    classed_alike : (holder : ℕ) (at : Place) (found : Found) (class : Class) (p : Progress) (v w : Work)
        → IsName anchors found.name → Related v w
        → Same Related (with_classed in_one enter holder at found class p v)
        (with_classed in_two other holder at found class p w)
    classed_alike holder at found classes.Cm p v w is related =
        met_alike holder at found.name (number_of p found.name) p v w is related
    classed_alike holder at found classes.Sml p v w is related = record {
      work = related;
      result = ap (λ (file : Option (List ℕ)). (there at found.name file >>= within_size found.name)
          >>= λ source. with_source holder found.name found.options source p) (file_alike found.name is v w related);
    }

    plain_alike : (holder : ℕ) (holder_name : List ℕ) (member : MemberEntry) (p : Progress) (v w : Work) → Related v w
        → Same Related (with_plain_member in_one enter holder holder_name member p v)
        (with_plain_member in_two other holder holder_name member p w)
    plain_alike holder holder_name member p v w related =
        let found = found_of anchors holder_name member in
        goes_same Related (outcome v found) (outcome w found)
        (λ found after. with_classed in_one enter holder member.at found found.class p after)
        (λ found after. with_classed in_two other holder member.at found found.class p after)
        (record { work = related; result = refl })
        (λ found x y is so. classed_alike holder member.at found found.class p x y
        ((goes_by_names anchors).member holder_name member found is) so)

    member_of_alike : (holder : ℕ) (holder_name : List ℕ) (member : MemberEntry) (tool : Option (List ℕ × List ℕ))
        (p : Progress) (v w : Work) → Related v w
        → Same Related (with_member_of in_one enter holder holder_name member tool p v)
        (with_member_of in_two other holder holder_name member tool p w)
    member_of_alike holder holder_name member None p v w related = plain_alike holder holder_name member p v w related
    member_of_alike holder holder_name member (Some tool) p v w related =
        tool_alike holder holder_name member tool p v w related

    unless_skipped : (b : Bool) (x y : Outcome Progress) (p : Progress) (v w : Work) → Related v w → Same Related x y
        → Same Related (if b then outcome v (Ok p) else x) (if b then outcome w (Ok p) else y)
    unless_skipped true x y p v w related same = record { work = related; result = refl }
    unless_skipped false x y p v w related same = same

    member_alike : (holder : ℕ) (holder_name : List ℕ) (member : MemberEntry) (p : Progress) (v w : Work) → Related v w
        → Same Related (with_member in_one enter holder holder_name member p v)
        (with_member in_two other holder holder_name member p w)
    member_alike holder holder_name member p v w related =
        unless_skipped (is_skipped anchors member)
        (with_member_of in_one enter holder holder_name member (tool_of rules member) p v)
        (with_member_of in_two other holder holder_name member (tool_of rules member) p w) p v w related
        (member_of_alike holder holder_name member (tool_of rules member) p v w related)

    members_alike : (holder : ℕ) (holder_name : List ℕ) (members : List MemberEntry) (p : Progress) (v w : Work)
        → Related v w
        → Same Related (with_members in_one enter holder holder_name members p v)
        (with_members in_two other holder holder_name members p w)
    members_alike holder holder_name [] p v w related = record { work = related; result = refl }
    members_alike holder holder_name (member ∷ members) p v w related =
        goes_same Related (with_member in_one enter holder holder_name member p v)
        (with_member in_two other holder holder_name member p w)
        (λ more after. with_members in_one enter holder holder_name members more after)
        (λ more after. with_members in_two other holder holder_name members more after)
        (member_alike holder holder_name member p v w related)
        (λ more x y is so. members_alike holder holder_name members more x y so)

    chosen_alike : (name : List ℕ) (d : Description) (p : Progress) (items : List ℕ) (v w : Work) → Related v w
        → Same Related (with_chosen in_one enter name d p items v) (with_chosen in_two other name d p items w)
    chosen_alike name d p items v w related =
        let end : Progress → Work → Outcome Progress = λ more after. outcome after (Ok (with_finished (length p.groups) more)) in
        goes_same Related
        (with_members in_one enter (length p.groups) name (chosen_members d items) (with_begun (begun name d) p) v)
        (with_members in_two other (length p.groups) name (chosen_members d items) (with_begun (begun name d) p) w) end end
        (members_alike (length p.groups) name (chosen_members d items) (with_begun (begun name d) p) v w related)
        (λ more x y is so. record { work = so; result = refl })

    group_alike : (name : List ℕ) (d : Description) (p : Progress) (v w : Work) → Related v w
        → Same Related (with_described in_one enter name d p v) (with_described in_two other name d p w)
    group_alike name d p v w related =
        let items = chosen_items defs [] d.member_lines in
        goes_same Related (outcome v items) (outcome w items)
        (λ items after. with_chosen in_one enter name d p items after)
        (λ items after. with_chosen in_two other name d p items after)
        (record { work = related; result = refl })
        (λ items x y is so. chosen_alike name d p items x y so)

    entered_alike : (at : Place) (name : List ℕ) (p : Progress) (v w : Work) → IsName anchors name → Related v w
        → Same Related (with_entered in_one enter at name p v) (with_entered in_two other at name p w)
    entered_alike at name p v w is related =
        goes_same Related (outcome v (described in_one at name p v)) (outcome w (described in_two at name p w))
        (λ d after. with_described in_one enter name d p after)
        (λ d after. with_described in_two other name d p after)
        (record { work = related; result = described_alike at name p v w is related })
        (λ d x y got so. group_alike name d p x y so)

  -- ---- groups in groups

  levels_alike : (levels : ℕ) (at : Place) (name : List ℕ) (p : Progress) (v w : Work) → IsName anchors name
      → Related v w → Same Related (entered_within in_one levels at name p v) (entered_within in_two levels at name p w)
  unfolding entered_within
  levels_alike zero at name p v w is related = record { work = related; result = refl }
  levels_alike (suc levels) at name p v w is related =
      entered_alike (entered_within in_one levels) (entered_within in_two levels) (levels_alike levels)
      at name p v w is related

  below_alike : (at : Place) (name : List ℕ) (p : Progress) (v w : Work) → IsName anchors name
      → Related v w → Same Related (entered in_one at name p v) (entered in_two at name p w)
  unfolding entered
  below_alike at name p v w is related = levels_alike 513 at name p v w is related

  -- ---- from ROOT on

  root_alike : (name : List ℕ) (v w : Work) → IsName anchors name → Related v w
      → Same Related (with_root in_one name v) (with_root in_two name w)
  root_alike name v w is related =
      goes_same Related (outcome v (described_by command_place name nothing (file_in in_one v name)))
      (outcome w (described_by command_place name nothing (file_in in_two w name)))
      (λ d after. with_described in_one (entered in_one) name d nothing after)
      (λ d after. with_described in_two (entered in_two) name d nothing after)
      (record { work = related; result = ap (described_by command_place name nothing) (file_alike name is v w related) })
      (λ d x y got so. group_alike (entered in_one) (entered in_two) below_alike name d nothing x y so)

  pub reached_alike : (root : List ℕ) (v w : Work) → Related v w
      → Same Related (reached_from in_one root v) (reached_from in_two root w)
  reached_alike root v w related =
      let named = root_name anchors root in
      goes_same Related (outcome v named) (outcome w named)
      (λ name after. with_root in_one name after) (λ name after. with_root in_two name after)
      (record { work = related; result = refl })
      (λ name x y is so. root_alike name x y ((goes_by_names anchors).root root name is) so)
