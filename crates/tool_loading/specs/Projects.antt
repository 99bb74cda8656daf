-- The project of a folder whose members may be of tools' classes: the groups and libraries to which ROOT leads and their
-- sources, or the first refusal of loading; and the uses of tools in load order, up to the refusal. All but these members
-- is as in `project_loading`, whose table of refusals goes on so, in the place of its steps 13 to 17, where a tool has
-- the class that is written:
--
--  step  what is refused                                       number       place             names
--  13    nothing: a tool has the class. `sml` and `cm` are never a tool's                                tool_of
--  14    its first option                                      9            member            the option no_options
--  15    its file isn't there                                  1            member            U          there
--  16    the input has more than 1,048,576 bytes; no use       12           U:0:0             none       source_by
--        then the use
--  16b   the text that it gives has more; the use stands       12           U:0:0             none       source_by
--  17    as for sources, with the text that is derived         12           U:0:0             none       with_source
use Rattle.std.specs.Prelude.{ℕ, zero, suc, Bool, false, is_some, List, [], ◌∷◌, length, Option, None, Some, Result, Ok, Err, if◌then◌else◌}
use Rattle.std.specs.FinMap.{get}
use Rattle.std.specs.Option.{option_map}
use Rattle.cm_base.specs.Derived.{ToolRules}
use Rattle.cm_base.specs.Diags.{whole_file, ◌>>=◌}
use Rattle.cm_base.specs.Files.{Files}
use Rattle.cm_base.specs.declared.diag.Diag.{Diag}
use Rattle.cm_base.specs.declared.diag.Place.{Place}
use Rattle.cm_base.specs.declared.record.Def.{Def}
use Rattle.cm_base.specs.declared.record.Options.{Options}
use Rattle.path_anchors.specs.Names.{Bindings, folder_path_of}
use Rattle.path_anchors.specs.Pathconfig.{config_file}
use Rattle.description_values.specs.Choice.{chosen_items}
use Rattle.cm_description.specs.declared.description.Description.{Description}
use Rattle.cm_description.specs.declared.description.MemberEntry.{MemberEntry}
use Rattle.cm_description.specs.declared.loaded.Project.{Project}
use Rattle.project_checks.specs.Checks.{checked}
use Rattle.project_checks.specs.Loaded.{nothing, with_begun, with_finished, with_membership}
use Rattle.project_checks.specs.declared.progress.Progress.{Progress}
use Rattle.project_loading.specs.Projects.{begun, bound_by, chosen_members, command_place, counted, described_by, found_of, frozen, is_finished, is_skipped, member_name, number_of, refused, root_name, there, with_known, with_source, within_size}
use Rattle.project_loading.specs.declared.classes.Class.{Class}
use Rattle.project_loading.specs.declared.classes.Class.TheVariants as classes
use Rattle.project_loading.specs.declared.found.Found.{Found}
use Rattle.tool_deriving.specs.Deriving.{ToolUse, tool_use}
use Rattle.tool_deriving.specs.Toolboxes.{is_built_in}
use Rattle.member_deriving.specs.Classes.{rule_named}
use Rattle.member_deriving.specs.Sources.{Texts, source_by, texts_by_rules, texts_over_stores}
use Rattle.member_deriving.specs.Uses.{Outcome, Work, outcome, work_of, ◌>>◌}

-- ---- how a folder is seen

-- how loading reads a file by its path, and how the text of a use comes
pub record Means : Type 0 where
  pub file : Work → List ℕ → Option (List ℕ)
  pub texts : Texts

-- the files as they were when loading began, and texts by the tools' rules alone
abbrev pub plain_means : Files → Means
plain_means files = record { file = λ work path. get files path; texts = texts_by_rules }

-- the folder as it stands, with the records that earlier uses left, and texts over its store
abbrev pub store_means : Means
store_means = record { file = λ work path. get work.files path; texts = texts_over_stores }

-- what a loading goes by: its means, the anchors, the definitions, and the classes and rules of the tools
pub record Setting : Type 0 where
  pub means : Means
  pub anchors : Bindings
  pub defs : List Def
  pub rules : ToolRules

abbrev pub setting_by : Means → ToolRules → List Def → Bindings → Setting
setting_by means rules defs anchors = record { means = means; anchors = anchors; defs = defs; rules = rules }

-- the bytes of the file of a name
abbrev pub file_in : Setting → Work → List ℕ → Option (List ℕ)
file_in setting work name = setting.means.file work (folder_path_of setting.anchors name)

-- ---- members of tools' classes

-- the class and the rule of the tool whose class is written, where one has it
abbrev pub tool_of_class : ToolRules → Option (List ℕ) → Option (List ℕ × List ℕ)
tool_of_class rules None = None
tool_of_class rules (Some class) =
    if is_built_in class then None else option_map (λ (rule : List ℕ). (class, rule)) (rule_named rules class)

abbrev pub tool_of : ToolRules → MemberEntry → Option (List ℕ × List ℕ)
tool_of rules member = tool_of_class rules member.class

-- a tool's class has no option
abbrev pub no_options : Place → List (List ℕ) → Result (Unit {0}) Diag
no_options at [] = Ok tt
no_options at (option ∷ options) = Err (refused 9 at option)

-- a unit that a tool makes has no options
abbrev pub without_options : Options
without_options = record { nobasis = false; opaque = false }

-- the name of the member of a tool's class, or the refusal of its path or its first option
abbrev pub tool_member_name : Bindings → List ℕ → MemberEntry → Result (List ℕ) Diag
tool_member_name anchors holder member =
    member_name anchors holder member >>= λ name. no_options member.at member.options >>= λ none. Ok name

-- with a use of a tool: its text is the source
abbrev pub with_use_of : Setting → ℕ → List ℕ → (List ℕ × List ℕ) → List ℕ → Progress → Work → Outcome Progress
with_use_of setting holder name tool input p work =
    source_by setting.means.texts (tool_use tool.0 tool.1 name input) work >> λ source after.
    outcome after (with_source holder name without_options source p)

-- .. of a name, whose file is the input
abbrev pub with_derived : Setting → ℕ → Place → (List ℕ × List ℕ) → List ℕ → Progress → Work → Outcome Progress
with_derived setting holder at tool name p work =
    outcome work (there at name (file_in setting work name)) >> λ input after.
    with_use_of setting holder name tool input p after

-- with a member of a tool's class, of the group of a number and a name
abbrev pub with_tool_member : Setting → ℕ → List ℕ → MemberEntry → (List ℕ × List ℕ) → Progress → Work
    → Outcome Progress
with_tool_member setting holder holder_name member tool p work =
    outcome work (tool_member_name setting.anchors holder_name member) >> λ name after.
    with_derived setting holder member.at tool name p after

-- ---- groups

-- what loading a group makes of what was loaded before
abbrev pub Entering : Type 0
Entering = Place → List ℕ → Progress → Work → Outcome Progress

-- the description of a group that is a member, and whose loading is to begin
abbrev pub is_frozen : Setting → Work → List ℕ → Bool
is_frozen setting work name = is_some (setting.means.file work (frozen (folder_path_of setting.anchors name)))

abbrev pub described : Setting → Place → List ℕ → Progress → Work → Result Description Diag
described setting at name p work =
    if is_frozen setting work name then (counted name p >>= λ room. Err (whole_file 60 (frozen name)))
    else described_by at name p (file_in setting work name)

-- the source of a member of class `sml`
abbrev pub source_in : Setting → Place → List ℕ → Work → Result (List ℕ) Diag
source_in setting at name work = there at name (file_in setting work name) >>= within_size name

-- with a group as a member of the group of a number
abbrev pub with_met : Entering → ℕ → Place → List ℕ → Option ℕ → Progress → Work → Outcome Progress
with_met enter holder at name (Some number) p work =
    outcome work (with_known holder number name (is_finished p number) p)
with_met enter holder at name None p work =
    enter at name p work >> λ more after. outcome after (Ok (with_membership holder (length p.groups) more))

-- with what a member of no tool's class is found to be
abbrev pub with_classed : Setting → Entering → ℕ → Place → Found → Class → Progress → Work → Outcome Progress
with_classed setting enter holder at found classes.Cm p work =
    with_met enter holder at found.name (number_of p found.name) p work
with_classed setting enter holder at found classes.Sml p work =
    outcome work (source_in setting at found.name work >>= λ source.
    with_source holder found.name found.options source p)

abbrev pub with_plain_member : Setting → Entering → ℕ → List ℕ → MemberEntry → Progress → Work → Outcome Progress
with_plain_member setting enter holder holder_name member p work =
    outcome work (found_of setting.anchors holder_name member) >> λ found after.
    with_classed setting enter holder member.at found found.class p after

-- with a member of the group of a number and a name
abbrev pub with_member_of : Setting → Entering → ℕ → List ℕ → MemberEntry → Option (List ℕ × List ℕ) → Progress → Work
    → Outcome Progress
with_member_of setting enter holder holder_name member None p work =
    with_plain_member setting enter holder holder_name member p work
with_member_of setting enter holder holder_name member (Some tool) p work =
    with_tool_member setting holder holder_name member tool p work

abbrev pub with_member : Setting → Entering → ℕ → List ℕ → MemberEntry → Progress → Work → Outcome Progress
with_member setting enter holder holder_name member p work =
    if is_skipped setting.anchors member then outcome work (Ok p)
    else with_member_of setting enter holder holder_name member (tool_of setting.rules member) p work

-- .. and with several, in order
abbrev pub with_members : Setting → Entering → ℕ → List ℕ → List MemberEntry → Progress → Work → Outcome Progress
with_members setting enter holder holder_name [] p work = outcome work (Ok p)
with_members setting enter holder holder_name (member ∷ members) p work =
    with_member setting enter holder holder_name member p work >> λ more after.
    with_members setting enter holder holder_name members more after

-- with the chosen members of a group that is described so
abbrev pub with_chosen : Setting → Entering → List ℕ → Description → Progress → List ℕ → Work → Outcome Progress
with_chosen setting enter name d p items work =
    with_members setting enter (length p.groups) name (chosen_members d items) (with_begun (begun name d) p) work
    >> λ more after. outcome after (Ok (with_finished (length p.groups) more))

-- with the group of a name that is described so, and all that its members lead to
abbrev pub with_described : Setting → Entering → List ℕ → Description → Progress → Work → Outcome Progress
with_described setting enter name d p work =
    outcome work (chosen_items setting.defs [] d.member_lines) >> λ items after.
    with_chosen setting enter name d p items after

-- with a group that is a member, where groups below it are loaded so
abbrev pub with_entered : Setting → Entering → Entering
with_entered setting enter at name p work =
    outcome work (described setting at name p work) >> λ d after. with_described setting enter name d p after

-- groups in groups, so many deep; 513 levels are all
unfoldable pub entered_within : Setting → ℕ → Entering
entered_within setting zero at name p work = outcome work (Err (whole_file 12 name))
entered_within setting (suc levels) at name p work =
    with_entered setting (entered_within setting levels) at name p work

unfoldable pub entered : Setting → Entering
entered setting at name p work = entered_within setting 513 at name p work

-- ---- projects

-- ROOT is always read from its description
abbrev pub with_root : Setting → List ℕ → Work → Outcome Progress
with_root setting name work =
    outcome work (described_by command_place name nothing (file_in setting work name)) >> λ d after.
    with_described setting (entered setting) name d nothing after

abbrev pub reached_from : Setting → List ℕ → Work → Outcome Progress
reached_from setting root work =
    outcome work (root_name setting.anchors root) >> λ name after. with_root setting name after

-- all that ROOT leads to by these means, from this work on
abbrev pub reached_by : Means → ToolRules → List Def → List ℕ → Work → Outcome Progress
reached_by means rules defs root work =
    outcome work (bound_by (means.file work config_file)) >> λ anchors after.
    reached_from (setting_by means rules defs anchors) root after

-- the project of what was loaded, or what is refused of it after all loading
abbrev pub finished_loading : Bool → Outcome Progress → Outcome Project
finished_loading freezing reached = outcome reached.work (reached.result >>= λ p. checked freezing p)

-- all that ROOT leads to in a folder, by rules alone
abbrev pub reached_in : Files → ToolRules → List Def → List ℕ → Outcome Progress
reached_in files rules defs root = reached_by (plain_means files) rules defs root (work_of files [])

-- The project of ROOT in a folder with these files, by tools of these classes and rules, under the definitions of a
-- command, or the first refusal; whether it is to be frozen. It knows no store.
abbrev pub project_of : Files → ToolRules → List Def → List ℕ → Bool → Result Project Diag
project_of files rules defs root freezing = (finished_loading freezing (reached_in files rules defs root)).result

-- the uses of tools in load order, up to the refusal
abbrev pub tool_uses : Files → ToolRules → List Def → List ℕ → List ToolUse
tool_uses files rules defs root = (reached_in files rules defs root).work.uses

-- the loading over a folder as it stands, whoever wrote its store
abbrev pub loaded_over : Files → ToolRules → List Def → List ℕ → Bool → Outcome Project
loaded_over files rules defs root freezing =
    finished_loading freezing (reached_by store_means rules defs root (work_of files []))
