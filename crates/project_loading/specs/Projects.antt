-- The project of a folder: the groups and libraries to which ROOT leads and their sources, or the first refusal of
-- loading. Groups are read depth first, in the order of their members, from ROOT on (CM manual, groups and libraries;
-- the numbers of the refusals and their order are this project's). What a text says, what a path means and which
-- members are chosen is defined below this crate: `bindings_of`, `resolved`, `description_of`, `chosen_items`.
--
-- The order of the refusals, as one table. U is the name of a source, G that of a description, `command` stands for the
-- words of the command, and "member" for the member's place in its description. The last column is the definition.
--
--  step  what is refused                                       number       place             names
--  (a)   pathconfig; where there is none, nothing is bound                                               anchors_of
--   1    it has more than 65,536 bytes                         12           pathconfig:0:0    none
--   2    its first bad line                                    2, 16 to 18  there             as there
--  (b)   ROOT, a written path at the top                                                                 root_name
--   3    it passes a limit of paths                            12           command:0:0       none
--   4    what else refuses a path                              5, 6, 7, 18  command:0:0       the path
--  (c)   a group: ROOT, or a member of class `cm`                                                        with_group
--   5    its loading goes on; where it ended, it is a member   10           G:0:0             none       with_known
--        and nothing is read
--   6    its description isn't there, nor (but for ROOT) the   1            member, for ROOT  G          there
--        file G.stable                                                      command:0:0
--   7    it is the 513th group                                 12           G:0:0             none       counted
--   8    G.stable is there; that of ROOT isn't looked for      60           G.stable:0:0      none       described
--   9    its text: the size, then what makes it none           12, 2, 3, 19 there             as there   described_by
--  10    its member list, selected whole, with no modules      3, 4         the `#`           as there   with_described
--  (d)   each chosen member in turn; `$/basis.cm` and                                                    with_member
--        `$basis.cm/basis.cm` are skipped, where no anchor is `basis.cm`
--  11    its path passes a limit of paths                      12           G:0:0             none       member_name
--  12    what else refuses its path                            5, 6, 7, 18  member            the path   member_name
--  13    its class isn't known: the written one, else that of  8            member            the class, class_of
--        the ending of its name                                                               or U
--  14    its first option that the class hasn't                9            member            the option options_of
--        class `cm`: (c)
--  15    class `sml`: its file isn't there                     1            member            U          source_of
--  16    it has more than 1,048,576 bytes                      12           U:0:0             none       source_of
--  17    it is the 4,097th unit, or with it all sources have   12           U:0:0             none       with_source
--        more than 67,108,864 bytes
--  (e)   after all loading                                                                               checked
--  18    a unit is a member twice: the least name              11           U:0:0             none
--  19    a group is reached from two owners: the least name    15           G:0:0             none
--  20    where it is to be frozen: ROOT is no library          14           ROOT:0:0          none
--  21    .. a library below isn't frozen: the least name       13           G:0:0             none
use Rattle.std.specs.Prelude.{◌≡◌, ◌≤◌, ℕ, zero, suc, ◌+◌, ◌==◌, ◌&&◌, ◌||◌, Bool, true, false, not, is_none, is_some, nat_eq, nat_lt, List, [], ◌∷◌, ◌++◌, map, length, Option, Some, None, Result, Ok, Err, slice_get, codes, filter, if◌then◌else◌}
use Rattle.std.specs.List.{list_any, find, filter_map, ends_with, enumerate_from, position}
use Rattle.std.specs.Option.{option_map_or}
use Rattle.std.specs.FinMap.{get}
use Rattle.std.specs.Ordering.{nat_cmp, is_lt}
use Rattle.std.specs.Cmp.Lexicographic.{slice_cmp}
use lib.Pointwise.{pointwise}
use Rattle.cm_base.specs.Diags.{whole_file, ◌>>=◌}
use Rattle.cm_base.specs.Files.{Files}
use Rattle.cm_base.specs.declared.diag.Diag.{Diag}
use Rattle.cm_base.specs.declared.diag.Place.{Place}
use Rattle.cm_base.specs.declared.record.Def.{Def}
use Rattle.cm_base.specs.declared.record.Options.{Options}
use Rattle.path_anchors.specs.Names.{Bindings, bound_to, resolved, folder_path_of}
use Rattle.path_anchors.specs.Pathconfig.{config_file, bindings_of}
use Rattle.description_values.specs.Choice.{chosen_items}
use Rattle.description_values.specs.Described.{description_of}
use Rattle.cm_description.specs.declared.description.Description.{Description}
use Rattle.cm_description.specs.declared.description.MemberEntry.{MemberEntry}
use Rattle.cm_description.specs.declared.loaded.Group.{Group}
use Rattle.cm_description.specs.declared.loaded.Project.{Project}
use Rattle.cm_description.specs.declared.loaded.Unit.{Unit as LoadedUnit}
use Rattle.cm_description.specs.declared.loaded.UnitBody.TheVariants as body
use Rattle.project_checks.specs.Checks.{checked}
use Rattle.project_checks.specs.Loaded.{nothing, with_begun, with_finished, with_membership, with_unit}
use Rattle.project_loading.specs.declared.classes.Class.{Class}
use Rattle.project_loading.specs.declared.classes.Class.TheVariants as classes
use Rattle.project_loading.specs.declared.found.Found.{Found}
use Rattle.project_checks.specs.declared.limits.TheConstants.{PATHCONFIG, GROUPS, UNITS, SOURCE, ALL_SOURCES}
use Rattle.project_checks.specs.declared.progress.Membership.{Membership}
use Rattle.project_checks.specs.declared.progress.Progress.{Progress}

-- ---- places and files

-- what a loading reads, and by which anchors and definitions
pub record Setting : Type 0 where
  pub files : Files
  pub anchors : Bindings
  pub defs : List Def

abbrev pub setting_of : Files → Bindings → List Def → Setting
setting_of files anchors defs = record { files = files; anchors = anchors; defs = defs }

-- the file of a diagnostic on the words of a command
unfoldable pub command_file : List ℕ
command_file = codes "command"

-- .. and its place
abbrev pub command_place : Place
command_place = record { file = command_file; line = 0; col = 0 }

-- a refusal at a place, with one name
abbrev pub refused : ℕ → Place → List ℕ → Diag
refused number at name = record { number = number; at = at; names = name ∷ [] }

-- the file of a name
abbrev pub file_of : Setting → List ℕ → Option (List ℕ)
file_of setting name = get setting.files (folder_path_of setting.anchors name)

-- the bytes of a file that is there, or 1
abbrev pub there : Place → List ℕ → Option (List ℕ) → Result (List ℕ) Diag
there at name None = Err (refused 1 at name)
there at name (Some bytes) = Ok bytes

-- ---- (a) anchors

abbrev pub bound_by : Option (List ℕ) → Result Bindings Diag
bound_by None = Ok []
bound_by (Some text) = if nat_lt PATHCONFIG (length text) then Err (whole_file 12 config_file) else bindings_of text

-- the anchors that the folder's pathconfig binds, or its refusal
abbrev pub anchors_of : Files → Result Bindings Diag
anchors_of files = bound_by (get files config_file)

-- ---- written paths

-- a refusal of a path that stands in a file: a limit is refused on the file as a whole, without the path
abbrev pub path_refusal : Place → List ℕ → ℕ → Diag
path_refusal at written number = if number == 12 then whole_file 12 at.file else refused number at written

-- the name that a path has, or its refusal
abbrev pub or_refused : Place → List ℕ → Result (List ℕ) ℕ → Result (List ℕ) Diag
or_refused at written (Ok name) = Ok name
or_refused at written (Err number) = Err (path_refusal at written number)

-- (b) the name of ROOT, which is written at the top
abbrev pub root_name : Bindings → List ℕ → Result (List ℕ) Diag
root_name anchors root = or_refused command_place root (resolved anchors [] root)

-- the name of a member's file: its path is taken where the description of this name lies
abbrev pub member_name : Bindings → List ℕ → MemberEntry → Result (List ℕ) Diag
member_name anchors holder member = or_refused member.at member.path (resolved anchors holder member.path)

-- the two ways to write the description of the initial basis
unfoldable pub is_basis_path : List ℕ → Bool
is_basis_path written =
    pointwise nat_eq written (codes "$/basis.cm") || pointwise nat_eq written (codes "$basis.cm/basis.cm")

unfoldable pub basis_anchor : List ℕ
basis_anchor = codes "basis.cm"

-- a member that is skipped: each source sees the initial basis, so it is asked for where an anchor has its name alone
abbrev pub is_skipped : Bindings → MemberEntry → Bool
is_skipped anchors member = is_basis_path member.path && is_none (bound_to anchors basis_anchor)

-- ---- classes and options

-- the class that a word names
unfoldable pub class_named : List ℕ → Option Class
class_named word =
    if pointwise nat_eq word (codes "sml") then Some classes.Sml
    else (if pointwise nat_eq word (codes "cm") then Some classes.Cm else None)

-- the class that a file's name has by its ending
unfoldable pub class_by_ending : List ℕ → Option Class
class_by_ending name =
    if ends_with nat_eq name (codes ".sml")
    || (ends_with nat_eq name (codes ".sig") || ends_with nat_eq name (codes ".fun")) then Some classes.Sml
    else (if ends_with nat_eq name (codes ".cm") then Some classes.Cm else None)

-- a class, or 8 with what has none
abbrev pub known : Place → List ℕ → Option Class → Result Class Diag
known at name None = Err (refused 8 at name)
known at name (Some class) = Ok class

-- the class of a member: the one that is written, and else that of the ending of its name
abbrev pub class_by : Place → List ℕ → Option (List ℕ) → Result Class Diag
class_by at name None = known at name (class_by_ending name)
class_by at name (Some word) = known at word (class_named word)

abbrev pub class_of : MemberEntry → List ℕ → Result Class Diag
class_of member name = class_by member.at name member.class

unfoldable pub is_nobasis : List ℕ → Bool
is_nobasis option = pointwise nat_eq option (codes "nobasis")

unfoldable pub is_opaque : List ℕ → Bool
is_opaque option = pointwise nat_eq option (codes "opaque")

-- the options of a class
abbrev pub has_option : Class → List ℕ → Bool
has_option classes.Sml option = is_nobasis option || is_opaque option
has_option classes.Cm option = false

-- what the options of a member set, or 9 with the first one that its class hasn't
abbrev pub set_unless : Place → List (List ℕ) → Option (List ℕ) → Result Options Diag
set_unless at options None = Ok (record { nobasis = list_any is_nobasis options; opaque = list_any is_opaque options })
set_unless at options (Some option) = Err (refused 9 at option)

abbrev pub options_of : MemberEntry → Class → Result Options Diag
options_of member class =
    set_unless member.at member.options (find (λ option. not (has_option class option)) member.options)

-- what a member is found to be, or its first refusal: a file of a class, with options
abbrev pub found_of : Bindings → List ℕ → MemberEntry → Result Found Diag
found_of anchors holder member =
    member_name anchors holder member >>= λ name.
    class_of member name >>= λ class.
    options_of member class >>= λ options.
    Ok (record { name = name; class = class; options = options })

-- ---- sources

-- the source of a member, or 1, or 12 for its size
abbrev pub within_size : List ℕ → List ℕ → Result (List ℕ) Diag
within_size name source = if nat_lt SOURCE (length source) then Err (whole_file 12 name) else Ok source

abbrev pub source_of : Setting → Place → List ℕ → Result (List ℕ) Diag
source_of setting at name = there at name (file_of setting name) >>= λ source. within_size name source

abbrev pub source_unit : List ℕ → ℕ → Options → List ℕ → LoadedUnit
source_unit name group options source = record { name = name; group = group; body = body.Source options source }

-- with one unit more, which is met in the group of a number; or 12 for the number of units or the sum of the sources
abbrev pub passes_limits : Progress → ℕ → Bool
passes_limits p bytes = nat_lt UNITS (length p.units + 1) || nat_lt ALL_SOURCES (p.sum + bytes)

abbrev pub with_source : ℕ → List ℕ → Options → List ℕ → Progress → Result Progress Diag
with_source group name options source p =
    if passes_limits p (length source) then Err (whole_file 12 name)
    else Ok (with_unit (source_unit name group options source) (length source) p)

-- ---- groups

-- the number of the group of a name, if its loading began
abbrev pub number_of : Progress → List ℕ → Option ℕ
number_of p name = position (pointwise nat_eq name) (map (λ group. group.file) p.groups)

-- whether the loading of a group ended
abbrev pub is_finished : Progress → ℕ → Bool
is_finished p number = list_any (nat_eq number) p.finished

-- a group whose loading begins
abbrev pub begun : List ℕ → Description → Group
begun name d = record {
  file = name;
  library = d.library;
  owner = 0;
  entries = d.entries;
  export_lines = d.export_lines;
  thawed = None;
  units = [];
  members = [];
}

-- 12 for one group too many
abbrev pub counted : List ℕ → Progress → Result (Unit {0}) Diag
counted name p = if nat_lt GROUPS (length p.groups + 1) then Err (whole_file 12 name) else Ok tt

-- the frozen file of a description has its name and `.stable`, and lies beside it
unfoldable pub frozen : List ℕ → List ℕ
frozen path = path ++ codes ".stable"

abbrev pub is_frozen : Setting → List ℕ → Bool
is_frozen setting name = is_some (get setting.files (frozen (folder_path_of setting.anchors name)))

-- the description that a file is, where it is there and one group more has room
abbrev pub described_by : Place → List ℕ → Progress → Option (List ℕ) → Result Description Diag
described_by at name p file =
    there at name file >>= λ text. counted name p >>= λ room. description_of name text

-- .. of a group that is a member, and whose loading is to begin
abbrev pub described : Setting → Place → List ℕ → Progress → Result Description Diag
described setting at name p =
    if is_frozen setting name then (counted name p >>= λ room. Err (whole_file 60 (frozen name)))
    else described_by at name p (file_of setting name)

-- the members that are chosen, in order
abbrev pub chosen_members : Description → List ℕ → List MemberEntry
chosen_members d items = filter_map (λ item. slice_get d.members item) items

-- what loading a group makes of what was loaded before: a member at a place, of a name that wasn't met yet
abbrev pub Entering : Type 0
Entering = Place → List ℕ → Progress → Result Progress Diag

-- With a group as a member of the group of a number. It is entered where its loading never began; it is 10 where that
-- goes on; and where it ended, nothing is read.
abbrev pub with_known : ℕ → ℕ → List ℕ → Bool → Progress → Result Progress Diag
with_known holder number name done p =
    if done then Ok (with_membership holder number p) else Err (whole_file 10 name)

abbrev pub with_met : Entering → ℕ → Place → List ℕ → Option ℕ → Progress → Result Progress Diag
with_met enter holder at name (Some number) p = with_known holder number name (is_finished p number) p
with_met enter holder at name None p =
    enter at name p >>= λ more. Ok (with_membership holder (length p.groups) more)

abbrev pub with_group : Entering → ℕ → Place → List ℕ → Progress → Result Progress Diag
with_group enter holder at name p = with_met enter holder at name (number_of p name) p

-- with what a member of the group of a number is found to be
abbrev pub with_classed : Setting → Entering → ℕ → Place → Found → Class → Progress → Result Progress Diag
with_classed setting enter holder at found classes.Cm p = with_group enter holder at found.name p
with_classed setting enter holder at found classes.Sml p =
    source_of setting at found.name >>= λ source. with_source holder found.name found.options source p

abbrev pub with_found : Setting → Entering → ℕ → Place → Found → Progress → Result Progress Diag
with_found setting enter holder at found p = with_classed setting enter holder at found found.class p

-- with a member of the group of a number and a name
abbrev pub with_member : Setting → Entering → ℕ → List ℕ → MemberEntry → Progress → Result Progress Diag
with_member setting enter holder holder_name member p =
    if is_skipped setting.anchors member then Ok p
    else (found_of setting.anchors holder_name member >>= λ found.
    with_found setting enter holder member.at found p)

-- .. and with several, in order
abbrev pub with_members : Setting → Entering → ℕ → List ℕ → List MemberEntry → Progress → Result Progress Diag
with_members setting enter holder holder_name [] p = Ok p
with_members setting enter holder holder_name (member ∷ members) p =
    with_member setting enter holder holder_name member p >>= λ more.
    with_members setting enter holder holder_name members more

-- with the group of a name that is described so, and all that its members lead to
abbrev pub with_described : Setting → Entering → List ℕ → Description → Progress → Result Progress Diag
with_described setting enter name d p =
    chosen_items setting.defs [] d.member_lines >>= λ items.
    with_members setting enter (length p.groups) name (chosen_members d items) (with_begun (begun name d) p) >>= λ more.
    Ok (with_finished (length p.groups) more)

-- with a group that is a member, where groups below it are loaded so
abbrev pub with_entered : Setting → Entering → Entering
with_entered setting enter at name p =
    described setting at name p >>= λ d. with_described setting enter name d p

-- Groups in groups, so many deep. None is entered twice, and the 513th is refused, so that 513 levels are all.
unfoldable pub entered_within : Setting → ℕ → Entering
entered_within setting zero at name p = Err (whole_file 12 name)
entered_within setting (suc levels) at name p = with_entered setting (entered_within setting levels) at name p

unfoldable pub entered : Setting → Entering
entered setting at name p = entered_within setting 513 at name p

-- more levels change nothing, so a group is loaded as those below it are
pub record LoadsEachLevel (setting : Setting) : Type 0 where
  pub level : (at : Place) (name : List ℕ) (p : Progress)
      → entered setting at name p ≡ with_entered setting (entered setting) at name p
  pub further : (levels : ℕ) (at : Place) (name : List ℕ) (p : Progress) → 513 ≤ levels
      → entered_within setting levels at name p ≡ entered setting at name p

abbrev pub LoadingIsWhole : Type 0
LoadingIsWhole = (setting : Setting) → LoadsEachLevel setting

-- ---- projects

-- ROOT is always read from its description
abbrev pub with_root : Setting → List ℕ → Result Progress Diag
with_root setting name =
    described_by command_place name nothing (file_of setting name) >>= λ d.
    with_described setting (entered setting) name d nothing

abbrev pub loaded_from : Setting → List ℕ → Bool → Result Project Diag
loaded_from setting root freezing =
    root_name setting.anchors root >>= λ name.
    with_root setting name >>= λ p.
    checked freezing p

-- the project of ROOT under the definitions of a command, or the first refusal; whether it is to be frozen
abbrev pub project_of : Files → List Def → List ℕ → Bool → Result Project Diag
project_of files defs root freezing =
    anchors_of files >>= λ anchors.
    loaded_from (setting_of files anchors defs) root freezing
