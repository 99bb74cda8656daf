-- What a command means: the status, the output, the files afterwards, what the compiler is asked for, the interfaces of
-- the units that it builds, and the paths that it writes, with those of them outside the store. And what may be printed
-- where a fault of the folder or want of memory cuts it off.
use Rattle.std.specs.Prelude.{ℕ, nat_lt, List, [], ◌∷◌, ◌++◌, map, Option, Some, None, length, if◌then◌else◌}
use Rattle.std.specs.List.{flat_map}
use Rattle.std.specs.FinMap.{insert}
use Rattle.cm_base.specs.Files.{Files}
use Rattle.cm_base.specs.Diags.{whole_file}
use Rattle.cm_base.specs.declared.diag.Diag.{Diag}
use Rattle.cm_base.specs.declared.record.BuiltUnit.{BuiltUnit}
use Rattle.cm_base.specs.declared.record.How.{How}
use Rattle.cm_base.specs.declared.record.How.TheVariants as how
use Rattle.bin_store.specs.Paths.{linked_path}
use Rattle.linker.specs.Linked.{linked_program}
use Rattle.build_laws.specs.CutBuild.{Cut}
use Rattle.build_laws.specs.Storing.{unit_paths}
use Rattle.command_parts.specs.declared.limits.TheConstants.{LINKED}
use Rattle.command_parts.specs.declared.status.Status.{Status}
use Rattle.command_parts.specs.declared.status.Status.TheVariants as status
use Rattle.command_parts.specs.Lines.{usage_line, report}
use Rattle.command_parts.specs.ProjectBuild.{Prepared, Builder, built}

pub record Meaning : Type 0 where
  pub status : Status
  pub output : List ℕ
  pub cuts : List (List ℕ)
  pub files : Files
  pub asked : List (List ℕ)
  pub asked_skeletons : List (List ℕ)
  pub interfaces : List (List ℕ)
  pub paths : List (List ℕ)
  pub outside : List (List ℕ)

-- a command prints all at its end, so one that is cut off before has printed nothing
abbrev pub prints_last : List (List ℕ)
prints_last = [] ∷ []

-- words that mean nothing
abbrev pub usage : Files → Meaning
usage files = record {
  status = status.Usage;
  output = usage_line;
  cuts = prints_last;
  files = files;
  asked = [];
  asked_skeletons = [];
  interfaces = [];
  paths = [];
  outside = [];
}

-- ---- linking

-- a linked program that passes its limit is 12 at its file
unfoldable pub link_fault : List BuiltUnit → Option Diag
link_fault units = if nat_lt LINKED (length (linked_program units)) then Some (whole_file 12 linked_path) else None

-- how a build ends: with its diagnostic, or with that of linking
abbrev pub ended_with : Option Diag → List BuiltUnit → Option Diag
ended_with (Some diag) units = Some diag
ended_with None units = link_fault units

-- What success adds. A command may have a target, a path of the project: there the bytes are written too, each time.
abbrev pub then_write : Option (List ℕ) → List ℕ → Files → Files
then_write None bytes files = files
then_write (Some path) bytes files = insert files path bytes

-- the linked program is written where no diagnostic comes, and then at the target
abbrev pub with_linked : Option (List ℕ) → Option Diag → List BuiltUnit → Files → Files
with_linked target None units files =
    then_write target (linked_program units) (insert files linked_path (linked_program units))
with_linked target (Some diag) units files = files

-- .. at these paths
abbrev pub target_paths : Option (List ℕ) → List (List ℕ)
target_paths None = []
target_paths (Some path) = path ∷ []

abbrev pub linked_paths : Option (List ℕ) → Option Diag → List (List ℕ)
linked_paths target None = linked_path ∷ target_paths target
linked_paths target (Some diag) = []

-- ---- builds

abbrev pub status_of : Option Diag → Status
status_of None = status.Ok
status_of (Some diag) = status.Diagnostic

-- the interfaces of the units of a build
abbrev pub interfaces_in : List BuiltUnit → List (List ℕ)
interfaces_in units = map (λ unit. unit.interface) units

-- the paths that are written for a unit that came so: its interface's and its binfile's where it was compiled, and none
-- where it stood there already
abbrev pub paths_by : How → BuiltUnit → List (List ℕ)
paths_by how.Compiled unit = unit_paths unit
paths_by how.Loaded unit = []
paths_by how.Frozen unit = []

-- .. for the units of a build
abbrev pub paths_in : List BuiltUnit → List (List ℕ)
paths_in units = flat_map (λ unit. paths_by unit.how unit) units

-- how a build ends, its linking included
abbrev pub ended_in : Cut → Option Diag
ended_in cut = ended_with cut.ended cut.units

-- the paths that a build writes, its linking included
abbrev pub written_paths : Option (List ℕ) → Cut → List (List ℕ)
written_paths target cut = paths_in cut.units ++ linked_paths target (ended_in cut)

-- a build with a target or none, after so many skeletons were asked for
abbrev pub of_cut : Option (List ℕ) → List (List ℕ) → Cut → Meaning
of_cut target skeletons cut = record {
  status = status_of (ended_in cut);
  output = report cut.units (ended_in cut);
  cuts = prints_last;
  files = with_linked target (ended_in cut) cut.units cut.files;
  asked = cut.asked;
  asked_skeletons = skeletons;
  interfaces = interfaces_in cut.units;
  paths = written_paths target cut;
  outside = target_paths target;
}

-- a build of what is prepared: what every command means that builds
abbrev pub of_build : Builder → Files → Option (List ℕ) → Prepared → Meaning
of_build builds files target ready = of_cut target ready.asked_skeletons (built builds files ready.units)
