-- The lines that a command prints.
use Rattle.std.specs.Prelude.{ℕ, Bool, true, false, List, [], ◌∷◌, ◌++◌, Option, Some, None, codes, length, count_by}
use Rattle.std.specs.List.{flat_map}
use Rattle.std.specs.Fmt.{decimal}
use Rattle.cm_base.specs.declared.diag.Diag.{Diag}
use Rattle.cm_base.specs.declared.diag.Place.{Place}
use Rattle.cm_base.specs.declared.record.BuiltUnit.{BuiltUnit}
use Rattle.cm_base.specs.declared.record.How.{How}
use Rattle.cm_base.specs.declared.record.How.TheVariants as how
use Rattle.command_parts.specs.declared.status.Status.{Status}
use Rattle.command_parts.specs.declared.status.Status.TheVariants as status

-- `error: usage`
unfoldable pub usage_line : List ℕ
usage_line = codes "error: usage" ++ (10 ∷ [])

-- the line behind a command of a session that met no fault: its exit status. After a fault none is printed.
abbrev pub status_line : Status → List ℕ
status_line status.Ok = codes "[status 0]" ++ (10 ∷ [])
status_line status.Diagnostic = codes "[status 1]" ++ (10 ∷ [])
status_line status.Usage = codes "[status 2]" ++ (10 ∷ [])
status_line status.FolderFault = []
status_line status.SinkFault = []
status_line status.NoMemory = []
status_line status.ToolFault = []

-- each name of a diagnostic stands behind a space
abbrev pub spaced : List ℕ → List ℕ
spaced name = 32 ∷ name

-- a place: FILE:LINE:COL
unfoldable pub place_text : Place → List ℕ
place_text place = place.file ++ (58 ∷ (decimal place.line ++ (58 ∷ decimal place.col)))

-- a diagnostic: its place, `: error ` and its number, and its names
unfoldable pub diag_line : Diag → List ℕ
diag_line diag =
    place_text diag.at ++ (codes ": error " ++ (decimal diag.number ++ (flat_map spaced diag.names ++ (10 ∷ []))))

-- how a unit that is done came
abbrev pub how_word : How → List ℕ
how_word how.Compiled = codes "[compiling "
how_word how.Loaded = codes "[loading "
how_word how.Frozen = codes "[frozen "

-- the line of a unit that is done
unfoldable pub unit_line : BuiltUnit → List ℕ
unit_line unit = how_word unit.how ++ (unit.unit ++ (93 ∷ 10 ∷ []))

-- whether a unit came in one of these ways
abbrev pub same_how : How → How → Bool
same_how how.Compiled how.Compiled = true
same_how how.Compiled how.Loaded = false
same_how how.Compiled how.Frozen = false
same_how how.Loaded how.Compiled = false
same_how how.Loaded how.Loaded = true
same_how how.Loaded how.Frozen = false
same_how how.Frozen how.Compiled = false
same_how how.Frozen how.Loaded = false
same_how how.Frozen how.Frozen = true

-- how many units came so
abbrev pub count_of : How → List BuiltUnit → ℕ
count_of how units = count_by (λ unit. same_how unit.how how) units

-- how a build ended that had no diagnostic: how many units it has, and how many of them came in each way
unfoldable pub built_line : List BuiltUnit → List ℕ
built_line units =
    codes "[built: " ++ (decimal (length units) ++ (codes " units, " ++ (decimal (count_of how.Compiled units)
    ++ (codes " compiled, " ++ (decimal (count_of how.Loaded units) ++ (codes " loaded, "
    ++ (decimal (count_of how.Frozen units) ++ (codes " frozen]" ++ (10 ∷ [])))))))))

-- the report of a build: a line for each unit that is done, and the line that ends it
abbrev pub last_line : List BuiltUnit → Option Diag → List ℕ
last_line units None = built_line units
last_line units (Some diag) = diag_line diag

abbrev pub report : List BuiltUnit → Option Diag → List ℕ
report units ended = flat_map unit_line units ++ last_line units ended
