-- What the compiler defines of a unit: its interface and its code, or the diagnostic that refuses it. That is the
-- first of these that there is:
--   the first diagnostic of the source
--   50 at the unit as a whole, with the provider's name, for the first import whose interface can't be used
--   the first diagnostic of elaboration, in the basis that the options allow and in front of it the imported names
--   12 at the unit as a whole, where the interface has more than 1,048,576 bytes or the code more than 8,388,608
-- Interface and code hang on what the unit is handed alone, and not on what was compiled before it.
use Rattle.std.specs.Prelude.{ℕ, nat_lt, if◌then◌else◌, List, length, ◌||◌, Option, Some, None, Result, Ok, Err}
use Rattle.cm_base.specs.Diags.{whole_file, ◌>>=◌}
use Rattle.cm_base.specs.declared.diag.Diag.{Diag}
use Rattle.cm_base.specs.declared.record.Options.{Options}
use Rattle.cm_base.specs.declared.record.CompileInput.{CompileInput}
use Rattle.cm_base.specs.declared.record.Compiled.{Compiled}
use Rattle.sml_trees.specs.declared.unit.BareUnit.{BareUnit}
use Rattle.module_parser.specs.Parsing.{parsed_unit}
use Rattle.derived_forms.specs.Bare.{bare_unit}
use Rattle.sml_syntax.specs.Code.{code_of}
use Rattle.semantic_objects.specs.Environments.{Top}
use Rattle.realisation.specs.Canonical.{canonical}
use Rattle.interface_format.specs.Interfaces.{interface_bytes}
use Rattle.initial_basis.specs.Basis.{basis_env}
use Rattle.imported_interfaces.specs.Imported.{Imports, imported}
use Rattle.static_semantics.specs.Inferring.{Answer}
use Rattle.unit_semantics.specs.UnitPhrases.{unit_phrases}
use Rattle.module_elab.specs.Units.{unit_alone}

-- the bare unit of a source, or its first diagnostic; diagnostics name the unit as their file
abbrev pub bare_of_source : List ℕ → List ℕ → Result BareUnit Diag
bare_of_source unit source = parsed_unit unit source >>= bare_unit

-- what inference gives. Of the unit of a source it gives nothing only past 2^64 - 1 levels of a unification, where a
-- compiler wants memory: as no call ever answers that, it may be anything, and is 12 at the unit
abbrev pub inferred_or : List ℕ → Answer (Top × ℕ) → Result Top Diag
inferred_or unit None = Err (whole_file 12 unit)
inferred_or unit (Some (Err diag)) = Err diag
inferred_or unit (Some (Ok made)) = Ok made.0

-- what a unit defines, over the basis and what it sees of its imports; what they give is not among it
abbrev pub defined_by : List ℕ → Options → Top → BareUnit → Result Top Diag
defined_by unit options given bare =
    inferred_or unit (unit_alone unit (basis_env options.nobasis) given options.opaque (unit_phrases bare))

-- the interface: names and variables are numbered by first occurrence
abbrev pub interface_of : List ℕ → Top → List ℕ
interface_of unit top = interface_bytes unit (canonical unit top)

-- interface and code, where they are within their limits
abbrev pub within_limits : List ℕ → List ℕ → List ℕ → Result Compiled Diag
within_limits unit interface code =
    if nat_lt 1048576 (length interface) || nat_lt 8388608 (length code)
    then Err (whole_file 12 unit)
    else Ok (record { interface = interface; code = code })

abbrev pub compiled_top : List ℕ → BareUnit → Top → Result Compiled Diag
compiled_top unit bare top = within_limits unit (interface_of unit top) (code_of bare)

-- of a bare unit and what it sees of its imports
abbrev pub compiled_seeing : CompileInput → BareUnit → Imports → Result Compiled Diag
compiled_seeing input bare made = defined_by input.unit input.options made.top bare >>= compiled_top input.unit bare

abbrev pub compiled_bare : CompileInput → BareUnit → Result Compiled Diag
compiled_bare input bare = imported input.unit input.imports >>= compiled_seeing input bare

-- the interface and code of a unit
abbrev pub compiled_of : CompileInput → Result Compiled Diag
compiled_of input = bare_of_source input.unit input.source >>= compiled_bare input
