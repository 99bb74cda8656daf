-- What the compiler sees of a unit: its source and options, and the interfaces that this build gave to the units that
-- provide its names.
use Rattle.std.specs.Prelude.{ℕ, ◌+◌, ◌||◌, Bool, nat_lt, nat_eq, List, [], ◌∷◌, Option, Some, None, map, length, sum_by, if◌then◌else◌}
use Rattle.std.specs.Option.{option_or}
use lib.Pointwise.{pointwise}
use Rattle.cm_base.specs.declared.record.CompileInput.{CompileInput}
use Rattle.cm_base.specs.declared.record.Compiled.{Compiled}
use Rattle.cm_base.specs.declared.record.Given.{Given}
use Rattle.cm_base.specs.declared.record.How.TheVariants as how
use Rattle.cm_base.specs.declared.record.Import.{Import}
use Rattle.cm_base.specs.declared.record.BuiltUnit.{BuiltUnit}
use Rattle.cm_base.specs.declared.record.PlannedUnit.{PlannedUnit}
use Rattle.cm_base.specs.declared.record.WantedName.{WantedName}
use Rattle.cm_bytes.specs.Hashes.{hash_of}
use Rattle.build_laws.specs.declared.limits.TheConstants.{INTERFACE, CODE, ALL_INTERFACES}

-- the unit of this name among those that are done: the last one, of several
abbrev pub done_unit : List BuiltUnit → List ℕ → Option BuiltUnit
done_unit [] name = None
done_unit (unit ∷ units) name = option_or (done_unit units name) (if pointwise nat_eq unit.unit name then Some unit else None)

-- a name with its provider, and the hash and the interface that this build gave to the provider
abbrev pub given_by : WantedName → BuiltUnit → Given
given_by wanted unit = record {
  import = record { name = wanted.name; provider = wanted.provider; hash = unit.hash };
  interface = unit.interface;
}

-- .. before others, where the provider is done, as it always is in an order of the units
abbrev pub with_given : WantedName → Option BuiltUnit → List Given → List Given
with_given wanted None givens = givens
with_given wanted (Some unit) givens = given_by wanted unit ∷ givens

-- what a unit is given for the names that it wants, in their order
abbrev pub givens_of : List BuiltUnit → List WantedName → List Given
givens_of before [] = []
givens_of before (wanted ∷ more) = with_given wanted (done_unit before wanted.provider) (givens_of before more)

-- the imports of some given interfaces
abbrev pub imports_in : List Given → List Import
imports_in givens = map (λ given. given.import) givens

-- what the compiler sees of a unit
abbrev pub input_of : PlannedUnit → List Given → CompileInput
input_of planned givens = record { unit = planned.unit; options = planned.options; source = planned.source; imports = givens }

abbrev pub input_after : List BuiltUnit → PlannedUnit → CompileInput
input_after before planned = input_of planned (givens_of before planned.wanted)

-- how many bytes the interfaces of some units have
abbrev pub interface_bytes : List BuiltUnit → ℕ
interface_bytes units = sum_by (λ unit. length unit.interface) units

-- whether an interface or a code passes its limit, or the interface lets the sum of all pass its own
abbrev pub is_too_large : ℕ → Compiled → Bool
is_too_large before made =
    nat_lt INTERFACE (length made.interface) || (nat_lt CODE (length made.code)
    || nat_lt ALL_INTERFACES (before + length made.interface))

-- a unit that was compiled of an input
abbrev pub built_unit : CompileInput → Compiled → BuiltUnit
built_unit input made = record {
  unit = input.unit;
  how = how.Compiled;
  imports = imports_in input.imports;
  hash = hash_of made.interface;
  interface = made.interface;
  code = made.code;
}
