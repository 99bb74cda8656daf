-- The bare unit of a source fits its format, so it has a code.
use Rattle.std.proofs.Common.{◌≡◌, Result, Ok, Err, refl}
use Rattle.cm_base.specs.Diags.{◌>>=◌}
use Rattle.cm_base.specs.declared.diag.Diag.{Diag}
use Rattle.sml_trees.specs.declared.full_unit.FullUnit.{FullUnit}
use Rattle.sml_trees.specs.declared.unit.BareUnit.{BareUnit}
use Rattle.module_parser.specs.Parsing.{parsed_unit}
use Rattle.module_parser.proofs.UnitLaws.{parsed_is_unit}
use Rattle.derived_forms.specs.Bare.{bare_unit}
use Rattle.code_laws.proofs.Units.{low_units}
use Rattle.bare_codes.proofs.Given.{given_plain, given_low}
use Rattle.constant_laws.proofs.Units.{constants_fit}
use Rattle.name_laws.proofs.Units.{names_fit}
use Rattle.source_codes.specs.Promises.{SourcesFitFormat, FitUnitsHaveCodes, SourcesHaveCodes}

-- what is made bare was parsed
both : (parsed : Result FullUnit Diag) (bare : BareUnit) → parsed >>= bare_unit ≡ Ok bare
    → (unit : FullUnit) × (parsed ≡ Ok unit) × (bare_unit unit ≡ Ok bare)
both (Ok unit) bare is = (unit, refl, is)
both (Err diag) bare is = absurd (cc)

pub sources_fit : SourcesFitFormat
sources_fit file source bare bytes is =
    let (unit, parsed, made) = both (parsed_unit file source) bare is in
    let read = parsed_is_unit file source unit parsed in
    record {
      sequences = given_plain unit bare made;
      constants = constants_fit file source unit bare bytes read made;
      names = names_fit file source unit bare bytes read made;
      levels = given_low unit bare made;
    }

pub fit_units : FitUnitsHaveCodes
fit_units bare fits small = low_units bare fits.sequences fits.constants fits.levels small

pub sources_read : SourcesHaveCodes
sources_read file source bare bytes is small = fit_units bare (sources_fit file source bare bytes is) small
