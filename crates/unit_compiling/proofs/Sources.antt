-- A source is read and made bare: the steps, each by cases on its answer.
use Rattle.std.proofs.Common.{ℕ, List, Result, Ok, Err, ap, ◌∙◌}
use Rattle.cm_base.specs.Calls.{Gives}
use Rattle.cm_base.specs.Diags.{◌>>=◌}
use Rattle.cm_base.specs.declared.fault.Fault.{Fault}
use Rattle.cm_base.specs.declared.fault.Fault.TheVariants as fault
use Rattle.sml_trees.specs.declared.full_unit.FullUnit.{FullUnit}
use Rattle.sml_trees.specs.declared.unit.BareUnit.{BareUnit}
use Rattle.module_parser.specs.Answers.{AnswersUnit}
use Rattle.module_parser.proofs.UnitLaws.{parses}
use Rattle.derived_forms.specs.Bare.{bare_unit, Answers}
use Rattle.unit_compiling.specs.Compiled.{bare_of_source}

-- a unit that was read, and what is answered of it
pub parsed_then : (file source : List ℕ) (full : FullUnit) (result : Result BareUnit Fault)
    → AnswersUnit file source (Ok full) → Answers result (bare_unit full) → Gives result (bare_of_source file source)
parsed_then file source full (Ok bare) is so = ap (λ r. r >>= bare_unit) (parses file source (Ok full) is) ∙ so
parsed_then file source full (Err (fault.Diag diag)) is so =
    ap (λ r. r >>= bare_unit) (parses file source (Ok full) is) ∙ so
parsed_then file source full (Err fault.NoMemory) is so = tt

-- a source that wasn't read
pub refused_then : (file source : List ℕ) (why : Fault) → AnswersUnit file source (Err why)
    → Gives {A = BareUnit} (Err why) (bare_of_source file source)
refused_then file source (fault.Diag diag) is = ap (λ r. r >>= bare_unit) (parses file source (Err (fault.Diag diag)) is)
refused_then file source fault.NoMemory is = tt
