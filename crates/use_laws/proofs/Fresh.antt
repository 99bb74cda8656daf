-- What is fresh in a store stays so through uses of tools: records are no binfiles and no interfaces.
use Rattle.std.proofs.Common.{◌≡◌, ◌∙◌, ap, ap₂, refl, ℕ, Bool, true, false, cond, List, [], ◌∷◌, map, Option, Some, None}
use Rattle.std.specs.Prelude.{is_some}
use Rattle.cm_base.specs.Files.{Files}
use Rattle.cm_base.specs.declared.record.BuiltUnit.{BuiltUnit}
use Rattle.cm_base.specs.declared.record.CompileInput.{CompileInput}
use Rattle.cm_base.specs.declared.record.Import.{Import}
use Rattle.cm_base.specs.declared.record.Options.{Options}
use Rattle.cm_base.specs.declared.record.Pid.{Pid}
use Rattle.cm_base.proofs.FileLemmas.{get-insert_other}
use Rattle.bin_formats.specs.declared.bin.Bin.{Bin}
use Rattle.bin_formats.specs.declared.bin.ToolRecord.{ToolRecord}
use Rattle.bin_formats.specs.Format.{record_file}
use Rattle.bin_store.specs.Laws.{SameBut}
use Rattle.bin_store.specs.Paths.{tool_path}
use Rattle.bin_store.specs.Stored.{stored_bin, stored_interface}
use Rattle.build_laws.specs.PlainBuild.{PlainUnit, compiled_unit}
use Rattle.build_laws.specs.Stale.{by_key, inputs_of, is_fresh, loaded, marked_unit, of_bin, same_key, stale_names, with_text}
use Rattle.tool_records.specs.Stored.{with_record}
use Rattle.tool_records.proofs.Storing.{record_no_bin, record_no_interface}
use Rattle.tool_deriving.specs.Deriving.{ToolUse, after_use, record_of_use, uses}
use Rattle.member_deriving.specs.Uses.{after_uses}
use Rattle.use_laws.specs.Laws.{StaysFresh}

-- ---- one record

put_same_but : (files : Files) (run : ToolRecord) → SameBut (tool_path run.unit) files (with_record files run)
put_same_but files run = record {
  others = λ q apart. get-insert_other files (tool_path run.unit) (record_file run) q apart;
}

-- the same binfiles and interfaces
pub record SameUnits (a b : Files) : Type 0 where
  pub bins : (unit : List ℕ) → stored_bin b unit ≡ stored_bin a unit
  pub interfaces : (hash : Pid) → stored_interface b hash ≡ stored_interface a hash

use_same : (files : Files) (job : ToolUse) → SameUnits files (after_use files job)
use_same files job = by_test (uses files job)
  where
    by_test : (b : Bool) → SameUnits files (cond b (with_record files (record_of_use job)) files)
    by_test true =
        let put = put_same_but files (record_of_use job) in
        record {
          bins = λ unit. record_no_bin files (with_record files (record_of_use job)) job.unit unit put;
          interfaces = λ hash. record_no_interface files (with_record files (record_of_use job)) job.unit hash put;
        }
    by_test false = record { bins = λ unit. refl; interfaces = λ hash. refl }

pub uses_same : (files : Files) (jobs : List ToolUse) → SameUnits files (after_uses files jobs)
uses_same files [] = record { bins = λ unit. refl; interfaces = λ hash. refl }
uses_same files (job ∷ jobs) =
    let one = use_same files job in
    let rest = uses_same (after_use files job) jobs in
    record {
      bins = λ unit. rest.bins unit ∙ one.bins unit;
      interfaces = λ hash. rest.interfaces hash ∙ one.interfaces hash;
    }

-- ---- what is loaded

module _ (a b : Files) (same : SameUnits a b) where
  by_key_same : (bin : Bin) (t : Bool) → by_key b bin t ≡ by_key a bin t
  by_key_same bin true = ap (with_text bin) (same.interfaces bin.interface)
  by_key_same bin false = refl

  of_bin_same : (options : Options) (source : List ℕ) (imports : List Import) (bin : Option Bin)
      → of_bin b options source imports bin ≡ of_bin a options source imports bin
  of_bin_same options source imports None = refl
  of_bin_same options source imports (Some bin) = by_key_same bin (same_key bin options source imports)

  loaded_same : (unit : List ℕ) (options : Options) (source : List ℕ) (imports : List Import)
      → loaded b unit options source imports ≡ loaded a unit options source imports
  unfolding loaded
  loaded_same unit options source imports =
      ap (of_bin b options source imports) (same.bins unit) ∙ of_bin_same options source imports (stored_bin a unit)

  pub fresh_same : (input : CompileInput) → is_fresh b input ≡ is_fresh a input
  fresh_same input = ap (λ (o : Option BuiltUnit). is_some o) (loaded_same input.unit input.options input.source _)

  units_same : (units : List PlainUnit)
      → map (λ (unit : PlainUnit). marked_unit (is_fresh b unit.input) (compiled_unit unit)) units
      ≡ map (λ (unit : PlainUnit). marked_unit (is_fresh a unit.input) (compiled_unit unit)) units
  units_same [] = refl
  units_same (unit ∷ units) =
      ap₂ (λ (one : BuiltUnit) (more : List BuiltUnit). one ∷ more)
      (ap (λ (t : Bool). marked_unit t (compiled_unit unit)) (fresh_same unit.input)) (units_same units)

  names_same : (inputs : List CompileInput) → stale_names b inputs ≡ stale_names a inputs
  names_same [] = refl
  names_same (input ∷ inputs) =
      ap₂ (λ (t : Bool) (more : List (List ℕ)). cond t more (input.unit ∷ more)) (fresh_same input) (names_same inputs)

pub stays_fresh : StaysFresh
stays_fresh files jobs =
    let same = uses_same files jobs in
    record {
      fresh = fresh_same files (after_uses files jobs) same;
      units = λ build. units_same files (after_uses files jobs) same build.units;
      asked = λ build. names_same files (after_uses files jobs) same (inputs_of build);
    }
