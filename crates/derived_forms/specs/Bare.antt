-- What a unit becomes: its bare unit, or the diagnostic with which it is refused.
use Rattle.std.specs.Prelude.{ℕ, List, [], Option, Some, None, Result, Ok, Err, ◌≡◌, nat_lt, if◌then◌else◌}
use Rattle.std.specs.Option.{option_map}
use Rattle.cm_base.specs.Diags.{whole_file}
use Rattle.cm_base.specs.declared.diag.Diag.{Diag}
use Rattle.cm_base.specs.declared.fault.Fault.{Fault}
use Rattle.cm_base.specs.declared.fault.Fault.TheVariants as fault
use Rattle.sml_trees.specs.declared.name.At.{At}
use Rattle.sml_trees.specs.declared.full_unit.FullUnit.{FullUnit}
use Rattle.sml_trees.specs.declared.unit.BareUnit.{BareUnit}
use Rattle.bare_forms.specs.Units.{bare_of}
use Rattle.repeated_names.specs.RepeatedUnits.{first_repeat}
use Rattle.tree_heights.specs.Heights.{unit_height}

-- the refusal of a name that stands twice, at its second place
abbrev pub bound_twice : List ℕ → At → Diag
bound_twice file at = record {
  number = 40;
  at = record { file = file; line = at.line; col = at.col };
  names = [];
}

-- 12 on the file where the bare tree has more than 1,024 levels, whatever else there is to refuse; and else 40 at the
-- earliest name that stands twice, where one does
abbrev pub refusal : List ℕ → ℕ → Option At → Option Diag
refusal file height twice = if nat_lt 1024 height then Some (whole_file 12 file) else option_map (bound_twice file) twice

abbrev pub or_refused : Option Diag → BareUnit → Result BareUnit Diag
or_refused None bare = Ok bare
or_refused (Some diag) bare = Err diag

-- the bare unit of a unit, or its diagnostic
abbrev pub bare_unit : FullUnit → Result BareUnit Diag
bare_unit unit = or_refused (refusal unit.file (unit_height (bare_of unit)) (first_repeat unit)) (bare_of unit)

-- what a call answers that has this value, or this refusal; for want of memory it may stop
abbrev pub Answers : Result BareUnit Fault → Result BareUnit Diag → Type 0
Answers (Ok bare) meaning = meaning ≡ Ok bare
Answers (Err (fault.Diag diag)) meaning = meaning ≡ Err diag
Answers (Err fault.NoMemory) meaning = Unit {0}
