-- How a unit came doesn't show in the linked program.
use Rattle.std.proofs.Common.{◌≡◌, ap, ap₂, refl, ℕ, ◌+◌, Bool, true, false, cond, List, [], ◌∷◌, Option, Some, None, map}
use Rattle.std.specs.Prelude.{nat_eq, nat_lt, length}
use Rattle.std.specs.Option.{option_or, unwrap_or}
use lib.Pointwise.{pointwise}
use Rattle.cm_base.specs.Diags.{whole_file}
use Rattle.cm_base.specs.Files.{Files}
use Rattle.cm_base.specs.declared.diag.Diag.{Diag}
use Rattle.cm_base.specs.declared.record.BuiltUnit.{BuiltUnit}
use Rattle.cm_base.specs.declared.record.Import.{Import}
use Rattle.bin_store.specs.Paths.{linked_path}
use Rattle.build_laws.specs.PlainBuild.{Build, PlainUnit, compiled_unit, compiled_units}
use Rattle.build_laws.specs.Stale.{is_fresh, marked, marked_unit}
use Rattle.linker.specs.Linked.{import_at, link_of, linked_program, place_from, with_places}
use Rattle.linker.specs.Spelling.{linked_file}
use Rattle.linker.specs.declared.program.LinkedImport.{LinkedImport}
use Rattle.linker.specs.declared.program.LinkedUnit.{LinkedUnit}
use Rattle.command_parts.specs.declared.limits.TheConstants.{LINKED}
use Rattle.command_parts.specs.Meaning.{ended_with, link_fault}

-- each unit as it came
abbrev shown : Files → List PlainUnit → List BuiltUnit
shown files us = map (λ (u : PlainUnit). marked_unit (is_fresh files u.input) (compiled_unit u)) us

name_shown : (fresh : Bool) (u : PlainUnit) → (marked_unit fresh (compiled_unit u)).unit ≡ u.input.unit
name_shown true u = refl
name_shown false u = refl

place_shown : (files : Files) (first : ℕ) (us : List PlainUnit) (name : List ℕ)
    → place_from first (shown files us) name ≡ place_from first (compiled_units us) name
place_shown files first [] name = refl
place_shown files first (u ∷ us) name =
    ap₂ (λ later unit. option_or later (cond (pointwise nat_eq unit name) (Some first) None))
    (place_shown files (first + 1) us name) (name_shown (is_fresh files u.input) u)

module _ (a b : List ℕ → Option ℕ) (same : (name : List ℕ) → a name ≡ b name) where
  imports_same : (xs : List Import) → map (import_at a) xs ≡ map (import_at b) xs
  imports_same [] = refl
  imports_same (x ∷ xs) =
      ap₂ (λ (o : Option ℕ) (rest : List LinkedImport). record { name = x.name; from = unwrap_or o 0 } ∷ rest)
      (same x.provider) (imports_same xs)

  unit_same : (u : BuiltUnit) → with_places a u ≡ with_places b u
  unit_same u =
      ap (λ (xs : List LinkedImport). record { unit = u.unit; imports = xs; code = u.code }) (imports_same u.imports)

  marked_same : (fresh : Bool) (u : PlainUnit)
      → with_places a (marked_unit fresh (compiled_unit u)) ≡ with_places b (compiled_unit u)
  marked_same true u = unit_same (compiled_unit u)
  marked_same false u = unit_same (compiled_unit u)

  units_same : (files : Files) (us : List PlainUnit)
      → map (with_places a) (shown files us) ≡ map (with_places b) (compiled_units us)
  units_same files [] = refl
  units_same files (u ∷ us) =
      ap₂ (λ (v : LinkedUnit) (rest : List LinkedUnit). v ∷ rest) (marked_same (is_fresh files u.input) u)
      (units_same files us)

pub linked_same : (files : Files) (b : Build)
    → linked_program (marked files b) ≡ linked_program (compiled_units b.units)
unfolding link_of
linked_same files b =
    ap (λ (us : List LinkedUnit). linked_file (record { units = us }))
    (units_same (place_from 0 (shown files b.units)) (place_from 0 (compiled_units b.units))
    (place_shown files 0 b.units) files b.units)

pub end_same : (files : Files) (b : Build) (ended : Option Diag)
    → ended_with ended (marked files b) ≡ ended_with ended (compiled_units b.units)
unfolding link_fault
end_same files b (Some diag) = refl
end_same files b None =
    ap (λ (bytes : List ℕ). cond (nat_lt LINKED (length bytes)) (Some (whole_file 12 linked_path)) None)
    (linked_same files b)
