-- What a unit becomes is low and plain.
use Rattle.std.proofs.Common.{◌≡◌, ℕ, ◌≤◌, nat_lt, List, Option, Some, None, Ok, refl, subst, inl, inr}
use Rattle.std.proofs.lemmas.Bool.{cases_Bool, ltb-false}
use Rattle.cm_base.specs.Diags.{whole_file}
use Rattle.cm_base.specs.declared.diag.Diag.{Diag}
use Rattle.sml_trees.specs.declared.name.At.{At}
use Rattle.sml_trees.specs.declared.full_unit.FullUnit.{FullUnit}
use Rattle.sml_trees.specs.declared.unit.BareUnit.{BareUnit}
use Rattle.bare_forms.specs.Units.{bare_of}
use Rattle.repeated_names.specs.RepeatedUnits.{first_repeat}
use Rattle.tree_heights.specs.Heights.{unit_height}
use Rattle.derived_forms.specs.Bare.{refusal, or_refused, bare_unit}
use Rattle.code_laws.specs.Plain.{IsPlain}
use Rattle.code_laws.proofs.Units.{low_units}
use Rattle.body_laws.proofs.Units.{sequences_of_bare}
use Rattle.bare_codes.specs.Promises.{BareUnitsHaveCodes}

-- what is given isn't refused
given : (refused : Option Diag) (made bare : BareUnit) → or_refused refused made ≡ Ok bare
    → (refused ≡ None) × (made ≡ bare)
given None made bare is = (refl, cc)
given (Some diag) made bare is = absurd (cc)

-- what isn't refused has at most 1,024 levels
low : (file : List ℕ) (height : ℕ) (twice : Option At) → refusal file height twice ≡ None → height ≤ 1024
low file height twice none =
    elim (cases_Bool (nat_lt 1024 height)) [
      | inl e ↦ let refused : Some (whole_file 12 file) ≡ None = rw e at none in absurd (cc)
      | inr e ↦ ltb-false 1024 height e
    ]

-- what is given is what the unit becomes
pub is_becoming : (unit : FullUnit) (bare : BareUnit) → bare_unit unit ≡ Ok bare → bare_of unit ≡ bare
is_becoming unit bare is =
    let both = given (refusal unit.file (unit_height (bare_of unit)) (first_repeat unit)) (bare_of unit) bare is in
    both.1

pub given_plain : (unit : FullUnit) (bare : BareUnit) → bare_unit unit ≡ Ok bare → IsPlain bare
given_plain unit bare is = subst IsPlain (is_becoming unit bare is) (sequences_of_bare unit)

pub given_low : (unit : FullUnit) (bare : BareUnit) → bare_unit unit ≡ Ok bare → unit_height bare ≤ 1024
given_low unit bare is =
    let height = unit_height (bare_of unit) in
    let both = given (refusal unit.file height (first_repeat unit)) (bare_of unit) bare is in
    let under : height ≤ 1024 = low unit.file height (first_repeat unit) both.0 in
    subst (λ (b : BareUnit). unit_height b ≤ 1024) both.1 under

pub given_units : BareUnitsHaveCodes
given_units unit bare is fits small = low_units bare (given_plain unit bare is) fits (given_low unit bare is) small
