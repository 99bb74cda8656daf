-- Each unit that is done has a binfile that the format can hold.
use Rattle.std.proofs.Common.{◌≡◌, sym, subst, ap, refl, ℕ, ◌+◌, ◌≤◌, List, [], ◌∷◌, length, length-append, inl, inr, arith}
use Rattle.std.specs.Prelude.{All, Ok}
use Rattle.std.proofs.lemmas.List.Elements.{All-nil, All-push}
use Rattle.cm_base.specs.declared.record.BuiltUnit.{BuiltUnit}
use Rattle.cm_base.specs.declared.record.PlannedUnit.{PlannedUnit}
use Rattle.bin_formats.specs.declared.bin.Bin.{Bin}
use Rattle.bin_formats.specs.Format.{IsBin}
use Rattle.bin_formats.proofs.FittingLemmas.{bin_is_short}
use Rattle.build_laws.specs.Stale.{loaded_unit}
use Rattle.build_laws.specs.Storing.{IsStorable, bin_of_unit}
use Rattle.cutoff_builder.specs.Doing.{HasShortBin, StepAdds}

-- a unit that is loaded
pub loaded_has_bin : (bin : Bin) (interface : List ℕ) (unit : BuiltUnit) → unit ≡ loaded_unit bin interface → IsBin bin
    → HasShortBin unit
loaded_has_bin bin interface unit is fits =
    subst HasShortBin (sym is)
    (record { bin = bin; short = bin_is_short bin fits; named = refl; imports = refl; code = refl })

-- .. and one that can be stored
pub stored_has_bin : (planned : PlannedUnit) (unit : BuiltUnit) → planned.unit ≡ unit.unit → IsStorable planned unit
    → HasShortBin unit
stored_has_bin planned unit named can =
    record { bin = bin_of_unit planned unit; short = can.short; named = named; imports = refl; code = refl }

-- ---- those that are done

pub none_have_bins : (units : List BuiltUnit) → units ≡ [] → All HasShortBin units
none_have_bins units none = subst (All HasShortBin) (sym none) (All-nil HasShortBin)

pub no_units : (units : List BuiltUnit) → units ≡ [] → (n : ℕ) → length units ≤ n
no_units units none n = let zero = ap length none in omega (arith, zero)

pub step_bins : (before after : List BuiltUnit) → All HasShortBin before → StepAdds (Ok tt) before after
    → All HasShortBin after
step_bins before after all (inl same) = subst (All HasShortBin) (sym same) all
step_bins before after all (inr one) =
    subst (All HasShortBin) (sym one.2) (All-push HasShortBin before one.0 all one.1)

pub step_count : (n : ℕ) (before after : List BuiltUnit) → length before ≤ n → StepAdds (Ok tt) before after
    → length after ≤ n + 1
step_count n before after few (inl same) = let long = ap length same in omega (arith, few, long)
step_count n before after few (inr one) =
    let long = ap length one.2 in
    let more = length-append before (one.0 ∷ []) in
    omega (arith, few, long, more)
