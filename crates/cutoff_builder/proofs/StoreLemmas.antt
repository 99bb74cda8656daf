-- How a unit and then a build are stored.
use Rattle.std.proofs.Common.{◌≡◌, ◌∙◌, ap, refl, Option, Some, None}
use Rattle.std.specs.Prelude.{Result, Ok, Err, OnOk}
use Rattle.std.specs.FinMap.{insert}
use Rattle.cm_base.specs.Files.{Files, told}
use Rattle.cm_base.specs.declared.record.BuiltUnit.{BuiltUnit}
use Rattle.bin_formats.specs.declared.bin.Bin.{Bin}
use Rattle.bin_store.specs.declared.fault.StoreFault.{StoreFault}
use Rattle.bin_formats.specs.Format.{binfile}
use Rattle.bin_store.specs.Paths.{bin_path}
use Rattle.bin_store.specs.Stored.{with_interface}
use Rattle.cm_base.specs.declared.record.PlannedUnit.{PlannedUnit}
use Rattle.build_laws.specs.Storing.{bin_of_unit, put_unit}

-- one change of what is told after another
pub told_told : {A : Type 0} (f g : A → A) (o : Option A) → told f (told g o) ≡ told (λ x. f (g x)) o
told_told f g None = refl
told_told f g (Some a) = refl

-- a binfile after an interface is the unit
pub put_both : (r : Result (Unit {0}) StoreFault) (old mid new : Option Files) (planned : PlannedUnit) (unit : BuiltUnit) (bin : Bin)
    → bin ≡ bin_of_unit planned unit → mid ≡ told (λ files. with_interface files unit.interface) old
    → OnOk r (new ≡ told (λ files. insert files (bin_path bin.unit) (binfile bin)) mid)
    → OnOk r (new ≡ told (λ files. put_unit files planned unit) old)
unfolding put_unit
put_both (Ok done) old mid new planned unit bin is first second =
    second ∙ ap (λ (b : Bin). told (λ (files : Files). insert files (bin_path b.unit) (binfile b)) mid) is
    ∙ ap (told (λ (files : Files). insert files (bin_path planned.unit) (binfile (bin_of_unit planned unit)))) first
    ∙ told_told (λ files. insert files (bin_path planned.unit) (binfile (bin_of_unit planned unit))) (λ files. with_interface files unit.interface) old
put_both (Err fault) old mid new planned unit bin is first second = tt
