-- What a unit is given, name by name.
use Rattle.std.proofs.Common.{◌≡◌, ap, List, [], ◌∷◌, ◌++◌, Option, Some, None, append_assoc, append-nil}
use Rattle.cm_base.specs.declared.record.BuiltUnit.{BuiltUnit}
use Rattle.cm_base.specs.declared.record.Given.{Given}
use Rattle.cm_base.specs.declared.record.Import.{Import}
use Rattle.cm_base.specs.declared.record.WantedName.{WantedName}
use Rattle.build_laws.specs.Inputs.{given_by, with_given, imports_in}

pub given_step : (xs : List Given) (w : WantedName) (o : Option BuiltUnit) (gs : List Given)
    → (xs ++ with_given w o []) ++ gs ≡ xs ++ with_given w o gs
given_step xs w None gs = ap (λ l. l ++ gs) (append-nil xs)
given_step xs w (Some u) gs = append_assoc xs (given_by w u ∷ []) gs

pub import_step : (xs : List Import) (w : WantedName) (o : Option BuiltUnit) (gs : List Given)
    → (xs ++ imports_in (with_given w o [])) ++ imports_in gs ≡ xs ++ imports_in (with_given w o gs)
import_step xs w None gs = ap (λ l. l ++ imports_in gs) (append-nil xs)
import_step xs w (Some u) gs = append_assoc xs ((given_by w u).import ∷ []) (imports_in gs)
