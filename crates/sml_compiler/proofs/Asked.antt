-- A list of what was asked that has the unit at its end has grown, whatever is answered.
use Rattle.std.proofs.Common.{◌≡◌, ℕ, List, [], ◌∷◌, ◌++◌, Result, Ok, Err, inr}
use Rattle.cm_base.specs.Calls.{Grows}
use Rattle.cm_base.specs.declared.fault.CompileFault.{CompileFault}
use Rattle.cm_base.specs.declared.fault.CompileFault.TheVariants as compile

pub grows : {A : Type 0} (result : Result A CompileFault) (old new : List (List ℕ)) (unit : List ℕ)
    → new ≡ old ++ unit ∷ [] → Grows result old new unit
grows (Ok value) old new unit e = e
grows (Err (compile.Diag diag)) old new unit e = e
grows (Err compile.NoMemory) old new unit e = inr e

pub ruleset asking = (grows)
