-- A push that didn't refuse its item.
use Rattle.std.proofs.Common.{◌≡◌, false}
use Rattle.std.specs.Prelude.{Result, Ok, Err, OnOk, is_err}

-- what a push promises where it answers `Ok` holds where its answer isn't an error
pub pushed : {T : Type 0} {P : Type 0} (r : Result (Unit {0}) T) → is_err r ≡ false → OnOk r P → P
pushed (Ok done) is holds = holds
pushed (Err item) is holds = cc
