-- What a test of two values says.
use Rattle.std.proofs.Common.{◌≡◌, Bool, true, false}
use Rattle.std.specs.Prelude.{◌↔◌, IsTrue}

-- a test that failed
pub not_same : {A : Type 0} (a b : A) (r : Bool) → r ≡ false → (IsTrue r ↔ (a ≡ b)) → a ≡ b → ⊥
not_same a b r is decides same = let holds = decides.1 same in cc

-- a test that held
pub same : {A : Type 0} (a b : A) (r : Bool) → r ≡ true → (IsTrue r ↔ (a ≡ b)) → a ≡ b
same a b r is decides = decides.0 is
