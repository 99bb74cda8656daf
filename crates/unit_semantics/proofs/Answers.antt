-- Steps of an inference of which nothing is asked, and checks that don't fail.
use Rattle.std.proofs.Common.{◌≡◌, ℕ, refl, Some, None, Bool, true, false}
use Rattle.std.specs.Prelude.{Ok, Err}
use Rattle.sml_trees.specs.declared.name.At.{At}
use Rattle.static_semantics.specs.Inferring.{Scope, Answer, ◌>>=◌, refuses_where}
use Rattle.static_semantics.specs.Holding.{Given}
use Rattle.static_semantics.proofs.Holding.{given_then}

given_any : {A : Type 0} (m : Answer A) → Given (λ x. Unit {0}) m
given_any None = tt
given_any (Some (Err diag)) = tt
given_any (Some (Ok x)) = tt

-- whatever a step gives
pub always : {A B : Type 0} (Q : B → Type 0) (m : Answer A) (next : A → Answer B) → ((x : A) → Given Q (next x))
    → Given Q (m >>= next)
always Q m next h = given_then (λ x. Unit {0}) Q m next (given_any m) (λ x u. h x)

-- a check on the way, which doesn't fail
pub where_not : {B : Type 0} (Q : B → Type 0) (c : Bool) (number : ℕ) (sc : Scope) (at : At)
    (next : Unit {0} → Answer B) → (c ≡ false → Given Q (next tt)) → Given Q (refuses_where c number sc at >>= next)
where_not Q true number sc at next h = tt
where_not Q false number sc at next h = h refl
