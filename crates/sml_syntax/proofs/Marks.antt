-- The bytes of a mark, one after another.
use Rattle.std.proofs.Common.{◌≡◌, ◌≢◌, ℕ, List, Option, Some, None, Bool, true, false, cond, refl, sym, ap, ◌∙◌, arith}
use Rattle.std.specs.Prelude.{nat_eq}
use Rattle.std.proofs.lemmas.Bool.{eqb-true, eq-eqb}
use Rattle.cm_bytes.specs.Fields.{Step, ◌>>=◌, byte_at}
use Rattle.sml_syntax.specs.Steps.{turned, made, no_tag, or_tag, tagged}
use Rattle.sml_syntax.specs.ReadingUnit.{marked}

kept : {A : Type 0} (read : Option (A × List ℕ)) → (read >>= turned (λ x. x)) ≡ read
kept None = refl
kept (Some x) = refl

-- the byte stands there
pub marked_go : {A : Type 0} (mark tag : ℕ) (step : Step A) (bytes rest : List ℕ) → byte_at bytes ≡ Some (tag, rest)
    → tag ≡ mark → marked mark step bytes ≡ step rest
unfolding tagged or_tag made
marked_go mark tag step bytes rest read same = rw (read, eq-eqb tag mark same) (kept (step rest))

-- another byte stands there
pub marked_other : {A : Type 0} (mark tag : ℕ) (step : Step A) (bytes rest : List ℕ) → byte_at bytes ≡ Some (tag, rest)
    → tag ≢ mark → marked mark step bytes ≡ None
unfolding tagged or_tag made
marked_other {A} mark tag step bytes rest read other = rw read (by_test (nat_eq tag mark) refl)
  where
    by_test : (test : Bool) → nat_eq tag mark ≡ test
        → (cond test (λ (bytes : List ℕ). step bytes >>= turned (λ x. x)) (no_tag tag)) rest ≡ None
    by_test true same = absurd (other (eqb-true tag mark same))
    by_test false same = refl

-- no byte stands there
pub marked_short : {A : Type 0} (mark : ℕ) (step : Step A) (bytes : List ℕ) → byte_at bytes ≡ None
    → marked mark step bytes ≡ None
unfolding tagged
marked_short mark step bytes none = rw none refl

pub ruleset mark_steps = (marked_go, marked_other, marked_short)
