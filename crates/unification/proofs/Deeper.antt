-- More depth changes nothing.
use Rattle.std.proofs.Common.{◌≡◌, ℕ, zero, suc, ◌≤◌, refl, ap, ◌∙◌, Some, None, Bool, true, false, cond, arith}
use Rattle.std.specs.Prelude.{Result, Ok, Err}
use Rattle.semantic_objects.specs.Symbols.{same_symbol}
use Rattle.unification.specs.Types.{Ty, Types, State, put}
use Rattle.unification.specs.Unification.{Fault, Answer, then, unify_all, unify_step, unify_in}

-- what the first answers the second answers
abbrev Covers : Answer → Answer → Type 0
Covers q w = (r : Result State Fault) → q ≡ Some r → w ≡ Some r

abbrev CoversAll : (Ty → Ty → State → Answer) → (Ty → Ty → State → Answer) → Type 0
CoversAll f g = (a b : Ty) (s : State) → Covers (f a b s) (g a b s)

covers_then : (q w : Answer) (f g : State → Answer) → Covers q w → ((m : State) → Covers (f m) (g m))
    → Covers (then q f) (then w g)
covers_then None w f g first rest r e = absurd (cc)
covers_then (Some (Err x)) w f g first rest r e = ap (λ z. then z g) (first (Err x) refl) ∙ e
covers_then (Some (Ok m)) w f g first rest r e = ap (λ z. then z g) (first (Ok m) refl) ∙ rest m r e

covers_where : (same : Bool) (q w z : Answer) → Covers q w → Covers (cond same q z) (cond same w z)
covers_where true q w z h r e = h r e
covers_where false q w z h r e = e

covers_parts : (f g : Ty → Ty → State → Answer) → CoversAll f g → (ts us : Types) (s : State)
    → Covers (unify_all f ts us s) (unify_all g ts us s)
covers_parts f g h Types.Nil Types.Nil s r e = e
covers_parts f g h Types.Nil (Types.Cons u us) s r e = e
covers_parts f g h (Types.Cons t ts) Types.Nil s r e = e
covers_parts f g h (Types.Cons t ts) (Types.Cons u us) s r e =
    covers_then (f t u s) (g t u s) (unify_all f ts us) (unify_all g ts us) (h t u s)
    (λ m. covers_parts f g h ts us m) r e

covers_step : (f g : Ty → Ty → State → Answer) → CoversAll f g → CoversAll (unify_step f) (unify_step g)
covers_step f g h (Ty.Var v) (Ty.Var w) s r e = e
covers_step f g h (Ty.Var v) (Ty.Made d us) s r e = e
covers_step f g h (Ty.Made c ts) (Ty.Var w) s r e = e
covers_step f g h (Ty.Made c ts) (Ty.Made d us) s r e =
    covers_where (same_symbol c d) (unify_all f ts us s) (unify_all g ts us s) (Some (Err Fault.Clash))
    (covers_parts f g h ts us s) r e

pub as_deep : (n m : ℕ) (a b : Ty) (s : State) (r : Result State Fault) → n ≤ m → unify_in n a b s ≡ Some r
    → unify_in m a b s ≡ Some r
as_deep zero m a b s r h e = absurd (cc)
as_deep (suc n) zero a b s r h e = absurd (omega (arith, h))
as_deep (suc n) (suc m) a b s r h e =
    covers_step (unify_in n) (unify_in m) (λ c d p o k. as_deep n m c d p o (omega (arith, h)) k) (put s.stands a)
    (put s.stands b) s r e
