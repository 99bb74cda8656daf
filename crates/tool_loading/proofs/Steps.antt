-- Steps that go on alike, and steps that use no tool.
use Rattle.std.proofs.Common.{◌≡◌, refl, subst, sym, Result, Ok, Err}
use Rattle.cm_base.specs.Diags.{◌>>=◌}
use Rattle.cm_base.specs.declared.diag.Diag.{Diag}
use Rattle.member_deriving.specs.Uses.{Outcome, Work, goes_on, outcome, ◌>>◌}

-- ---- alike

-- two steps with the same result, and works that are related
pub record Same {A : Type 0} (Related : Work → Work → Type 0) (a b : Outcome A) : Type 0 where
  pub work : Related a.work b.work
  pub result : a.result ≡ b.result

module _ (Related : Work → Work → Type 0) where
  pub same_with : {A : Type 0} (v w : Work) (r s : Result A Diag) → Related v w → r ≡ s
      → Same Related (outcome v r) (outcome w s)
  same_with v w r s related is = record { work = related; result = is }

  on_alike : {A B : Type 0} (v w : Work) (r : Result A Diag) (next other : A → Work → Outcome B) → Related v w
      → ((a : A) (x y : Work) → r ≡ Ok a → Related x y → Same Related (next a x) (other a y))
      → Same Related (goes_on v r next) (goes_on w r other)
  on_alike v w (Ok a) next other related same = same a v w refl related
  on_alike v w (Err diag) next other related same = record { work = related; result = refl }

  -- two steps and what follows them
  pub goes_same : {A B : Type 0} (a b : Outcome A) (next other : A → Work → Outcome B) → Same Related a b
      → ((x : A) (v w : Work) → a.result ≡ Ok x → Related v w → Same Related (next x v) (other x w))
      → Same Related (a >> next) (b >> other)
  goes_same {A} a b next other is same =
      subst (λ (r : Result A Diag). Same Related (goes_on a.work a.result next) (goes_on b.work r other)) is.result
      (on_alike a.work b.work a.result next other is.work same)

-- ---- at rest

-- a step that uses no tool, and such a step behind it
pub rests_on : {A B : Type 0} (work : Work) (r : Result A Diag) (next : A → Work → Outcome B)
    (other : A → Result B Diag) → ((a : A) → r ≡ Ok a → next a work ≡ outcome work (other a))
    → goes_on work r next ≡ outcome work (r >>= other)
rests_on work (Ok a) next other rests = rests a refl
rests_on work (Err diag) next other rests = refl

-- .. where the first is known to be one
pub step_rests : {A B : Type 0} (work : Work) (step : Outcome A) (r : Result A Diag) (next : A → Work → Outcome B)
    (other : A → Result B Diag) → step ≡ outcome work r → ((a : A) → r ≡ Ok a → next a work ≡ outcome work (other a))
    → (step >> next) ≡ outcome work (r >>= other)
step_rests {A} {B} work step r next other is rests =
    subst (λ (s : Outcome A). (s >> next) ≡ outcome work (r >>= other)) (sym is) (rests_on work r next other rests)

-- two steps and a third
pub in_a_row : {A B C : Type 0} (m : Result A Diag) (f : A → Result B Diag) (g : B → Result C Diag)
    → ((m >>= f) >>= g) ≡ (m >>= λ a. f a >>= g)
in_a_row (Ok a) f g = refl
in_a_row (Err diag) f g = refl
