-- The law, as the public function of this crate states it.
use Rattle.std.specs.Prelude.{◌≡◌, ℕ, ◌+◌, Bool, true, false, not}
use Rattle.unification.specs.Types.{Ty, Substitution, State, put, occurs}
use Rattle.unification.specs.Unification.{Solves}
use Rattle.unification.specs.Fitting.{IsFit}
use Rattle.static_semantics.specs.Inferring.{Progress, Scope, is_kept}
use Rattle.static_semantics.specs.EnvironmentsPut.{put_scope}
use Rattle.static_semantics.specs.Growing.{ScopeIn}
use Rattle.inference_laws.specs.Promises.{Any}
use Rattle.reopening_laws.specs.Reopening.{Reopened, OpenInside}

-- from a choice that solves the state in which types were closed, and any closed variables, there is a choice for what
-- was inferred inside: it solves the state too, is the one around where no closed variable stands, and puts differing
-- variables, which stand nowhere around, for the closed ones. Under the choice around, the scheme of a type that is
-- closed over all its variables but the kept ones closes the type inside, where these are the closed ones of the type
pub record ClosedVariablesReopen : Type 0 where
  pub reopened : (closes : ℕ → Bool) (p u : State) → IsFit u → Solves p u → Reopened closes p u
  pub types : (kept closes : ℕ → Bool) (p u : State) → IsFit u → (r : Reopened closes p u) (t : Ty)
      → ((n : ℕ) → occurs n (put u.stands t) ≡ true → closes n ≡ not (kept n))
      → OpenInside kept p u r.inside r.from t
  -- what is kept in a scope under a choice; what stands for the closed variables isn't
  pub kept : (s : Substitution) (v : ℕ) (sc : Scope) → is_kept (put_scope s sc) Ty.Var v ≡ is_kept sc s v
  pub apart : (closes : ℕ → Bool) (p : State) (sc : Scope) (st : Progress) (r : Reopened closes p st.types)
      → ScopeIn Any st.types sc → (v : ℕ) → is_kept (put_scope p.stands sc) Ty.Var (r.from + v) ≡ false
