-- A choice for the state in which types were closed, from one for the state afterwards. The Definition, section 4.8.
use Rattle.std.specs.Prelude.{◌≡◌, ℕ, ◌+◌, ◌<◌, ◌≤◌, [], map, length, get_or, Bool, true, false}
use Rattle.semantic_objects.specs.Trees.{BindsBelow}
use Rattle.unification.specs.Types.{Ty, State, put, occurs}
use Rattle.unification.specs.Unification.{Solves}
use Rattle.unification.specs.Instances.{fill}
use Rattle.unification.specs.Closing.{found_in, closed_over, put_tree}
use Rattle.unification.specs.Fitting.{IsBelow}
use Rattle.static_semantics.specs.RuleConditions.{do_differ}

-- a choice that solves the state, and is the one around on every type in which no variable stands that is closed. For
-- each closed variable it puts one of its own, beyond all that stand around, with its mark
pub record Reopened (closes : ℕ → Bool) (p u : State) : Type 0 where
  pub inside : State
  pub from : ℕ
  pub solves : Solves inside u
  pub around : (t : Ty) → ((v : ℕ) → occurs v (put u.stands t) ≡ true → closes v ≡ false)
      → put inside.stands t ≡ put p.stands t
  pub new : u.next ≤ from
  pub below : (v : ℕ) → v < u.next → IsBelow from (p.stands v)
  pub closed : (v : ℕ) → closes v ≡ true → u.stands v ≡ Ty.Var v → inside.stands v ≡ Ty.Var (from + v)
  pub marked : (v : ℕ) → inside.marks (from + v) ≡ u.marks v
  pub marks : (v : ℕ) → v < from → inside.marks v ≡ p.marks v

-- a type that was closed over all its variables but the kept ones: under the choice around it is a scheme over others,
-- which differ and have the marks of its own, and the type inside is what it closes
pub record OpenInside (kept : ℕ → Bool) (p u inside : State) (from : ℕ) (t : Ty) : Type 0 where
  pub differ : do_differ (map (λ v. from + v) (found_in kept (put u.stands t) [])) ≡ true
  pub marks : map u.marks (found_in kept (put u.stands t) [])
      ≡ map inside.marks (map (λ v. from + v) (found_in kept (put u.stands t) []))
  pub bound : BindsBelow (length (map (λ v. from + v) (found_in kept (put u.stands t) [])))
      (put_tree p.stands (closed_over (found_in kept (put u.stands t) []) (put u.stands t)))
  pub opened : fill (λ i. Ty.Var (get_or (map (λ v. from + v) (found_in kept (put u.stands t) [])) i 0)) Ty.Var
      (put_tree p.stands (closed_over (found_in kept (put u.stands t) []) (put u.stands t)))
      ≡ put inside.stands t
