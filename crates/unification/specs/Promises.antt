-- The laws of unification and of schemes, as the public functions of this crate state them.
use Rattle.std.specs.Prelude.{◌≡◌, ◌↔◌, ℕ, ◌<◌, ◌≤◌, List, [], Some, Result, Ok, Bool, true, false, ◌⊎◌}
use Rattle.semantic_objects.specs.Trees.{TypeScheme}
use Rattle.unification.specs.Types.{Ty, Substitution, State, Marks, put, occurs}
use Rattle.unification.specs.Unification.{Fault, unify_in, IsSettled, AnswersFor, MakesEqual, Solves}
use Rattle.unification.specs.Touching.{OfTwo, TouchesIn}
use Rattle.unification.specs.Instances.{with_variable, instance, IsInstance, IsMoreGeneral}
use Rattle.unification.specs.Closing.{is_among, found_in, scheme_over, held_below, canonical_scheme}
use Rattle.unification.specs.Generality.{covers, IsOf, MarksOwn}
use Rattle.unification.specs.Fitting.{IsBelow, IsFit, no_variable, IsSchemeOf}

-- what unification answers is most general, and where it answers a fault no choice makes the types equal
abbrev pub GivesMostGeneral : Type 0
GivesMostGeneral = (n : ℕ) (a b : Ty) (s : State) (r : Result State Fault) → IsSettled s → unify_in n a b s ≡ Some r
    → AnswersFor (MakesEqual a b) s r

-- more depth changes no answer
abbrev pub DepthChangesNothing : Type 0
DepthChangesNothing = (n m : ℕ) (a b : Ty) (s : State) (r : Result State Fault) → n ≤ m → unify_in n a b s ≡ Some r
    → unify_in m a b s ≡ Some r

-- it puts in types for variables of the two types alone, these types hold such variables alone, and such alone are
-- marked
abbrev pub TouchesOwnAlone : Type 0
TouchesOwnAlone = (n : ℕ) (a b : Ty) (s : State) (r : Result State Fault) → IsSettled s → unify_in n a b s ≡ Some r
    → TouchesIn (OfTwo a b s) s r

-- so a type in which no variable of the two stands is as it was, and a variable that stands anywhere afterwards stood
-- there before or is of the two
pub record LeavesOthers : Type 0 where
  pub types : (n : ℕ) (a b : Ty) (s r : State) → IsSettled s → unify_in n a b s ≡ Some (Ok r) → (t : Ty)
      → ((m : ℕ) → occurs m (put s.stands t) ≡ true → OfTwo a b s m → ⊥) → put r.stands t ≡ put s.stands t
  pub variables : (n : ℕ) (a b : Ty) (s r : State) → IsSettled s → unify_in n a b s ≡ Some (Ok r) → (v w : ℕ)
      → occurs w (r.stands v) ≡ true → (occurs w (s.stands v) ≡ true) ⊎ OfTwo a b s w

-- states in which no variable stands that wasn't made stay such ones
pub record KeepsFit : Type 0 where
  pub first : IsFit no_variable
  pub unified : (n : ℕ) (a b : Ty) (s r : State) → IsFit s → IsBelow s.next a → IsBelow s.next b
      → unify_in n a b s ≡ Some (Ok r) → IsFit r
  pub variable : (rigid mark : Bool) (s : State) → IsFit s → IsFit (with_variable rigid mark s)
  pub instantiated : (σ : TypeScheme) (s : State) → IsFit s → IsSchemeOf s σ
      → IsFit (instance σ s).1 × IsBelow (instance σ s).1.next (instance σ s).0
  pub solved : (rigid mark : Bool) (p s : State) → IsFit s → Solves p (with_variable rigid mark s) → Solves p s

-- the plain function decides which of two schemes is at least as general
abbrev pub CoversDecides : Type 0
CoversDecides = (s : State) (g h : TypeScheme) → MarksOwn s → IsOf s g.body → IsOf s h.body
    → (covers s g h ≡ true) ↔ IsMoreGeneral s g h

-- the canonical form of a scheme has the same instances
abbrev pub CanonicalKeepsInstances : Type 0
CanonicalKeepsInstances = (σ : TypeScheme) (q : Marks) (t : Ty) → IsInstance q σ t ↔ IsInstance q (canonical_scheme σ) t

-- what is found in a type stands in it and isn't kept, and all such is found; a type that is closed over variables of a
-- state is a scheme of it
pub record ClosesTypes : Type 0 where
  pub found : (kept : ℕ → Bool) (t : Ty) (n : ℕ)
      → (is_among n (found_in kept t []) ≡ true) ↔ ((occurs n t ≡ true) × (kept n ≡ false))
  pub same : (p q : ℕ → Bool) (t : Ty) → ((n : ℕ) → occurs n t ≡ true → p n ≡ q n) → found_in p t [] ≡ found_in q t []
  pub fits : (s : State) (vs : List ℕ) (t : Ty) → IsBelow s.next t → IsSchemeOf s (scheme_over vs s.marks t)
  pub held : (n : ℕ) (s : Substitution) (v : ℕ)
      → (held_below n s v ≡ true) ↔ ((w : ℕ) × (w < n) × (occurs v (s w) ≡ true))
