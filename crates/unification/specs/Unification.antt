-- Unification by depth with its first fault, and what it means that an answer is most general.
-- The Definition of Standard ML (Revised), sections 4.4 and 4.5, says what types are equal and admit equality; that an
-- answer is to be most general is the claim of its section 4.12.
use Rattle.std.specs.Prelude.{◌≡◌, ℕ, zero, suc, ltb, Option, Some, None, Result, Ok, Err, Bool, true, false, cond, eqb}
use Rattle.semantic_objects.specs.Symbols.{same_symbol}
use Rattle.unification.specs.Types.{Ty, Types, Substitution, Marks, State, put, put_all, occurs, admits, require}

-- why two types can't be made equal: their symbols differ, a variable would stand in its own type, or a type that has
-- to admit equality doesn't
pub data Fault : Type 0 where
  Clash : Fault
  Circular : Fault
  NotEquality : Fault

-- a type for one variable, and each other for itself
abbrev pub single : ℕ → Ty → Substitution
single v t n = cond (eqb v n) t (Ty.Var n)

-- what stands for each variable after a type was put in for one of them everywhere
abbrev pub bind : ℕ → Ty → Substitution → Substitution
bind v t s n = put (single v t) (s n)

abbrev pub bound_where : ℕ → Ty → State → Option Marks → Result State Fault
bound_where v t s None = Err Fault.NotEquality
bound_where v t s (Some q) = Ok (record { next = s.next; stands = bind v t s.stands; marks = q; rigid = s.rigid })

-- a type in place of a variable that isn't rigid and doesn't occur in it; where the variable has a mark, the type has
-- to admit equality
abbrev pub assign : ℕ → Ty → State → Result State Fault
assign v t s = bound_where v t s (cond (s.marks v) (require s.rigid t s.marks) (Some s.marks))

-- two variables, each rigid or not: of two that aren't, the younger gives way; one that isn't gives way to one that is,
-- whatever their age; two rigid ones clash
abbrev pub link_by : Bool → Bool → ℕ → ℕ → State → Result State Fault
link_by false false v w s = cond (ltb v w) (assign w (Ty.Var v) s) (assign v (Ty.Var w) s)
link_by false true v w s = assign v (Ty.Var w) s
link_by true false v w s = assign w (Ty.Var v) s
link_by true true v w s = Err Fault.Clash

-- two variables that nothing stands for
abbrev pub link : ℕ → ℕ → State → Result State Fault
link v w s = cond (eqb v w) (Ok s) (link_by (s.rigid v) (s.rigid w) v w s)

-- a variable that nothing stands for, and a type with a symbol: a rigid variable clashes, then it mustn't occur, then
-- equality is asked for
abbrev pub solve : ℕ → Ty → State → Result State Fault
solve v t s = cond (s.rigid v) (Err Fault.Clash) (cond (occurs v t) (Err Fault.Circular) (assign v t s))

-- no answer is: too deep
abbrev pub Answer : Type 0
Answer = Option (Result State Fault)

abbrev pub then : Answer → (State → Answer) → Answer
then None f = None
then (Some (Ok s)) f = f s
then (Some (Err e)) f = Some (Err e)

-- parts from left to right, until the first fault
abbrev pub unify_all : (Ty → Ty → State → Answer) → Types → Types → State → Answer
unify_all unify Types.Nil Types.Nil s = Some (Ok s)
unify_all unify Types.Nil (Types.Cons u us) s = Some (Err Fault.Clash)
unify_all unify (Types.Cons t ts) Types.Nil s = Some (Err Fault.Clash)
unify_all unify (Types.Cons t ts) (Types.Cons u us) s = then (unify t u s) (λ r. unify_all unify ts us r)

-- one step, on types in which everything has been put in: symbols are compared whole before their parts
abbrev pub unify_step : (Ty → Ty → State → Answer) → Ty → Ty → State → Answer
unify_step unify (Ty.Var v) (Ty.Var w) s = Some (link v w s)
unify_step unify (Ty.Var v) (Ty.Made d us) s = Some (solve v (Ty.Made d us) s)
unify_step unify (Ty.Made c ts) (Ty.Var w) s = Some (solve w (Ty.Made c ts) s)
unify_step unify (Ty.Made c ts) (Ty.Made d us) s =
    cond (same_symbol c d) (unify_all unify ts us s) (Some (Err Fault.Clash))

-- unification that goes at most so deep
abbrev pub unify_in : ℕ → Ty → Ty → State → Answer
unify_in zero a b s = None
unify_in (suc n) a b s = unify_step (unify_in n) (put s.stands a) (put s.stands b) s

-- how deep a program goes
unfoldable pub depth : ℕ
depth = 18446744073709551615

-- a choice of types and marks agrees with what stands for the variables of a state, and gives its equality variables
-- equality types
pub record Solves (p s : State) : Type 0 where
  pub types : (n : ℕ) → put p.stands (s.stands n) ≡ p.stands n
  pub marks : (n : ℕ) → s.marks n ≡ true → admits p.marks (p.stands n) ≡ true

-- a choice leaves alone the variables that are rigid in a state, and doesn't mark those of them that aren't marked
-- there
pub record LeavesRigid (p s : State) : Type 0 where
  pub alone : (n : ℕ) → s.rigid n ≡ true → p.stands n ≡ Ty.Var n
  pub unmarked : (n : ℕ) → s.rigid n ≡ true → p.marks n ≡ true → s.marks n ≡ true

-- everything has been put in: a state is a choice that agrees with itself
pub record IsSettled (s : State) : Type 0 where
  pub solves : Solves s s
  pub leaves : LeavesRigid s s

-- after `s`, `r` is a most general state in which `Same` holds
pub record IsMostGeneral (s r : State) (Same : State → Type 0) : Type 0 where
  pub settled : IsSettled r
  pub rigid : r.rigid ≡ s.rigid
  pub next : r.next ≡ s.next
  pub unmarked : (n : ℕ) → s.rigid n ≡ true → r.marks n ≡ true → s.marks n ≡ true
  -- each choice that solves it, whatever it puts for rigid variables, solves the state before, and `Same` holds
  pub sound : (p : State) → Solves p r → Solves p s × Same p
  -- and each choice that solves the state before, leaves rigid variables alone and in which `Same` holds, solves it
  pub general : (p : State) → Solves p s → LeavesRigid p s → Same p → Solves p r

-- an answer to what is to hold: a most general state, or a fault where no choice makes it hold
abbrev pub AnswersFor : (State → Type 0) → State → Result State Fault → Type 0
AnswersFor Same s (Ok r) = IsMostGeneral s r Same
AnswersFor Same s (Err e) = (p : State) → Solves p s → LeavesRigid p s → Same p → ⊥

-- a choice makes two types equal
abbrev pub MakesEqual : Ty → Ty → State → Type 0
MakesEqual a b p = put p.stands a ≡ put p.stands b

abbrev pub MakesAllEqual : Types → Types → State → Type 0
MakesAllEqual ts us p = put_all p.stands ts ≡ put_all p.stands us
