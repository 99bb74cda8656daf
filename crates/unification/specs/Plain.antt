-- What the small unifier's types and tables stand for, and what it answers.
use Rattle.std.specs.Prelude.{◌≡◌, ℕ, List, [], ◌∷◌, length, slice_get, Option, Some, None, Result, Ok, Err, Bool, true, false, cond}
use Rattle.unification.specs.declared.plain.PlainType.{PlainType}
use Rattle.unification.specs.declared.plain.PlainType.TheOpen.{PlainType-F}
use Rattle.unification.specs.declared.plain.PlainType.TheFolds.{fold-PlainType}
use Rattle.unification.specs.declared.plain.VariableKind.{VariableKind}
use Rattle.unification.specs.declared.plain.Binding.{Binding}
use Rattle.unification.specs.declared.unifier.Unifier.{Unifier}
use Rattle.unification.specs.declared.unifier.UnifyFault.{UnifyFault}
use Rattle.unification.specs.declared.unifier.UnifyFault.TheVariants as fault
use Rattle.unification.specs.Types.{Ty, Types, Substitution, Marks, State, marked, require}
use Rattle.unification.specs.Unification.{Fault, Answer, bind, IsMostGeneral, AnswersFor}

-- the types of a list, as the parts of one
abbrev pub types_of : List Ty → Types
types_of [] = Types.Nil
types_of (t ∷ ts) = Types.Cons t (types_of ts)

abbrev pub type_level : PlainType-F Ty → Ty
type_level (PlainType-F.Variable n) = Ty.Var n
type_level (PlainType-F.Made c ts) = Ty.Made c (types_of ts)

-- a written type as a type
abbrev pub type_of : PlainType → Ty
type_of = fold-PlainType Ty type_level

-- what the kind of a variable says, where it has one
abbrev pub eq_of : Option VariableKind → Bool
eq_of None = false
eq_of (Some kind) = kind.eq

abbrev pub rigid_of : Option VariableKind → Bool
rigid_of None = false
rigid_of (Some kind) = kind.rigid

-- variables of these kinds, for which nothing stands yet
abbrev pub variables_of : List VariableKind → State
variables_of kinds = record {
  next = length kinds;
  stands = Ty.Var;
  marks = λ n. eq_of (slice_get kinds n);
  rigid = λ n. rigid_of (slice_get kinds n);
}

-- what stands for the variables after types were put in for some, one after another
abbrev pub bound_by : List Binding → Substitution → Substitution
bound_by [] s = s
bound_by (b ∷ bs) s = bound_by bs (bind b.variable (type_of b.to) s)

-- which variables are marked after some were, one after another
abbrev pub marked_by : List ℕ → Marks → Marks
marked_by [] q = q
marked_by (n ∷ ns) q = marked_by ns (marked n q)

-- the state that a unifier has come to
abbrev pub state_of : Unifier → State
state_of u = record {
  next = length u.kinds;
  stands = bound_by u.bindings Ty.Var;
  marks = marked_by u.marked (variables_of u.kinds).marks;
  rigid = (variables_of u.kinds).rigid;
}

-- a call gives what unification answers, the state or the fault, unless memory was short or types nest too deep
abbrev pub Gives : Answer → Result Unifier UnifyFault → Type 0
Gives want (Ok u) = want ≡ Some (Ok (state_of u))
Gives want (Err fault.Clash) = want ≡ Some (Err Fault.Clash)
Gives want (Err fault.Circular) = want ≡ Some (Err Fault.Circular)
Gives want (Err fault.NotEquality) = want ≡ Some (Err Fault.NotEquality)
Gives want (Err fault.NoMemory) = Unit {0}

-- the same of a step, with the state that it leaves
abbrev pub Steps : Answer → Result (Unit {0}) UnifyFault → State → Type 0
Steps want (Ok done) new = want ≡ Some (Ok new)
Steps want (Err fault.Clash) new = want ≡ Some (Err Fault.Clash)
Steps want (Err fault.Circular) new = want ≡ Some (Err Fault.Circular)
Steps want (Err fault.NotEquality) new = want ≡ Some (Err Fault.NotEquality)
Steps want (Err fault.NoMemory) new = Unit {0}

-- the marks with which a type may stand for a variable: it has to admit equality where the variable does
abbrev pub wanted_marks : State → ℕ → Ty → Option Marks
wanted_marks s v t = cond (s.marks v) (require s.rigid t s.marks) (Some s.marks)

-- whether a type can be made an equality type, with the marks that are needed
abbrev pub Requires : Bool → Option Marks → Marks → Type 0
Requires true want new = want ≡ Some new
Requires false want new = want ≡ None

-- .. and that is most general: a state, or a fault where no choice makes hold what is to hold
abbrev pub GivesFor : (State → Type 0) → State → Result Unifier UnifyFault → Type 0
GivesFor Same s (Ok u) = IsMostGeneral s (state_of u) Same
GivesFor Same s (Err fault.Clash) = AnswersFor Same s (Err Fault.Clash)
GivesFor Same s (Err fault.Circular) = AnswersFor Same s (Err Fault.Circular)
GivesFor Same s (Err fault.NotEquality) = AnswersFor Same s (Err Fault.NotEquality)
GivesFor Same s (Err fault.NoMemory) = Unit {0}
