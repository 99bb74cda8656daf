-- What calls of a table answer, and what they leave. That unification is most general, or refuses where no unifier
-- exists, is the claim of The Definition of Standard ML (Revised), section 4.12.
use Rattle.std.specs.Prelude.{◌≡◌, ◌≤◌, length, take, Some, Result, Ok, Err}
use Rattle.unification.specs.Types.{Ty, State}
use Rattle.unification.specs.Unification.{Fault, Answer, Solves, LeavesRigid, MakesEqual, IsMostGeneral}
use Rattle.type_nodes.specs.Tables.{Table, Has}
use Rattle.sml_types.specs.declared.fault.TypeFault.{TypeFault}
use Rattle.sml_types.specs.declared.fault.TypeFault.TheVariants as fault

-- the same variables and nodes, and more entries
pub record Grown (old new : Table) : Type 0 where
  pub births : new.births ≡ old.births
  pub nodes : new.nodes ≡ old.nodes
  pub front : take (length old.trail) new.trail ≡ old.trail
  pub longer : length old.trail ≤ length new.trail

-- what a call answers of a unification, where memory lasts
abbrev pub Solved : Result State Fault → Result (Unit {0}) TypeFault → State → Type 0
Solved want (Ok done) new = want ≡ Ok new
Solved want (Err (fault.Clash a b)) new = want ≡ Err Fault.Clash
Solved want (Err (fault.Circular a b)) new = want ≡ Err Fault.Circular
Solved want (Err (fault.NotEquality a)) new = want ≡ Err Fault.NotEquality
Solved want (Err fault.NoMemory) new = Unit {0}

abbrev pub Sought : Answer → Result (Unit {0}) TypeFault → State → Type 0
Sought want (Ok done) new = want ≡ Some (Ok new)
Sought want (Err (fault.Clash a b)) new = want ≡ Some (Err Fault.Clash)
Sought want (Err (fault.Circular a b)) new = want ≡ Some (Err Fault.Circular)
Sought want (Err (fault.NotEquality a)) new = want ≡ Some (Err Fault.NotEquality)
Sought want (Err fault.NoMemory) new = Unit {0}

-- the ids of a fault are ids of the table
abbrev pub NamesOwn : Table → Result (Unit {0}) TypeFault → Type 0
NamesOwn t (Ok done) = Unit {0}
NamesOwn t (Err (fault.Clash a b)) = Has t a × Has t b
NamesOwn t (Err (fault.Circular a b)) = Has t a × Has t b
NamesOwn t (Err (fault.NotEquality a)) = Has t a
NamesOwn t (Err fault.NoMemory) = Unit {0}

-- a most general state in which the two types are one, or no choice makes them one
abbrev pub IsMostGeneralFor : Ty → Ty → State → Result (Unit {0}) TypeFault → State → Type 0
IsMostGeneralFor u v s (Ok done) r = IsMostGeneral s r (MakesEqual u v)
IsMostGeneralFor u v s (Err (fault.Clash a b)) r = (p : State) → Solves p s → LeavesRigid p s → MakesEqual u v p → ⊥
IsMostGeneralFor u v s (Err (fault.Circular a b)) r = (p : State) → Solves p s → LeavesRigid p s → MakesEqual u v p → ⊥
IsMostGeneralFor u v s (Err (fault.NotEquality a)) r = (p : State) → Solves p s → LeavesRigid p s → MakesEqual u v p → ⊥
IsMostGeneralFor u v s (Err fault.NoMemory) r = Unit {0}
