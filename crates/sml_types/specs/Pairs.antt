-- Going through two types at once. Only private functions cite this file.
use Rattle.std.specs.Prelude.{◌≡◌, ℕ, ◌+◌, ◌<◌, ◌≤◌, List, [], ◌∷◌, length, drop, slice_get, nat_eq, Option, Some, None, Result, Ok, Err, ◌⊎◌}
use Rattle.semantic_objects.specs.declared.name.TyId.{TyId}
use Rattle.semantic_objects.specs.declared.name.TyId.TheVariants as id
use Rattle.unification.specs.Types.{Ty, Types, State, put}
use Rattle.unification.specs.Unification.{Fault, Answer, then, unify_all, unify_in}
use Rattle.type_nodes.specs.Tables.{Table, Has, state, type_of, types_of}
use Rattle.indexmap.specs.IndexMap.{get}
use Rattle.sml_types.specs.declared.fault.TypeFault.{TypeFault}
use Rattle.sml_types.specs.declared.fault.TypeFault.TheVariants as fault
use Rattle.sml_types.specs.declared.pair.Pair.{Pair}
use Rattle.sml_types.specs.declared.notes.Notes.{Notes}
use Rattle.sml_types.specs.Frames.{seen, parts_at, symbol_at}

-- what is left of the two nodes, as it was made
abbrev pub left_parts : Table → Pair → Types
left_parts t p = types_of t (drop p.next (parts_at (seen t) p.left))

abbrev pub right_parts : Table → Pair → Types
right_parts t p = types_of t (drop p.next (parts_at (seen t) p.right))

abbrev pub after_pair : Pair → Pair
after_pair p = record { left = p.left; right = p.right; next = p.next + 1; depth = p.depth }

pub record NextPair (t : Table) (p : Pair) (a b : TyId) : Type 0 where
  pub has_left : Has t a
  pub has_right : Has t b
  pub at_left : slice_get (parts_at (seen t) p.left) p.next ≡ Some a
  pub at_right : slice_get (parts_at (seen t) p.right) p.next ≡ Some b
  pub left : left_parts t p ≡ Types.Cons (type_of t a) (left_parts t (after_pair p))
  pub right : right_parts t p ≡ Types.Cons (type_of t b) (right_parts t (after_pair p))

pub record NoPair (t : Table) (p : Pair) : Type 0 where
  pub left : left_parts t p ≡ Types.Nil
  pub right : right_parts t p ≡ Types.Nil
  pub ended_left : length (parts_at (seen t) p.left) ≤ p.next
  pub ended_right : length (parts_at (seen t) p.right) ≤ p.next

abbrev pub IsNextPair : Table → Pair → Option (TyId × TyId) → Type 0
IsNextPair t p (Some ab) = NextPair t p ab.0 ab.1
IsNextPair t p None = NoPair t p

-- two types are one where these stand for variables
abbrev pub IsSame : State → Ty → Ty → Type 0
IsSame s x y = put s.stands x ≡ put s.stands y

-- two nodes are
abbrev pub IsOne : Table → State → ℕ → ℕ → Type 0
IsOne t s i j = IsSame s (type_of t (id.Made i)) (type_of t (id.Made j))

-- nodes that were noted as one
pub record OneAt (t : Table) (s : State) (i j : ℕ) : Type 0 where
  pub falls : j < i
  pub within : i < length t.nodes
  pub one : IsOne t s j i

abbrev pub AreOne : Table → State → Notes → Type 0
AreOne t s notes = (i j : ℕ) → get nat_eq notes.numbers i ≡ Some j → OneAt t s i j

-- a state in which all that stood still does
abbrev pub IsLater : State → State → Type 0
IsLater r s = (n : ℕ) → put r.stands (s.stands n) ≡ r.stands n

-- two nodes with one symbol, of which the parts before the next ones are one, or such an exception
pub record IsPair (t : Table) (s : State) (E : Ty → Ty → Type 0) (p : Pair) : Type 0 where
  pub left : p.left < length t.nodes
  pub right : p.right < length t.nodes
  pub symbol : symbol_at (seen t) p.left ≡ symbol_at (seen t) p.right
  pub passed : (k : ℕ) (a b : TyId) → k < p.next → slice_get (parts_at (seen t) p.left) k ≡ Some a
      → slice_get (parts_at (seen t) p.right) k ≡ Some b → IsSame s (type_of t a) (type_of t b) ⊎ E (type_of t a) (type_of t b)

-- the two types are these two
abbrev pub AreThese : State → Ty → Ty → Ty → Ty → Type 0
AreThese s u v x y = IsSame s x u × IsSame s y v

abbrev pub pair_exception : (Ty → Ty → Type 0) → Table → State → List Pair → Ty → Ty → Type 0
pair_exception E t s [] x y = E x y
pair_exception E t s (p ∷ ps) x y = AreThese s (type_of t (id.Made p.left)) (type_of t (id.Made p.right)) x y

abbrev pub ArePairs : Table → State → (Ty → Ty → Type 0) → List Pair → Type 0
ArePairs t s E [] = Unit {0}
ArePairs t s E (p ∷ ps) = IsPair t s (pair_exception E t s ps) p × ArePairs t s E ps

abbrev pub no_exception : Ty → Ty → Type 0
no_exception x y = ⊥

-- what unification of all that is left answers, the last pair first
abbrev pub pair_answer : Table → Pair → State → Answer
pair_answer t p s = unify_all (unify_in p.depth) (left_parts t p) (right_parts t p) s

abbrev pub unify_left : Table → List Pair → State → Answer
unify_left t [] s = Some (Ok s)
unify_left t (p ∷ ps) s = then (unify_left t ps s) (pair_answer t p)

-- two types were looked at, or a step was made: the answer for all that is left is the same
pub record MeetingOk (old new : Table) (want : Answer) (E : Ty → Ty → Type 0) (before after : List Pair) : Type 0 where
  pub answer : want ≡ unify_left old after (state new)
  pub later : IsLater (state new) (state old)
  pub pairs : ArePairs old (state old) E before → ArePairs old (state new) no_exception after

abbrev pub Meeting : Table → Table → Answer → (Ty → Ty → Type 0) → List Pair → List Pair → Result (Unit {0}) TypeFault → Type 0
Meeting old new want E before after (Ok done) = MeetingOk old new want E before after
Meeting old new want E before after (Err (fault.Clash a b)) = want ≡ Some (Err Fault.Clash)
Meeting old new want E before after (Err (fault.Circular a b)) = want ≡ Some (Err Fault.Circular)
Meeting old new want E before after (Err (fault.NotEquality a)) = want ≡ Some (Err Fault.NotEquality)
Meeting old new want E before after (Err fault.NoMemory) = Unit {0}

-- looking at two ids, with what is left behind them
abbrev pub meeting_answer : Table → ℕ → TyId → TyId → List Pair → Answer
meeting_answer t d a b before = then (unify_in d (type_of t a) (type_of t b) (state t)) (unify_left t before)

pub record SteppingOk (old new : Table) (before after : List Pair) (notes : Notes) : Type 0 where
  pub answer : unify_left old before (state old) ≡ unify_left old after (state new)
  pub later : IsLater (state new) (state old)
  pub pairs : ArePairs old (state new) no_exception after
  pub one : AreOne old (state new) notes

abbrev pub Stepping : Table → Table → List Pair → List Pair → Notes → Result (Unit {0}) TypeFault → Type 0
Stepping old new before after notes (Ok done) = SteppingOk old new before after notes
Stepping old new before after notes (Err (fault.Clash a b)) = unify_left old before (state old) ≡ Some (Err Fault.Clash)
Stepping old new before after notes (Err (fault.Circular a b)) = unify_left old before (state old) ≡ Some (Err Fault.Circular)
Stepping old new before after notes (Err (fault.NotEquality a)) = unify_left old before (state old) ≡ Some (Err Fault.NotEquality)
Stepping old new before after notes (Err fault.NoMemory) = Unit {0}
