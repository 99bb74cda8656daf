-- Demanding equality of types. Only private functions cite this file.
use Rattle.std.specs.Prelude.{◌≡◌, ℕ, ◌+◌, ◌*◌, ◌<◌, ◌≤◌, List, [], ◌∷◌, length, take, nat_eq, Option, Some, None, Result, Ok, Err, true}
use Rattle.semantic_objects.specs.declared.name.TyId.TheVariants as id
use Rattle.semantic_objects.specs.declared.symbol.Symbol.{Symbol}
use Rattle.unification.specs.declared.equality.Equality.TheVariants as equality
use Rattle.unification.specs.Types.{Ty, Marks, equality_of, admits, and_then, require, require_all, size}
use Rattle.type_nodes.specs.Tables.{Table, state, link}
use Rattle.indexmap.specs.IndexMap.{get}
use Rattle.sml_types.specs.declared.fault.TypeFault.{TypeFault}
use Rattle.sml_types.specs.declared.fault.TypeFault.TheVariants as fault
use Rattle.sml_types.specs.declared.frame.Frame.{Frame}
use Rattle.sml_types.specs.declared.notes.Notes.{Notes}
use Rattle.sml_types.specs.Frames.{Standing, seen, stood, left, steps_left, AreFrames, nothing}

-- more marks, and nothing else
pub record MarksMore (old new : Table) : Type 0 where
  pub births : new.births ≡ old.births
  pub nodes : new.nodes ≡ old.nodes
  pub front : take (length old.trail) new.trail ≡ old.trail
  pub longer : length old.trail ≤ length new.trail
  pub links : (v : ℕ) → link new v ≡ link old v
  pub stands : (state new).stands ≡ (state old).stands
  pub more : (n : ℕ) → (state old).marks n ≡ true → (state new).marks n ≡ true

-- a type admits equality under these marks
abbrev pub admitted : Marks → Ty → Type 0
admitted q x = admits q x ≡ true

-- symbols under which it hangs on the parts
abbrev pub by_parts : Symbol → Type 0
by_parts c = equality_of c ≡ equality.ByParts

-- the nodes that are noted do
abbrev pub IsAdmitted : Marks → Standing → Notes → Type 0
IsAdmitted q s notes = (i m : ℕ) → get nat_eq notes.numbers i ≡ Some m → admitted q (stood s (id.Made i))

-- the marks with which all that is left admits equality
abbrev pub require_left : Marks → Standing → List Frame → Marks → Option Marks
require_left rigid s [] q = Some q
require_left rigid s (f ∷ fs) q = and_then (require_left rigid s fs q) (require_all rigid (left s f))

-- equality was demanded of a type
pub record DemandedOk (old new : Table) (u : Ty) (before after : List Frame) : Type 0 where
  pub answer : and_then (require (state old).rigid u (state old).marks) (require_left (state old).rigid (seen old) before)
      ≡ require_left (state old).rigid (seen old) after (state new).marks
  pub frames : AreFrames by_parts (admitted (state old).marks) (λ x. x ≡ u) (seen old) before
      → AreFrames by_parts (admitted (state new).marks) nothing (seen old) after
  pub less : steps_left (seen old) after < steps_left (seen old) before + 2 * size u

abbrev pub Demanded : Table → Table → Ty → List Frame → List Frame → Result (Unit {0}) TypeFault → Type 0
Demanded old new u before after (Ok done) = DemandedOk old new u before after
Demanded old new u before after (Err (fault.Clash a b)) = ⊥
Demanded old new u before after (Err (fault.Circular a b)) = ⊥
Demanded old new u before after (Err (fault.NotEquality a)) = require (state old).rigid u (state old).marks ≡ None
Demanded old new u before after (Err fault.NoMemory) = Unit {0}

-- a step was made
pub record RequiredMore (old new : Table) (before after : List Frame) (notes : Notes) : Type 0 where
  pub answer : require_left (state old).rigid (seen old) before (state old).marks
      ≡ require_left (state old).rigid (seen old) after (state new).marks
  pub frames : AreFrames by_parts (admitted (state new).marks) nothing (seen old) after
  pub done : IsAdmitted (state new).marks (seen old) notes
  pub less : steps_left (seen old) after < steps_left (seen old) before

abbrev pub RequiredOn : Table → Table → List Frame → List Frame → Notes → Result (Unit {0}) TypeFault → Type 0
RequiredOn old new before after notes (Ok done) = RequiredMore old new before after notes
RequiredOn old new before after notes (Err (fault.Clash a b)) = ⊥
RequiredOn old new before after notes (Err (fault.Circular a b)) = ⊥
RequiredOn old new before after notes (Err (fault.NotEquality a)) =
    require_left (state old).rigid (seen old) before (state old).marks ≡ None
RequiredOn old new before after notes (Err fault.NoMemory) = Unit {0}

-- the answer for a whole type
abbrev pub Required : Option Marks → Result (Unit {0}) TypeFault → Marks → Type 0
Required want (Ok done) q = want ≡ Some q
Required want (Err (fault.Clash a b)) q = ⊥
Required want (Err (fault.Circular a b)) q = ⊥
Required want (Err (fault.NotEquality a)) q = want ≡ None
Required want (Err fault.NoMemory) q = Unit {0}
