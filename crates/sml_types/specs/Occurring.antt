-- Looking for a variable. Only private functions cite this file.
use Rattle.std.specs.Prelude.{◌≡◌, ℕ, ◌+◌, ◌*◌, ◌<◌, List, [], ◌∷◌, nat_eq, Some, Bool, true, false, ◌||◌}
use Rattle.semantic_objects.specs.declared.name.TyId.TheVariants as id
use Rattle.unification.specs.Types.{Ty, occurs, occurs_any, size}
use Rattle.indexmap.specs.IndexMap.{get}
use Rattle.sml_types.specs.declared.frame.Frame.{Frame}
use Rattle.sml_types.specs.declared.notes.Notes.{Notes}
use Rattle.sml_types.specs.Frames.{Standing, stood, left, steps_left, AreFrames, any_symbol, nothing}

-- whether the variable stands in what is left
abbrev pub occurs_left : ℕ → Standing → List Frame → Bool
occurs_left v s [] = false
occurs_left v s (f ∷ fs) = occurs_left v s fs || occurs_any v (left s f)

-- types in which the variable doesn't stand
abbrev pub lacks : ℕ → Ty → Type 0
lacks v x = occurs v x ≡ false

-- in the nodes that are noted the variable doesn't stand
abbrev pub IsClear : ℕ → Standing → Notes → Type 0
IsClear v s notes = (i m : ℕ) → get nat_eq notes.numbers i ≡ Some m → lacks v (stood s (id.Made i))

-- an id was looked at: it is the variable, or what has to be gone through for it is open
pub record MetOther (v : ℕ) (s : Standing) (u : Ty) (old new : List Frame) : Type 0 where
  pub answer : occurs_left v s new ≡ (occurs_left v s old || occurs v u)
  pub frames : AreFrames any_symbol (lacks v) (λ x. x ≡ u) s old → AreFrames any_symbol (lacks v) nothing s new
  pub less : steps_left s new < steps_left s old + 2 * size u

abbrev pub Met : ℕ → Standing → Ty → List Frame → List Frame → Bool → Type 0
Met v s u old new true = occurs v u ≡ true
Met v s u old new false = MetOther v s u old new

-- a step was made
pub record SteppedOn (v : ℕ) (s : Standing) (old new : List Frame) : Type 0 where
  pub answer : occurs_left v s new ≡ occurs_left v s old
  pub frames : AreFrames any_symbol (lacks v) nothing s new
  pub less : steps_left s new < steps_left s old

abbrev pub Stepped : ℕ → Standing → List Frame → List Frame → Bool → Type 0
Stepped v s old new true = occurs_left v s old ≡ true
Stepped v s old new false = SteppedOn v s old new
