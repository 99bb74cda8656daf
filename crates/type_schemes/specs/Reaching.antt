-- What stands below ids: the variables for which nothing stands and the nodes, each once. Only private functions cite
-- this file.
use Rattle.std.specs.Prelude.{◌≡◌, ℕ, ◌+◌, ◌*◌, ◌<◌, List, [], ◌∷◌, ◌++◌, length, get_or, slice_get, nat_eq, Option, Some, Bool, true}
use Rattle.std.specs.Option.{is_some}
use Rattle.indexmap.specs.IndexMap.{get}
use Rattle.semantic_objects.specs.declared.name.TyId.{TyId}
use Rattle.semantic_objects.specs.declared.name.TyId.TheVariants as id
use Rattle.semantic_objects.specs.declared.symbol.Symbol.TheVariants as symbol
use Rattle.unification.specs.Types.{occurs, size}
use Rattle.unification.specs.Closing.{is_among, noticed, found_in}
use Rattle.type_nodes.specs.Tables.{Table, Has, IsEnd, whole}
use Rattle.type_schemes.specs.Heads.{AreHeads}
use Rattle.type_schemes.specs.declared.places.Places.{Places}
use Rattle.type_schemes.specs.declared.reach.Reached.{Reached}
use Rattle.type_schemes.specs.declared.reach.Step.{Step}
use Rattle.type_schemes.specs.declared.reach.Step.TheVariants as step

-- the place that is known of a number
abbrev pub place_in : Places → ℕ → Option ℕ
place_in known n = get nat_eq known.places n

-- the variables among ids, in their order
abbrev pub variables_of : List TyId → List ℕ
variables_of [] = []
variables_of (id.Variable v ∷ ids) = v ∷ variables_of ids
variables_of (id.Made i ∷ ids) = variables_of ids

-- variables that are met one after the other
abbrev pub noticed_all : (ℕ → Bool) → List ℕ → List ℕ → List ℕ
noticed_all kept [] vs = vs
noticed_all kept (n ∷ ns) vs = noticed_all kept ns (noticed (kept n) n vs)

-- the variables that were reached and aren't kept
abbrev pub found : (ℕ → Bool) → Reached → List ℕ
found kept r = noticed_all kept (variables_of r.ids) []

-- each variable of an id's type was reached
abbrev pub IsPassed : Table → Reached → TyId → Type 0
IsPassed t r a = (v : ℕ) → occurs v (whole t a) ≡ true → is_among v (variables_of r.ids) ≡ true

abbrev pub AllPassed : Table → Reached → List TyId → Type 0
AllPassed t r ids = (i : ℕ) (a : TyId) → slice_get ids i ≡ Some a → IsPassed t r a

pub record IsReached (t : Table) (r : Reached) : Type 0 where
  pub ends : (p : ℕ) (a : TyId) → slice_get r.ids p ≡ Some a → Has t a × IsEnd t a
  pub nodes : (i p : ℕ) → place_in r.nodes i ≡ Some p → slice_get r.ids p ≡ Some (id.Made i)
  pub variables : (v p : ℕ) → place_in r.variables v ≡ Some p → slice_get r.ids p ≡ Some (id.Variable v)
  pub passed : (i p : ℕ) → place_in r.nodes i ≡ Some p → IsPassed t r (id.Made i)
  pub placed : (v : ℕ) → is_among v (variables_of r.ids) ≡ true → is_some (place_in r.variables v) ≡ true
  pub heads : AreHeads t r.heads

-- at a place stands what an id comes to
pub record IsPlaceOf (t : Table) (r : Reached) (a : TyId) (p : ℕ) : Type 0 where
  pub head : TyId
  pub at : slice_get r.ids p ≡ Some head
  pub same : whole t head ≡ whole t a
  pub passed : IsPassed t r a

abbrev pub MayBePlaceOf : Table → Reached → TyId → Option ℕ → Type 0
MayBePlaceOf t r a o = (p : ℕ) → o ≡ Some p → IsPlaceOf t r a p

-- steps that are left, the last one first
abbrev pub StepHas : Table → Step → Type 0
StepHas t (step.Enter a) = Has t a
StepHas t (step.Leave i) = i < length t.nodes

abbrev pub StepsHave : Table → List Step → Type 0
StepsHave t [] = Unit {0}
StepsHave t (s ∷ ss) = StepHas t s × StepsHave t ss

abbrev pub found_by : (ℕ → Bool) → Table → Step → List ℕ → List ℕ
found_by kept t (step.Enter a) vs = found_in kept (whole t a) vs
found_by kept t (step.Leave i) vs = vs

abbrev pub found_after : (ℕ → Bool) → Table → List Step → List ℕ → List ℕ
found_after kept t [] vs = vs
found_after kept t (s ∷ ss) vs = found_by kept t s (found_after kept t ss vs)

-- a bound on the steps that are left
abbrev pub weight : Table → Step → ℕ
weight t (step.Enter a) = 2 * size (whole t a)
weight t (step.Leave i) = 1

abbrev pub weights : Table → List Step → ℕ
weights t [] = 0
weights t (s ∷ ss) = weights t ss + weight t s

-- the steps for some ids, of which the first one is the last step
abbrev pub entered : List TyId → List Step
entered [] = []
entered (a ∷ ids) = entered ids ++ step.Enter a ∷ []

abbrev pub parts_at : Table → ℕ → List TyId
parts_at t i = (get_or t.nodes i (record { symbol = symbol.Arrow; parts = [] })).parts

abbrev pub IsOpened : Table → ℕ → List Step → List Step → Type 0
IsOpened t i old new = new ≡ (old ++ step.Leave i ∷ []) ++ entered (parts_at t i)

-- a step was taken: all that is left finds the same, and less is left
pub record StepTaken (t : Table) (s : Step) (old new : Reached) (before after : List Step) : Type 0 where
  pub reached : IsReached t new
  pub finds : (kept : ℕ → Bool)
      → found_after kept t after (found kept new) ≡ found_after kept t before (found_by kept t s (found kept old))
  pub less : weights t after < weights t before + weight t s
  pub have : StepsHave t before → StepsHave t after
