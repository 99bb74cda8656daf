-- What was made since a mark and stands in what older variables got. Only private functions cite this file.
use Rattle.std.specs.Prelude.{◌≡◌, ℕ, ◌+◌, ◌<◌, ◌≤◌, List, [], ◌∷◌, ◌++◌, slice_get, Some, Bool, true, ◌⊎◌}
use Rattle.std.specs.Option.{is_some}
use Rattle.semantic_objects.specs.declared.name.TyId.{TyId}
use Rattle.semantic_objects.specs.declared.name.TyId.TheVariants as id
use Rattle.unification.specs.Types.{occurs, size, size_all}
use Rattle.type_nodes.specs.declared.node.Node.{Node}
use Rattle.type_nodes.specs.declared.entry.Entry.TheVariants as entry
use Rattle.type_nodes.specs.Facts.{has_variable, every}
use Rattle.type_nodes.specs.Tables.{Table, Has, IsEnd, whole, whole_all, type_of}
use Rattle.type_schemes.specs.declared.young.Young.{Young}
use Rattle.type_schemes.specs.Reaching.{place_in}
use Rattle.type_schemes.specs.Schemes.{HaveAll}

abbrev pub met_node : Young → ℕ → Bool
met_node y i = is_some (place_in y.nodes i)

abbrev pub met_variable : Young → ℕ → Bool
met_variable y v = is_some (place_in y.variables v)

-- a variable for which nothing stands or a node was met, or was there at the mark, or it is a node without variables
abbrev pub IsMetEnd : Table → Young → TyId → Type 0
IsMetEnd t y (id.Variable v) = y.older ≤ v → met_variable y v ≡ true
IsMetEnd t y (id.Made i) = y.settled ≤ i → has_variable every (type_of t (id.Made i)) ≡ true → met_node y i ≡ true

-- what an id comes to was
pub record IsMet (t : Table) (y : Young) (a : TyId) : Type 0 where
  pub end : TyId
  pub has : Has t end
  pub is_end : IsEnd t end
  pub same : whole t end ≡ whole t a
  pub met : IsMetEnd t y end

-- or it is still to be looked at
abbrev pub IsDue : Table → Young → List TyId → TyId → Type 0
IsDue t y ids a = IsMet t y a ⊎ ((k : ℕ) × (slice_get ids k ≡ Some a))

-- the parts of nodes that were met are
abbrev pub PartsDue : Table → Young → List TyId → Type 0
PartsDue t y ids = (i j : ℕ) (x : Node) (a : TyId) → met_node y i ≡ true → slice_get t.nodes i ≡ Some x
    → slice_get x.parts j ≡ Some a → IsDue t y ids a

-- nothing was taken away
pub record IsLater (old new : Young) : Type 0 where
  pub older : new.older ≡ old.older
  pub settled : new.settled ≡ old.settled
  pub nodes : (i : ℕ) → met_node old i ≡ true → met_node new i ≡ true
  pub variables : (v : ℕ) → met_variable old v ≡ true → met_variable new v ≡ true

-- all variables are such as are wanted: those that were met, those of a type, those of several types
abbrev pub IsOnly : (ℕ → Bool) → Young → Type 0
IsOnly want y = (v : ℕ) → met_variable y v ≡ true → want v ≡ true

abbrev pub IsWanted : Table → (ℕ → Bool) → TyId → Type 0
IsWanted t want a = (v : ℕ) → occurs v (whole t a) ≡ true → want v ≡ true

abbrev pub AreWanted : Table → (ℕ → Bool) → List TyId → Type 0
AreWanted t want ids = (k : ℕ) (a : TyId) → slice_get ids k ≡ Some a → IsWanted t want a

-- an id was looked at, and others are to be looked at for it
pub record IsStepped (t : Table) (a : TyId) (old new : Young) (before after : List TyId) : Type 0 where
  pub later : IsLater old new
  pub met : IsMet t new a
  pub due : (b : TyId) → IsDue t old (before ++ a ∷ []) b → IsDue t new after b
  pub parts : PartsDue t old (before ++ a ∷ []) → PartsDue t new after
  pub only : (want : ℕ → Bool) → IsWanted t want a → IsOnly want old → IsOnly want new
  pub wanted : (want : ℕ → Bool) → IsWanted t want a → AreWanted t want before → AreWanted t want after
  pub have : HaveAll t before → HaveAll t after
  pub less : size_all (whole_all t after) < size_all (whole_all t before) + size (whole t a)

-- a node was: it needs nothing, or its parts are to be looked at
pub record IsOpened (t : Table) (i : ℕ) (old new : Young) (before after : List TyId) : Type 0 where
  pub node : Node
  pub at : slice_get t.nodes i ≡ Some node
  pub older : new.older ≡ old.older
  pub settled : new.settled ≡ old.settled
  pub variables : new.variables ≡ old.variables
  pub more : (j : ℕ) → met_node old j ≡ true → met_node new j ≡ true
  pub it : met_node new i ≡ true
  pub only : (j : ℕ) → met_node new j ≡ true → (met_node old j ≡ true) ⊎ (i ≡ j)
  pub ids : after ≡ before ++ node.parts

pub record IsPassedBy (t : Table) (i : ℕ) (old new : Young) (before after : List TyId) : Type 0 where
  pub met : IsMetEnd t old (id.Made i)
  pub same : new ≡ old
  pub ids : after ≡ before

abbrev pub MetNode : Table → ℕ → Young → Young → List TyId → List TyId → Type 0
MetNode t i old new before after = IsPassedBy t i old new before after ⊎ IsOpened t i old new before after

-- an id and all below it are looked at: what holds before each step
pub record IsWalk (t : Table) (a : TyId) (old new : Young) (ids : List TyId) : Type 0 where
  pub later : IsLater old new
  pub due : IsDue t new ids a
  pub parts : PartsDue t old [] → PartsDue t new ids
  pub only : (want : ℕ → Bool) → IsWanted t want a → IsOnly want old → IsOnly want new × AreWanted t want ids
  pub have : HaveAll t ids

-- and when it is done
pub record HasMet (t : Table) (a : TyId) (old new : Young) : Type 0 where
  pub later : IsLater old new
  pub met : IsMet t new a
  pub parts : PartsDue t old [] → PartsDue t new []
  pub only : (want : ℕ → Bool) → IsWanted t want a → IsOnly want old → IsOnly want new

-- the first of some ids were looked at
pub record HaveMet (t : Table) (ids : List TyId) (n : ℕ) (old new : Young) : Type 0 where
  pub later : IsLater old new
  pub met : (k : ℕ) (a : TyId) → k < n → slice_get ids k ≡ Some a → IsMet t new a
  pub parts : PartsDue t old [] → PartsDue t new []
  pub only : (want : ℕ → Bool) → AreWanted t want ids → IsOnly want old → IsOnly want new

-- what some entries put in for older variables
abbrev pub PutSince : Table → ℕ → ℕ → ℕ → (TyId → Type 0) → Type 0
PutSince t older from to P = (k v : ℕ) (a : TyId) → from ≤ k → k < to → slice_get t.trail k ≡ Some (entry.Bound v a)
    → v < older → P a

pub record MetEntries (t : Table) (from to : ℕ) (old new : Young) : Type 0 where
  pub ordered : from ≤ to
  pub later : IsLater old new
  pub met : PutSince t old.older from to (IsMet t new)
  pub parts : PartsDue t old [] → PartsDue t new []
  pub only : (want : ℕ → Bool) → PutSince t old.older from to (IsWanted t want) → IsOnly want old → IsOnly want new
