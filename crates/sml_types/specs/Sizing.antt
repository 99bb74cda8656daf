-- Counting the nodes of types. Only private functions cite this file.
use Rattle.std.specs.Prelude.{◌≡◌, ℕ, ◌+◌, ◌<◌, ◌≤◌, List, [], ◌∷◌}
use Rattle.semantic_objects.specs.declared.name.TyId.{TyId}
use Rattle.unification.specs.Types.{size}
use Rattle.type_nodes.specs.Facts.{capped}
use Rattle.type_nodes.specs.Tables.{Table, Has, whole}

-- the sizes of all that is left
abbrev pub sizes : Table → List TyId → ℕ
sizes t [] = 0
sizes t (a ∷ ids) = size (whole t a) + sizes t ids

abbrev pub HaveAll : Table → List TyId → Type 0
HaveAll t [] = Unit {0}
HaveAll t (a ∷ ids) = Has t a × HaveAll t ids

-- an id was counted: what is counted and what is left are the same together
pub record Counted (t : Table) (a : TyId) (before : ℕ) (old new : List TyId) (after : ℕ) : Type 0 where
  pub same : capped (after + sizes t new) ≡ capped (before + (sizes t old + size (whole t a)))
  pub less : sizes t new < sizes t old + size (whole t a)
  pub all : HaveAll t new
  pub within : after ≤ 65537
