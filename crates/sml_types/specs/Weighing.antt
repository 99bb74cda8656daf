-- Counting the nodes of types with a number above their variables. Only private functions cite this file.
use Rattle.std.specs.Prelude.{◌≡◌, ℕ, ◌+◌, ◌<◌, ◌≤◌, ltb, ◌||◌, List, [], ◌∷◌, Bool, true, false}
use Rattle.semantic_objects.specs.declared.name.TyId.{TyId}
use Rattle.unification.specs.Types.{size, occurs, occurs_any}
use Rattle.type_nodes.specs.declared.stamp.Weight.{Weight}
use Rattle.type_nodes.specs.Nodes.{rigid_in}
use Rattle.type_nodes.specs.Facts.{capped}
use Rattle.type_nodes.specs.Tables.{Table, whole, whole_all}
use Rattle.sml_types.specs.Sizing.{sizes, HaveAll}

-- all variables of what an id stands for that aren't rigid are below a number
abbrev pub IsUnder : Table → TyId → ℕ → Type 0
IsUnder t a n = (v : ℕ) → rigid_in t.births v ≡ false → occurs v (whole t a) ≡ true → v < n

-- a variable is below a number or stands in what is left
abbrev pub is_met : Table → ℕ → List TyId → ℕ → Bool
is_met t n left v = ltb v n || occurs_any v (whole_all t left)

-- an id was counted: what is counted and what is left are the same together, and no variable got lost
pub record Weighed (t : Table) (a : TyId) (before : Weight) (old new : List TyId) (after : Weight) : Type 0 where
  pub same : capped (after.size + sizes t new) ≡ capped (before.size + (sizes t old + size (whole t a)))
  pub less : sizes t new < sizes t old + size (whole t a)
  pub all : HaveAll t new
  pub within : after.size ≤ 65537
  pub kept : before.above ≤ after.above
  pub left : (v : ℕ) → occurs_any v (whole_all t old) ≡ true → is_met t after.above new v ≡ true
  pub own : (v : ℕ) → rigid_in t.births v ≡ false → occurs v (whole t a) ≡ true → is_met t after.above new v ≡ true

-- all of an id was counted, or what was counted was large
pub record IsWeightOf (t : Table) (a : TyId) (w : Weight) : Type 0 where
  pub size : w.size ≡ capped (size (whole t a))
  pub under : w.size < 65537 → IsUnder t a w.above
