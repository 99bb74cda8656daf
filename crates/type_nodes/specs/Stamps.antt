-- The sizes of types that were counted.
use Rattle.std.specs.Prelude.{◌≡◌, ℕ, ◌<◌, ◌≤◌, List, [], ◌∷◌, length, drop, slice_get, Option, Some, true, false}
use Rattle.semantic_objects.specs.declared.name.TyId.TheVariants as id
use Rattle.unification.specs.Types.{size, occurs}
use Rattle.type_nodes.specs.Nodes.{rigid_in}
use Rattle.type_nodes.specs.Facts.{capped}
use Rattle.type_nodes.specs.declared.entry.Entry.{Entry}
use Rattle.type_nodes.specs.declared.entry.Entry.TheVariants as entry
use Rattle.type_nodes.specs.declared.stamp.Stamp.{Stamp}
use Rattle.type_nodes.specs.declared.stamp.Weight.{Weight}
use Rattle.type_nodes.specs.Tables.{Table, whole}

-- what a node stands for has so many nodes as a tree, and all its variables that aren't rigid are below a number
pub record Weighs (t : Table) (i : ℕ) (w : Weight) : Type 0 where
  pub size : w.size ≡ capped (size (whole t (id.Made i)))
  pub below : (v : ℕ) → rigid_in t.births v ≡ false → occurs v (whole t (id.Made i)) ≡ true → v < w.above

-- an entry that puts nothing in for a variable below a number
abbrev pub IsAbove : ℕ → Entry → Type 0
IsAbove n (entry.Bound v a) = n ≤ v
IsAbove n (entry.Marked v) = Unit {0}

abbrev pub AreAbove : ℕ → List Entry → Type 0
AreAbove n [] = Unit {0}
AreAbove n (e ∷ es) = IsAbove n e × AreAbove n es

-- what was counted holds where nothing was put in for a variable below the number since
pub record Holds (t : Table) (i : ℕ) (s : Stamp) : Type 0 where
  pub has : i < length t.nodes
  pub within : s.entries ≤ length t.trail
  pub weighs : AreAbove s.weight.above (drop s.entries t.trail) → Weighs t i s.weight

-- .. and where no entry was taken back since; in the last of these counts nothing that was counted is used
pub record IsStamp (t : Table) (cuts i : ℕ) (s : Stamp) : Type 0 where
  pub past : s.cuts ≤ cuts
  pub holds : s.cuts ≡ cuts → cuts < 18446744073709551615 → Holds t i s

abbrev pub AreStamps : Table → List (Option Stamp) → ℕ → Type 0
AreStamps t stamps cuts = (i : ℕ) (s : Stamp) → slice_get stamps i ≡ Some (Some s) → IsStamp t cuts i s
