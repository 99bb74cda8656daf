-- What ids come to, and what is known of that. Only private functions cite this file.
use Rattle.std.specs.Prelude.{◌≡◌, ℕ, nat_eq, Some}
use Rattle.indexmap.specs.IndexMap.{get}
use Rattle.semantic_objects.specs.declared.name.TyId.{TyId}
use Rattle.semantic_objects.specs.declared.name.TyId.TheVariants as id
use Rattle.type_nodes.specs.Tables.{Table, Has, IsEnd, whole}
use Rattle.type_schemes.specs.declared.heads.Heads.{Heads}

-- an id comes to a variable for which nothing stands, or to a node
pub record IsHeadOf (t : Table) (a head : TyId) : Type 0 where
  pub has : Has t head
  pub whole : whole t head ≡ whole t a
  pub end : IsEnd t head

-- what is known of variables is so
pub record AreHeads (t : Table) (h : Heads) : Type 0 where
  pub each : (v : ℕ) (head : TyId) → get nat_eq h.heads v ≡ Some head → IsHeadOf t (id.Variable v) head
