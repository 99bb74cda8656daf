-- The laws of interfaces that are read, as the public functions state them.
use Rattle.std.specs.Prelude.{◌≡◌, ℕ, ◌≤◌, ◌^◌, List, [], ◌++◌, length, Some}
use Rattle.cm_bytes.specs.Fields.{IsBytes}
use Rattle.node_bytes.specs.Nodes.{Node}
use Rattle.node_bytes.specs.Reading.{alone_at}
use Rattle.node_bytes.specs.Interfaces.{interfaces}
use Rattle.semantic_objects.specs.Environments.{Top}
use Rattle.realisation.specs.Canonical.{canonical}
use Rattle.interface_format.specs.Trees.{top_node}
use Rattle.interface_format.specs.Rules.{HasTables, HasNames}
use Rattle.interface_format.specs.Interfaces.{mark, interface_bytes, IsInterface}

-- the bytes are the mark, and behind it this node alone
pub record AreOf (bytes : List ℕ) (x : Node) : Type 0 where
  pub rest : List ℕ
  pub marked : bytes ≡ mark ++ rest
  pub read : alone_at interfaces rest ≡ Some (x, [])

-- bytes and the tops that they are interfaces of
pub record InterfacesAreRead : Type 0 where
  -- an interface is the mark and the node of its top
  pub read : (home bytes : List ℕ) (top : Top) → IsInterface home bytes top → AreOf bytes (top_node home top)
  -- the node behind the mark is one
  pub one : (bytes : List ℕ) (x y : Node) → AreOf bytes x → AreOf bytes y → x ≡ y
  -- and where a top of that node meets the rules, the bytes are its interface
  pub is : (home bytes : List ℕ) (top : Top) → IsBytes bytes → length bytes ≤ 2 ^ 32
      → AreOf bytes (top_node home top) → HasTables top → HasNames home top → IsInterface home bytes top
  -- a top of that node whose tables meet the rules is the only one that the bytes can be an interface of
  pub only : (home bytes : List ℕ) (top other : Top) → AreOf bytes (top_node home top) → HasTables top
      → IsInterface home bytes other → other ≡ top

-- reading and writing go back and forth
pub record InterfacesGoBack : Type 0 where
  -- what is read is written as the same bytes again
  pub again : (home bytes : List ℕ) (top : Top) → IsInterface home bytes top
      → interface_bytes home (canonical home top) ≡ bytes
  -- what is written is read as its canonical form
  pub back : (home bytes : List ℕ) (top other : Top) → IsInterface home bytes (canonical home top)
      → IsInterface home bytes other → other ≡ canonical home top
