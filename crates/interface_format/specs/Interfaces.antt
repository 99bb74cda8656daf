-- Interfaces: the bytes that say what a unit `home` defines, in one spelling only.
use Rattle.std.specs.Prelude.{◌≡◌, ℕ, ◌≤◌, ◌^◌, List, [], ◌∷◌, ◌++◌, length}
use Rattle.node_bytes.specs.Spelling.{spelling, nodes_of}
use Rattle.node_bytes.specs.Interfaces.{interfaces}
use Rattle.semantic_objects.specs.Environments.{Top}
use Rattle.interface_format.specs.Trees.{top_node}
use Rattle.interface_format.specs.Rules.{HasTables, HasNames}

-- `CMI1`
abbrev pub mark : List ℕ
mark = 67 ∷ 77 ∷ 73 ∷ 49 ∷ []

-- the mark, and the unit as a node: each equal node is written once, at its first occurrence
abbrev pub interface_bytes : List ℕ → Top → List ℕ
interface_bytes home top = mark ++ spelling interfaces (top_node home top)

-- a top that can be written: each node has a number of four bytes
pub record CanBeWritten (home : List ℕ) (top : Top) : Type 0 where
  pub tables : HasTables top
  pub names : HasNames home top
  pub nodes : length (nodes_of interfaces (top_node home top)) ≤ 2 ^ 32

-- these bytes are the interface of the unit `home`, which defines this. No type name of `home` is written as another
-- unit's, since its owner says how it is written
pub record IsInterface (home bytes : List ℕ) (top : Top) : Type 0 where
  pub rules : CanBeWritten home top
  pub spelled : bytes ≡ interface_bytes home top
