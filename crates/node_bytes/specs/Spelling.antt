-- The one spelling of a node. A node takes the next number at its tag. One that stands whole already, under some
-- number, is spelled as a back reference to it, and no other is.
use Rattle.std.specs.Prelude.{ℕ, List, [], ◌∷◌, ◌++◌, Option, Some, None}
use Rattle.cm_bytes.specs.Fields.{u32_of}
use Rattle.node_bytes.specs.Nodes.{Node, Content, Begun, whole, number_of}
use Rattle.node_bytes.specs.Formats.{Format}

-- bytes, and the nodes that are begun in them, in the order of their numbers
pub record Spelled : Type 0 where
  pub bytes : List ℕ
  pub nodes : List Node

-- a node by its number, or by its tag and its content
abbrev pub spelled_as : Format → Option ℕ → Node → Spelled → Spelled
spelled_as f (Some n) x inner = record { bytes = f.back ∷ u32_of n; nodes = [] }
spelled_as f None (Node.node tag content) inner =
    record { bytes = tag ∷ inner.bytes; nodes = Node.node tag content ∷ inner.nodes }

-- one behind the other
abbrev pub both_spelled : Spelled → Spelled → Spelled
both_spelled a b = record { bytes = a.bytes ++ b.bytes; nodes = a.nodes ++ b.nodes }

abbrev mutual
  -- a node, behind those that were begun before it
  pub spelled : Format → Begun → Node → Spelled
  spelled f begun (Node.node tag content) =
      spelled_as f (number_of begun (Node.node tag content)) (Node.node tag content)
      (spelled_content f (begun ++ None ∷ []) content)

  -- what stands in a node
  pub spelled_content : Format → Begun → Content → Spelled
  spelled_content f begun Content.nothing = record { bytes = []; nodes = [] }
  spelled_content f begun (Content.piece text content) =
      both_spelled (record { bytes = text; nodes = [] }) (spelled_content f begun content)
  spelled_content f begun (Content.part x content) =
      both_spelled (spelled f begun x) (spelled_content f (begun ++ whole (spelled f begun x).nodes) content)

-- the bytes of a node that stands alone
abbrev pub spelling : Format → Node → List ℕ
spelling f x = (spelled f [] x).bytes

-- the nodes that these bytes have, in the order of their numbers: the node itself, and what stands in it, each once
abbrev pub nodes_of : Format → Node → List Node
nodes_of f x = (spelled f [] x).nodes
