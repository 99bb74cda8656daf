-- Formats: which nodes there are. A format says for each tag what stands behind it, step by step as the bytes say it,
-- so that what belongs to a node is told by its own bytes alone, whatever follows it.
use Rattle.std.specs.Prelude.{◌≡◌, ◌≢◌, ℕ, List, length}
use Rattle.node_bytes.specs.Nodes.{Node, Content}

-- what stands in a node behind what was read of it
pub data Shape : Type 0 where
  -- nothing more
  complete : Shape
  -- no node goes on so
  refused : Shape
  -- so many bytes, which say what stands behind them
  piece : ℕ → (List ℕ → Shape) → Shape
  -- a part, and what stands behind it
  part : Shape → Shape

-- a format: the tag of back references, and what stands behind each other tag
pub record Format : Type 0 where
  pub back : ℕ
  pub shape : ℕ → Shape

-- the nodes of a format
mutual
  -- a node has a tag, which isn't the one of back references, and behind it what the format says
  pub data IsNode (f : Format) : Node → Type 0 where
    node : (tag : ℕ) (content : Content) → tag ≢ f.back → IsContent f (f.shape tag) content
        → IsNode f (Node.node tag content)

  -- what stands in a node goes so
  pub data IsContent (f : Format) : Shape → Content → Type 0 where
    nothing : IsContent f Shape.complete Content.nothing
    piece : (n : ℕ) (next : List ℕ → Shape) (text : List ℕ) (content : Content) → length text ≡ n
        → IsContent f (next text) content → IsContent f (Shape.piece n next) (Content.piece text content)
    part : (next : Shape) (x : Node) (content : Content) → IsNode f x → IsContent f next content
        → IsContent f (Shape.part next) (Content.part x content)
