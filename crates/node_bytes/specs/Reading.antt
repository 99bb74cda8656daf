-- How a node is read, as steps: the node at the front of the bytes, with the nodes that were begun in them, and the
-- bytes that are left.
use Rattle.std.specs.Prelude.{ℕ, zero, suc, ◌==◌, if◌then◌else◌, List, [], ◌∷◌, ◌++◌, length, Option, Some, None}
use Rattle.cm_bytes.specs.Fields.{Step, ◌>>=◌, byte_at, raw_at, u32_at}
use Rattle.node_bytes.specs.Nodes.{Node, Content, Begun, whole, number_of, node_of}
use Rattle.node_bytes.specs.Formats.{Format, Shape}

-- what was read, and the nodes that were begun in it
abbrev pub NodeStep : Type 0
NodeStep = Begun → Step (Node × List Node)

-- what stands in a node of that shape, where `node_at` reads its parts
abbrev pub content_at : NodeStep → Shape → Begun → Step (Content × List Node)
content_at node_at Shape.complete begun bytes = Some ((Content.nothing, []), bytes)
content_at node_at Shape.refused begun bytes = None
content_at node_at (Shape.piece n next) begun bytes =
    raw_at n bytes >>= λ text. content_at node_at (next text.0) begun text.1
    >>= λ r. Some ((Content.piece text.0 r.0.0, r.0.1), r.1)
content_at node_at (Shape.part next) begun bytes =
    node_at begun bytes >>= λ x. content_at node_at next (begun ++ whole x.0.1) x.1
    >>= λ r. Some ((Content.part x.0.0 r.0.0, x.0.1 ++ r.0.1), r.1)

-- a back reference: it leads to a node that stands whole
abbrev pub back_at : NodeStep
back_at begun bytes = u32_at bytes >>= λ n. node_of begun n.0 >>= λ x. Some ((x, []), n.1)

-- a node that doesn't stand whole already
abbrev pub if_new : {A : Type 0} → Option ℕ → A → Option A
if_new (Some n) x = None
if_new None x = Some x

-- a node that is written out: it was not written before
abbrev pub written_at : NodeStep → Format → ℕ → NodeStep
written_at node_at f tag begun bytes =
    content_at node_at (f.shape tag) (begun ++ None ∷ []) bytes
    >>= λ r. if_new (number_of begun (Node.node tag r.0.0)) ((Node.node tag r.0.0, Node.node tag r.0.0 ∷ r.0.1), r.1)

-- a node behind its tag
abbrev pub tagged_at : NodeStep → Format → ℕ → NodeStep
tagged_at node_at f tag begun bytes =
    if tag == f.back then back_at begun bytes else written_at node_at f tag begun bytes

-- a node in which at most so many are open at once
abbrev pub node_at : ℕ → Format → NodeStep
node_at zero f begun bytes = None
node_at (suc n) f begun bytes = byte_at bytes >>= λ tag. tagged_at (node_at n f) f tag.0 begun tag.1

-- a node that stands alone; no more can be open at once than there are bytes
unfoldable pub alone_at : Format → Step Node
alone_at f bytes = node_at (length bytes) f [] bytes >>= λ r. Some (r.0.0, r.1)
