-- The laws of reading nodes.
use Rattle.std.specs.Prelude.{◌≡◌, ◌≢◌, ℕ, List, [], ◌∷◌, ◌++◌, length, set, Some, None}
use Rattle.cm_bytes.specs.Fields.{◌>>=◌, u32_at}
use Rattle.node_bytes.specs.Nodes.{Node, Begun, whole, number_of, node_of}
use Rattle.node_bytes.specs.Formats.{Format, Shape}
use Rattle.node_bytes.specs.Reading.{if_new, tagged_at, alone_at}
use Rattle.interface_reading.specs.Unbounded.{any_node_at}
use Rattle.interface_reading.specs.Open.{Frame, Then, going, opened, going_with}

-- behind a tag nodes are read as they are at the front of bytes
abbrev pub ReadsByTags : Type 0
ReadsByTags = (f : Format) (begun : Begun) (tag : ℕ) (bytes : List ℕ)
    → any_node_at f begun (tag ∷ bytes) ≡ tagged_at (any_node_at f) f tag begun bytes

-- how reading goes on in open nodes, in every format and whatever is done with a node that is whole
pub record ReadsOpenNodes : Type 0 where
  -- a node that stands alone
  pub alone : (f : Format) (bytes : List ℕ) → alone_at f bytes ≡ (any_node_at f [] bytes >>= λ x. Some (x.0.0, x.1))
  -- a part is awaited
  pub part : (f : Format) (done : Then) (fr : Frame) (begun : Begun) (bytes : List ℕ) (next : Shape)
      → fr.shape ≡ Shape.part next
      → going f done fr begun bytes
      ≡ (any_node_at f begun bytes >>= λ x. going_with f done fr next (begun ++ whole x.0.1) x.0.0 x.1)
  -- behind a tag a node is opened
  pub opens : (f : Format) (done : Then) (begun : Begun) (tag : ℕ) (bytes : List ℕ) → tag ≢ f.back
      → (any_node_at f begun (tag ∷ bytes) >>= λ x. done (begun ++ whole x.0.1) x.0.0 x.1)
      ≡ going f done (opened f tag (length begun)) (begun ++ None ∷ []) bytes
  -- a back reference is followed
  pub back : (f : Format) (done : Then) (begun : Begun) (bytes : List ℕ)
      → (any_node_at f begun (f.back ∷ bytes) >>= λ x. done (begun ++ whole x.0.1) x.0.0 x.1)
      ≡ (u32_at bytes >>= λ n. node_of begun n.0 >>= λ x. done begun x n.1)
  -- nothing more is awaited
  pub closes : (f : Format) (done : Then) (fr : Frame) (begun : Begun) (bytes : List ℕ)
      → fr.shape ≡ Shape.complete
      → going f done fr begun bytes
      ≡ (if_new (number_of begun (Node.node fr.tag fr.before)) (Node.node fr.tag fr.before)
      >>= λ x. done (set begun fr.number (Some x)) x bytes)
