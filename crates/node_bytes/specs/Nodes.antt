-- Nodes: a byte that is the tag, and behind it pieces of bytes with parts between them, each of them a node. Two nodes
-- are one where their tags, their pieces and their parts are.
use Rattle.std.specs.Prelude.{ℕ, zero, suc, ◌==◌, ◌&&◌, Bool, true, false, List, Option, Some, None, [], ◌∷◌, nat_eq}
use Rattle.std.specs.Cmp.Lexicographic.{pointwise}

mutual
  -- the tag, and what stands behind it
  pub data Node : Type 0 where
    node : ℕ → Content → Node

  -- nothing more; or a piece, or a part, and what stands behind it
  pub data Content : Type 0 where
    nothing : Content
    piece : List ℕ → Content → Content
    part : Node → Content → Content

-- whether two nodes are one
abbrev mutual
  pub same_node : Node → Node → Bool
  same_node (Node.node a x) (Node.node b y) = (a == b) && same_content x y

  pub same_content : Content → Content → Bool
  same_content Content.nothing Content.nothing = true
  same_content Content.nothing (Content.piece t y) = false
  same_content Content.nothing (Content.part q y) = false
  same_content (Content.piece s x) Content.nothing = false
  same_content (Content.piece s x) (Content.piece t y) = pointwise nat_eq s t && same_content x y
  same_content (Content.piece s x) (Content.part q y) = false
  same_content (Content.part p x) Content.nothing = false
  same_content (Content.part p x) (Content.piece t y) = false
  same_content (Content.part p x) (Content.part q y) = same_node p q && same_content x y

-- the nodes that were begun so far, by their numbers: each that is whole, and none yet where one is still open
abbrev pub Begun : Type 0
Begun = List (Option Node)

-- all of these nodes are whole
abbrev pub whole : List Node → Begun
whole [] = []
whole (x ∷ xs) = Some x ∷ whole xs

-- one more number
abbrev pub one_on : Option ℕ → Option ℕ
one_on (Some n) = Some (suc n)
one_on None = None

-- the first of two numbers, where the test says so, or else the one after
abbrev pub here_or : Bool → Option ℕ → Option ℕ
here_or true later = Some 0
here_or false later = one_on later

-- the number under which a node stands whole
abbrev pub number_of : Begun → Node → Option ℕ
number_of [] x = None
number_of (None ∷ begun) x = one_on (number_of begun x)
number_of (Some y ∷ begun) x = here_or (same_node x y) (number_of begun x)

-- the node that stands whole under a number
abbrev pub node_of : Begun → ℕ → Option Node
node_of [] n = None
node_of (x ∷ begun) zero = x
node_of (x ∷ begun) (suc n) = node_of begun n
