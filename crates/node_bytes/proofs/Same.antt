-- The test whether two nodes are one.
use Rattle.std.proofs.Common.{◌≡◌, ℕ, refl, sym, ap₂, subst, ◌∙◌, List, [], ◌∷◌, Bool, true, false, ◌&&◌}
use Rattle.std.specs.Prelude.{nat_eq, ◌==◌, ◌↔◌}
use Rattle.std.specs.Cmp.Lexicographic.{pointwise}
use Rattle.std.proofs.lemmas.Bool.{eq-eqb, eqb-true}
use Rattle.node_bytes.specs.Nodes.{Node, Content, same_node, same_content}

-- both of two answers
both_of : {P : Type 0} (a b : Bool) → (a && b) ≡ true → (a ≡ true → b ≡ true → P) → P
both_of true b h f = f refl h
both_of false b h f = absurd (cc)

and_also : (a b : Bool) → a ≡ true → b ≡ true → (a && b) ≡ true
and_also true b h k = k
and_also false b h k = h

pieces_one : (s t : List ℕ) → pointwise nat_eq s t ≡ true → s ≡ t
pieces_one [] [] h = refl
pieces_one [] (y ∷ ys) h = absurd (cc)
pieces_one (x ∷ xs) [] h = absurd (cc)
pieces_one (x ∷ xs) (y ∷ ys) h = both_of (nat_eq x y) (pointwise nat_eq xs ys) h
    (λ k ks. ap₂ (λ (a : ℕ) (b : List ℕ). a ∷ b) (eqb-true x y k) (pieces_one xs ys ks))

piece_itself : (t : List ℕ) → pointwise nat_eq t t ≡ true
piece_itself [] = refl
piece_itself (x ∷ xs) = and_also (nat_eq x x) (pointwise nat_eq xs xs) (eq-eqb x x refl) (piece_itself xs)

mutual
  pub node_is : (x y : Node) → same_node x y ≡ true → x ≡ y
  node_is (Node.node a x) (Node.node b y) h = both_of (a == b) (same_content x y) h
      (λ k ks. ap₂ (λ (t : ℕ) (c : Content). Node.node t c) (eqb-true a b k) (content_is x y ks))

  content_is : (x y : Content) → same_content x y ≡ true → x ≡ y
  content_is Content.nothing Content.nothing h = refl
  content_is Content.nothing (Content.piece t y) h = absurd (cc)
  content_is Content.nothing (Content.part q y) h = absurd (cc)
  content_is (Content.piece s x) Content.nothing h = absurd (cc)
  content_is (Content.piece s x) (Content.piece t y) h = both_of (pointwise nat_eq s t) (same_content x y) h
      (λ k ks. ap₂ (λ (p : List ℕ) (c : Content). Content.piece p c) (pieces_one s t k) (content_is x y ks))
  content_is (Content.piece s x) (Content.part q y) h = absurd (cc)
  content_is (Content.part p x) Content.nothing h = absurd (cc)
  content_is (Content.part p x) (Content.piece t y) h = absurd (cc)
  content_is (Content.part p x) (Content.part q y) h = both_of (same_node p q) (same_content x y) h
      (λ k ks. ap₂ (λ (p : Node) (c : Content). Content.part p c) (node_is p q k) (content_is x y ks))

mutual
  pub node_itself : (x : Node) → same_node x x ≡ true
  node_itself (Node.node a x) = and_also (a == a) (same_content x x) (eq-eqb a a refl) (content_itself x)

  content_itself : (x : Content) → same_content x x ≡ true
  content_itself Content.nothing = refl
  content_itself (Content.piece s x) =
      and_also (pointwise nat_eq s s) (same_content x x) (piece_itself s) (content_itself x)
  content_itself (Content.part p x) =
      and_also (same_node p p) (same_content x x) (node_itself p) (content_itself x)

pub nodes_told : (x y : Node) → (same_node x y ≡ true) ↔ (x ≡ y)
nodes_told x y = (node_is x y, λ e. subst (λ z. same_node x z ≡ true) e (node_itself x))

-- nodes that the test tells apart differ
pub node_differs : (x y : Node) → same_node x y ≡ false → x ≡ y → ⊥
node_differs x y h e = let k : true ≡ false = sym ((nodes_told x y).1 e) ∙ h in cc

-- and nodes that differ are told apart
pub node_apart : (x y : Node) → (x ≡ y → ⊥) → same_node x y ≡ false
node_apart x y h = apart (same_node x y) refl
  where
    apart : (b : Bool) → same_node x y ≡ b → same_node x y ≡ false
    apart true e = absurd (h (node_is x y e))
    apart false e = e
