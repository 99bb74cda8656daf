-- How the logic stores nodes: as trees of numbers that give them back.
use Rattle.std.specs.Prelude.{◌≡◌, refl, ℕ, List}
use Rattle.std.specs.Coded.{Coded, coded_list, coded_ℕ}
use base.Stored.{Gv, gnil, gnum, gcons}
use mathlib.Core.Path.{ap₂}
use Rattle.node_bytes.specs.Nodes.{Node, Content}

abbrev pub text_code : Coded (List ℕ)
text_code = coded_list coded_ℕ

abbrev mutual
  pub node_number : Node → Gv
  node_number (Node.node tag content) = gcons (gnum tag) (content_number content)

  pub content_number : Content → Gv
  content_number Content.nothing = gnil
  content_number (Content.piece text content) = gcons (gcons gnil (text_code.code text)) (content_number content)
  content_number (Content.part x content) = gcons (node_number x) (content_number content)

mutual
  pub node_back : (x y : Node) → node_number x ≡ node_number y → x ≡ y
  node_back (Node.node s x) (Node.node t y) e =
      let k : s ≡ t = cc in
      let l : content_number x ≡ content_number y = cc in
      ap₂ Node.node k (content_back x y l)

  pub content_back : (x y : Content) → content_number x ≡ content_number y → x ≡ y
  content_back Content.nothing Content.nothing e = refl
  content_back Content.nothing (Content.piece t y) e = absurd (cc)
  content_back Content.nothing (Content.part q y) e = absurd (cc)
  content_back (Content.piece s x) Content.nothing e = absurd (cc)
  content_back (Content.piece s x) (Content.piece t y) e =
      let k : text_code.code s ≡ text_code.code t = cc in
      let l : content_number x ≡ content_number y = cc in
      ap₂ Content.piece (text_code.inj s t k) (content_back x y l)
  content_back (Content.piece s x) (Content.part (Node.node tag c) y) e = absurd (cc)
  content_back (Content.part p x) Content.nothing e = absurd (cc)
  content_back (Content.part (Node.node tag c) x) (Content.piece t y) e = absurd (cc)
  content_back (Content.part p x) (Content.part q y) e =
      let k : node_number p ≡ node_number q = cc in
      let l : content_number x ≡ content_number y = cc in
      ap₂ Content.part (node_back p q k) (content_back x y l)

abbrev pub nodes_code : Coded (List Node)
nodes_code = coded_list (record { code = node_number; inj = node_back })
