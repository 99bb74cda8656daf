-- What is spelled is read again, whatever follows.
use Rattle.std.proofs.Common.{◌≡◌, ◌≢◌, ℕ, zero, suc, ◌+◌, ◌^◌, ◌≤◌, refl, ap, subst, ◌∙◌, List, [], ◌∷◌, ◌++◌, length, Bool, cond, Option, Some, None, append_assoc, arith}
use Rattle.std.proofs.lemmas.List.{length-append}
use Rattle.std.proofs.lemmas.Bool.{eq-eqb, ne_eqb}
use Rattle.cm_bytes.specs.Fields.{◌>>=◌, IsReadAgain, byte_at, raw_at, u32_of, u32_at}
use Rattle.cm_bytes.proofs.Fields.{byte_again, raw_again, u32_again, no_front}
use Rattle.node_bytes.specs.Nodes.{Node, Content, Begun, whole, number_of, node_of}
use Rattle.node_bytes.specs.Formats.{Format, Shape, IsNode, IsContent}
use Rattle.node_bytes.specs.Spelling.{Spelled, spelled, spelled_as, spelled_content, spelling, nodes_of}
use Rattle.node_bytes.specs.Laws.{IsNumbered}
use Rattle.node_bytes.specs.Reading.{NodeStep, content_at, back_at, if_new, written_at, tagged_at, node_at, alone_at}
use Rattle.node_bytes.proofs.Numbers.{length-whole, number_leads}

-- a step that has its value goes on with it
then_some : {A B : Type 0} (read : Option A) (next : A → Option B) (x : A) → read ≡ Some x → (read >>= next) ≡ next x
then_some {A = A} read next x e = ap (λ (r : Option A). r >>= next) e

-- behind the tag of back references
tagged_back : (step : NodeStep) (f : Format) (begun : Begun) (bytes : List ℕ)
    → tagged_at step f f.back begun bytes ≡ back_at begun bytes
tagged_back step f begun bytes =
    ap (λ (b : Bool). cond b (back_at begun bytes) (written_at step f f.back begun bytes)) (eq-eqb f.back f.back refl)

-- behind another
tagged_other : (step : NodeStep) (f : Format) (tag : ℕ) (begun : Begun) (bytes : List ℕ) → tag ≢ f.back
    → tagged_at step f tag begun bytes ≡ written_at step f tag begun bytes
tagged_other step f tag begun bytes other =
    ap (λ (b : Bool). cond b (back_at begun bytes) (written_at step f tag begun bytes)) (ne_eqb tag f.back other)

-- the bytes of a tag and what is spelled behind it, with the room that they have
node_again : (f : Format) (n : ℕ) (begun : Begun) (tag : ℕ) (bytes : List ℕ)
    → node_at (suc n) f begun (tag ∷ bytes) ≡ tagged_at (node_at n f) f tag begun bytes
node_again f n begun tag bytes =
    then_some (byte_at (tag ∷ bytes)) (λ t. tagged_at (node_at n f) f t.0 begun t.1) (tag, bytes) (byte_again tag bytes)

-- a back reference is read
back_again : (begun : Begun) (x : Node) (k : ℕ) (rest : List ℕ) → number_of begun x ≡ Some k → length begun ≤ 2 ^ 32
    → back_at begun (u32_of k ++ rest) ≡ Some ((x, []), rest)
back_again begun x k rest e few =
    let leads = number_leads begun x k e in
    then_some (u32_at (u32_of k ++ rest)) (λ n. node_of begun n.0 >>= λ y. Some ((y, []), n.1)) (k, rest)
    (u32_again k rest (omega (arith, leads.1, few)))
    ∙ then_some (node_of begun k) (λ y. Some ((y, []), rest)) x leads.0

-- a node that is written out is read
written_again : (f : Format) (step : NodeStep) (begun : Begun) (tag : ℕ) (content : Content) (nodes : List Node)
    (bytes rest : List ℕ) → number_of begun (Node.node tag content) ≡ None
    → content_at step (f.shape tag) (begun ++ None ∷ []) (bytes ++ rest) ≡ Some ((content, nodes), rest)
    → written_at step f tag begun (bytes ++ rest) ≡ Some ((Node.node tag content, Node.node tag content ∷ nodes), rest)
written_again f step begun tag content nodes bytes rest new e =
    then_some (content_at step (f.shape tag) (begun ++ None ∷ []) (bytes ++ rest))
    (λ r. if_new (number_of begun (Node.node tag r.0.0)) ((Node.node tag r.0.0, Node.node tag r.0.0 ∷ r.0.1), r.1))
    ((content, nodes), rest) e
    ∙ ap (λ (o : Option ℕ). if_new o ((Node.node tag content, Node.node tag content ∷ nodes), rest)) new

-- a node with its number, or without one
as_again : (f : Format) (n : ℕ) (begun : Begun) (o : Option ℕ) (tag : ℕ) (content : Content) (inner : Spelled)
    (rest : List ℕ) → number_of begun (Node.node tag content) ≡ o → tag ≢ f.back
    → length (spelled_as f o (Node.node tag content) inner).bytes ≤ n
    → length begun + length (spelled_as f o (Node.node tag content) inner).nodes ≤ 2 ^ 32
    → ((m : ℕ) → length inner.bytes ≤ m → length begun + suc (length inner.nodes) ≤ 2 ^ 32
    → content_at (node_at m f) (f.shape tag) (begun ++ None ∷ []) (inner.bytes ++ rest)
    ≡ Some ((content, inner.nodes), rest))
    → node_at n f begun ((spelled_as f o (Node.node tag content) inner).bytes ++ rest)
    ≡ Some ((Node.node tag content, (spelled_as f o (Node.node tag content) inner).nodes), rest)
as_again f zero begun (Some k) tag content inner rest e other room few inside = absurd (omega (arith, room))
as_again f (suc n) begun (Some k) tag content inner rest e other room few inside =
    node_again f n begun f.back (u32_of k ++ rest)
    ∙ tagged_back (node_at n f) f begun (u32_of k ++ rest)
    ∙ back_again begun (Node.node tag content) k rest e (omega (arith, few))
as_again f zero begun None tag content inner rest e other room few inside = absurd (omega (arith, room))
as_again f (suc n) begun None tag content inner rest e other room few inside =
    node_again f n begun tag (inner.bytes ++ rest)
    ∙ tagged_other (node_at n f) f tag begun (inner.bytes ++ rest) other
    ∙ written_again f (node_at n f) begun tag content inner.nodes inner.bytes rest e
    (inside n (omega (arith, room)) few)

-- a piece is read, and what stands behind it
piece_again : (step : NodeStep) (next : List ℕ → Shape) (begun : Begun) (text bytes rest : List ℕ) (content : Content)
    (nodes : List Node) → content_at step (next text) begun (bytes ++ rest) ≡ Some ((content, nodes), rest)
    → content_at step (Shape.piece (length text) next) begun ((text ++ bytes) ++ rest)
    ≡ Some ((Content.piece text content, nodes), rest)
piece_again step next begun text bytes rest content nodes e =
    ap (content_at step (Shape.piece (length text) next) begun) (append_assoc text bytes rest)
    ∙ then_some (raw_at (length text) (text ++ (bytes ++ rest)))
    (λ t. content_at step (next t.0) begun t.1 >>= λ r. Some ((Content.piece t.0 r.0.0, r.0.1), r.1))
    (text, bytes ++ rest) (raw_again text (bytes ++ rest))
    ∙ then_some (content_at step (next text) begun (bytes ++ rest))
    (λ r. Some ((Content.piece text r.0.0, r.0.1), r.1)) ((content, nodes), rest) e

-- a part is read, and what stands behind it
part_again : (step : NodeStep) (next : Shape) (begun : Begun) (x : Node) (content : Content) (a b rest : List ℕ)
    (xs ys : List Node) → step begun (a ++ (b ++ rest)) ≡ Some ((x, xs), b ++ rest)
    → content_at step next (begun ++ whole xs) (b ++ rest) ≡ Some ((content, ys), rest)
    → content_at step (Shape.part next) begun ((a ++ b) ++ rest) ≡ Some ((Content.part x content, xs ++ ys), rest)
part_again step next begun x content a b rest xs ys first later =
    ap (content_at step (Shape.part next) begun) (append_assoc a b rest)
    ∙ then_some (step begun (a ++ (b ++ rest)))
    (λ y. content_at step next (begun ++ whole y.0.1) y.1
    >>= λ r. Some ((Content.part y.0.0 r.0.0, y.0.1 ++ r.0.1), r.1))
    ((x, xs), b ++ rest) first
    ∙ then_some (content_at step next (begun ++ whole xs) (b ++ rest))
    (λ r. Some ((Content.part x r.0.0, xs ++ r.0.1), r.1)) ((content, ys), rest) later

mutual
  pub again : (f : Format) (x : Node) → IsNode f x → (n : ℕ) (begun : Begun) (rest : List ℕ)
      → length (spelled f begun x).bytes ≤ n → length begun + length (spelled f begun x).nodes ≤ 2 ^ 32
      → node_at n f begun ((spelled f begun x).bytes ++ rest) ≡ Some ((x, (spelled f begun x).nodes), rest)
  again f x (IsNode.node tag content other inside) n begun rest room few =
      as_again f n begun (number_of begun (Node.node tag content)) tag content
      (spelled_content f (begun ++ None ∷ []) content) rest refl other room few
      (λ m wide count. content_again f (f.shape tag) content inside m (begun ++ None ∷ []) rest wide
      (omega (arith, count, length-append begun (None ∷ []))))

  content_again : (f : Format) (shape : Shape) (content : Content) → IsContent f shape content → (n : ℕ)
      (begun : Begun) (rest : List ℕ) → length (spelled_content f begun content).bytes ≤ n
      → length begun + length (spelled_content f begun content).nodes ≤ 2 ^ 32
      → content_at (node_at n f) shape begun ((spelled_content f begun content).bytes ++ rest)
      ≡ Some ((content, (spelled_content f begun content).nodes), rest)
  content_again f shape content IsContent.nothing n begun rest room few = refl
  content_again f shape content (IsContent.piece k next text others long inside) n begun rest room few =
      let inner = spelled_content f begun others in
      subst (λ (z : ℕ). content_at (node_at n f) (Shape.piece z next) begun ((text ++ inner.bytes) ++ rest)
      ≡ Some ((Content.piece text others, inner.nodes), rest)) long
      (piece_again (node_at n f) next begun text inner.bytes rest others inner.nodes
      (content_again f (next text) others inside n begun rest
      (omega (arith, room, length-append text inner.bytes)) few))
  content_again f shape content (IsContent.part next x others one inside) n begun rest room few =
      let a = spelled f begun x in
      let b = spelled_content f (begun ++ whole a.nodes) others in
      let bytes = length-append a.bytes b.bytes in
      let nodes = length-append a.nodes b.nodes in
      let before = length-append begun (whole a.nodes) in
      let same = length-whole a.nodes in
      part_again (node_at n f) next begun x others a.bytes b.bytes rest a.nodes b.nodes
      (again f x one n begun (b.bytes ++ rest) (omega (arith, room, bytes)) (omega (arith, few, nodes)))
      (content_again f next others inside n (begun ++ whole a.nodes) rest (omega (arith, room, bytes))
      (omega (arith, few, nodes, before, same)))

-- a node that stands alone
pub alone_again : (f : Format) (x : Node) → IsNumbered f x → IsReadAgain (spelling f) (alone_at f) x
unfolding alone_at
alone_again f x h = record {
  again = λ rest.
      then_some (node_at (length (spelling f x ++ rest)) f [] (spelling f x ++ rest)) (λ r. Some (r.0.0, r.1))
      ((x, nodes_of f x), rest)
      (again f x h.is (length (spelling f x ++ rest)) [] rest (omega (arith, length-append (spelling f x) rest))
      (omega (arith, h.few)));
}

-- no spelling is a proper front of another
pub alone_whole : (f : Format) (x y : Node) (more : List ℕ) → IsNumbered f x → IsNumbered f y
    → spelling f x ++ more ≡ spelling f y → (x ≡ y) × (more ≡ [])
alone_whole f x y more h k e =
    no_front (spelling f) (alone_at f) x y more (alone_again f x h) (alone_again f y k) e

-- ---- how many nodes there are

few_as : (f : Format) (o : Option ℕ) (tag : ℕ) (content : Content) (inner : Spelled)
    → length inner.nodes ≤ length inner.bytes
    → length (spelled_as f o (Node.node tag content) inner).nodes
    ≤ length (spelled_as f o (Node.node tag content) inner).bytes
few_as f (Some n) tag content inner h = omega arith
few_as f None tag content inner h = omega (arith, h)

mutual
  few_nodes : (f : Format) (begun : Begun) (x : Node)
      → length (spelled f begun x).nodes ≤ length (spelled f begun x).bytes
  few_nodes f begun (Node.node tag content) =
      few_as f (number_of begun (Node.node tag content)) tag content (spelled_content f (begun ++ None ∷ []) content)
      (few_inside f (begun ++ None ∷ []) content)

  few_inside : (f : Format) (begun : Begun) (content : Content)
      → length (spelled_content f begun content).nodes ≤ length (spelled_content f begun content).bytes
  few_inside f begun Content.nothing = omega arith
  few_inside f begun (Content.piece text content) =
      omega (arith, few_inside f begun content, length-append text (spelled_content f begun content).bytes)
  few_inside f begun (Content.part x content) =
      let a = spelled f begun x in
      let b = spelled_content f (begun ++ whole a.nodes) content in
      omega (
        arith,
        few_nodes f begun x,
        few_inside f (begun ++ whole a.nodes) content,
        length-append a.nodes b.nodes,
        length-append a.bytes b.bytes,
      )

pub nodes_few : (f : Format) (x : Node) → length (nodes_of f x) ≤ length (spelling f x)
nodes_few f x = few_nodes f [] x
