-- One step less is left.
use Rattle.std.proofs.Common.{◌≡◌, ℕ, refl, sym, ap, ap₂, ◌∙◌, List, [], ◌∷◌, ◌++◌, length, Some, None, append_assoc}
use Rattle.std.proofs.lemmas.List.{append-nil}
use Rattle.cm_bytes.specs.Fields.{u32_of}
use Rattle.node_bytes.specs.Nodes.{Node, Content, Begun, whole, number_of}
use Rattle.node_bytes.specs.Formats.{Format}
use Rattle.node_bytes.specs.Spelling.{Spelled, spelled, spelled_content}
use Rattle.node_bytes.specs.Tables.{table_node}
use Rattle.node_bytes.specs.Going.{close, rest_of, Ran, after_open, run}
use Rattle.node_bytes.specs.declared.table.Row.{Row}
use Rattle.node_bytes.specs.declared.write.Open.{Open}
use Rattle.node_bytes.proofs.Numbers.{whole-append}
use Rattle.node_bytes.proofs.Exact.{spelled_known, spelled_new}

-- some bytes before
abbrev prefixed : List ℕ → Ran → Ran
prefixed bytes r = record { bytes = bytes ++ r.bytes; begun = r.begun }

run_snoc : (f : Format) (rows : List Row) (begun : Begun) (xs : List Open) (last : Open)
    → run f rows begun (xs ++ last ∷ [])
    ≡ prefixed (spelled_content f begun (rest_of rows last)).bytes
    (run f rows (close (begun ++ whole (spelled_content f begun (rest_of rows last)).nodes) last.number
    (table_node rows last.id)) xs)
run_snoc f rows begun [] last =
    ap (λ (bytes : List ℕ). let made : Ran = record {
      bytes = bytes;
      begun = close (begun ++ whole (spelled_content f begun (rest_of rows last)).nodes) last.number
          (table_node rows last.id);
    } in made) (sym (append-nil (spelled_content f begun (rest_of rows last)).bytes))
run_snoc f rows begun (o ∷ xs) last =
    let first = (spelled_content f begun (rest_of rows last)).bytes in
    let r = run f rows (close (begun ++ whole (spelled_content f begun (rest_of rows last)).nodes) last.number
    (table_node rows last.id)) xs in
    ap (after_open f rows o) (run_snoc f rows begun xs last)
    ∙ ap (λ (bytes : List ℕ). let made : Ran = record {
      bytes = bytes;
      begun = close (r.begun ++ whole (spelled_content f r.begun (rest_of rows o)).nodes) o.number
          (table_node rows o.id);
    } in made) (append_assoc first r.bytes (spelled_content f r.begun (rest_of rows o)).bytes)

-- what is left of a node, and of those around it
abbrev pub left_of : Format → List Row → List Open → Begun → Content → ℕ → Node → List ℕ
left_of f rows xs begun content n x =
    (spelled_content f begun content).bytes
    ++ (run f rows (close (begun ++ whole (spelled_content f begun content).nodes) n x) xs).bytes

pub run_left : (f : Format) (rows : List Row) (begun : Begun) (xs : List Open) (last : Open)
    → (run f rows begun (xs ++ last ∷ [])).bytes
    ≡ left_of f rows xs begun (rest_of rows last) last.number (table_node rows last.id)
run_left f rows begun xs last = ap (λ (r : Ran). r.bytes) (run_snoc f rows begun xs last)

-- nothing: the node is whole
pub left_nothing : (f : Format) (rows : List Row) (xs : List Open) (begun : Begun) (n : ℕ) (x : Node)
    → left_of f rows xs begun Content.nothing n x ≡ (run f rows (close begun n x) xs).bytes
left_nothing f rows xs begun n x =
    ap (λ (b : Begun). (run f rows (close b n x) xs).bytes) (append-nil begun)

-- a piece
pub left_piece : (f : Format) (rows : List Row) (xs : List Open) (begun : Begun) (text : List ℕ) (content : Content)
    (n : ℕ) (x : Node)
    → left_of f rows xs begun (Content.piece text content) n x ≡ text ++ left_of f rows xs begun content n x
left_piece f rows xs begun text content n x =
    append_assoc text (spelled_content f begun content).bytes
    (run f rows (close (begun ++ whole (spelled_content f begun content).nodes) n x) xs).bytes

-- a part
left_part : (f : Format) (rows : List Row) (xs : List Open) (begun : Begun) (y : Node) (content : Content) (n : ℕ)
    (x : Node)
    → left_of f rows xs begun (Content.part y content) n x
    ≡ (spelled f begun y).bytes ++ left_of f rows xs (begun ++ whole (spelled f begun y).nodes) content n x
left_part f rows xs begun y content n x =
    let a = spelled f begun y in
    let b = spelled_content f (begun ++ whole a.nodes) content in
    let nodes : begun ++ whole (a.nodes ++ b.nodes) ≡ (begun ++ whole a.nodes) ++ whole b.nodes =
    ap (λ (z : Begun). begun ++ z) (whole-append a.nodes b.nodes)
    ∙ sym (append_assoc begun (whole a.nodes) (whole b.nodes)) in
    ap (λ (z : Begun). (a.bytes ++ b.bytes) ++ (run f rows (close z n x) xs).bytes) nodes
    ∙ append_assoc a.bytes b.bytes (run f rows (close ((begun ++ whole a.nodes) ++ whole b.nodes) n x) xs).bytes

-- one that stands whole
pub left_known : (f : Format) (rows : List Row) (xs : List Open) (begun : Begun) (y : Node) (content : Content) (n : ℕ)
    (x : Node) (k : ℕ) → number_of begun y ≡ Some k
    → left_of f rows xs begun (Content.part y content) n x
    ≡ (f.back ∷ u32_of k) ++ left_of f rows xs begun content n x
left_known f rows xs begun y content n x k e =
    left_part f rows xs begun y content n x
    ∙ ap (λ (s : Spelled). s.bytes ++ left_of f rows xs (begun ++ whole s.nodes) content n x)
    (spelled_known f begun y k e)
    ∙ ap (λ (b : Begun). (f.back ∷ u32_of k) ++ left_of f rows xs b content n x) (append-nil begun)

close_open : (begun later : Begun) (y : Node)
    → close ((begun ++ None ∷ []) ++ later) (length begun) y ≡ begun ++ Some y ∷ later
close_open [] later y = refl
close_open (z ∷ begun) later y = ap (λ (b : Begun). z ∷ b) (close_open begun later y)

-- a new one: it is opened
pub left_new : (f : Format) (rows : List Row) (xs : List Open) (begun : Begun) (tag : ℕ) (inside : Content)
    (top new : Open) → number_of begun (Node.node tag inside) ≡ None
    → rest_of rows new ≡ inside → new.number ≡ length begun → table_node rows new.id ≡ Node.node tag inside
    → left_of f rows xs begun (Content.part (Node.node tag inside) (rest_of rows top)) top.number
    (table_node rows top.id)
    ≡ (tag ∷ []) ++ (run f rows (begun ++ None ∷ []) ((xs ++ top ∷ []) ++ new ∷ [])).bytes
left_new f rows xs begun tag inside top new e rest number node =
    let y = Node.node tag inside in
    let inner = spelled_content f (begun ++ None ∷ []) inside in
    let opened : (run f rows (begun ++ None ∷ []) ((xs ++ top ∷ []) ++ new ∷ [])).bytes
    ≡ left_of f rows (xs ++ top ∷ []) (begun ++ None ∷ []) inside (length begun) y =
    run_left f rows (begun ++ None ∷ []) (xs ++ top ∷ []) new
    ∙ ap (λ (c : Content). left_of f rows (xs ++ top ∷ []) (begun ++ None ∷ []) c new.number
    (table_node rows new.id)) rest
    ∙ ap₂ (λ (m : ℕ) (z : Node). left_of f rows (xs ++ top ∷ []) (begun ++ None ∷ []) inside m z) number node in
    let closed : left_of f rows (xs ++ top ∷ []) (begun ++ None ∷ []) inside (length begun) y
    ≡ inner.bytes ++ (run f rows (begun ++ Some y ∷ whole inner.nodes) (xs ++ top ∷ [])).bytes =
    ap (λ (b : Begun). inner.bytes ++ (run f rows b (xs ++ top ∷ [])).bytes) (close_open begun (whole inner.nodes) y) in
    let around : inner.bytes ++ (run f rows (begun ++ Some y ∷ whole inner.nodes) (xs ++ top ∷ [])).bytes
    ≡ inner.bytes ++ left_of f rows xs (begun ++ Some y ∷ whole inner.nodes) (rest_of rows top) top.number
    (table_node rows top.id) =
    ap (λ (bytes : List ℕ). inner.bytes ++ bytes) (run_left f rows (begun ++ Some y ∷ whole inner.nodes) xs top) in
    left_part f rows xs begun y (rest_of rows top) top.number (table_node rows top.id)
    ∙ ap (λ (s : Spelled). s.bytes
    ++ left_of f rows xs (begun ++ whole s.nodes) (rest_of rows top) top.number (table_node rows top.id))
    (spelled_new f begun tag inside e)
    ∙ ap (λ (bytes : List ℕ). tag ∷ bytes) (sym (opened ∙ closed ∙ around))
