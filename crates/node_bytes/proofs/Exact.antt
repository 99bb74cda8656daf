-- What is read is spelled so.
use Rattle.std.proofs.Common.{◌≡◌, ◌≢◌, ℕ, zero, suc, refl, sym, ap, ap₂, subst, ◌∙◌, List, [], ◌∷◌, ◌++◌, length, Bool, true, false, cond, Option, Some, None}
use Rattle.std.specs.Prelude.{◌==◌}
use Rattle.std.proofs.lemmas.Bool.{eqb-true, eqb-false}
use Rattle.cm_bytes.specs.Fields.{◌>>=◌, IsBytes, Takes, ReadsSpelled, byte_at, raw_at, u32_of, u32_at}
use Rattle.cm_bytes.proofs.Fields.{IsBytes-nil, bind_some, some_is, Takes-then, byte_takes, raw_takes, u32_takes}
use Rattle.node_bytes.specs.Nodes.{Node, Content, Begun, whole, number_of, node_of}
use Rattle.node_bytes.specs.Formats.{Format, Shape, IsNode, IsContent}
use Rattle.node_bytes.specs.Spelling.{Spelled, spelled, spelled_as, spelled_content, spelling}
use Rattle.node_bytes.specs.Reading.{NodeStep, content_at, back_at, if_new, written_at, tagged_at, node_at, alone_at}
use Rattle.node_bytes.proofs.Numbers.{AreOnce, whole-append, number_is, once_open, keeps_once}

-- ---- nodes of a format

-- each node that is whole is one of the format
abbrev EachIs : Format → Begun → Type 0
EachIs f [] = Unit {0}
EachIs f (None ∷ begun) = EachIs f begun
EachIs f (Some y ∷ begun) = IsNode f y × EachIs f begun

each_append : (f : Format) (xs ys : Begun) → EachIs f xs → EachIs f ys → EachIs f (xs ++ ys)
each_append f [] ys h k = k
each_append f (None ∷ xs) ys h k = each_append f xs ys h k
each_append f (Some y ∷ xs) ys h k = (h.0, each_append f xs ys h.1 k)

each_is : (f : Format) (begun : Begun) (k : ℕ) (x : Node) → EachIs f begun → node_of begun k ≡ Some x → IsNode f x
each_is f [] k x h e = absurd (cc)
each_is f (None ∷ begun) zero x h e = absurd (cc)
each_is f (None ∷ begun) (suc k) x h e = each_is f begun k x h e
each_is f (Some y ∷ begun) zero x h e = subst (IsNode f) (some_is y x e) h.0
each_is f (Some y ∷ begun) (suc k) x h e = each_is f begun k x h.1 e

-- what holds of the nodes that were begun
record IsReady (f : Format) (begun : Begun) : Type 0 where
  once : AreOnce begun
  each : EachIs f begun

-- ---- what reading gives

-- of a node
record TakesNode (f : Format) (begun : Begun) (bytes : List ℕ) (x : Node)
    (nodes : List Node) (rest : List ℕ) : Type 0 where
  takes : Takes bytes (spelled f begun x).bytes rest
  begins : nodes ≡ (spelled f begun x).nodes
  is : IsNode f x
  each : EachIs f (whole nodes)

-- of what stands in one
record TakesContent (f : Format) (shape : Shape) (begun : Begun) (bytes : List ℕ) (content : Content)
    (nodes : List Node) (rest : List ℕ) : Type 0 where
  takes : Takes bytes (spelled_content f begun content).bytes rest
  begins : nodes ≡ (spelled_content f begun content).nodes
  is : IsContent f shape content
  each : EachIs f (whole nodes)

-- a step that reads nodes of the format
record ReadsNodes (f : Format) (step : NodeStep) : Type 0 where
  reads : (begun : Begun) (bytes : List ℕ) (x : Node) (nodes : List Node) (rest : List ℕ)
      → IsReady f begun → IsBytes bytes → step begun bytes ≡ Some ((x, nodes), rest)
      → TakesNode f begun bytes x nodes rest

-- behind a node that was read
ready_after : (f : Format) (begun : Begun) (bytes : List ℕ) (x : Node) (nodes : List Node) (rest : List ℕ)
    → IsReady f begun → TakesNode f begun bytes x nodes rest → IsReady f (begun ++ whole nodes)
ready_after f begun bytes x nodes rest ready read = record {
  once = subst (λ (zs : List Node). AreOnce (begun ++ whole zs)) (sym read.begins) (keeps_once f begun x ready.once);
  each = each_append f begun (whole nodes) ready.each read.each;
}

ready_open : (f : Format) (begun : Begun) → IsReady f begun → IsReady f (begun ++ None ∷ [])
ready_open f begun ready = record {
  once = once_open begun ready.once;
  each = each_append f begun (None ∷ []) ready.each tt;
}

-- ---- what stands in a node

content_takes : (f : Format) (step : NodeStep) → ReadsNodes f step → (shape : Shape) (begun : Begun) (bytes : List ℕ)
    (content : Content) (nodes : List Node) (rest : List ℕ) → IsReady f begun → IsBytes bytes
    → content_at step shape begun bytes ≡ Some ((content, nodes), rest)
    → TakesContent f shape begun bytes content nodes rest
content_takes f step law Shape.complete begun bytes content nodes rest ready h e =
    let none : TakesContent f Shape.complete begun bytes Content.nothing [] bytes = record {
      takes = record { parts = refl; front = IsBytes-nil; after = h };
      begins = refl;
      is = IsContent.nothing;
      each = tt;
    } in
    subst (λ (p : (Content × List Node) × List ℕ). TakesContent f Shape.complete begun bytes p.0.0 p.0.1 p.1)
    (some_is ((Content.nothing, []), bytes) ((content, nodes), rest) e) none
content_takes f step law Shape.refused begun bytes content nodes rest ready h e = absurd (cc)
content_takes f step law (Shape.piece n next) begun bytes content nodes rest ready h e =
    let later : List ℕ × List ℕ → Option ((Content × List Node) × List ℕ) =
    λ t. content_at step (next t.0) begun t.1 >>= λ r. Some ((Content.piece t.0 r.0.0, r.0.1), r.1) in
    let a = bind_some (raw_at n bytes) later ((content, nodes), rest) e in
    let end : (Content × List Node) × List ℕ → Option ((Content × List Node) × List ℕ) =
    λ r. Some ((Content.piece a.0.0 r.0.0, r.0.1), r.1) in
    let b = bind_some (content_at step (next a.0.0) begun a.0.1) end ((content, nodes), rest) a.2 in
    let raw = raw_takes n bytes a.0.0 a.0.1 h a.1 in
    let inner = content_takes f step law (next a.0.0) begun a.0.1 b.0.0.0 b.0.0.1 b.0.1 ready raw.0.after b.1 in
    let made : (Content × List Node) × List ℕ = ((Content.piece a.0.0 b.0.0.0, b.0.0.1), b.0.1) in
    let all : TakesContent f (Shape.piece n next) begun bytes made.0.0 made.0.1 made.1 = record {
      takes = Takes-then raw.0 inner.takes;
      begins = inner.begins;
      is = IsContent.piece n next a.0.0 b.0.0.0 raw.1 inner.is;
      each = inner.each;
    } in
    subst (λ (p : (Content × List Node) × List ℕ). TakesContent f (Shape.piece n next) begun bytes p.0.0 p.0.1 p.1)
    (some_is made ((content, nodes), rest) b.2) all
content_takes f step law (Shape.part next) begun bytes content nodes rest ready h e =
    let later : (Node × List Node) × List ℕ → Option ((Content × List Node) × List ℕ) =
    λ x. content_at step next (begun ++ whole x.0.1) x.1
    >>= λ r. Some ((Content.part x.0.0 r.0.0, x.0.1 ++ r.0.1), r.1) in
    let a = bind_some (step begun bytes) later ((content, nodes), rest) e in
    let end : (Content × List Node) × List ℕ → Option ((Content × List Node) × List ℕ) =
    λ r. Some ((Content.part a.0.0.0 r.0.0, a.0.0.1 ++ r.0.1), r.1) in
    let b = bind_some (content_at step next (begun ++ whole a.0.0.1) a.0.1) end ((content, nodes), rest) a.2 in
    let x = law.reads begun bytes a.0.0.0 a.0.0.1 a.0.1 ready h a.1 in
    let then = ready_after f begun bytes a.0.0.0 a.0.0.1 a.0.1 ready x in
    let read = content_takes f step law next (begun ++ whole a.0.0.1) a.0.1 b.0.0.0 b.0.0.1 b.0.1 then
    x.takes.after b.1 in
    let inner =
    subst (λ (zs : List Node). TakesContent f next (begun ++ whole zs) a.0.1 b.0.0.0 b.0.0.1 b.0.1) x.begins read in
    let made : (Content × List Node) × List ℕ = ((Content.part a.0.0.0 b.0.0.0, a.0.0.1 ++ b.0.0.1), b.0.1) in
    let all : TakesContent f (Shape.part next) begun bytes made.0.0 made.0.1 made.1 = record {
      takes = Takes-then x.takes inner.takes;
      begins = ap₂ (λ (zs ws : List Node). zs ++ ws) x.begins inner.begins;
      is = IsContent.part next a.0.0.0 b.0.0.0 x.is inner.is;
      each = subst (EachIs f) (sym (whole-append a.0.0.1 b.0.0.1))
          (each_append f (whole a.0.0.1) (whole b.0.0.1) x.each inner.each);
    } in
    subst (λ (p : (Content × List Node) × List ℕ). TakesContent f (Shape.part next) begun bytes p.0.0 p.0.1 p.1)
    (some_is made ((content, nodes), rest) b.2) all

-- ---- a node

-- a node that stands whole under a number
pub spelled_known : (f : Format) (begun : Begun) (x : Node) (k : ℕ) → number_of begun x ≡ Some k
    → spelled f begun x ≡ record { bytes = f.back ∷ u32_of k; nodes = [] }
spelled_known f begun (Node.node tag content) k e =
    ap (λ (o : Option ℕ). spelled_as f o (Node.node tag content) (spelled_content f (begun ++ None ∷ []) content)) e

-- a new one
pub spelled_new : (f : Format) (begun : Begun) (tag : ℕ) (content : Content)
    → number_of begun (Node.node tag content) ≡ None
    → spelled f begun (Node.node tag content)
    ≡ spelled_as f None (Node.node tag content) (spelled_content f (begun ++ None ∷ []) content)
spelled_new f begun tag content e =
    ap (λ (o : Option ℕ). spelled_as f o (Node.node tag content) (spelled_content f (begun ++ None ∷ []) content)) e

-- a back reference
back_takes : (f : Format) (begun : Begun) (bytes after : List ℕ) (x : Node) (nodes : List Node) (rest : List ℕ)
    → IsReady f begun → Takes bytes (f.back ∷ []) after → back_at begun after ≡ Some ((x, nodes), rest)
    → TakesNode f begun bytes x nodes rest
back_takes f begun bytes after x nodes rest ready front e =
    let later : ℕ × List ℕ → Option ((Node × List Node) × List ℕ) =
    λ n. node_of begun n.0 >>= λ y. Some ((y, []), n.1) in
    let a = bind_some (u32_at after) later ((x, nodes), rest) e in
    let end : Node → Option ((Node × List Node) × List ℕ) = λ y. Some ((y, []), a.0.1) in
    let b = bind_some (node_of begun a.0.0) end ((x, nodes), rest) a.2 in
    let number = u32_takes after a.0.0 a.0.1 front.after a.1 in
    let known = spelled_known f begun b.0 a.0.0 (number_is begun a.0.0 b.0 ready.once b.1) in
    let made : (Node × List Node) × List ℕ = ((b.0, []), a.0.1) in
    let all : TakesNode f begun bytes b.0 [] a.0.1 = record {
      takes = subst (λ (s : Spelled). Takes bytes s.bytes a.0.1) (sym known) (Takes-then front number.0);
      begins = ap (λ (s : Spelled). s.nodes) (sym known);
      is = each_is f begun a.0.0 b.0 ready.each b.1;
      each = tt;
    } in
    subst (λ (p : (Node × List Node) × List ℕ). TakesNode f begun bytes p.0.0 p.0.1 p.1)
    (some_is made ((x, nodes), rest) b.2) all

new_is : {A : Type 0} (o : Option ℕ) (x y : A) → if_new o x ≡ Some y → (o ≡ None) × (x ≡ y)
new_is None x y e = (refl, some_is x y e)
new_is (Some n) x y e = absurd (cc)

-- a node that is written out
written_takes : (f : Format) (step : NodeStep) → ReadsNodes f step → (tag : ℕ) (begun : Begun) (bytes after : List ℕ)
    (x : Node) (nodes : List Node) (rest : List ℕ) → tag ≢ f.back
    → IsReady f begun → Takes bytes (tag ∷ []) after → written_at step f tag begun after ≡ Some ((x, nodes), rest)
    → TakesNode f begun bytes x nodes rest
written_takes f step law tag begun bytes after x nodes rest other ready front e =
    let later : (Content × List Node) × List ℕ → Option ((Node × List Node) × List ℕ) =
    λ r. if_new (number_of begun (Node.node tag r.0.0)) ((Node.node tag r.0.0, Node.node tag r.0.0 ∷ r.0.1), r.1) in
    let a = bind_some (content_at step (f.shape tag) (begun ++ None ∷ []) after) later ((x, nodes), rest) e in
    let inner = content_takes f step law (f.shape tag) (begun ++ None ∷ []) after a.0.0.0 a.0.0.1 a.0.1
    (ready_open f begun ready) front.after a.1 in
    let made : (Node × List Node) × List ℕ = ((Node.node tag a.0.0.0, Node.node tag a.0.0.0 ∷ a.0.0.1), a.0.1) in
    let new = new_is (number_of begun (Node.node tag a.0.0.0)) made ((x, nodes), rest) a.2 in
    let known = spelled_new f begun tag a.0.0.0 new.0 in
    let one : IsNode f (Node.node tag a.0.0.0) = IsNode.node tag a.0.0.0 other inner.is in
    let all : TakesNode f begun bytes made.0.0 made.0.1 made.1 = record {
      takes = subst (λ (s : Spelled). Takes bytes s.bytes a.0.1) (sym known) (Takes-then front inner.takes);
      begins = ap (λ (zs : List Node). Node.node tag a.0.0.0 ∷ zs) inner.begins
          ∙ ap (λ (s : Spelled). s.nodes) (sym known);
      is = one;
      each = (one, inner.each);
    } in
    subst (λ (p : (Node × List Node) × List ℕ). TakesNode f begun bytes p.0.0 p.0.1 p.1) new.1 all

-- a node behind its tag
tagged_takes : (f : Format) (step : NodeStep) → ReadsNodes f step → (tag : ℕ) (begun : Begun) (bytes after : List ℕ)
    (x : Node) (nodes : List Node) (rest : List ℕ) (b : Bool) → (tag == f.back) ≡ b
    → IsReady f begun → Takes bytes (tag ∷ []) after
    → cond b (back_at begun after) (written_at step f tag begun after) ≡ Some ((x, nodes), rest)
    → TakesNode f begun bytes x nodes rest
tagged_takes f step law tag begun bytes after x nodes rest true test ready front e =
    back_takes f begun bytes after x nodes rest ready
    (subst (λ (z : ℕ). Takes bytes (z ∷ []) after) (eqb-true tag f.back test) front) e
tagged_takes f step law tag begun bytes after x nodes rest false test ready front e =
    written_takes f step law tag begun bytes after x nodes rest (eqb-false tag f.back test) ready front e

reads_nodes : (f : Format) (n : ℕ) → ReadsNodes f (node_at n f)
reads_nodes f zero = record { reads = λ begun bytes x nodes rest ready h e. absurd (cc) }
reads_nodes f (suc n) = record {
  reads = λ begun bytes x nodes rest ready h e.
      let later : ℕ × List ℕ → Option ((Node × List Node) × List ℕ) =
      λ tag. tagged_at (node_at n f) f tag.0 begun tag.1 in
      let a = bind_some (byte_at bytes) later ((x, nodes), rest) e in
      let tag = byte_takes bytes a.0.0 a.0.1 h a.1 in
      tagged_takes f (node_at n f) (reads_nodes f n) a.0.0 begun bytes a.0.1 x nodes rest (a.0.0 == f.back) refl ready
      tag.0 a.2;
}

-- a node that stands alone
alone_takes : (f : Format) (bytes : List ℕ) (x : Node) (rest : List ℕ) → IsBytes bytes
    → alone_at f bytes ≡ Some (x, rest) → Takes bytes (spelling f x) rest × IsNode f x
unfolding alone_at
alone_takes f bytes x rest h e =
    let end : (Node × List Node) × List ℕ → Option (Node × List ℕ) = λ r. Some (r.0.0, r.1) in
    let a = bind_some (node_at (length bytes) f [] bytes) end (x, rest) e in
    let ready : IsReady f [] = record { once = tt; each = tt } in
    let law = reads_nodes f (length bytes) in
    let read = law.reads [] bytes a.0.0.0 a.0.0.1 a.0.1 ready h a.1 in
    subst (λ (p : Node × List ℕ). Takes bytes (spelling f p.0) p.1 × IsNode f p.0)
    (some_is (a.0.0.0, a.0.1) (x, rest) a.2) (read.takes, read.is)

pub alone_spelled : (f : Format) → ReadsSpelled (spelling f) (alone_at f) (IsNode f)
alone_spelled f = record {
  takes = λ bytes x rest h e. (alone_takes f bytes x rest h e).0;
  fits = λ bytes x rest h e. (alone_takes f bytes x rest h e).1;
}

-- bytes that are read as one node are the same
pub one_spelling : (f : Format) (a b : List ℕ) (x : Node) → IsBytes a → IsBytes b → alone_at f a ≡ Some (x, [])
    → alone_at f b ≡ Some (x, []) → a ≡ b
one_spelling f a b x h k read again =
    let p = (alone_takes f a x [] h read).0 in
    let q = (alone_takes f b x [] k again).0 in
    p.parts ∙ sym q.parts
