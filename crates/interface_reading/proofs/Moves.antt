-- How reading goes on in an open node, step by step.
use Rattle.std.proofs.Common.{◌≡◌, ◌≢◌, ℕ, refl, sym, ap, ◌∙◌, List, [], ◌∷◌, ◌++◌, length, set, Bool, cond, Option, Some, None, append_assoc}
use Rattle.std.proofs.lemmas.List.{append-nil}
use Rattle.std.proofs.lemmas.Bool.{eq-eqb, ne_eqb}
use Rattle.cm_bytes.specs.Fields.{◌>>=◌, raw_at, u32_at}
use Rattle.node_bytes.specs.Nodes.{Node, Content, Begun, whole, number_of, node_of}
use Rattle.node_bytes.specs.Formats.{Format, Shape}
use Rattle.node_bytes.specs.Reading.{content_at, back_at, if_new, written_at, alone_at}
use Rattle.node_bytes.proofs.Numbers.{whole-append}
use Rattle.interface_reading.specs.Laws.{ReadsOpenNodes}
use Rattle.interface_reading.specs.Unbounded.{any_node_at}
use Rattle.interface_reading.specs.Open.{both, Frame, Then, closing, going, on, opened, going_with}
use Rattle.interface_reading.proofs.Bounds.{any_tagged}
use Rattle.interface_reading.proofs.Inside.{content_small, node_small, not_in_itself, size_in, AreSmall}

-- ---- steps one after another

bind_bind : {A B C : Type 0} (a : Option A) (b : A → Option B) (c : B → Option C)
    → ((a >>= b) >>= c) ≡ (a >>= λ x. b x >>= c)
bind_bind (Some x) b c = refl
bind_bind None b c = refl

bind_alike : {A B : Type 0} (a : Option A) (b c : A → Option B) → ((x : A) → a ≡ Some x → b x ≡ c x)
    → (a >>= b) ≡ (a >>= c)
bind_alike (Some x) b c h = h x refl
bind_alike None b c h = refl

both_both : (a b c : Content) → both (both a b) c ≡ both a (both b c)
both_both Content.nothing b c = refl
both_both (Content.piece text a) b c = ap (Content.piece text) (both_both a b c)
both_both (Content.part x a) b c = ap (Content.part x) (both_both a b c)

both_nothing : (a : Content) → both a Content.nothing ≡ a
both_nothing Content.nothing = refl
both_nothing (Content.piece text a) = ap (Content.piece text) (both_nothing a)
both_nothing (Content.part x a) = ap (Content.part x) (both_nothing a)

-- ---- a piece

abbrev Read : Type 0
Read = (Content × List Node) × List ℕ

pub going_piece : (f : Format) (done : Then) (fr : Frame) (begun : Begun) (bytes : List ℕ) (n : ℕ)
    (next : List ℕ → Shape) → fr.shape ≡ Shape.piece n next
    → going f done fr begun bytes
    ≡ (raw_at n bytes >>= λ t. going f done (on fr (Content.piece t.0 Content.nothing) (next t.0)) begun t.1)
going_piece f done fr begun bytes n next is =
    let step = any_node_at f in
    let end : Read → Option (Node × List ℕ) = λ r. closing done fr (begun ++ whole r.0.1) r.0.0 r.1 in
    let with_piece : List ℕ → Read → Option Read = λ t q. Some ((Content.piece t q.0.0, q.0.1), q.1) in
    let later : List ℕ × List ℕ → Option Read = λ t. content_at step (next t.0) begun t.1 >>= with_piece t.0 in
    ap (λ (s : Shape). content_at step s begun bytes >>= end) is
    ∙ bind_bind (raw_at n bytes) later end
    ∙ bind_alike (raw_at n bytes) (λ t. later t >>= end)
    (λ t. going f done (on fr (Content.piece t.0 Content.nothing) (next t.0)) begun t.1)
    (λ t e. bind_bind (content_at step (next t.0) begun t.1) (with_piece t.0) end
    ∙ bind_alike (content_at step (next t.0) begun t.1) (λ q. with_piece t.0 q >>= end)
    (λ q. closing done (on fr (Content.piece t.0 Content.nothing) (next t.0)) (begun ++ whole q.0.1) q.0.0 q.1)
    (λ q k. ap (λ (c : Content).
    if_new (number_of (begun ++ whole q.0.1) (Node.node fr.tag c)) (Node.node fr.tag c)
    >>= λ x. done (set (begun ++ whole q.0.1) fr.number (Some x)) x q.1)
    (sym (both_both fr.before (Content.piece t.0 Content.nothing) q.0.0))))

-- ---- a part

pub going_part : (f : Format) (done : Then) (fr : Frame) (begun : Begun) (bytes : List ℕ) (next : Shape)
    → fr.shape ≡ Shape.part next
    → going f done fr begun bytes
    ≡ (any_node_at f begun bytes >>= λ x. going_with f done fr next (begun ++ whole x.0.1) x.0.0 x.1)
going_part f done fr begun bytes next is =
    let step = any_node_at f in
    let end : Read → Option (Node × List ℕ) = λ r. closing done fr (begun ++ whole r.0.1) r.0.0 r.1 in
    let with_part : Node × List Node → Read → Option Read =
    λ x q. Some ((Content.part x.0 q.0.0, x.1 ++ q.0.1), q.1) in
    let later : (Node × List Node) × List ℕ → Option Read =
    λ x. content_at step next (begun ++ whole x.0.1) x.1 >>= with_part x.0 in
    ap (λ (s : Shape). content_at step s begun bytes >>= end) is
    ∙ bind_bind (step begun bytes) later end
    ∙ bind_alike (step begun bytes) (λ x. later x >>= end)
    (λ x. going_with f done fr next (begun ++ whole x.0.1) x.0.0 x.1)
    (λ x e. bind_bind (content_at step next (begun ++ whole x.0.1) x.1) (with_part x.0) end
    ∙ bind_alike (content_at step next (begun ++ whole x.0.1) x.1) (λ q. with_part x.0 q >>= end)
    (λ q. closing done (on fr (Content.part x.0.0 Content.nothing) next)
    ((begun ++ whole x.0.1) ++ whole q.0.1) q.0.0 q.1)
    (λ q k. ap (λ (c : Content).
    if_new (number_of (begun ++ whole (x.0.1 ++ q.0.1)) (Node.node fr.tag c)) (Node.node fr.tag c)
    >>= λ y. done (set (begun ++ whole (x.0.1 ++ q.0.1)) fr.number (Some y)) y q.1)
    (sym (both_both fr.before (Content.part x.0.0 Content.nothing) q.0.0))
    ∙ ap (λ (b : Begun). closing done (on fr (Content.part x.0.0 Content.nothing) next) b q.0.0 q.1)
    (ap (λ (b : Begun). begun ++ b) (whole-append x.0.1 q.0.1)
    ∙ sym (append_assoc begun (whole x.0.1) (whole q.0.1)))))

-- a node is opened
set_open : (begun later : Begun) (o : Option Node)
    → set ((begun ++ None ∷ []) ++ later) (length begun) o ≡ begun ++ o ∷ later
set_open [] later o = refl
set_open (x ∷ begun) later o = ap (λ (zs : Begun). x ∷ zs) (set_open begun later o)

-- what was read of a node, and what is left
abbrev whole_one : Node → List Node → List ℕ → (Node × List Node) × List ℕ
whole_one x nodes bytes = ((x, x ∷ nodes), bytes)

new_opens : (done : Then) (begun : Begun) (x : Node) (nodes : List Node) (bytes : List ℕ) (o : Option ℕ)
    → (if_new o (whole_one x nodes bytes) >>= λ y. done (begun ++ whole y.0.1) y.0.0 y.1)
    ≡ (if_new o x >>= λ y. done (set ((begun ++ None ∷ []) ++ whole nodes) (length begun) (Some y)) y bytes)
new_opens done begun x nodes bytes (Some n) = refl
new_opens done begun x nodes bytes None =
    ap (λ (b : Begun). done b x bytes) (sym (set_open begun (whole nodes) (Some x)))

read_opens : (f : Format) (done : Then) (begun : Begun) (tag : ℕ) (content : Content) (nodes : List Node)
    (bytes : List ℕ) → AreSmall (size_in content) nodes
    → (if_new (number_of begun (Node.node tag content)) (whole_one (Node.node tag content) nodes bytes)
    >>= λ y. done (begun ++ whole y.0.1) y.0.0 y.1)
    ≡ closing done (opened f tag (length begun)) ((begun ++ None ∷ []) ++ whole nodes) content bytes
read_opens f done begun tag content nodes bytes small =
    let x = Node.node tag content in
    let k : number_of ((begun ++ None ∷ []) ++ whole nodes) x ≡ number_of begun x =
    ap (λ (b : Begun). number_of b x) (append_assoc begun (None ∷ []) (whole nodes))
    ∙ not_in_itself begun tag content nodes small in
    new_opens done begun x nodes bytes (number_of begun x)
    ∙ ap (λ (o : Option ℕ).
    if_new o x >>= λ y. done (set ((begun ++ None ∷ []) ++ whole nodes) (length begun) (Some y)) y bytes) (sym k)

written_opens : (f : Format) (done : Then) (begun : Begun) (tag : ℕ) (bytes : List ℕ)
    → (written_at (any_node_at f) f tag begun bytes >>= λ x. done (begun ++ whole x.0.1) x.0.0 x.1)
    ≡ going f done (opened f tag (length begun)) (begun ++ None ∷ []) bytes
written_opens f done begun tag bytes =
    let step = any_node_at f in
    let now = begun ++ None ∷ [] in
    let made : Read → Option ((Node × List Node) × List ℕ) =
    λ q. if_new (number_of begun (Node.node tag q.0.0)) ((Node.node tag q.0.0, Node.node tag q.0.0 ∷ q.0.1), q.1) in
    let end : (Node × List Node) × List ℕ → Option (Node × List ℕ) = λ x. done (begun ++ whole x.0.1) x.0.0 x.1 in
    bind_bind (content_at step (f.shape tag) now bytes) made end
    ∙ bind_alike (content_at step (f.shape tag) now bytes) (λ q. made q >>= end)
    (λ q. closing done (opened f tag (length begun)) (now ++ whole q.0.1) q.0.0 q.1)
    (λ q e. read_opens f done begun tag q.0.0 q.0.1 q.1
    (content_small step (record { small = λ other few. (node_small (length few) f).small other few })
    (f.shape tag) now bytes q e))

pub node_opens : (f : Format) (done : Then) (begun : Begun) (tag : ℕ) (bytes : List ℕ) → tag ≢ f.back
    → (any_node_at f begun (tag ∷ bytes) >>= λ x. done (begun ++ whole x.0.1) x.0.0 x.1)
    ≡ going f done (opened f tag (length begun)) (begun ++ None ∷ []) bytes
node_opens f done begun tag bytes other =
    ap (λ (r : Option ((Node × List Node) × List ℕ)). r >>= λ x. done (begun ++ whole x.0.1) x.0.0 x.1)
    (any_tagged f begun tag bytes
    ∙ ap (λ (b : Bool). cond b (back_at begun bytes) (written_at (any_node_at f) f tag begun bytes))
    (ne_eqb tag f.back other))
    ∙ written_opens f done begun tag bytes

-- a back reference
pub node_back : (f : Format) (done : Then) (begun : Begun) (bytes : List ℕ)
    → (any_node_at f begun (f.back ∷ bytes) >>= λ x. done (begun ++ whole x.0.1) x.0.0 x.1)
    ≡ (u32_at bytes >>= λ n. node_of begun n.0 >>= λ x. done begun x n.1)
node_back f done begun bytes =
    let later : ℕ × List ℕ → Option ((Node × List Node) × List ℕ) =
    λ n. node_of begun n.0 >>= λ x. Some ((x, []), n.1) in
    let end : (Node × List Node) × List ℕ → Option (Node × List ℕ) = λ x. done (begun ++ whole x.0.1) x.0.0 x.1 in
    ap (λ (r : Option ((Node × List Node) × List ℕ)). r >>= end)
    (any_tagged f begun f.back bytes
    ∙ ap (λ (b : Bool). cond b (back_at begun bytes) (written_at (any_node_at f) f f.back begun bytes))
    (eq-eqb f.back f.back refl))
    ∙ bind_bind (u32_at bytes) later end
    ∙ bind_alike (u32_at bytes) (λ n. later n >>= end) (λ n. node_of begun n.0 >>= λ x. done begun x n.1)
    (λ n e. bind_bind (node_of begun n.0) (λ x. Some ((x, []), n.1)) end
    ∙ bind_alike (node_of begun n.0) (λ x. done (begun ++ []) x n.1) (λ x. done begun x n.1)
    (λ x k. ap (λ (b : Begun). done b x n.1) (append-nil begun)))

-- ---- an end

pub going_complete : (f : Format) (done : Then) (fr : Frame) (begun : Begun) (bytes : List ℕ)
    → fr.shape ≡ Shape.complete
    → going f done fr begun bytes
    ≡ (if_new (number_of begun (Node.node fr.tag fr.before)) (Node.node fr.tag fr.before)
    >>= λ x. done (set begun fr.number (Some x)) x bytes)
going_complete f done fr begun bytes is =
    ap (λ (s : Shape). content_at (any_node_at f) s begun bytes >>= λ r. closing done fr (begun ++ whole r.0.1) r.0.0 r.1) is
    ∙ ap (λ (b : Begun). closing done fr b Content.nothing bytes) (append-nil begun)
    ∙ ap (λ (c : Content). if_new (number_of begun (Node.node fr.tag c)) (Node.node fr.tag c)
    >>= λ x. done (set begun fr.number (Some x)) x bytes) (both_nothing fr.before)

-- ---- the beginning

pub alone_is : (f : Format) (bytes : List ℕ)
    → alone_at f bytes ≡ (any_node_at f [] bytes >>= λ x. Some (x.0.0, x.1))
unfolding alone_at
alone_is f bytes = refl

-- ---- all of it

pub open_nodes : ReadsOpenNodes
open_nodes = record {
  alone = alone_is;
  part = going_part;
  opens = node_opens;
  back = node_back;
  closes = going_complete;
}
