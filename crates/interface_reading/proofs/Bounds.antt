-- A bound on the nodes that are open says nothing, where it is no less than the number of bytes.
use Rattle.std.proofs.Common.{◌≡◌, ℕ, zero, suc, ◌≤◌, refl, sym, ap, subst, ◌∙◌, List, [], ◌∷◌, ◌++◌, length, take, drop, Bool, true, false, cond, Option, Some, None, arith}
use Rattle.std.specs.Prelude.{◌==◌}
use Rattle.std.proofs.lemmas.List.{length-drop}
use Rattle.cm_bytes.specs.Fields.{◌>>=◌, byte_at, raw_at, u32_at}
use Rattle.cm_bytes.proofs.Fields.{bind_some, some_is}
use Rattle.node_bytes.specs.Nodes.{Node, Content, Begun, whole, number_of, node_of}
use Rattle.node_bytes.specs.Formats.{Format, Shape}
use Rattle.node_bytes.specs.Reading.{NodeStep, content_at, back_at, if_new, written_at, tagged_at, node_at}
use Rattle.interface_reading.specs.Unbounded.{any_node_at}

-- ---- no step adds bytes

abbrev pub Shrinks : {A : Type 0} → Option (A × List ℕ) → List ℕ → Type 0
Shrinks {A} read bytes = (r : A × List ℕ) → read ≡ Some r → length r.1 ≤ length bytes

guard_shrinks : {A : Type 0} (b : Bool) (x : A) (n : ℕ) (bytes : List ℕ)
    → Shrinks (cond b None (Some (x, drop n bytes))) bytes
guard_shrinks true x n bytes r e = absurd (cc)
guard_shrinks false x n bytes r e =
    subst (λ (q : _ × List ℕ). length q.1 ≤ length bytes) (some_is (x, drop n bytes) r e)
    (omega (arith, length-drop n bytes))

pub raw_shrinks : (n : ℕ) (bytes : List ℕ) → Shrinks (raw_at n bytes) bytes
unfolding raw_at
raw_shrinks n bytes = guard_shrinks _ (take n bytes) n bytes

pub u32_shrinks : (bytes : List ℕ) → Shrinks (u32_at bytes) bytes
unfolding u32_at
u32_shrinks bytes = guard_shrinks _ _ 4 bytes

-- a step that adds no bytes
pub record Keeps (step : NodeStep) : Type 0 where
  pub shrinks : (begun : Begun) (bytes : List ℕ) → Shrinks (step begun bytes) bytes

content_shrinks : (step : NodeStep) → Keeps step → (shape : Shape) (begun : Begun) (bytes : List ℕ)
    → Shrinks (content_at step shape begun bytes) bytes
content_shrinks step h Shape.complete begun bytes r e =
    subst (λ (q : (Content × List Node) × List ℕ). length q.1 ≤ length bytes)
    (some_is ((Content.nothing, []), bytes) r e) (omega arith)
content_shrinks step h Shape.refused begun bytes r e = absurd (cc)
content_shrinks step h (Shape.piece n next) begun bytes r e =
    let later : List ℕ × List ℕ → Option ((Content × List Node) × List ℕ) =
    λ text. content_at step (next text.0) begun text.1 >>= λ q. Some ((Content.piece text.0 q.0.0, q.0.1), q.1) in
    let a = bind_some (raw_at n bytes) later r e in
    let end : (Content × List Node) × List ℕ → Option ((Content × List Node) × List ℕ) =
    λ q. Some ((Content.piece a.0.0 q.0.0, q.0.1), q.1) in
    let b = bind_some (content_at step (next a.0.0) begun a.0.1) end r a.2 in
    let first = raw_shrinks n bytes a.0 a.1 in
    let second = content_shrinks step h (next a.0.0) begun a.0.1 b.0 b.1 in
    subst (λ (q : (Content × List Node) × List ℕ). length q.1 ≤ length bytes)
    (some_is ((Content.piece a.0.0 b.0.0.0, b.0.0.1), b.0.1) r b.2) (omega (arith, first, second))
content_shrinks step h (Shape.part next) begun bytes r e =
    let later : (Node × List Node) × List ℕ → Option ((Content × List Node) × List ℕ) =
    λ x. content_at step next (begun ++ whole x.0.1) x.1
    >>= λ q. Some ((Content.part x.0.0 q.0.0, x.0.1 ++ q.0.1), q.1) in
    let a = bind_some (step begun bytes) later r e in
    let end : (Content × List Node) × List ℕ → Option ((Content × List Node) × List ℕ) =
    λ q. Some ((Content.part a.0.0.0 q.0.0, a.0.0.1 ++ q.0.1), q.1) in
    let b = bind_some (content_at step next (begun ++ whole a.0.0.1) a.0.1) end r a.2 in
    let first = h.shrinks begun bytes a.0 a.1 in
    let second = content_shrinks step h next (begun ++ whole a.0.0.1) a.0.1 b.0 b.1 in
    subst (λ (q : (Content × List Node) × List ℕ). length q.1 ≤ length bytes)
    (some_is ((Content.part a.0.0.0 b.0.0.0, a.0.0.1 ++ b.0.0.1), b.0.1) r b.2) (omega (arith, first, second))

back_shrinks : (begun : Begun) (bytes : List ℕ) → Shrinks (back_at begun bytes) bytes
back_shrinks begun bytes r e =
    let later : ℕ × List ℕ → Option ((Node × List Node) × List ℕ) =
    λ n. node_of begun n.0 >>= λ x. Some ((x, []), n.1) in
    let a = bind_some (u32_at bytes) later r e in
    let end : Node → Option ((Node × List Node) × List ℕ) = λ x. Some ((x, []), a.0.1) in
    let b = bind_some (node_of begun a.0.0) end r a.2 in
    subst (λ (q : (Node × List Node) × List ℕ). length q.1 ≤ length bytes)
    (some_is ((b.0, []), a.0.1) r b.2) (u32_shrinks bytes a.0 a.1)

if_new_is : {A : Type 0} (o : Option ℕ) (x y : A) → if_new o x ≡ Some y → x ≡ y
if_new_is None x y e = some_is x y e
if_new_is (Some n) x y e = absurd (cc)

written_shrinks : (step : NodeStep) → Keeps step → (f : Format) (tag : ℕ) (begun : Begun) (bytes : List ℕ)
    → Shrinks (written_at step f tag begun bytes) bytes
written_shrinks step h f tag begun bytes r e =
    let later : (Content × List Node) × List ℕ → Option ((Node × List Node) × List ℕ) =
    λ q. if_new (number_of begun (Node.node tag q.0.0)) ((Node.node tag q.0.0, Node.node tag q.0.0 ∷ q.0.1), q.1) in
    let a = bind_some (content_at step (f.shape tag) (begun ++ None ∷ []) bytes) later r e in
    subst (λ (q : (Node × List Node) × List ℕ). length q.1 ≤ length bytes)
    (if_new_is (number_of begun (Node.node tag a.0.0.0))
    ((Node.node tag a.0.0.0, Node.node tag a.0.0.0 ∷ a.0.0.1), a.0.1) r a.2)
    (content_shrinks step h (f.shape tag) (begun ++ None ∷ []) bytes a.0 a.1)

tagged_shrinks : (step : NodeStep) → Keeps step → (f : Format) (tag : ℕ) (begun : Begun) (bytes : List ℕ)
    → Shrinks (tagged_at step f tag begun bytes) bytes
tagged_shrinks step h f tag begun bytes = by (tag == f.back)
  where
    by : (b : Bool) → Shrinks (cond b (back_at begun bytes) (written_at step f tag begun bytes)) bytes
    by true = back_shrinks begun bytes
    by false = written_shrinks step h f tag begun bytes

pub node_shrinks : (n : ℕ) (f : Format) → Keeps (node_at n f)
unfolding byte_at
node_shrinks zero f = record { shrinks = λ begun bytes r e. absurd (cc) }
node_shrinks (suc n) f = record { shrinks = at (node_shrinks n f) }
  where
    at : Keeps (node_at n f) → (begun : Begun) (bytes : List ℕ) → Shrinks (node_at (suc n) f begun bytes) bytes
    at h begun [] r e = absurd (cc)
    at h begun (tag ∷ bytes) r e =
        let less = tagged_shrinks (node_at n f) h f tag begun bytes r e in
        omega (arith, less)

-- ---- steps that are the same on so few bytes

pub record Same (n : ℕ) (s t : NodeStep) : Type 0 where
  pub same : (begun : Begun) (bytes : List ℕ) → length bytes ≤ n → s begun bytes ≡ t begun bytes

-- what follows a step is the same where what it leaves is
bind_same : {A B : Type 0} (read : Option A) (next last : A → Option B)
    → ((x : A) → read ≡ Some x → next x ≡ last x) → (read >>= next) ≡ (read >>= last)
bind_same (Some x) next last h = h x refl
bind_same None next last h = refl

content_same : (n : ℕ) (s t : NodeStep) → Same n s t → Keeps s → (shape : Shape) (begun : Begun) (bytes : List ℕ)
    → length bytes ≤ n → content_at s shape begun bytes ≡ content_at t shape begun bytes
content_same n s t h k Shape.complete begun bytes le = refl
content_same n s t h k Shape.refused begun bytes le = refl
content_same n s t h k (Shape.piece m next) begun bytes le =
    bind_same (raw_at m bytes)
    (λ text. content_at s (next text.0) begun text.1 >>= λ q. Some ((Content.piece text.0 q.0.0, q.0.1), q.1))
    (λ text. content_at t (next text.0) begun text.1 >>= λ q. Some ((Content.piece text.0 q.0.0, q.0.1), q.1))
    (λ text e. ap (λ (r : Option ((Content × List Node) × List ℕ)).
    r >>= λ q. Some ((Content.piece text.0 q.0.0, q.0.1), q.1))
    (content_same n s t h k (next text.0) begun text.1 (omega (arith, le, raw_shrinks m bytes text e))))
content_same n s t h k (Shape.part next) begun bytes le =
    bind_same (s begun bytes)
    (λ x. content_at s next (begun ++ whole x.0.1) x.1
    >>= λ q. Some ((Content.part x.0.0 q.0.0, x.0.1 ++ q.0.1), q.1))
    (λ x. content_at t next (begun ++ whole x.0.1) x.1
    >>= λ q. Some ((Content.part x.0.0 q.0.0, x.0.1 ++ q.0.1), q.1))
    (λ x e. ap (λ (r : Option ((Content × List Node) × List ℕ)).
    r >>= λ q. Some ((Content.part x.0.0 q.0.0, x.0.1 ++ q.0.1), q.1))
    (content_same n s t h k next (begun ++ whole x.0.1) x.1 (omega (arith, le, k.shrinks begun bytes x e))))
    ∙ ap (λ (r : Option ((Node × List Node) × List ℕ)). r >>= λ x. content_at t next (begun ++ whole x.0.1) x.1
    >>= λ q. Some ((Content.part x.0.0 q.0.0, x.0.1 ++ q.0.1), q.1)) (h.same begun bytes le)

tagged_same : (n : ℕ) (s t : NodeStep) → Same n s t → Keeps s → (f : Format) (tag : ℕ) (begun : Begun)
    (bytes : List ℕ) → length bytes ≤ n → tagged_at s f tag begun bytes ≡ tagged_at t f tag begun bytes
tagged_same n s t h k f tag begun bytes le =
    ap (λ (r : Option ((Content × List Node) × List ℕ)).
    cond (tag == f.back) (back_at begun bytes) (r >>= λ q. if_new (number_of begun (Node.node tag q.0.0))
    ((Node.node tag q.0.0, Node.node tag q.0.0 ∷ q.0.1), q.1)))
    (content_same n s t h k (f.shape tag) (begun ++ None ∷ []) bytes le)

pub nodes_same : (k n m : ℕ) (f : Format) → k ≤ n → k ≤ m → Same k (node_at n f) (node_at m f)
unfolding byte_at
nodes_same zero n m f a b = record { same = at }
  where
    none : (i : ℕ) (begun : Begun) → node_at i f begun [] ≡ None
    none zero begun = refl
    none (suc i) begun = refl

    at : (begun : Begun) (bytes : List ℕ) → length bytes ≤ 0 → node_at n f begun bytes ≡ node_at m f begun bytes
    at begun [] le = none n begun ∙ sym (none m begun)
    at begun (x ∷ bytes) le = absurd (omega (arith, le))
nodes_same (suc k) zero m f a b = absurd (omega (arith, a))
nodes_same (suc k) (suc n) zero f a b = absurd (omega (arith, b))
nodes_same (suc k) (suc n) (suc m) f a b =
    record { same = at (nodes_same k n m f (omega (arith, a)) (omega (arith, b))) }
  where
    at : Same k (node_at n f) (node_at m f) → (begun : Begun) (bytes : List ℕ) → length bytes ≤ suc k
        → node_at (suc n) f begun bytes ≡ node_at (suc m) f begun bytes
    at h begun [] le = refl
    at h begun (tag ∷ bytes) le =
        tagged_same k (node_at n f) (node_at m f) h (node_shrinks n f) f tag begun bytes
        (omega (arith, le))

-- behind a tag
pub any_tagged : (f : Format) (begun : Begun) (tag : ℕ) (bytes : List ℕ)
    → any_node_at f begun (tag ∷ bytes) ≡ tagged_at (any_node_at f) f tag begun bytes
unfolding byte_at
any_tagged f begun tag bytes =
    tagged_same (length bytes) (node_at (length bytes) f) (any_node_at f)
    (record {
      same = λ other few le.
          (nodes_same (length few) (length bytes) (length few) f le (omega arith)).same other few (omega arith);
    }) (node_shrinks (length bytes) f) f tag begun bytes (omega arith)

-- before any
pub any_nothing : (f : Format) (begun : Begun) → any_node_at f begun [] ≡ None
any_nothing f begun = refl
