-- No node that is read stands in itself.
use Rattle.std.proofs.Common.{◌≡◌, ℕ, zero, suc, ◌+◌, ◌<◌, ◌≤◌, refl, ap, subst, ◌∙◌, List, [], ◌∷◌, ◌++◌, Bool, true, false, cond, Option, Some, None, arith}
use Rattle.std.specs.Prelude.{◌==◌}
use Rattle.cm_bytes.specs.Fields.{◌>>=◌, byte_at, raw_at, u32_at}
use Rattle.cm_bytes.proofs.Fields.{bind_some, some_is}
use Rattle.node_bytes.specs.Nodes.{Node, Content, Begun, whole, number_of, node_of, one_on, here_or, same_node}
use Rattle.node_bytes.specs.Formats.{Format, Shape}
use Rattle.node_bytes.specs.Reading.{NodeStep, content_at, back_at, if_new, written_at, tagged_at, node_at}
use Rattle.node_bytes.proofs.Same.{node_apart}

abbrev mutual
  pub size : Node → ℕ
  size (Node.node tag content) = suc (size_in content)

  pub size_in : Content → ℕ
  size_in Content.nothing = 0
  size_in (Content.piece text content) = size_in content
  size_in (Content.part x content) = size x + size_in content

-- nodes of at most this size
abbrev pub AreSmall : ℕ → List Node → Type 0
AreSmall n [] = Unit {0}
AreSmall n (x ∷ xs) = (size x ≤ n) × AreSmall n xs

small_more : (n m : ℕ) (xs : List Node) → n ≤ m → AreSmall n xs → AreSmall m xs
small_more n m [] le h = tt
small_more n m (x ∷ xs) le h = (omega (arith, le, h.0), small_more n m xs le h.1)

small_append : (n : ℕ) (xs ys : List Node) → AreSmall n xs → AreSmall n ys → AreSmall n (xs ++ ys)
small_append n [] ys h k = k
small_append n (x ∷ xs) ys h k = (h.0, small_append n xs ys h.1 k)

-- what a step reads begins small nodes alone
pub record BeginsSmall (step : NodeStep) : Type 0 where
  pub small : (begun : Begun) (bytes : List ℕ) (r : (Node × List Node) × List ℕ) → step begun bytes ≡ Some r
      → AreSmall (size r.0.0) r.0.1

pub content_small : (step : NodeStep) → BeginsSmall step → (shape : Shape) (begun : Begun) (bytes : List ℕ)
    (r : (Content × List Node) × List ℕ) → content_at step shape begun bytes ≡ Some r
    → AreSmall (size_in r.0.0) r.0.1
content_small step h Shape.complete begun bytes r e =
    subst (λ (q : (Content × List Node) × List ℕ). AreSmall (size_in q.0.0) q.0.1)
    (some_is ((Content.nothing, []), bytes) r e) tt
content_small step h Shape.refused begun bytes r e = absurd (cc)
content_small step h (Shape.piece n next) begun bytes r e =
    let later : List ℕ × List ℕ → Option ((Content × List Node) × List ℕ) =
    λ text. content_at step (next text.0) begun text.1 >>= λ q. Some ((Content.piece text.0 q.0.0, q.0.1), q.1) in
    let a = bind_some (raw_at n bytes) later r e in
    let end : (Content × List Node) × List ℕ → Option ((Content × List Node) × List ℕ) =
    λ q. Some ((Content.piece a.0.0 q.0.0, q.0.1), q.1) in
    let b = bind_some (content_at step (next a.0.0) begun a.0.1) end r a.2 in
    subst (λ (q : (Content × List Node) × List ℕ). AreSmall (size_in q.0.0) q.0.1)
    (some_is ((Content.piece a.0.0 b.0.0.0, b.0.0.1), b.0.1) r b.2)
    (content_small step h (next a.0.0) begun a.0.1 b.0 b.1)
content_small step h (Shape.part next) begun bytes r e =
    let later : (Node × List Node) × List ℕ → Option ((Content × List Node) × List ℕ) =
    λ x. content_at step next (begun ++ whole x.0.1) x.1
    >>= λ q. Some ((Content.part x.0.0 q.0.0, x.0.1 ++ q.0.1), q.1) in
    let a = bind_some (step begun bytes) later r e in
    let end : (Content × List Node) × List ℕ → Option ((Content × List Node) × List ℕ) =
    λ q. Some ((Content.part a.0.0.0 q.0.0, a.0.0.1 ++ q.0.1), q.1) in
    let b = bind_some (content_at step next (begun ++ whole a.0.0.1) a.0.1) end r a.2 in
    let n = size a.0.0.0 + size_in b.0.0.0 in
    subst (λ (q : (Content × List Node) × List ℕ). AreSmall (size_in q.0.0) q.0.1)
    (some_is ((Content.part a.0.0.0 b.0.0.0, a.0.0.1 ++ b.0.0.1), b.0.1) r b.2)
    (small_append n a.0.0.1 b.0.0.1 (small_more (size a.0.0.0) n a.0.0.1 (omega arith) (h.small begun bytes a.0 a.1))
    (small_more (size_in b.0.0.0) n b.0.0.1 (omega arith)
    (content_small step h next (begun ++ whole a.0.0.1) a.0.1 b.0 b.1)))

back_small : (begun : Begun) (bytes : List ℕ) (r : (Node × List Node) × List ℕ) → back_at begun bytes ≡ Some r
    → AreSmall (size r.0.0) r.0.1
back_small begun bytes r e =
    let later : ℕ × List ℕ → Option ((Node × List Node) × List ℕ) =
    λ n. node_of begun n.0 >>= λ x. Some ((x, []), n.1) in
    let a = bind_some (u32_at bytes) later r e in
    let end : Node → Option ((Node × List Node) × List ℕ) = λ x. Some ((x, []), a.0.1) in
    let b = bind_some (node_of begun a.0.0) end r a.2 in
    subst (λ (q : (Node × List Node) × List ℕ). AreSmall (size q.0.0) q.0.1)
    (some_is ((b.0, []), a.0.1) r b.2) tt

if_new_is : {A : Type 0} (o : Option ℕ) (x y : A) → if_new o x ≡ Some y → x ≡ y
if_new_is None x y e = some_is x y e
if_new_is (Some n) x y e = absurd (cc)

written_small : (step : NodeStep) → BeginsSmall step → (f : Format) (tag : ℕ) (begun : Begun) (bytes : List ℕ)
    (r : (Node × List Node) × List ℕ) → written_at step f tag begun bytes ≡ Some r → AreSmall (size r.0.0) r.0.1
written_small step h f tag begun bytes r e =
    let later : (Content × List Node) × List ℕ → Option ((Node × List Node) × List ℕ) =
    λ q. if_new (number_of begun (Node.node tag q.0.0)) ((Node.node tag q.0.0, Node.node tag q.0.0 ∷ q.0.1), q.1) in
    let a = bind_some (content_at step (f.shape tag) (begun ++ None ∷ []) bytes) later r e in
    subst (λ (q : (Node × List Node) × List ℕ). AreSmall (size q.0.0) q.0.1)
    (if_new_is (number_of begun (Node.node tag a.0.0.0))
    ((Node.node tag a.0.0.0, Node.node tag a.0.0.0 ∷ a.0.0.1), a.0.1) r a.2) (
      omega arith,
      small_more (size_in a.0.0.0) (suc (size_in a.0.0.0)) a.0.0.1 (omega arith)
          (content_small step h (f.shape tag) (begun ++ None ∷ []) bytes a.0 a.1),
    )

tagged_small : (step : NodeStep) → BeginsSmall step → (f : Format) (tag : ℕ) (begun : Begun) (bytes : List ℕ)
    (r : (Node × List Node) × List ℕ) (b : Bool) → cond b (back_at begun bytes) (written_at step f tag begun bytes) ≡ Some r
    → AreSmall (size r.0.0) r.0.1
tagged_small step h f tag begun bytes r true = back_small begun bytes r
tagged_small step h f tag begun bytes r false = written_small step h f tag begun bytes r

pub node_small : (n : ℕ) (f : Format) → BeginsSmall (node_at n f)
node_small zero f = record { small = λ begun bytes r e. absurd (cc) }
node_small (suc n) f = record {
  small = λ begun bytes r e.
      let later : ℕ × List ℕ → Option ((Node × List Node) × List ℕ) =
      λ tag. tagged_at (node_at n f) f tag.0 begun tag.1 in
      let a = bind_some (byte_at bytes) later r e in
      tagged_small (node_at n f) (node_small n f) f a.0.0 begun a.0.1 r (a.0.0 == f.back) a.2;
}

-- ---- a greater node is none of them

apart_small : (n : ℕ) (xs : List Node) (x : Node) → AreSmall n xs → n < size x → number_of (whole xs) x ≡ None
apart_small n [] x h lt = refl
apart_small n (y ∷ ys) x h lt =
    let other : same_node x y ≡ false =
    node_apart x y (λ e. let s : size x ≡ size y = ap size e in omega (arith, s, h.0, lt)) in
    ap (λ (b : Bool). here_or b (number_of (whole ys) x)) other
    ∙ ap one_on (apart_small n ys x h.1 lt)

number_behind : (a b : Begun) (x : Node) → number_of b x ≡ None → number_of (a ++ b) x ≡ number_of a x
number_behind [] b x e = e
number_behind (None ∷ a) b x e = ap one_on (number_behind a b x e)
number_behind (Some y ∷ a) b x e = ap (λ (o : Option ℕ). here_or (same_node x y) o) (number_behind a b x e)

pub not_in_itself : (begun : Begun) (tag : ℕ) (content : Content) (xs : List Node) → AreSmall (size_in content) xs
    → number_of (begun ++ None ∷ whole xs) (Node.node tag content) ≡ number_of begun (Node.node tag content)
not_in_itself begun tag content xs h =
    number_behind begun (None ∷ whole xs) (Node.node tag content)
    (ap one_on (apart_small (size_in content) xs (Node.node tag content) h (omega arith)))
