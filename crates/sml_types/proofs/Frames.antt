-- going through parts
use Rattle.std.proofs.Common.{◌≡◌, ℕ, zero, suc, ◌+◌, ◌*◌, ◌<◌, ◌≤◌, List, [], ◌∷◌, ◌++◌, length, refl, sym, ap, ap₂, ◌∙◌, Some, None, Bool, true, false, arith, ◌⊎◌, inl, inr, slice_get, drop}
use Rattle.std.proofs.lemmas.Option.{get_or_from_slice_get, slice_get-get_or, slice_get_within}
use Rattle.std.specs.Prelude.{not}
use Rattle.semantic_objects.specs.declared.name.TyId.{TyId}
use Rattle.semantic_objects.specs.declared.name.TyId.TheVariants as id
use Rattle.semantic_objects.specs.declared.symbol.Symbol.{Symbol}
use Rattle.semantic_objects.specs.declared.symbol.Symbol.TheVariants as symbol
use Rattle.unification.specs.Types.{Ty, Types, put, put_all, size, size_all}
use Rattle.unification.proofs.Putting.{or_false_left, or_false_right}
use Rattle.type_nodes.specs.declared.node.Node.{Node}
use Rattle.type_nodes.specs.Nodes.{AreMade, rigid_in}
use Rattle.type_nodes.specs.Facts.{has_variable, have_variable, flexible_in}
use Rattle.type_nodes.specs.Tables.{Table, store_of, Has, state, whole}
use Rattle.type_nodes.specs.Keeping.{IsKept}
use Rattle.type_nodes.proofs.Knowing.{no_item}
use Rattle.type_nodes.proofs.Making.{id_more}
use Rattle.type_nodes.proofs.Binding.{node_whole}
use Rattle.sml_types.specs.declared.frame.Frame.{Frame}
use Rattle.sml_types.specs.Frames.{Standing, seen, stood, stood_all, parts_at, symbol_at, left, after, NextPart, NoPart, steps_left, IsFrame, AreFrames, nothing}

pub parts_are : (s : Standing) (i : ℕ) (x : Node) → slice_get s.nodes i ≡ Some x → parts_at s i ≡ x.parts
parts_are s i x e = ap (λ (y : Node). y.parts)
    (get_or_from_slice_get s.nodes i x (record { symbol = symbol.Arrow; parts = [] }) e)

pub symbol_is_at : (s : Standing) (i : ℕ) (x : Node) → slice_get s.nodes i ≡ Some x → symbol_at s i ≡ x.symbol
symbol_is_at s i x e = ap (λ (y : Node). y.symbol)
    (get_or_from_slice_get s.nodes i x (record { symbol = symbol.Arrow; parts = [] }) e)

drop_suc : {X : Type 0} (xs : List X) (k : ℕ) (x : X) → slice_get xs k ≡ Some x → drop k xs ≡ x ∷ drop (suc k) xs
drop_suc [] k x h = absurd (no_item k x h)
drop_suc (y ∷ ys) zero x h = ap (λ z. z ∷ ys) (let e : y ≡ x = cc in e)
drop_suc (y ∷ ys) (suc k) x h = drop_suc ys k x h

pub drop_at : {X : Type 0} (xs : List X) (k : ℕ) (x : X) → slice_get xs k ≡ Some x → drop k xs ≡ x ∷ drop (k + 1) xs
drop_at xs k x h = drop_suc xs k x h ∙ ap (λ n. x ∷ drop n xs) (let e : suc k ≡ k + 1 = omega arith in e)

pub drop_past : {X : Type 0} (xs : List X) (k : ℕ) → length xs ≤ k → drop k xs ≡ []
drop_past [] zero h = refl
drop_past [] (suc k) h = refl
drop_past (x ∷ xs) zero h = absurd (omega (arith, h))
drop_past (x ∷ xs) (suc k) h = drop_past xs k (omega (arith, h))

pub none_past : {X : Type 0} (xs : List X) (k : ℕ) → None ≡ slice_get xs k → length xs ≤ k
none_past [] k h = omega arith
none_past (x ∷ xs) zero h = absurd (cc)
none_past (x ∷ xs) (suc k) h = let e : length xs ≤ k = none_past xs k h in omega (arith, e)

-- the parts of a node are ids of the table
pub part_has : (t : Table) (i k : ℕ) (x : Node) (a : TyId) → AreMade (store_of t) → slice_get t.nodes i ≡ Some x
    → slice_get x.parts k ≡ Some a → Has t a
part_has t i k x a h e f = id_more (length t.births) i (length t.births) (length t.nodes) a (omega arith)
    (let l : i < length t.nodes = slice_get_within t.nodes i x e in omega (arith, l)) ((h.each i x e).parts k a f)

pub next_some : (t : Table) (f : Frame) (x : Node) (a : TyId) → AreMade (store_of t) → slice_get t.nodes f.node ≡ Some x
    → slice_get x.parts f.next ≡ Some a → NextPart t f a
next_some t f x a h e g = record {
  has = part_has t f.node f.next x a h e g;
  at = ap (λ ps. slice_get ps f.next) (parts_are (seen t) f.node x e) ∙ g;
  left = ap (stood_all (seen t)) (drop_at (parts_at (seen t) f.node) f.next a (ap (λ ps. slice_get ps f.next) (parts_are (seen t) f.node x e) ∙ g));
}

pub next_none : (t : Table) (f : Frame) (x : Node) → slice_get t.nodes f.node ≡ Some x → None ≡ slice_get x.parts f.next
    → NoPart (seen t) f
next_none t f x e g =
    let l : length (parts_at (seen t) f.node) ≤ f.next =
    none_past (parts_at (seen t) f.node) f.next (g ∙ sym (ap (λ ps. slice_get ps f.next) (parts_are (seen t) f.node x e))) in
    record { left = ap (stood_all (seen t)) (drop_past (parts_at (seen t) f.node) f.next l); ended = l }

pub steps_snoc : (s : Standing) (fs : List Frame) (f : Frame)
    → steps_left s (fs ++ f ∷ []) ≡ steps_left s fs + (2 * size_all (left s f) + 1)
steps_snoc s [] f = refl
steps_snoc s (g ∷ gs) f =
    let k : steps_left s (gs ++ f ∷ []) ≡ steps_left s gs + (2 * size_all (left s f) + 1) = steps_snoc s gs f in
    omega (arith, k)

pub size_some : (t : Ty) → 1 ≤ size t
size_some (Ty.Var n) = omega arith
size_some (Ty.Made c ts) = omega arith

-- frames, one more or less at the end
pub either : (P Q R : Type 0) → P ⊎ Q → (P → R) → (Q → R) → R
either P Q R (inl p) f g = f p
either P Q R (inr q) f g = g q

pub frame_as : (K : Symbol → Type 0) (A B E F : Ty → Type 0) (s : Standing) (f : Frame) → ((x : Ty) → A x → B x)
    → ((x : Ty) → E x → B x ⊎ F x) → IsFrame K A E s f → IsFrame K B F s f
frame_as K A B E F s f g h k = record {
  within = k.within;
  kind = k.kind;
  passed = λ n a l e. either (A (stood s a)) (E (stood s a)) (B (stood s a) ⊎ F (stood s a)) (k.passed n a l e)
      (λ p. inl (g (stood s a) p)) (λ q. h (stood s a) q);
}

pub frames_as : (K : Symbol → Type 0) (A B E F : Ty → Type 0) (s : Standing) (fs : List Frame) → ((x : Ty) → A x → B x)
    → ((x : Ty) → E x → B x ⊎ F x) → AreFrames K A E s fs → AreFrames K B F s fs
frames_as K A B E F s [] g h k = tt
frames_as K A B E F s (f ∷ []) g h k = (frame_as K A B E F s f g h k.0, tt)
frames_as K A B E F s (f ∷ f' ∷ fs) g h k = (
  frame_as K A B (λ x. x ≡ stood s (id.Made f'.node)) (λ x. x ≡ stood s (id.Made f'.node)) s f g (λ x e. inr e) k.0,
  frames_as K A B E F s (f' ∷ fs) g h k.1,
)

pub frames_push : (K : Symbol → Type 0) (A E : Ty → Type 0) (s : Standing) (fs : List Frame) (f : Frame)
    → AreFrames K A (λ x. x ≡ stood s (id.Made f.node)) s fs → IsFrame K A E s f → AreFrames K A E s (fs ++ f ∷ [])
frames_push K A E s [] f h k = (k, tt)
frames_push K A E s (g ∷ []) f h k = (h.0, (k, tt))
frames_push K A E s (g ∷ g' ∷ gs) f h k = (h.0, frames_push K A E s (g' ∷ gs) f h.1 k)

pub frames_pop : (K : Symbol → Type 0) (A E : Ty → Type 0) (s : Standing) (fs : List Frame) (f : Frame) → AreFrames K A E s (fs ++ f ∷ [])
    → AreFrames K A (λ x. x ≡ stood s (id.Made f.node)) s fs × IsFrame K A E s f
frames_pop K A E s [] f h = (tt, h.0)
frames_pop K A E s (g ∷ []) f h = ((h.0, tt), h.1.0)
frames_pop K A E s (g ∷ g' ∷ gs) f h = (let k = frames_pop K A E s (g' ∷ gs) f h.1 in ((h.0, k.0), k.1))

pub before_or : {P : Type 0} (m n : ℕ) → m < n + 1 → (m < n → P) → (m ≡ n → P) → P
before_or zero zero h f g = g refl
before_or zero (suc n) h f g = f (omega arith)
before_or (suc m) zero h f g = absurd (omega (arith, h))
before_or (suc m) (suc n) h f g = before_or m n (omega (arith, h)) (λ i. f (omega (arith, i))) (λ i. g (ap suc i))

pub some_same : {A : Type 0} (x y : A) → Some x ≡ Some y → x ≡ y
some_same x y h = cc

-- a frame with its next part passed
pub frame_after : (K : Symbol → Type 0) (A E : Ty → Type 0) (t : Table) (f : Frame) (a : TyId) → NextPart t f a → IsFrame K A nothing (seen t) f
    → IsFrame K A (λ x. x ≡ whole t a) (seen t) (after f)
frame_after K A E t f a n k = record {
  within = k.within;
  kind = k.kind;
  passed = λ m b l e. before_or m f.next (let i : m < f.next + 1 = l in i)
      (λ i. either (A (whole t b)) ⊥ (A (whole t b) ⊎ (whole t b ≡ whole t a)) (k.passed m b i e) inl (λ z. absurd z))
      (λ i. inr (let j : a ≡ b = some_same a b (sym n.at ∙ ap (slice_get (parts_at (seen t) f.node)) (sym i) ∙ e) in ap (whole t) (sym j)));
}

-- a new frame has passed nothing
pub frame_new : (K : Symbol → Type 0) (A : Ty → Type 0) (s : Standing) (f : Frame) → f.node < length s.nodes
    → K (symbol_at s f.node) → f.next ≡ 0 → IsFrame K A nothing s f
frame_new K A s f h c e = record { within = h; kind = c; passed = λ k a l i. absurd (omega (arith, l, e)) }

-- what a frame that has passed all parts says of its node
pub whole_node_at : (t : Table) (i : ℕ) → IsKept t → i < length t.nodes
    → whole t (id.Made i) ≡ Ty.Made (symbol_at (seen t) i) (stood_all (seen t) (parts_at (seen t) i))
whole_node_at t i k l = node_whole t i _ k.made (slice_get-get_or t.nodes i (record { symbol = symbol.Arrow; parts = [] }) l)

pub all_passed : (K : Symbol → Type 0) (A : Ty → Type 0) (s : Standing) (f : Frame) → NoPart s f → IsFrame K A nothing s f
    → (k : ℕ) (a : TyId) → slice_get (parts_at s f.node) k ≡ Some a → A (stood s a)
all_passed K A s f n h k a e = either (A (stood s a)) ⊥ (A (stood s a))
    (h.passed k a (let l : k < length (parts_at s f.node) = slice_get_within (parts_at s f.node) k a e in omega (arith, l, n.ended)) e)
    (λ p. p) (λ z. absurd z)

pub not_false : (b : Bool) → not b ≡ false → b ≡ true
not_false true h = refl
not_false false h = absurd (cc)

-- a type without flexible variables stands for itself
mutual
  pub fixed : (t : Table) (u : Ty) → IsKept t → has_variable (flexible_in t.births) u ≡ false → put (state t).stands u ≡ u
  fixed t (Ty.Var n) k h = k.fit.settled.leaves.alone n (ap (λ f. f n) k.rigid ∙ not_false (rigid_in t.births n) h)
  fixed t (Ty.Made c ts) k h = ap (Ty.Made c) (fixed_all t ts k h)

  fixed_all : (t : Table) (us : Types) → IsKept t → have_variable (flexible_in t.births) us ≡ false
      → put_all (state t).stands us ≡ us
  fixed_all t Types.Nil k h = refl
  fixed_all t (Types.Cons u us) k h = ap₂ Types.Cons (fixed t u k (or_false_left (has_variable (flexible_in t.births) u) (have_variable (flexible_in t.births) us) h)) (fixed_all t us k (or_false_right (has_variable (flexible_in t.births) u) (have_variable (flexible_in t.births) us) h))
