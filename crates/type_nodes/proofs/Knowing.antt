-- what is known of types, part by part and as they are added
use Rattle.std.proofs.Common.{◌≡◌, ℕ, zero, suc, ◌+◌, ◌<◌, ◌≤◌, List, [], ◌∷◌, ◌++◌, length, refl, sym, ap, ap₂, ◌∙◌, Some, None, Bool, true, false, arith, ◌⊎◌, inl, inr, slice_get, get_or, take, drop}
use Rattle.std.proofs.lemmas.Option.{slice_get_within, slice_get_past}
use Rattle.std.proofs.lemmas.List.{get_or_append_left, length-take, take-append-drop, take_all}
use Rattle.std.proofs.Math.Seq.{take-suc}
use Rattle.std.proofs.lemmas.Bool.{eq-eqb}
use Rattle.std.specs.Prelude.{◌||◌, ◌&&◌, not, min}
use Rattle.semantic_objects.specs.declared.name.TyId.{TyId}
use Rattle.semantic_objects.specs.declared.name.TyId.TheVariants as id
use Rattle.semantic_objects.specs.declared.symbol.Symbol.{Symbol}
use Rattle.unification.specs.Types.{Ty, Types, Marks, size, size_all, admits, admits_all, equality_of, where_parts, occurs, occurs_any}
use Rattle.unification.specs.Fitting.{IsBelow}
use Rattle.unification.proofs.Putting.{or_left, or_right}
use Rattle.type_nodes.specs.declared.facts.Facts.{Facts}
use Rattle.type_nodes.specs.declared.node.Birth.{Birth}
use Rattle.type_nodes.specs.declared.node.Node.{Node}
use Rattle.type_nodes.specs.Nodes.{Store, type_in, types_in, node_type, made, type_at, IsNode, AreMade, with_birth, with_node, birth_in, marked_in}
use Rattle.type_nodes.specs.Facts.{has_variable, have_variable, flexible_in, every, capped, facts_of, facts_all, joined, over_symbol, IsStore}
use Rattle.type_nodes.proofs.Making.{length_snoc, get_snoc, type_front, type_added, made_birth, made_node, made_nothing}

or_assoc : (a b c : Bool) → ((a || b) || c) ≡ (a || (b || c))
or_assoc true b c = refl
or_assoc false b c = refl

and_assoc : (a b c : Bool) → ((a && b) && c) ≡ (a && (b && c))
and_assoc true b c = refl
and_assoc false b c = refl

or_false : (a : Bool) → a ≡ (a || false)
or_false true = refl
or_false false = refl

and_true : (a : Bool) → a ≡ (a && true)
and_true true = refl
and_true false = refl

facts_same : (f g : Facts) → f.flexible ≡ g.flexible → f.variable ≡ g.variable → f.size ≡ g.size
    → f.equality ≡ g.equality → f ≡ g
facts_same f g a b c d = λ i. record { flexible = a i; variable = b i; size = c i; equality = d i }

-- one part more at the end
pub facts_snoc : (births : List Birth) (m : List Ty) (xs : List TyId) (a : TyId)
    → facts_all births (types_in m (xs ++ a ∷ [])) ≡ joined (facts_all births (types_in m xs)) (facts_of births (type_in m a))
facts_snoc births m [] a = facts_same _ _ (sym (or_false (has_variable (flexible_in births) (type_in m a))))
    (sym (or_false (has_variable every (type_in m a)))) (omega arith) (sym (and_true (admits (marked_in births) (type_in m a))))
facts_snoc births m (x ∷ xs) a =
    let t : Ty = type_in m x in
    let ts : Types = types_in m xs in
    let u : Ty = type_in m a in
    let k : facts_all births (types_in m (xs ++ a ∷ [])) ≡ joined (facts_all births ts) (facts_of births u) =
    facts_snoc births m xs a in
    let n : capped (size_all (types_in m (xs ++ a ∷ []))) ≡ capped (capped (size_all ts) + capped (size u)) =
    ap (λ (f : Facts). f.size) k in
    facts_same _ _
    (ap (λ (f : Facts). has_variable (flexible_in births) t || f.flexible) k
    ∙ sym (or_assoc (has_variable (flexible_in births) t) (have_variable (flexible_in births) ts)
    (has_variable (flexible_in births) u)))
    (ap (λ (f : Facts). has_variable every t || f.variable) k
    ∙ sym (or_assoc (has_variable every t) (have_variable every ts) (has_variable every u)))
    (omega (arith, n))
    (ap (λ (f : Facts). admits (marked_in births) t && f.equality) k
    ∙ sym (and_assoc (admits (marked_in births) t) (admits_all (marked_in births) ts) (admits (marked_in births) u)))

pub facts_over : (births : List Birth) (c : Symbol) (ts : Types)
    → facts_of births (Ty.Made c ts) ≡ over_symbol c (facts_all births ts)
facts_over births c ts = facts_same _ _ refl refl (omega arith) refl

-- what is known hangs on the variables of a type alone
mutual
  has_alike : (p q : Marks) (t : Ty) → ((n : ℕ) → occurs n t ≡ true → p n ≡ q n) → has_variable p t ≡ has_variable q t
  has_alike p q (Ty.Var n) h = h n (eq-eqb n n refl)
  has_alike p q (Ty.Made c ts) h = have_alike p q ts h

  have_alike : (p q : Marks) (ts : Types) → ((n : ℕ) → occurs_any n ts ≡ true → p n ≡ q n)
      → have_variable p ts ≡ have_variable q ts
  have_alike p q Types.Nil h = refl
  have_alike p q (Types.Cons t ts) h = ap₂ ◌||◌ (has_alike p q t (λ n k. h n (or_left (occurs n t) (occurs_any n ts) k)))
      (have_alike p q ts (λ n k. h n (or_right (occurs n t) (occurs_any n ts) k)))

mutual
  admits_alike : (p q : Marks) (t : Ty) → ((n : ℕ) → occurs n t ≡ true → p n ≡ q n) → admits p t ≡ admits q t
  admits_alike p q (Ty.Var n) h = h n (eq-eqb n n refl)
  admits_alike p q (Ty.Made c ts) h = ap (where_parts (equality_of c)) (admit_alike p q ts h)

  admit_alike : (p q : Marks) (ts : Types) → ((n : ℕ) → occurs_any n ts ≡ true → p n ≡ q n)
      → admits_all p ts ≡ admits_all q ts
  admit_alike p q Types.Nil h = refl
  admit_alike p q (Types.Cons t ts) h = ap₂ ◌&&◌ (admits_alike p q t (λ n k. h n (or_left (occurs n t) (occurs_any n ts) k)))
      (admit_alike p q ts (λ n k. h n (or_right (occurs n t) (occurs_any n ts) k)))

pub facts_alike : (b c : List Birth) (t : Ty) → ((n : ℕ) → occurs n t ≡ true → birth_in b n ≡ birth_in c n)
    → facts_of b t ≡ facts_of c t
facts_alike b c t h = facts_same _ _
    (has_alike (flexible_in b) (flexible_in c) t (λ n k. ap (λ (x : Birth). not x.rigid) (h n k)))
    refl refl
    (admits_alike (marked_in b) (marked_in c) t (λ n k. ap (λ (x : Birth). x.marked) (h n k)))

pub facts_births : (b more : List Birth) (t : Ty) → IsBelow (length b) t → facts_of (b ++ more) t ≡ facts_of b t
facts_births b more t h = facts_alike (b ++ more) b t
    (λ n k. get_or_append_left b more (record { marked = false; rigid = false }) n (h n k))

pub store_nothing : IsStore (record { births = []; nodes = [] }) []
store_nothing = record { made = made_nothing; counted = refl; known = λ i f e. absurd (cc) }

at_within : (s : Store) (facts : List Facts) (i : ℕ) (f : Facts) → IsStore s facts → slice_get facts i ≡ Some f
    → i < length s.nodes
at_within s facts i f h e = let l : i < length facts = slice_get_within facts i f e in omega (arith, l, h.counted)

pub store_birth : (s : Store) (facts : List Facts) (b : Birth) → IsStore s facts → IsStore (with_birth b s) facts
store_birth s facts b h = record {
  made = made_birth s b h.made;
  counted = h.counted;
  known = λ i f e. h.known i f e
      ∙ sym (facts_births s.births (b ∷ []) (type_at s (id.Made i)) (h.made.below i (at_within s facts i f h e)));
}

known_node : (s : Store) (facts : List Facts) (y : Node) (g f : Facts) (i : ℕ) → IsStore s facts
    → g ≡ facts_of s.births (node_type (made s.nodes) y)
    → (slice_get facts i ≡ Some f) ⊎ ((i ≡ length facts) × (g ≡ f))
    → f ≡ facts_of s.births (type_at (with_node y s) (id.Made i))
known_node s facts y g f i h k (inl e) = h.known i f e
    ∙ sym (ap (facts_of s.births) (type_front s.nodes (y ∷ []) 0 (id.Made i) (at_within s facts i f h e)))
known_node s facts y g f i h k (inr e) = sym e.1 ∙ k
    ∙ sym (ap (facts_of s.births) (type_added s.nodes y i (e.0 ∙ h.counted)))

pub store_node : (s : Store) (facts : List Facts) (y : Node) (g : Facts) → IsStore s facts → IsNode s y
    → g ≡ facts_of s.births (node_type (made s.nodes) y) → IsStore (with_node y s) (facts ++ g ∷ [])
store_node s facts y g h n k = record {
  made = made_node s y h.made n;
  counted = length_snoc facts g ∙ (let l : length facts + 1 ≡ length (s.nodes ++ y ∷ []) = omega (arith, h.counted, length_snoc s.nodes y) in l);
  known = λ i f e. known_node s facts y g f i h k (get_snoc facts g f i e);
}

-- variables and nodes taken away from the end
store_front : (s : Store) (facts : List Facts) (v n i : ℕ) (f : Facts) → IsStore s facts
    → AreMade (record { births = take v s.births; nodes = take n s.nodes })
    → (i < n) × (slice_get facts i ≡ Some f)
    → f ≡ facts_of (take v s.births) (type_in (made (take n s.nodes)) (id.Made i))
store_front s facts v n i f h g e =
    let l : i < length s.nodes = at_within s facts i f h e.1 in
    let k : i < length (take n s.nodes) = (let m : length (take n s.nodes) ≡ min n (length s.nodes) = length-take n s.nodes in
    let j : i < n = e.0 in omega (arith, m, l, j)) in
    let same : type_at s (id.Made i) ≡ type_in (made (take n s.nodes)) (id.Made i) =
    ap (λ ns. type_in (made ns) (id.Made i)) (sym (take-append-drop n s.nodes))
    ∙ type_front (take n s.nodes) (drop n s.nodes) 0 (id.Made i) k in
    h.known i f e.1 ∙ ap (facts_of s.births) same
    ∙ ap (λ bs. facts_of bs (type_in (made (take n s.nodes)) (id.Made i))) (sym (take-append-drop v s.births))
    ∙ facts_births (take v s.births) (drop v s.births) (type_in (made (take n s.nodes)) (id.Made i)) (g.below i k)

pub no_item : {X : Type 0} (i : ℕ) (x : X) → slice_get {X = X} [] i ≡ Some x → ⊥
no_item {X = X} i x h = let k : slice_get {X = X} [] i ≡ None = slice_get_past {X = X} [] i (omega arith) in cc

pub get_front : {X : Type 0} (n i : ℕ) (xs : List X) (x : X) → slice_get (take n xs) i ≡ Some x
    → (i < n) × (slice_get xs i ≡ Some x)
get_front zero i xs x h = absurd (no_item i x h)
get_front (suc n) i [] x h = absurd (no_item i x h)
get_front (suc n) zero (y ∷ ys) x h = (omega arith, h)
get_front (suc n) (suc i) (y ∷ ys) x h = (let k = get_front n i ys x h in
    let l : i < n = k.0 in (omega (arith, l), k.1))

pub store_cut : (s : Store) (facts : List Facts) (v n : ℕ) → IsStore s facts
    → AreMade (record { births = take v s.births; nodes = take n s.nodes })
    → IsStore (record { births = take v s.births; nodes = take n s.nodes }) (take n facts)
store_cut s facts v n h g = record {
  made = g;
  counted = length-take n facts ∙ ap (min n) h.counted ∙ sym (length-take n s.nodes);
  known = λ i f e. store_front s facts v n i f h g (get_front n i facts f e);
}

-- parts up to a place, then the one there
pub facts_more : (births : List Birth) (m : List Ty) (parts : List TyId) (i : ℕ) (f : Facts) (a d : TyId) → i < length parts
    → a ≡ get_or parts i d → f ≡ facts_all births (types_in m (take i parts))
    → joined f (facts_of births (type_in m a)) ≡ facts_all births (types_in m (take (i + 1) parts))
facts_more births m parts i f a d l e h =
    ap (λ g. joined g (facts_of births (type_in m a))) h
    ∙ sym (facts_snoc births m (take i parts) a)
    ∙ sym (ap (λ ids. facts_all births (types_in m ids)) (ap (λ n. take n parts) (let k : i + 1 ≡ suc i = omega arith in k)
    ∙ take-suc parts i d l ∙ ap (λ b. take i parts ++ b ∷ []) (sym e)))

pub facts_whole : (births : List Birth) (m : List Ty) (parts : List TyId) (i : ℕ) (f : Facts) → length parts ≤ i
    → f ≡ facts_all births (types_in m (take i parts)) → f ≡ facts_all births (types_in m parts)
facts_whole births m parts i f l h = h ∙ ap (λ ids. facts_all births (types_in m ids)) (take_all i parts l)
