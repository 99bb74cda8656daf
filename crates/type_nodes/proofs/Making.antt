-- variables and nodes that are added keep what was made
use Rattle.std.proofs.Common.{◌≡◌, ℕ, zero, suc, ◌+◌, ◌<◌, ◌≤◌, List, [], ◌∷◌, ◌++◌, length, refl, sym, ap, ap₂, ◌∙◌, subst, Some, arith, ◌⊎◌, inl, inr, slice_get, get_or}
use Rattle.std.proofs.lemmas.Option.{slice_get_within}
use Rattle.std.proofs.lemmas.List.{get_or_append_left, get_or_push, length-append}
use Rattle.std.proofs.lemmas.Bool.{eqb-true}
use Rattle.semantic_objects.specs.declared.name.TyId.{TyId}
use Rattle.semantic_objects.specs.declared.name.TyId.TheVariants as id
use Rattle.unification.specs.Types.{Ty, Types, occurs, occurs_any}
use Rattle.unification.specs.Fitting.{IsBelow}
use Rattle.unification.specs.Touching.{AreWithin}
use Rattle.unification.specs.Fitting.{Below}
use Rattle.unification.proofs.Putting.{or_either}
use Rattle.type_nodes.specs.declared.node.Birth.{Birth}
use Rattle.type_nodes.specs.declared.node.Node.{Node}
use Rattle.type_nodes.specs.Nodes.{Store, type_in, types_in, node_type, made_after, made, type_at, types_at, IsIdOf, Has, IsNodeOver, IsNode, AreMade, with_birth, with_node}

pub length_snoc : {X : Type 0} (xs : List X) (x : X) → length (xs ++ x ∷ []) ≡ length xs + 1
length_snoc xs x = length-append xs (x ∷ [])

further : {P Q : Type 0} (i n : ℕ) → P ⊎ ((i ≡ n) × Q) → P ⊎ ((suc i ≡ suc n) × Q)
further i n (inl p) = inl p
further i n (inr q) = inr (ap suc q.0, q.1)

-- an item of a list with one more at its end
pub get_snoc : {X : Type 0} (xs : List X) (y x : X) (i : ℕ) → slice_get (xs ++ y ∷ []) i ≡ Some x
    → (slice_get xs i ≡ Some x) ⊎ ((i ≡ length xs) × (y ≡ x))
get_snoc [] y x zero h = inr (refl, cc)
get_snoc [] y x (suc i) h = absurd (cc)
get_snoc (z ∷ zs) y x zero h = inl h
get_snoc (z ∷ zs) y x (suc i) h = further i (length zs) (get_snoc zs y x i h)

pub made_append : (m : List Ty) (xs ys : List Node) → made_after m (xs ++ ys) ≡ made_after (made_after m xs) ys
made_append m [] ys = refl
made_append m (x ∷ xs) ys = made_append (m ++ node_type m x ∷ []) xs ys

length_after : (m : List Ty) (xs : List Node) → length (made_after m xs) ≡ length m + length xs
length_after m [] = omega arith
length_after m (x ∷ xs) =
    let k : length (m ++ node_type m x ∷ []) ≡ length m + 1 = length_snoc m (node_type m x) in
    omega (arith, length_after (m ++ node_type m x ∷ []) xs, k)

pub length_made : (xs : List Node) → length (made xs) ≡ length xs
length_made xs = omega (arith, length_after [] xs)

-- types that were made stay
after_front : (m : List Ty) (xs : List Node) (i : ℕ) (d : Ty) → i < length m → get_or (made_after m xs) i d ≡ get_or m i d
after_front m [] i d h = refl
after_front m (x ∷ xs) i d h =
    let k : length (m ++ node_type m x ∷ []) ≡ length m + 1 = length_snoc m (node_type m x) in
    after_front (m ++ node_type m x ∷ []) xs i d (omega (arith, h, k)) ∙ get_or_append_left m (node_type m x ∷ []) d i h

pub type_front : (xs ys : List Node) (n : ℕ) (a : TyId) → IsIdOf n (length xs) a
    → type_in (made (xs ++ ys)) a ≡ type_in (made xs) a
type_front xs ys n (id.Variable v) h = refl
type_front xs ys n (id.Made i) h = ap (λ m. get_or m i (Ty.Var 0)) (made_append [] xs ys)
    ∙ after_front (made xs) ys i (Ty.Var 0) (omega (arith, h, length_made xs))

pub types_front : (xs ys : List Node) (n : ℕ) (ids : List TyId)
    → ((i : ℕ) (a : TyId) → slice_get ids i ≡ Some a → IsIdOf n (length xs) a)
    → types_in (made (xs ++ ys)) ids ≡ types_in (made xs) ids
types_front xs ys n [] h = refl
types_front xs ys n (a ∷ ids) h = ap₂ Types.Cons (type_front xs ys n a (h 0 a refl))
    (types_front xs ys n ids (λ i b e. h (suc i) b e))

pub id_more : (v n w m : ℕ) (a : TyId) → v ≤ w → n ≤ m → IsIdOf v n a → IsIdOf w m a
id_more v n w m (id.Variable x) p q h = omega (arith, p, h)
id_more v n w m (id.Made i) p q h = omega (arith, q, h)

pub node_more : (v n w m : ℕ) (x : Node) → v ≤ w → n ≤ m → IsNodeOver v n x → IsNodeOver w m x
node_more v n w m x p q h = record {
  parts = λ i a e. id_more v n w m a p q (h.parts i a e);
  counted = h.counted;
  rising = h.rising;
}

pub wider : (j k : ℕ) (t : Ty) → j ≤ k → IsBelow j t → IsBelow k t
wider j k t h l n e = let m : n < j = l n e in omega (arith, m, h)

pub made_nothing : AreMade (record { births = []; nodes = [] })
made_nothing = record {
  each = λ i x e. absurd (cc);
  noted = λ i x e. absurd (cc);
  below = λ i h. absurd (omega (arith, h));
}

pub made_birth : (s : Store) (b : Birth) → AreMade s → AreMade (with_birth b s)
made_birth s b h =
    let k : length (s.births ++ b ∷ []) ≡ length s.births + 1 = length_snoc s.births b in
    record {
      each = λ i x e. node_more _ i _ i x (omega (arith, k)) (omega arith) (h.each i x e);
      noted = h.noted;
      below = λ i l. wider _ _ (type_at s (id.Made i)) (omega (arith, k)) (h.below i l);
    }

-- the type of a node in terms of all nodes
noted_at : (xs : List Node) (y : Node) (v i : ℕ) (x : Node) → i ≤ length xs → IsNodeOver v i x
    → node_type (made (xs ++ y ∷ [])) x ≡ node_type (made xs) x
noted_at xs y v i x l h = ap (Ty.Made x.symbol)
    (types_front xs (y ∷ []) v x.parts (λ j a e. id_more v i v (length xs) a (omega arith) l (h.parts j a e)))

made_snoc : (xs : List Node) (y : Node) → made (xs ++ y ∷ []) ≡ made xs ++ node_type (made xs) y ∷ []
made_snoc xs y = made_append [] xs (y ∷ [])

pub type_added : (xs : List Node) (y : Node) (i : ℕ) → i ≡ length xs
    → type_in (made (xs ++ y ∷ [])) (id.Made i) ≡ node_type (made xs) y
type_added xs y i e = ap (λ m. get_or m i (Ty.Var 0)) (made_snoc xs y)
    ∙ get_or_push (made xs) (node_type (made xs) y) (Ty.Var 0) i (length_made xs ∙ sym e)

each_node : (s : Store) (y x : Node) (i : ℕ) → AreMade s → IsNode s y
    → (slice_get s.nodes i ≡ Some x) ⊎ ((i ≡ length s.nodes) × (y ≡ x)) → IsNodeOver (length s.births) i x
each_node s y x i h n (inl e) = h.each i x e
each_node s y x i h n (inr e) = subst (λ j. IsNodeOver (length s.births) j x) (sym e.0)
    (subst (IsNodeOver (length s.births) (length s.nodes)) e.1 n)

noted_node : (s : Store) (y x : Node) (i : ℕ) → AreMade s → IsNode s y
    → (slice_get s.nodes i ≡ Some x) ⊎ ((i ≡ length s.nodes) × (y ≡ x))
    → type_at (with_node y s) (id.Made i) ≡ node_type (made (s.nodes ++ y ∷ [])) x
noted_node s y x i h n (inl e) = let l : i < length s.nodes = slice_get_within s.nodes i x e in
    type_front s.nodes (y ∷ []) 0 (id.Made i) l ∙ h.noted i x e
    ∙ sym (noted_at s.nodes y (length s.births) i x (omega (arith, l)) (h.each i x e))
noted_node s y x i h n (inr e) = type_added s.nodes y i e.0
    ∙ sym (noted_at s.nodes y (length s.births) (length s.nodes) y (omega arith) n)
    ∙ ap (node_type (made (s.nodes ++ y ∷ []))) e.1

below_id : (s : Store) (a : TyId) → AreMade s → Has s a → IsBelow (length s.births) (type_at s a)
below_id s (id.Variable v) h l n e = let k : n ≡ v = eqb-true n v e in omega (arith, k, l)
below_id s (id.Made i) h l n e = h.below i l n e

below_ids : (s : Store) (ids : List TyId) → AreMade s → ((i : ℕ) (a : TyId) → slice_get ids i ≡ Some a → Has s a)
    → AreWithin (Below (length s.births)) (types_at s ids)
below_ids s [] h l n e = absurd (cc)
below_ids s (a ∷ ids) h l n e = or_either (occurs n (type_at s a)) (occurs_any n (types_at s ids)) e
    (λ k. below_id s a h (l 0 a refl) n k)
    (λ k. below_ids s ids h (λ i b f. l (suc i) b f) n k)

-- no variable stands in a type that wasn't made
pub type_below : (s : Store) (a : TyId) → AreMade s → Has s a → IsBelow (length s.births) (type_at s a)
type_below = below_id

below_node : (s : Store) (y : Node) (i : ℕ) → AreMade s → IsNode s y → (i < length s.nodes) ⊎ (i ≡ length s.nodes)
    → IsBelow (length s.births) (type_at (with_node y s) (id.Made i))
below_node s y i h n (inl l) = subst (IsBelow (length s.births)) (sym (type_front s.nodes (y ∷ []) 0 (id.Made i) l))
    (h.below i l)
below_node s y i h n (inr e) = subst (IsBelow (length s.births)) (sym (type_added s.nodes y i e))
    (below_ids s y.parts h n.parts)

raise : (i n : ℕ) → (i < n) ⊎ (i ≡ n) → (suc i < suc n) ⊎ (suc i ≡ suc n)
raise i n (inl h) = inl (omega (arith, h))
raise i n (inr e) = inr (ap suc e)

split_last : (i n : ℕ) → i < n + 1 → (i < n) ⊎ (i ≡ n)
split_last zero zero h = inr refl
split_last zero (suc n) h = inl (omega arith)
split_last (suc i) zero h = absurd (omega (arith, h))
split_last (suc i) (suc n) h = raise i n (split_last i n (omega (arith, h)))

pub made_node : (s : Store) (y : Node) → AreMade s → IsNode s y → AreMade (with_node y s)
made_node s y h n = record {
  each = λ i x e. each_node s y x i h n (get_snoc s.nodes y x i e);
  noted = λ i x e. noted_node s y x i h n (get_snoc s.nodes y x i e);
  below = λ i l. below_node s y i h n (split_last i (length s.nodes) (let k : i < length (s.nodes ++ y ∷ []) = l in
      omega (arith, k, length_snoc s.nodes y)));
}
