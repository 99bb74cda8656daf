-- Nodes that are copied, and the list that they are added to.
use Rattle.std.proofs.Common.{◌≡◌, ℕ, zero, suc, ◌+◌, ◌-◌, refl, sym, ap, ap₂, ◌∙◌, subst, arith, Option, Some, None, List, [], ◌∷◌, ◌++◌, length, map, cond, nat_eq, true, ltb, get_or}
use Rattle.std.specs.Prelude.{slice_get, OnOk, Result, Ok, Err}
use Rattle.std.proofs.lemmas.List.{length-append}
use Rattle.std.proofs.lemmas.Bool.{eqb-true, ltb-true}
use Rattle.std.proofs.lemmas.Option.{slice_get-get_or}
use Rattle.unification.proofs.Walking.{either_way}
use Rattle.semantic_objects.specs.declared.node.TypeNode.{TypeNode}
use Rattle.semantic_objects.specs.declared.node.TypeNode.TheVariants as node
use Rattle.semantic_objects.specs.declared.symbol.Symbol.{Symbol}
use Rattle.semantic_objects.specs.Trees.{Tree, trees_of}
use Rattle.semantic_objects.specs.Nodes.{trees_at, node_tree, unfolded, tree_at, AreBelow, IsNodeAt, AreNodes}
use Rattle.semantic_objects.proofs.Unfolding.{at_front, root_push, noted}
use Rattle.environment_walks.specs.declared.places.Images.{Images}
use Rattle.environment_walks.specs.Changing.{image_in}
use Rattle.shared_types.specs.Copied.{IsImage, AreCopied, IsCopy, AreImages, CopiesOf}

pub on_ok : {E P Q : Type 0} (r : Result (Unit {0}) E) → OnOk r P → (P → Q) → OnOk r Q
on_ok (Ok x) h f = f h
on_ok (Err e) h f = tt

some_is : (x y : ℕ) → Some x ≡ Some y → x ≡ y
some_is x y h = cc

none_some : (q : ℕ) (images : Images) (p : ℕ) → image_in images p ≡ None → image_in images p ≡ Some q → ⊥
none_some q images p h e = cc

-- ---- parts

cons_parts : (x y : Option ℕ) (xs ys : List (Option ℕ)) → (x ∷ xs) ≡ (y ∷ ys) → (x ≡ y) × (xs ≡ ys)
cons_parts x y xs ys e = (cc, cc)

pub record ArePicked (nodes copies : List TypeNode) (places made : List ℕ) : Type 0 where
  pub trees : trees_at (unfolded copies) made ≡ trees_at (unfolded nodes) places
  pub below : AreBelow (length copies) made
  pub counted : length made ≡ length places

picked : (nodes copies : List TypeNode) (images : Images) (places made : List ℕ) → AreCopied nodes copies images
    → AreImages images places made → ArePicked nodes copies places made
picked nodes copies images [] [] c m = record { trees = refl; below = tt; counted = refl }
picked nodes copies images [] (q ∷ qs) c m = absurd (cc)
picked nodes copies images (p ∷ ps) [] c m = absurd (cc)
picked nodes copies images (p ∷ ps) (q ∷ qs) c m =
    let e = cons_parts (image_in images p) (Some q) (map (image_in images) ps) (map Some qs) m in
    let first = c.each p q e.0 in
    let more = picked nodes copies images ps qs c e.1 in
    record {
      trees = ap₂ (λ t ts. t ∷ ts) first.same more.trees;
      below = (first.within, more.below);
      counted = ap suc more.counted;
    }

over_copied : (nodes copies : List TypeNode) (c : Symbol) (places made : List ℕ) (p : ℕ)
    → ArePicked nodes copies places made → IsNodeAt p (node.Made c places)
    → IsCopy copies (node_tree (unfolded nodes) (node.Made c places)) (node.Made c made)
over_copied nodes copies c places made p k h = record {
  node = (record { below = k.below; counted = k.counted ∙ h.0.counted }, h.1);
  is = ap (λ ts. Tree.Made c (trees_of ts)) k.trees;
}

pub node_copied : (nodes copies : List TypeNode) (images : Images) (p : ℕ) (y x : TypeNode)
    → AreCopied nodes copies images → IsNodeAt p y → CopiesOf images y x
    → IsCopy copies (node_tree (unfolded nodes) y) x
node_copied nodes copies images p (node.Bound i) x c h k =
    subst (IsCopy copies (Tree.Bound i)) (sym k) (record { node = tt; is = refl })
node_copied nodes copies images p (node.Free n) x c h k =
    subst (IsCopy copies (Tree.Free n)) (sym k) (record { node = tt; is = refl })
node_copied nodes copies images p (node.Made s places) x c h k =
    subst (IsCopy copies (node_tree (unfolded nodes) (node.Made s places))) (sym k.is)
    (over_copied nodes copies s places k.made p (picked nodes copies images places k.made c k.parts) h)

-- ---- one node more

item_of_snoc : {A P : Type 0} (xs : List A) (y x : A) (i : ℕ) → slice_get (xs ++ y ∷ []) i ≡ Some x
    → (slice_get xs i ≡ Some x → P) → (i ≡ length xs → x ≡ y → P) → P
item_of_snoc [] y x zero e first second = second refl (cc)
item_of_snoc [] y x (suc i) e first second = absurd (cc)
item_of_snoc (z ∷ zs) y x zero e first second = first e
item_of_snoc (z ∷ zs) y x (suc i) e first second =
    item_of_snoc zs y x i e first (λ h k. second (ap suc h) k)

nodes_push : (xs : List TypeNode) (x : TypeNode) → AreNodes xs → IsNodeAt (length xs) x → AreNodes (xs ++ x ∷ [])
nodes_push xs x h k = record {
  each = λ i y e. item_of_snoc xs x y i e (h.each i y)
      (λ at is. subst (λ n. IsNodeAt n y) (sym at) (subst (IsNodeAt (length xs)) (sym is) k));
}

at_end : (xs : List TypeNode) (x : TypeNode) → tree_at (xs ++ x ∷ []) (length xs) ≡ node_tree (unfolded xs) x
at_end xs x =
    let k : length (xs ++ x ∷ []) ≡ length xs + 1 = length-append xs (x ∷ []) in
    let last : length (xs ++ x ∷ []) - 1 ≡ length xs = omega (arith, k) in
    ap (tree_at (xs ++ x ∷ [])) (sym last) ∙ root_push xs x

image_later : (nodes old : List TypeNode) (x : TypeNode) (p q : ℕ) → IsImage nodes old p q
    → IsImage nodes (old ++ x ∷ []) p q
image_later nodes old x p q h =
    let k : length (old ++ x ∷ []) ≡ length old + 1 = length-append old (x ∷ []) in
    let lt = h.within in
    record { within = omega (arith, k, lt); same = at_front old (x ∷ []) q lt ∙ h.same }

abbrev pub IsSet : Images → Images → ℕ → ℕ → Type 0
IsSet old new place image = (p : ℕ) → image_in new p ≡ cond (nat_eq place p) (Some image) (image_in old p)

image_of_set : {P : Type 0} (old new : Images) (place image p q : ℕ) → IsSet old new place image
    → image_in new p ≡ Some q → (place ≡ p → image ≡ q → P) → (image_in old p ≡ Some q → P) → P
image_of_set old new place image p q set e here before =
    either_way (nat_eq place p)
    (λ s. here (eqb-true place p s)
    (some_is image q (sym (ap (λ b. cond b (Some image) (image_in old p)) s) ∙ sym (set p) ∙ e)))
    (λ s. before (sym (ap (λ b. cond b (Some image) (image_in old p)) s) ∙ sym (set p) ∙ e))

added : (nodes old : List TypeNode) (images more : Images) (place : ℕ) (x : TypeNode) → AreCopied nodes old images
    → IsCopy old (tree_at nodes place) x → IsSet images more place (length old)
    → AreCopied nodes (old ++ x ∷ []) more
added nodes old images more place x c k set = record {
  ordered = nodes_push old x c.ordered k.node;
  each = λ p q e. image_of_set images more place (length old) p q set e
      (λ at is. subst (λ z. IsImage nodes (old ++ x ∷ []) z q) at
      (subst (IsImage nodes (old ++ x ∷ []) place) is (placed x k)))
      (λ before. image_later nodes old x p q (c.each p q before));
}
  where
    placed : (x : TypeNode) → IsCopy old (tree_at nodes place) x → IsImage nodes (old ++ x ∷ []) place (length old)
    placed x k =
        let n : length (old ++ x ∷ []) ≡ length old + 1 = length-append old (x ∷ []) in
        record { within = omega (arith, n); same = at_end old x ∙ k.is }

pub copy_added : (nodes old new : List TypeNode) (images more : Images) (place image : ℕ) (y x : TypeNode)
    → AreNodes nodes → AreCopied nodes old images → slice_get nodes place ≡ Some y → CopiesOf images y x
    → new ≡ old ++ x ∷ [] → image ≡ length old → IsSet images more place image → AreCopied nodes new more
copy_added nodes old new images more place image y x h c e k is at set =
    let copy : IsCopy old (tree_at nodes place) x =
    subst (λ t. IsCopy old t x) (sym (noted nodes place y h e))
    (node_copied nodes old images place y x c (h.each place y e) k) in
    subst (λ z. AreCopied nodes z more) (sym is)
    (added nodes old images more place x c copy (λ p. set p ∙ ap (λ i. cond (nat_eq place p) (Some i) (image_in images p)) at))

pub nothing_copied : (nodes copies : List TypeNode) (images : Images) → copies ≡ []
    → ((p : ℕ) → image_in images p ≡ None) → AreCopied nodes copies images
nothing_copied nodes copies images e h = record {
  ordered = subst AreNodes (sym e) (record { each = λ p x s. absurd (no_item p x s) });
  each = λ p q s. absurd (none_some q images p (h p) s);
}
  where
    no_item : (p : ℕ) (x : TypeNode) → slice_get [] p ≡ Some x → ⊥
    no_item p x s = cc

-- ---- a node that was looked up

pub found_at : (nodes : List TypeNode) (i : ℕ) (x d : TypeNode) → true ≡ ltb i (length nodes) → x ≡ get_or nodes i d
    → slice_get nodes i ≡ Some x
found_at nodes i x d h e = slice_get-get_or nodes i d (ltb-true i (length nodes) (sym h)) ∙ ap Some (sym e)
