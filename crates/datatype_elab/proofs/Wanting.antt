-- What the equality of a tree needs, found from its last node on.
use Rattle.std.proofs.Common.{◌≡◌, ◌≢◌, ℕ, ◌+◌, ◌-◌, ◌<◌, ◌≤◌, List, [], ◌∷◌, ◌++◌, length, get_or, set, replicate, refl, sym, ap, ap₂, ◌∙◌, subst, Option, Some, None, Bool, true, false, cond, inl, inr, ◌⊎◌, zero, suc, arith, slice_get}
use Rattle.std.proofs.lemmas.Bool.{cases_eq}
use Rattle.std.proofs.lemmas.List.{get_or-set_same, get_or-set_other, length-set, length-replicate, append-nil}
use Rattle.semantic_objects.specs.declared.name.TyName.{TyName}
use Rattle.semantic_objects.specs.declared.node.TypeNode.{TypeNode}
use Rattle.semantic_objects.specs.declared.node.TypeNode.TheVariants as node
use Rattle.semantic_objects.specs.declared.symbol.Symbol.{Symbol}
use Rattle.semantic_objects.specs.declared.symbol.Symbol.TheVariants as symbol
use Rattle.semantic_objects.specs.Nodes.{nowhere, node_tree, trees_at, unfolded, tree_at, root, AreBelow, IsNodeAt, AreNodes, AreTree}
use Rattle.semantic_objects.specs.Trees.{Tree, trees_of}
use Rattle.semantic_objects.proofs.Unfolding.{noted}
use Rattle.unification.specs.declared.equality.Equality.TheVariants as equality
use Rattle.unification.specs.Types.{is_ref}
use Rattle.static_semantics.specs.DatatypeInference.{is_new}
use Rattle.equality_laws.specs.Needs.{Need}
use Rattle.datatype_elab.specs.declared.needs.NewNames.{NewNames}
use Rattle.datatype_elab.specs.Wants.{need_in, new_place, need_by, known_need, wanted_over, wanted, all_wanted, own_wants, needed, own_of, needed_of, PartsBelow, In, IsMarked, Marks, LookedAt, Looked, nobody, SteppedBy, Stepped, begun, AddsWants}

-- ---- lists

pub in_left : {X : Type 0} (x : X) (xs ys : List X) → In x xs → In x (xs ++ ys)
in_left x [] ys h = absurd h
in_left x (z ∷ xs) ys (inl e) = inl e
in_left x (z ∷ xs) ys (inr h) = inr (in_left x xs ys h)

pub in_right : {X : Type 0} (x : X) (xs ys : List X) → In x ys → In x (xs ++ ys)
in_right x [] ys h = h
in_right x (z ∷ xs) ys h = inr (in_right x xs ys h)

pub in_either : {X : Type 0} (x : X) (xs ys : List X) → In x (xs ++ ys) → In x xs ⊎ In x ys
in_either x [] ys h = inr h
in_either x (z ∷ xs) ys (inl e) = inl (inl e)
in_either x (z ∷ xs) ys (inr h) = elim (in_either x xs ys h) [ inl k ↦ inl (inr k) | inr k ↦ inr k ]

-- ---- symbols

name_need : (new : NewNames) (name : TyName) (b : Bool) → is_new new.home new.first new.count name ≡ b
    → cond b (Need.OfNew (name.number - new.first))
    (cond (is_ref name) Need.Always (cond name.eq Need.OfParts Need.Never))
    ≡ need_in new (symbol.Name name)
name_need new name b e =
    ap (λ c. cond c (Need.OfNew (name.number - new.first))
    (cond (is_ref name) Need.Always (cond name.eq Need.OfParts Need.Never))) (sym e)

other_need : (r e : Bool) → need_by (cond r equality.Always (cond e equality.ByParts equality.Never))
    ≡ cond r Need.Always (cond e Need.OfParts Need.Never)
other_need true e = refl
other_need false true = refl
other_need false false = refl

place_some : (b : Bool) (n p : ℕ) → Some p ≡ cond b (Some n) None → (b ≡ true) × (p ≡ n)
place_some true n p e = (refl, let k : p ≡ n = cc in k)
place_some false n p e = absurd (cc)

place_none : (b : Bool) (n : ℕ) → None ≡ cond b (Some n) None → b ≡ false
place_none true n e = absurd (cc)
place_none false n e = refl

pub need_new : (new : NewNames) (c : Symbol) (name : TyName) (p : ℕ) → c ≡ symbol.Name name
    → Some p ≡ new_place new name → Need.OfNew p ≡ need_in new c
need_new new c name p e h =
    let k = place_some (is_new new.home new.first new.count name) (name.number - new.first) p h in
    ap Need.OfNew k.1 ∙ name_need new name true k.0 ∙ ap (need_in new) (sym e)

pub need_other : (new : NewNames) (c : Symbol) (name : TyName) (need : Need) → c ≡ symbol.Name name
    → None ≡ new_place new name → need ≡ known_need c → need ≡ need_in new c
need_other new c name need e h k =
    k ∙ ap known_need e ∙ other_need (is_ref name) name.eq
    ∙ name_need new name false (place_none (is_new new.home new.first new.count name) (name.number - new.first) h)
    ∙ ap (need_in new) (sym e)

-- ---- marks

set_cases : (xs : List Bool) (at k : ℕ) → at < length xs
    → ((k ≡ at) × IsMarked (set xs at true) k) ⊎ ((k ≢ at) × (get_or (set xs at true) k false ≡ get_or xs k false))
set_cases xs at k within = elim (cases_eq k at) [
  | inl same ↦ inl (same, rw same (get_or-set_same xs at true false within))
  | inr other ↦ inr (other, get_or-set_other xs at k true false other)
]

pub record MarkedSoFar (old now : List Bool) (places left : List ℕ) : Type 0 where
  pub counted : length now ≡ length old
  pub more : (p : ℕ) → IsMarked now p → IsMarked old p ⊎ In p places
  pub kept : (p : ℕ) → IsMarked old p → IsMarked now p
  pub all : (p : ℕ) → In p places → In p left ⊎ IsMarked now p

pub marked_none : (old : List Bool) (places : List ℕ) → MarkedSoFar old old places places
marked_none old places = record {
  counted = refl;
  more = λ p h. inl h;
  kept = λ p h. h;
  all = λ p h. inl h;
}

pub in_at : (xs : List ℕ) (i x : ℕ) → i < length xs → x ≡ get_or xs i x → In x xs
in_at [] i x h e = absurd (omega (arith, h))
in_at (y ∷ xs) zero x h e = inl e
in_at (y ∷ xs) (suc i) x h e = inr (in_at xs i x (omega (arith, h)) e)

pub below_at : (n : ℕ) (ps : List ℕ) (i x : ℕ) → AreBelow n ps → i < length ps → x ≡ get_or ps i x → x < n
below_at n [] i x b h e = absurd (omega (arith, h))
below_at n (p ∷ ps) zero x b h e = subst (λ z. z < n) (sym e) b.0
below_at n (p ∷ ps) (suc i) x b h e = below_at n ps i x b.1 (omega (arith, h)) e

pub index_is : (xs : List ℕ) (i : ℕ) → i < length xs → get_or xs i 0 ≡ get_or xs i (get_or xs i 0)
index_is [] i h = absurd (omega (arith, h))
index_is (y ∷ xs) zero h = refl
index_is (y ∷ xs) (suc i) h = index_is xs i (omega (arith, h))

pub marked_more : (old now new : List Bool) (places left rest : List ℕ) (x : ℕ) → MarkedSoFar old now places left
    → left ≡ x ∷ rest → In x places → x < length old → new ≡ set now x true → MarkedSoFar old new places rest
marked_more old now new places left rest x inv e there within k =
    let inside : x < length now = subst (λ n. x < n) (sym inv.counted) within in
    subst (λ ms. MarkedSoFar old ms places rest) (sym k) (record {
      counted = length-set now x true ∙ inv.counted;
      more = λ p h. elim (set_cases now x p inside) [
        | inl (same, _) ↦ inr (subst (λ z. In z places) (sym same) there)
        | inr (_, f) ↦ inv.more p (sym f ∙ h)
      ];
      kept = λ p h. elim (set_cases now x p inside) [
        | inl (_, m) ↦ m
        | inr (_, f) ↦ f ∙ inv.kept p h
      ];
      all = λ p h. elim (inv.all p h) [
        | inl l ↦ still p (subst (In p) e l)
        | inr m ↦ inr (elim (set_cases now x p inside) [
          | inl (_, n) ↦ n
          | inr (_, f) ↦ f ∙ m
        ])
      ];
    })
  where
    still : (p : ℕ) → In p (x ∷ rest) → In p rest ⊎ IsMarked (set now x true) p
    still p (inl same) = inr (elim (set_cases now x p (subst (λ n. x < n) (sym inv.counted) within)) [
      | inl (_, n) ↦ n
      | inr (other, _) ↦ absurd (other same)
    ])
    still p (inr r) = inl r

pub marked_all : (old now : List Bool) (places left : List ℕ) → MarkedSoFar old now places left → left ≡ []
    → Marks old now places
marked_all old now places left inv e = record {
  counted = inv.counted;
  more = inv.more;
  kept = inv.kept;
  all = λ p h. elim (inv.all p h) [
    | inl l ↦ absurd (subst (In p) e l)
    | inr m ↦ m
  ];
}

-- ---- a node

pub looked_none : (need : Need) (ps : List ℕ) (old : List Bool) (before after ws : List (Option ℕ))
    → needed need ps ≡ [] → own_wants need ≡ ws → after ≡ before ++ ws → LookedAt need ps old old before after
looked_none need ps old before after ws e f h = record {
  marks = subst (Marks old old) (sym e) (record {
    counted = refl;
    more = λ p m. inl m;
    kept = λ p m. m;
    all = λ p i. absurd i;
  });
  found = h ∙ ap (λ zs. before ++ zs) (sym f);
}

pub looked_parts : (need : Need) (ps : List ℕ) (old new : List Bool) (before after ws : List (Option ℕ))
    → needed need ps ≡ ps → own_wants need ≡ ws → after ≡ before ++ ws → Marks old new ps
    → LookedAt need ps old new before after
looked_parts need ps old new before after ws e f h m = record {
  marks = subst (Marks old new) (sym e) m;
  found = h ∙ ap (λ zs. before ++ zs) (sym f);
}

pub looked_leaf : (need : Symbol → Need) (x : TypeNode) (old : List Bool) (before : List (Option ℕ))
    → needed_of need x ≡ [] → own_of need x ≡ [] → Looked need x old old before before
looked_leaf need x old before e f = record {
  marks = subst (Marks old old) (sym e) (record {
    counted = refl;
    more = λ p m. inl m;
    kept = λ p m. m;
    all = λ p i. absurd i;
  });
  found = sym (append-nil before) ∙ ap (λ zs. before ++ zs) (sym f);
}

pub looked_made : (need : Symbol → Need) (x : TypeNode) (c : Symbol) (ps qs : List ℕ) (n : Need)
    (old new : List Bool) (before after : List (Option ℕ)) → x ≡ node.Made c ps → n ≡ need c → qs ≡ ps
    → LookedAt n qs old new before after → Looked need x old new before after
looked_made need x c ps qs n old new before after e f h l =
    subst (λ y. Looked need y old new before after) (sym e) (record {
      marks = subst (Marks old new) (ap₂ needed f h) l.marks;
      found = l.found ∙ ap (λ z. before ++ own_wants z) f;
    })

-- ---- trees and their nodes

record PartOf (need : Symbol → Need) (made : List Tree) (ps : List ℕ) (x : Option ℕ) : Type 0 where
  place : ℕ
  there : In place ps
  wants : In x (wanted need (get_or made place nowhere))

parts_from : (need : Symbol → Need) (made : List Tree) (ps : List ℕ) (x : Option ℕ)
    → In x (all_wanted need (trees_of (trees_at made ps))) → PartOf need made ps x
parts_from need made [] x h = absurd h
parts_from need made (p ∷ ps) x h =
    elim (in_either x (wanted need (get_or made p nowhere)) (all_wanted need (trees_of (trees_at made ps))) h) [
      | inl k ↦ record { place = p; there = inl refl; wants = k }
      | inr k ↦ (let r = parts_from need made ps x k in record { place = r.place; there = inr r.there; wants = r.wants })
    ]

parts_to : (need : Symbol → Need) (made : List Tree) (ps : List ℕ) (p : ℕ) (x : Option ℕ) → In p ps
    → In x (wanted need (get_or made p nowhere)) → In x (all_wanted need (trees_of (trees_at made ps)))
parts_to need made [] p x h k = absurd h
parts_to need made (q ∷ ps) p x (inl e) k =
    in_left x (wanted need (get_or made q nowhere)) (all_wanted need (trees_of (trees_at made ps)))
    (subst (λ z. In x (wanted need (get_or made z nowhere))) e k)
parts_to need made (q ∷ ps) p x (inr h) k =
    in_right x (wanted need (get_or made q nowhere)) (all_wanted need (trees_of (trees_at made ps)))
    (parts_to need made ps p x h k)

over_own : (n : Need) (ws : List (Option ℕ)) (x : Option ℕ) → In x (own_wants n) → In x (wanted_over n ws)
over_own Need.Never ws x h = h
over_own Need.Always ws x h = h
over_own Need.OfParts ws x h = absurd h
over_own (Need.OfNew at) ws x (inl e) = inl e
over_own (Need.OfNew at) ws x (inr h) = absurd h

over_part : (n : Need) (ws : List (Option ℕ)) (ps : List ℕ) (p : ℕ) (x : Option ℕ) → In p (needed n ps)
    → (In p ps → In x ws) → In x (wanted_over n ws)
over_part Need.Never ws ps p x h k = absurd h
over_part Need.Always ws ps p x h k = absurd h
over_part Need.OfParts ws ps p x h k = k h
over_part (Need.OfNew at) ws ps p x h k = inr (k h)

over_from : (need : Symbol → Need) (made : List Tree) (n : Need) (ps : List ℕ) (x : Option ℕ)
    → In x (wanted_over n (all_wanted need (trees_of (trees_at made ps))))
    → In x (own_wants n) ⊎ PartOf need made (needed n ps) x
over_from need made Need.Never ps x h = inl h
over_from need made Need.Always ps x h = absurd h
over_from need made Need.OfParts ps x h = inr (parts_from need made ps x h)
over_from need made (Need.OfNew at) ps x (inl e) = inl (inl e)
over_from need made (Need.OfNew at) ps x (inr h) = inr (parts_from need made ps x h)

node_from : (need : Symbol → Need) (made : List Tree) (y : TypeNode) (x : Option ℕ)
    → In x (wanted need (node_tree made y)) → In x (own_of need y) ⊎ PartOf need made (needed_of need y) x
node_from need made (node.Bound i) x h = absurd h
node_from need made (node.Free v) x h = absurd h
node_from need made (node.Made c ps) x h = over_from need made (need c) ps x h

node_own : (need : Symbol → Need) (made : List Tree) (y : TypeNode) (x : Option ℕ) → In x (own_of need y)
    → In x (wanted need (node_tree made y))
node_own need made (node.Bound i) x h = absurd h
node_own need made (node.Free v) x h = absurd h
node_own need made (node.Made c ps) x h = over_own (need c) (all_wanted need (trees_of (trees_at made ps))) x h

node_part : (need : Symbol → Need) (made : List Tree) (y : TypeNode) (p : ℕ) (x : Option ℕ) → In p (needed_of need y)
    → In x (wanted need (get_or made p nowhere)) → In x (wanted need (node_tree made y))
node_part need made (node.Bound i) p x h k = absurd h
node_part need made (node.Free v) p x h k = absurd h
node_part need made (node.Made c ps) p x h k =
    over_part (need c) (all_wanted need (trees_of (trees_at made ps))) ps p x h (λ i. parts_to need made ps p x i k)

below_in : (n : ℕ) (ps : List ℕ) (p : ℕ) → AreBelow n ps → In p ps → p < n
below_in n [] p b h = absurd h
below_in n (q ∷ ps) p b (inl e) = subst (λ z. z < n) (sym e) b.0
below_in n (q ∷ ps) p b (inr h) = below_in n ps p b.1 h

needed_in : (n : Need) (ps : List ℕ) (p : ℕ) → In p (needed n ps) → In p ps
needed_in Need.Never ps p h = absurd h
needed_in Need.Always ps p h = absurd h
needed_in Need.OfParts ps p h = h
needed_in (Need.OfNew at) ps p h = h

needed_below : (need : Symbol → Need) (k : ℕ) (y : TypeNode) (p : ℕ) → IsNodeAt k y → In p (needed_of need y) → p < k
needed_below need k (node.Bound i) p h i' = absurd i'
needed_below need k (node.Free v) p h i' = absurd i'
needed_below need k (node.Made c ps) p h i' = below_in k ps p h.0.below (needed_in (need c) ps p i')

below_more : (m n : ℕ) (ps : List ℕ) → m ≤ n → AreBelow m ps → AreBelow n ps
below_more m n [] h b = tt
below_more m n (p ∷ ps) h b = let k = b.0 in (omega (arith, k, h), below_more m n ps h b.1)

node_below : (k n : ℕ) (y : TypeNode) → k ≤ n → IsNodeAt k y → PartsBelow n y
node_below k n (node.Bound i) h b = tt
node_below k n (node.Free v) h b = tt
node_below k n (node.Made c ps) h b = below_more k n ps h b.0.below

got : (xs : List TypeNode) (k : ℕ) (d : TypeNode) → k < length xs → slice_get xs k ≡ Some (get_or xs k d)
got [] k d h = absurd (omega (arith, h))
got (x ∷ xs) zero d h = refl
got (x ∷ xs) (suc k) d h = got xs k d (omega (arith, h))

pub parts_below : (nodes : List TypeNode) (n k : ℕ) (x : TypeNode) → AreNodes nodes → k < length nodes
    → n ≡ length nodes → x ≡ get_or nodes k x → PartsBelow n x
parts_below nodes n k x h within e f =
    node_below k n x (omega (arith, within, e)) (h.each k x (got nodes k x within ∙ ap Some (sym f)))

-- ---- the walk

pub record Pending (need : Symbol → Need) (nodes : List TypeNode) (at : ℕ) (marks : List Bool) (x : Option ℕ) : Type 0
  where
    pub place : ℕ
    pub below : place < at
    pub mark : IsMarked marks place
    pub wants : In x (wanted need (tree_at nodes place))

pub record Walk (need : Symbol → Need) (nodes : List TypeNode) (at : ℕ) (marks : List Bool)
    (before found : List (Option ℕ)) : Type 0 where
  pub counted : length marks ≡ length nodes
  pub more : (x : Option ℕ) → In x found → In x before ⊎ In x (wanted need (root nodes))
  pub kept : (x : Option ℕ) → In x before → In x found
  pub marked : (p : ℕ) → p < at → IsMarked marks p → (x : Option ℕ) → In x (wanted need (tree_at nodes p))
      → In x (wanted need (root nodes))
  pub all : (x : Option ℕ) → In x (wanted need (root nodes)) → In x found ⊎ Pending need nodes at marks x

unmarked : (n p : ℕ) → get_or (replicate n false) p false ≡ false
unmarked zero p = refl
unmarked (suc n) zero = refl
unmarked (suc n) (suc p) = unmarked n p

pub walk_begun : (need : Symbol → Need) (nodes : List TypeNode) (at : ℕ) (marks : List Bool)
    (before : List (Option ℕ)) → AreTree nodes → at ≡ length nodes → marks ≡ begun (length nodes)
    → Walk need nodes at marks before before
walk_begun need nodes at marks before h a e =
    let n : ℕ = length nodes in
    let some : 0 < n = h.some in
    let len : length (replicate n false) ≡ n = length-replicate n false in
    let inside : n - 1 < length (replicate n false) = omega (arith, some, len) in
    subst (λ ms. Walk need nodes at ms before before) (sym e) (record {
      counted = length-set (replicate n false) (n - 1) true ∙ len;
      more = λ x i. inl i;
      kept = λ x i. i;
      marked = λ p l m x i. elim (set_cases (replicate n false) (n - 1) p inside) [
        | inl (same, _) ↦ subst (λ z. In x (wanted need (tree_at nodes z))) same i
        | inr (_, f) ↦ absurd (let bad : false ≡ true = sym (unmarked n p) ∙ sym f ∙ m in let no : ⊥ = cc in no)
      ];
      all = λ x i. inr (record {
        place = n - 1;
        below = omega (arith, some, a);
        mark = get_or-set_same (replicate n false) (n - 1) true false inside;
        wants = i;
      });
    })

pub walk_step : (need : Symbol → Need) (nodes : List TypeNode) (at k : ℕ) (marks new : List Bool)
    (before found after : List (Option ℕ)) → AreNodes nodes → Walk need nodes at marks before found → at ≡ k + 1
    → k < length nodes → Stepped need nodes k marks new found after → Walk need nodes k new before after
walk_step need nodes at k marks new before found after nodes_are inv e within stepped =
    by_mark (get_or marks k false) refl stepped
  where
    by_mark : (b : Bool) → get_or marks k false ≡ b
        → SteppedBy b need (get_or nodes k nobody) marks new found after → Walk need nodes k new before after
    by_mark false f s = subst (λ ms. Walk need nodes k ms before after) (sym s.marks)
        (subst (Walk need nodes k marks before) (sym s.found) (record {
          counted = inv.counted;
          more = inv.more;
          kept = inv.kept;
          marked = λ p l m x i. inv.marked p (omega (arith, l, e)) m x i;
          all = λ x i. elim (inv.all x i) [
            | inl j ↦ inl j
            | inr j ↦ inr (record {
              place = j.place;
              below = elim (cases_eq j.place k) [
                | inl same ↦ absurd (let bad : false ≡ true = sym f ∙ ap (λ z. get_or marks z false) (sym same) ∙ j.mark in
                    let no : ⊥ = cc in no)
                | inr other ↦ (let l = j.below in omega (arith, l, e, other))
              ];
              mark = j.mark;
              wants = j.wants;
            })
          ];
        }))
    by_mark true f s =
        let e' : slice_get nodes k ≡ Some (get_or nodes k nobody) = got nodes k nobody within in
        let tree : tree_at nodes k ≡ node_tree (unfolded nodes) (get_or nodes k nobody) =
        noted nodes k (get_or nodes k nobody) nodes_are e' in
        let here : IsNodeAt k (get_or nodes k nobody) = nodes_are.each k (get_or nodes k nobody) e' in
        record {
          counted = s.marks.counted ∙ inv.counted;
          more = λ x i. elim (in_either x found (own_of need (get_or nodes k nobody)) (subst (In x) s.found i)) [
            | inl j ↦ inv.more x j
            | inr j ↦ inr (inv.marked k (omega (arith, e)) f x (subst (λ t. In x (wanted need t)) (sym tree)
                (node_own need (unfolded nodes) (get_or nodes k nobody) x j)))
          ];
          kept = λ x i. subst (In x) (sym s.found) (in_left x found (own_of need (get_or nodes k nobody)) (inv.kept x i));
          marked = λ p l m x i. elim (s.marks.more p m) [
            | inl j ↦ inv.marked p (omega (arith, l, e)) j x i
            | inr j ↦ inv.marked k (omega (arith, e)) f x (subst (λ t. In x (wanted need t)) (sym tree)
                (node_part need (unfolded nodes) (get_or nodes k nobody) p x j i))
          ];
          all = λ x i. elim (inv.all x i) [
            | inl j ↦ inl (subst (In x) (sym s.found) (in_left x found (own_of need (get_or nodes k nobody)) j))
            | inr j ↦ elim (cases_eq j.place k) [
              | inl same ↦ elim (node_from need (unfolded nodes) (get_or nodes k nobody) x
                  (subst (λ t. In x (wanted need t)) (ap (tree_at nodes) same ∙ tree) j.wants)) [
                    | inl own ↦ inl (subst (In x) (sym s.found) (in_right x found (own_of need (get_or nodes k nobody)) own))
                    | inr part ↦ inr (record {
                      place = part.place;
                      below = needed_below need k (get_or nodes k nobody) part.place here part.there;
                      mark = s.marks.all part.place part.there;
                      wants = part.wants;
                    })
                  ]
              | inr other ↦ inr (record {
                place = j.place;
                below = (let l = j.below in omega (arith, l, e, other));
                mark = s.marks.kept j.place j.mark;
                wants = j.wants;
              })
            ]
          ];
        }

pub walk_ended : (need : Symbol → Need) (nodes : List TypeNode) (at : ℕ) (marks : List Bool)
    (before found : List (Option ℕ)) → Walk need nodes at marks before found → at ≤ 0
    → AddsWants (wanted need (root nodes)) before found
walk_ended need nodes at marks before found inv e = record {
  more = inv.more;
  kept = inv.kept;
  all = λ x i. elim (inv.all x i) [
    | inl j ↦ j
    | inr j ↦ absurd (let l = j.below in omega (arith, l, e))
  ];
}
