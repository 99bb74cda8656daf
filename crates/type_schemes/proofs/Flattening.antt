-- types of a table as nodes of a tree
use Rattle.std.proofs.Common.{◌≡◌, ℕ, ◌+◌, ◌-◌, ◌<◌, List, [], ◌∷◌, ◌++◌, length, map, refl, sym, ap, ◌∙◌, subst, Some, Bool, arith, ◌⊎◌, inl, inr, slice_get}
use Rattle.std.proofs.lemmas.List.{append_assoc, length-append, length-map, map-append}
use Rattle.std.proofs.lemmas.Option.{slice_get_within}
use Rattle.semantic_objects.specs.declared.name.TyId.{TyId}
use Rattle.semantic_objects.specs.declared.name.TyId.TheVariants as id
use Rattle.semantic_objects.specs.declared.node.TypeNode.{TypeNode}
use Rattle.semantic_objects.specs.declared.node.TypeNode.TheVariants as node
use Rattle.semantic_objects.specs.declared.symbol.Symbol.{Symbol}
use Rattle.semantic_objects.specs.Trees.{Tree, Trees, trees_of, BindsBelow}
use Rattle.semantic_objects.specs.Nodes.{node_tree, trees_at, unfolded, tree_at, root, AreBelow, IsNodeAt, AreNodes}
use Rattle.semantic_objects.proofs.Unfolding.{at_front, noted, root_push}
use Rattle.unification.specs.Types.{Ty}
use Rattle.unification.specs.Closing.{closed_over, closed_over_all}
use Rattle.unification.proofs.Closing.{closed_fits}
use Rattle.type_nodes.specs.declared.node.Node.{Node}
use Rattle.type_nodes.specs.Tables.{Table, Has, IsEnd, state, whole, whole_all}
use Rattle.type_nodes.specs.Keeping.{IsKept}
use Rattle.type_nodes.proofs.Making.{get_snoc}
use Rattle.type_nodes.proofs.Binding.{node_whole, whole_below}
use Rattle.type_schemes.specs.declared.flat.Flat.{Flat}
use Rattle.type_schemes.specs.declared.reach.Reached.{Reached}
use Rattle.type_schemes.specs.Reaching.{IsPlaceOf}
use Rattle.type_schemes.specs.Flattening.{closed_all, AreFlat, IsFlat, IsPlaced, IsTreeAt, StandsAt, AreFlatParts}
use Rattle.type_schemes.proofs.Reaching.{some_same}

-- ---- the places of parts

below_push : (n p : ℕ) (ps : List ℕ) → AreBelow n ps → p < n → AreBelow n (ps ++ p ∷ [])
below_push n p [] h k = (k, tt)
below_push n p (q ∷ ps) h k = (h.0, below_push n p ps h.1 k)

pub parts_below : (n p : ℕ) (ps new : List ℕ) → new ≡ ps ++ p ∷ [] → AreBelow n ps → p < n → AreBelow n new
parts_below n p ps new e h k = subst (AreBelow n) (sym e) (below_push n p ps h k)

pub tree_placed : (t : Table) (r : Reached) (vs : List ℕ) (f : Flat) (a : TyId) (p place : ℕ) → AreFlat t vs r.ids f
    → IsPlaceOf t r a p → slice_get f.places p ≡ Some place → IsTreeAt t vs f.nodes a place
tree_placed t r vs f a p place h k e =
    let n : IsTreeAt t vs f.nodes k.head place = h.each p place k.head k.at e in
    record { within = n.within; tree = n.tree ∙ ap (closed_over vs) k.same }

pub parts_on : (t : Table) (vs : List ℕ) (nodes : List TypeNode) (a : TyId) (p : ℕ) (ps new : List ℕ)
    (left rest : List TyId) (all : List Tree) → IsTreeAt t vs nodes a p → left ≡ a ∷ rest → new ≡ ps ++ p ∷ []
    → trees_at (unfolded nodes) ps ++ closed_all t vs left ≡ all
    → trees_at (unfolded nodes) new ++ closed_all t vs rest ≡ all
parts_on t vs nodes a p ps new left rest all h e f g =
    ap (λ z. trees_at (unfolded nodes) z ++ closed_all t vs rest) f
    ∙ ap (λ z. z ++ closed_all t vs rest) (map-append (λ q. tree_at nodes q) ps (p ∷ []))
    ∙ append_assoc (trees_at (unfolded nodes) ps) (tree_at nodes p ∷ []) (closed_all t vs rest)
    ∙ ap (λ x. trees_at (unfolded nodes) ps ++ x ∷ closed_all t vs rest) h.tree
    ∙ ap (λ z. trees_at (unfolded nodes) ps ++ closed_all t vs z) (sym e) ∙ g

-- ---- a node

closed_parts : (t : Table) (vs : List ℕ) (parts : List TyId) → trees_of (closed_all t vs parts) ≡ closed_over_all vs (whole_all t parts)
closed_parts t vs [] = refl
closed_parts t vs (a ∷ parts) = ap (Trees.Cons (closed_over vs (whole t a))) (closed_parts t vs parts)

pub made_flat : (t : Table) (vs : List ℕ) (nodes : List TypeNode) (i : ℕ) (x : Node) (c : Symbol) (ps : List ℕ) → IsKept t
    → slice_get t.nodes i ≡ Some x → c ≡ x.symbol → AreFlatParts t vs nodes x.parts ps
    → IsFlat t vs nodes (id.Made i) (node.Made c ps)
made_flat t vs nodes i x c ps k e s h =
    let n : length ps ≡ length x.parts = sym (length-map ps (λ q. tree_at nodes q)) ∙ ap length h.trees
    ∙ length-map x.parts (λ a. closed_over vs (whole t a)) in
    subst (λ d. IsFlat t vs nodes (id.Made i) (node.Made d ps)) (sym s) (record {
      node = (record { below = h.below; counted = n ∙ (k.made.each i x e).counted }, (k.made.each i x e).rising);
      tree = ap (λ ts. Tree.Made x.symbol (trees_of ts)) h.trees ∙ ap (Tree.Made x.symbol) (closed_parts t vs x.parts)
          ∙ sym (ap (closed_over vs) (node_whole t i x k.made e));
    })

pub variable_flat : (t : Table) (vs : List ℕ) (nodes : List TypeNode) (v : ℕ) (x : TypeNode) → IsEnd t (id.Variable v)
    → ((n : ℕ) → IsNodeAt n x) → ((made : List Tree) → node_tree made x ≡ closed_over vs (Ty.Var v)) → IsFlat t vs nodes (id.Variable v) x
variable_flat t vs nodes v x end h k = record {
  node = h (length nodes);
  tree = k (unfolded nodes) ∙ ap (closed_over vs) (sym end.1);
}

-- ---- one node more

node_next : (nodes : List TypeNode) (x y : TypeNode) (p : ℕ) → AreNodes nodes → IsNodeAt (length nodes) x
    → (slice_get nodes p ≡ Some y) ⊎ ((p ≡ length nodes) × (x ≡ y)) → IsNodeAt p y
node_next nodes x y p h k (inl e) = h.each p y e
node_next nodes x y p h k (inr e) = subst (λ n. IsNodeAt n y) (sym e.0) (subst (IsNodeAt (length nodes)) e.1 k)

tree_last : (nodes : List TypeNode) (x : TypeNode) → tree_at (nodes ++ x ∷ []) (length nodes) ≡ node_tree (unfolded nodes) x
tree_last nodes x =
    let k : length (nodes ++ x ∷ []) ≡ length nodes + 1 = length-append nodes (x ∷ []) in
    let l : length nodes ≡ length (nodes ++ x ∷ []) - 1 = omega (arith, k) in
    ap (tree_at (nodes ++ x ∷ [])) l ∙ root_push nodes x

-- nodes that stay where they were
record Stays (old new : List TypeNode) : Type 0 where
  nodes : AreNodes new
  more : (p : ℕ) → p < length old → p < length new
  same : (p : ℕ) → p < length old → tree_at new p ≡ tree_at old p

-- and at a place stands the tree of a node
record Places (old new : List TypeNode) (x : TypeNode) (place : ℕ) : Type 0 where
  stays : Stays old new
  within : place < length new
  tree : tree_at new place ≡ node_tree (unfolded old) x

places_again : (old : List TypeNode) (x : TypeNode) (place : ℕ) → AreNodes old → slice_get old place ≡ Some x → Places old old x place
places_again old x place h e = record {
  stays = record { nodes = h; more = λ p l. l; same = λ p l. refl };
  within = slice_get_within old place x e;
  tree = noted old place x h e;
}

places_last : (old : List TypeNode) (x : TypeNode) → AreNodes old → IsNodeAt (length old) x → Places old (old ++ x ∷ []) x (length old)
places_last old x h k =
    let n : length (old ++ x ∷ []) ≡ length old + 1 = length-append old (x ∷ []) in
    record {
      stays = record {
        nodes = record { each = λ p y f. node_next old x y p h k (get_snoc old x y p f) };
        more = λ p l. omega (arith, l, n);
        same = λ p l. at_front old (x ∷ []) p l;
      };
      within = omega (arith, n);
      tree = tree_last old x;
    }

placed : (old new : List TypeNode) (x : TypeNode) (place : ℕ) → AreNodes old → IsNodeAt (length old) x → StandsAt old new x place
    → Places old new x place
placed old new x place h k (inl e) = subst (λ z. Places old z x place) (sym e.0) (places_again old x place h e.1)
placed old new x place h k (inr e) = subst (λ z. Places old z x place) (sym e.0)
    (subst (Places old (old ++ x ∷ []) x) (sym e.1) (places_last old x h k))

tree_stays : (t : Table) (vs : List ℕ) (old new : List TypeNode) (a : TyId) (place : ℕ) → Stays old new → IsTreeAt t vs old a place
    → IsTreeAt t vs new a place
tree_stays t vs old new a place s h = record {
  within = s.more place h.within;
  tree = s.same place h.within ∙ h.tree;
}

next_tree : (t : Table) (vs : List ℕ) (old new : List TypeNode) (a b : TyId) (x : TypeNode) (place other : ℕ)
    → IsFlat t vs old a x → Places old new x place → place ≡ other → a ≡ b → IsTreeAt t vs new b other
next_tree t vs old new a b x place other k l e f = subst (λ z. IsTreeAt t vs new z other) f
    (subst (IsTreeAt t vs new a) e (record { within = l.within; tree = l.tree ∙ k.tree }))

each_tree : (t : Table) (vs : List ℕ) (ids : List TyId) (old : Flat) (new : List TypeNode) (a b : TyId) (x : TypeNode)
    (place other p : ℕ) → AreFlat t vs ids old → IsFlat t vs old.nodes a x → Places old.nodes new x place
    → slice_get ids (length old.places) ≡ Some a → slice_get ids p ≡ Some b
    → (slice_get old.places p ≡ Some other) ⊎ ((p ≡ length old.places) × (place ≡ other)) → IsTreeAt t vs new b other
each_tree t vs ids old new a b x place other p h k l e f (inl g) =
    tree_stays t vs old.nodes new b other l.stays (h.each p other b f g)
each_tree t vs ids old new a b x place other p h k l e f (inr g) = next_tree t vs old.nodes new a b x place other k l g.1
    (some_same a b (sym e ∙ sym (ap (slice_get ids) g.0) ∙ f))

-- the next id has its place
pub flat_more : (t : Table) (vs : List ℕ) (ids : List TyId) (old mid new : Flat) (a : TyId) (x : TypeNode) (place : ℕ)
    → AreFlat t vs ids old → IsFlat t vs old.nodes a x → IsPlaced old mid x place → slice_get ids (length old.places) ≡ Some a
    → new.nodes ≡ mid.nodes → new.places ≡ mid.places ++ place ∷ [] → AreFlat t vs ids new
flat_more t vs ids old mid new a x place h k l e f g =
    let m : Places old.nodes mid.nodes x place = placed old.nodes mid.nodes x place h.nodes k.node l.nodes in
    record {
      nodes = subst AreNodes (sym f) m.stays.nodes;
      each = λ p other b i j. subst (λ z. IsTreeAt t vs z b other) (sym f)
          (each_tree t vs ids old mid.nodes a b x place other p h k m e i
          (get_snoc old.places place other p (sym (ap (λ z. slice_get z p) (g ∙ ap (λ z. z ++ place ∷ []) l.places)) ∙ j)));
    }

-- ---- the tree

pub flat_root : (t : Table) (vs : List ℕ) (nodes : List TypeNode) (a : TyId) (place n : ℕ) → IsTreeAt t vs nodes a place
    → n ≡ length nodes → n - place ≡ 1 → root nodes ≡ closed_over vs (whole t a)
flat_root t vs nodes a place n h len e =
    let l : place < length nodes = h.within in
    let m : length nodes - 1 ≡ place = omega (arith, len, l, e) in
    ap (tree_at nodes) m ∙ h.tree

pub closed_below : (t : Table) (vs : List ℕ) (a : TyId) (marks : List Bool) (x : Tree) → IsKept t → Has t a
    → marks ≡ map (state t).marks vs → x ≡ closed_over vs (whole t a) → BindsBelow (length marks) x
closed_below t vs a marks x k h e f = subst (λ ms. BindsBelow (length ms) x) (sym e)
    (subst (BindsBelow (length (map (state t).marks vs))) (sym f)
    (closed_fits (state t) vs (state t).marks (whole t a) (whole_below t a k h)).closed)
