-- trees that are read with ids for their own variables
use Rattle.std.proofs.Common.{◌≡◌, ℕ, zero, suc, ◌+◌, ◌-◌, ◌<◌, List, [], ◌∷◌, ◌++◌, length, map, refl, sym, ap, ap₂, ◌∙◌, subst, Option, Some, None, arith, ◌⊎◌, inl, inr, slice_get, get_or}
use Rattle.std.proofs.lemmas.List.{length-append, length-map}
use Rattle.std.proofs.Math.Seq.{get_or-append_seam}
use Rattle.semantic_objects.specs.declared.name.TyId.{TyId}
use Rattle.semantic_objects.specs.declared.name.TyId.TheVariants as id
use Rattle.semantic_objects.specs.declared.node.TypeNode.{TypeNode}
use Rattle.semantic_objects.specs.declared.node.TypeNode.TheVariants as node
use Rattle.semantic_objects.specs.declared.symbol.Symbol.{Symbol}
use Rattle.semantic_objects.specs.Trees.{Tree, trees_of}
use Rattle.semantic_objects.specs.Nodes.{trees_at, unfolded, tree_at, root, IsNodeAt}
use Rattle.unification.specs.Types.{Ty, Types}
use Rattle.unification.specs.Instances.{fill_all}
use Rattle.type_nodes.specs.declared.node.Node.{Node}
use Rattle.type_nodes.specs.Nodes.{IsNode}
use Rattle.type_nodes.specs.Tables.{Table, store_of, Has, type_of, types_of, with_node_of}
use Rattle.type_nodes.proofs.Making.{type_added, length_snoc}
use Rattle.type_schemes.specs.Instances.{Adds, ids_at}
use Rattle.type_schemes.specs.Schemes.{HaveAll}
use Rattle.type_schemes.proofs.Adding.{has_more, type_more}
use Rattle.type_functions.specs.Applied.{with_types}
use Rattle.type_functions.specs.Reading.{ReadWith, MayBeRead, AreRead}

-- ---- arguments in a table that grows

pub have_later : (a b : Table) (ids : List TyId) → Adds a b → HaveAll a ids → HaveAll b ids
have_later a b ids h k i x e = has_more a b x h (k i x e)

pub types_later : (a b : Table) (ids : List TyId) → Adds a b → HaveAll a ids
    → map (type_of b) ids ≡ map (type_of a) ids
types_later a b [] h k = refl
types_later a b (x ∷ ids) h k =
    ap₂ (λ t ts. t ∷ ts) (type_more a b x h (k 0 x refl)) (types_later a b ids h (λ i y e. k (suc i) y e))

argument_is : (t : Table) (ids : List TyId) (i : ℕ) (a : TyId) (other : Ty) → slice_get ids i ≡ Some a
    → get_or (map (type_of t) ids) i other ≡ type_of t a
argument_is t [] i a other e = absurd (cc)
argument_is t (x ∷ ids) zero a other e = let f : x ≡ a = cc in ap (type_of t) f
argument_is t (x ∷ ids) (suc i) a other e = argument_is t ids i a other e

-- ---- nodes

pub read_argument : (t : Table) (ids : List TyId) (i : ℕ) (x : Tree) (r : Option TyId) → HaveAll t ids
    → x ≡ Tree.Bound i → ((a : TyId) → r ≡ Some a → slice_get ids i ≡ Some a) → MayBeRead t (map (type_of t) ids) x r
read_argument t ids i x r h e k a f = record {
  has = h i a (k a f);
  type = λ other. sym (ap (with_types other (map (type_of t) ids)) e ∙ argument_is t ids i a other (k a f));
}

pub read_variable : (t : Table) (types : List Ty) (number : ℕ) (x : Tree) (r : Option TyId) → x ≡ Tree.Free number
    → ((a : TyId) → r ≡ Some a → (number < length t.births) × (a ≡ id.Variable number)) → MayBeRead t types x r
read_variable t types number x r e h a k = record {
  has = subst (Has t) (sym (h a k).1) (h a k).0;
  type = λ other. ap (type_of t) (h a k).1 ∙ sym (ap (with_types other types) e);
}

-- the parts of a node
types_read : (t : Table) (types : List Ty) (other : Ty) (nodes : List TypeNode) (ids : List (Option TyId))
    (places : List ℕ) (parts : List TyId) → AreRead t types nodes ids → ids_at ids places ≡ map Some parts
    → types_of t parts
    ≡ fill_all (λ i. get_or types i other) Ty.Var (trees_of (trees_at (unfolded nodes) places))
types_read t types other nodes ids [] [] h e = refl
types_read t types other nodes ids [] (a ∷ parts) h e = absurd (cc)
types_read t types other nodes ids (p ∷ places) [] h e = absurd (cc)
types_read t types other nodes ids (p ∷ places) (a ∷ parts) h e =
    let k : get_or ids p None ≡ Some a = cc in
    let l : ids_at ids places ≡ map Some parts = cc in
    ap₂ Types.Cons ((h p a k).type other) (types_read t types other nodes ids places parts h l)

parts_have : (t : Table) (types : List Ty) (nodes : List TypeNode) (ids : List (Option TyId)) (places : List ℕ)
    (parts : List TyId) → AreRead t types nodes ids → ids_at ids places ≡ map Some parts → HaveAll t parts
parts_have t types nodes ids [] [] h e i a g = absurd (cc)
parts_have t types nodes ids [] (b ∷ parts) h e i a g = absurd (cc)
parts_have t types nodes ids (p ∷ places) [] h e i a g = absurd (cc)
parts_have t types nodes ids (p ∷ places) (b ∷ parts) h e zero a g =
    let k : get_or ids p None ≡ Some b = cc in
    let f : b ≡ a = cc in
    subst (Has t) f (h p b k).has
parts_have t types nodes ids (p ∷ places) (b ∷ parts) h e (suc i) a g =
    let l : ids_at ids places ≡ map Some parts = cc in
    parts_have t types nodes ids places parts h l i a g

pub node_read : (t : Table) (types : List Ty) (at : ℕ) (nodes : List TypeNode) (ids : List (Option TyId)) (c d : Symbol)
    (places : List ℕ) (parts : List TyId) → AreRead t types nodes ids → ids_at ids places ≡ map Some parts
    → IsNodeAt at (node.Made c places) → d ≡ c → IsNode (store_of t) (record { symbol = d; parts = parts })
node_read t types at nodes ids c d places parts h e n f =
    subst (λ s. IsNode (store_of t) (record { symbol = s; parts = parts })) (sym f) (record {
      parts = parts_have t types nodes ids places parts h e;
      counted = (let k : length parts ≡ length places = sym (length-map parts Some) ∙ sym (ap length e)
          ∙ length-map places (λ p. get_or ids p None) in k ∙ n.0.counted);
      rising = n.1;
    })

-- a symbol over parts that were read
made_read : (t new : Table) (types : List Ty) (at : ℕ) (nodes : List TypeNode) (ids : List (Option TyId)) (c d : Symbol)
    (places : List ℕ) (parts : List TyId) (a : TyId) → AreRead t types nodes ids → ids_at ids places ≡ map Some parts
    → tree_at nodes at ≡ Tree.Made c (trees_of (trees_at (unfolded nodes) places)) → d ≡ c
    → new ≡ with_node_of (record { symbol = d; parts = parts }) t → a ≡ id.Made (length t.nodes)
    → ReadWith new types (tree_at nodes at) a
made_read t new types at nodes ids c d places parts a h e g f n i =
    let x : Node = record { symbol = d; parts = parts } in
    record {
      has = subst (λ z. Has z a) (sym n) (subst (Has (with_node_of x t)) (sym i)
          (let k : length (t.nodes ++ x ∷ []) ≡ length t.nodes + 1 = length_snoc t.nodes x in omega (arith, k)));
      type = λ other.
          ap₂ type_of n i ∙ type_added t.nodes x (length t.nodes) refl
          ∙ ap₂ Ty.Made f (types_read t types other nodes ids places parts h e)
          ∙ sym (ap (with_types other types) g);
    }

pub may_made : (t new : Table) (types : List Ty) (at : ℕ) (nodes : List TypeNode) (ids : List (Option TyId))
    (c d : Symbol) (places : List ℕ) (parts : List TyId) (b : TyId) → AreRead t types nodes ids
    → ids_at ids places ≡ map Some parts
    → tree_at nodes at ≡ Tree.Made c (trees_of (trees_at (unfolded nodes) places)) → d ≡ c
    → new ≡ with_node_of (record { symbol = d; parts = parts }) t → b ≡ id.Made (length t.nodes)
    → MayBeRead new types (tree_at nodes at) (Some b)
may_made t new types at nodes ids c d places parts b h e g f n i a k =
    let l : b ≡ a = cc in
    subst (ReadWith new types (tree_at nodes at)) l
    (made_read t new types at nodes ids c d places parts b h e g f n i)

-- ---- all nodes

-- what was read stays
pub read_later : (t new : Table) (types : List Ty) (nodes : List TypeNode) (ids : List (Option TyId)) → Adds t new
    → AreRead t types nodes ids → AreRead new types nodes ids
read_later t new types nodes ids h k p a e = record {
  has = has_more t new a h (k p a e).has;
  type = λ other. type_more t new a h (k p a e).has ∙ (k p a e).type other;
}

none_at : (p : ℕ) (a : TyId) → get_or {A = Option TyId} [] p None ≡ Some a → ⊥
none_at zero a h = cc
none_at (suc p) a h = cc

pub read_nothing : (t : Table) (types : List Ty) (nodes : List TypeNode) (ids : List (Option TyId)) → ids ≡ []
    → AreRead t types nodes ids
read_nothing t types nodes ids e p a h = absurd (none_at p a (sym (ap (λ z. get_or z p None) e) ∙ h))

further : {P Q : Type 0} (p n : ℕ) → P ⊎ ((p ≡ n) × Q) → P ⊎ ((suc p ≡ suc n) × Q)
further p n (inl h) = inl h
further p n (inr h) = inr (ap suc h.0, h.1)

last_or : (ids : List (Option TyId)) (o : Option TyId) (p : ℕ) (a : TyId) → get_or (ids ++ o ∷ []) p None ≡ Some a
    → (get_or ids p None ≡ Some a) ⊎ ((p ≡ length ids) × (o ≡ Some a))
last_or [] o zero a e = inr (refl, e)
last_or [] o (suc p) a e = absurd (cc)
last_or (i ∷ ids) o zero a e = inl e
last_or (i ∷ ids) o (suc p) a e = further p (length ids) (last_or ids o p a e)

push_at : (t : Table) (types : List Ty) (p : ℕ) (nodes : List TypeNode) (ids : List (Option TyId)) (o : Option TyId)
    (a : TyId) → AreRead t types nodes ids → MayBeRead t types (tree_at nodes (length ids)) o
    → (get_or ids p None ≡ Some a) ⊎ ((p ≡ length ids) × (o ≡ Some a)) → ReadWith t types (tree_at nodes p) a
push_at t types p nodes ids o a h k (inl e) = h p a e
push_at t types p nodes ids o a h k (inr e) = subst (λ n. ReadWith t types (tree_at nodes n) a) (sym e.0) (k a e.1)

pub read_push : (t : Table) (types : List Ty) (n : ℕ) (nodes : List TypeNode) (ids new : List (Option TyId))
    (o : Option TyId) → AreRead t types nodes ids → MayBeRead t types (tree_at nodes n) o → length ids ≡ n
    → new ≡ ids ++ o ∷ [] → AreRead t types nodes new
read_push t types n nodes ids new o h k e f = subst (AreRead t types nodes) (sym f) (λ p a g.
    push_at t types p nodes ids o a h (subst (λ m. MayBeRead t types (tree_at nodes m) o) (sym e) k)
    (last_or ids o p a g))

-- the last one is the tree
pub read_root : (t : Table) (types : List Ty) (nodes : List TypeNode) (ids front : List (Option TyId)) (a : TyId)
    → AreRead t types nodes ids → length ids ≡ length nodes → ids ≡ front ++ Some a ∷ []
    → ReadWith t types (root nodes) a
read_root t types nodes ids front a h e f =
    let k : length ids ≡ length front + 1 = ap length f ∙ length-append front (Some a ∷ []) in
    let l : length front ≡ length nodes - 1 = omega (arith, k, e) in
    subst (λ n. ReadWith t types (tree_at nodes n) a) l
    (h (length front) a (ap (λ z. get_or z (length front) None) f ∙ get_or-append_seam front (Some a) [] None))
