-- Instances that are made of what a table has of a scheme.
use Rattle.std.proofs.Common.{◌≡◌, ℕ, ◌+◌, ◌<◌, ◌≤◌, drop, List, [], ◌∷◌, ◌++◌, length, map, refl, sym, ap, ap₂, ◌∙◌, subst, Option, Some, arith, ◌⊎◌, inl, inr, slice_get, get_or}
use Rattle.std.proofs.lemmas.List.{append_assoc, append-nil, drop_all}
use Rattle.semantic_objects.specs.declared.name.TyId.{TyId}
use Rattle.semantic_objects.specs.declared.name.TyId.TheVariants as id
use Rattle.semantic_objects.specs.declared.symbol.Symbol.{Symbol}
use Rattle.semantic_objects.specs.Trees.{Tree, trees_of}
use Rattle.semantic_objects.specs.Nodes.{nowhere}
use Rattle.unification.specs.Types.{Ty, Types}
use Rattle.unification.specs.Instances.{fill_all}
use Rattle.unification.specs.Closing.{closed_over}
use Rattle.unification.proofs.Filling.{fill_closed}
use Rattle.unification.proofs.Putting.{put_free}
use Rattle.type_nodes.specs.declared.node.Node.{Node}
use Rattle.type_nodes.specs.Nodes.{IsNode}
use Rattle.type_nodes.specs.Tables.{Table, store_of, Has, type_of, types_of, with_node_of}
use Rattle.type_nodes.proofs.Making.{type_added, length_snoc, get_snoc}
use Rattle.type_schemes.specs.Instances.{Adds, instance_at, ReadAs}
use Rattle.type_schemes.specs.Schemes.{HaveAll}
use Rattle.type_schemes.proofs.Adding.{has_more, type_more, adds_then}
use Rattle.table_schemes.specs.declared.scheme.OpenPart.{OpenPart}
use Rattle.table_schemes.specs.declared.scheme.OpenPart.TheVariants as part
use Rattle.table_schemes.specs.declared.scheme.OpenNode.{OpenNode}
use Rattle.table_schemes.specs.Meaning.{part_tree, node_tree, unfolded, IsPartOf, IsNodeAt, AreNodes, IsTree}
use Rattle.table_schemes.specs.Using.{HasPart, AreMade, AreAllRead, IsPartId}
use Rattle.table_schemes.proofs.Unfolding.{noted}
use Rattle.table_schemes.proofs.Later.{node_tree_later, nodes_later, unfolded_later, is_later}
use Rattle.table_schemes.proofs.Entering.{adds_keeps}

-- a type in which nothing is closed is its own instance
closed_instance : (base : ℕ) (t : Ty) → instance_at base (closed_over [] t) ≡ t
closed_instance base t = fill_closed (λ i. Ty.Var (base + i)) Ty.Var [] t ∙ put_free t

some_is : {A : Type 0} (x y : A) → Some x ≡ Some y → x ≡ y
some_is x y h = cc

-- an id of the table
pub closed_read : (t : Table) (base : ℕ) (a b : TyId) → Has t a → Some a ≡ Some b → ReadAs t base (closed_over [] (type_of t a)) b
closed_read t base a b h e = subst (ReadAs t base (closed_over [] (type_of t a))) (some_is a b e)
    (record { has = h; type = sym (closed_instance base (type_of t a)) })

-- a variable of the instance
pub bound_read : (t : Table) (base i number : ℕ) (o : Option TyId) (a : TyId) → number ≡ base + i
    → ((b : TyId) → o ≡ Some b → (number < length t.births) × (b ≡ id.Variable number)) → o ≡ Some a → ReadAs t base (Tree.Bound i) a
bound_read t base i number o a e h k = record {
  has = subst (Has t) (sym (h a k).1) (h a k).0;
  type = ap (type_of t) (h a k).1 ∙ ap Ty.Var e;
}

-- what was read stays
pub read_stays : (t u : Table) (base : ℕ) (x : Tree) (a : TyId) → Adds t u → ReadAs t base x a → ReadAs u base x a
read_stays t u base x a h r = record { has = has_more t u a h r.has; type = type_more t u a h r.has ∙ r.type }

pub made_stay : (t u : Table) (base : ℕ) (trees : List Tree) (ids : List TyId) → Adds t u → AreMade t base trees ids
    → AreMade u base trees ids
made_stay t u base trees ids h m k a e = read_stays t u base (get_or trees k nowhere) a h (m k a e)

-- one part more
pub all_next : (t : Table) (base : ℕ) (f : OpenPart → Tree) (parts left right : List OpenPart) (p : OpenPart) (found new : List TyId)
    (a : TyId) → left ≡ p ∷ right → ReadAs t base (f p) a → new ≡ found ++ a ∷ []
    → ((rest : List TyId) → AreAllRead t base (map f left) rest → AreAllRead t base (map f parts) (found ++ rest))
    → (rest : List TyId) → AreAllRead t base (map f right) rest → AreAllRead t base (map f parts) (new ++ rest)
all_next t base f parts left right p found new a e r g h rest k =
    let all : AreAllRead t base (map f left) (a ∷ rest) =
    subst (λ z. AreAllRead t base (map f z) (a ∷ rest)) (sym e) (r, k) in
    subst (λ z. AreAllRead t base (map f parts) (z ++ rest)) (sym g)
    (subst (AreAllRead t base (map f parts)) (sym (append_assoc found (a ∷ []) rest)) (h (a ∷ rest) all))

pub all_done : (t : Table) (base n : ℕ) (f : OpenPart → Tree) (parts : List OpenPart) (found : List TyId) → length parts ≤ n
    → ((rest : List TyId) → AreAllRead t base (map f (drop n parts)) rest → AreAllRead t base (map f parts) (found ++ rest))
    → AreAllRead t base (map f parts) found
all_done t base n f parts found l h =
    subst (AreAllRead t base (map f parts)) (append-nil found)
    (h [] (subst (λ z. AreAllRead t base (map f z) []) (sym (drop_all n parts l)) tt))

-- ids of parts: all are the table's
have_at : (t : Table) (ids : List TyId) (a b : TyId) (i : ℕ) → HaveAll t ids → Has t a
    → (slice_get ids i ≡ Some b) ⊎ ((i ≡ length ids) × (a ≡ b)) → Has t b
have_at t ids a b i h k (inl e) = h i b e
have_at t ids a b i h k (inr e) = subst (Has t) e.1 k

pub have_next : (t : Table) (ids new : List TyId) (a : TyId) → HaveAll t ids → Has t a → new ≡ ids ++ a ∷ [] → HaveAll t new
have_next t ids new a h k e i b g = have_at t ids a b i h k (get_snoc ids a b i (ap (λ z. slice_get z i) (sym e) ∙ g))

pub made_have : (t : Table) (base : ℕ) (trees : List Tree) (ids : List TyId) → AreMade t base trees ids → HaveAll t ids
made_have t base trees ids m k a e = (m k a e).has

none_of : (ids : List TyId) (k : ℕ) (a : TyId) → ids ≡ [] → slice_get ids k ≡ Some a → ⊥
none_of [] k a e h = cc
none_of (b ∷ ids) k a e h = cc

pub have_nothing : (t : Table) (ids : List TyId) → ids ≡ [] → HaveAll t ids
have_nothing t ids e k a h = absurd (none_of ids k a e h)

pub made_nothing : (t : Table) (base : ℕ) (trees : List Tree) (ids : List TyId) → ids ≡ [] → AreMade t base trees ids
made_nothing t base trees ids e k a h = absurd (none_of ids k a e h)

pub part_has : (t : Table) (n : ℕ) (a : OpenPart) → IsPartOf t n a → HasPart t a
part_has t n (part.Closed a) h = h
part_has t n (part.Bound i) h = tt
part_has t n (part.Open k) h = tt

-- the types of parts
types_read : (t : Table) (base : ℕ) (xs : List Tree) (ids : List TyId) → AreAllRead t base xs ids
    → types_of t ids ≡ fill_all (λ i. Ty.Var (base + i)) Ty.Var (trees_of xs)
types_read t base [] [] h = refl
types_read t base [] (a ∷ ids) h = absurd h
types_read t base (x ∷ xs) [] h = absurd h
types_read t base (x ∷ xs) (a ∷ ids) h = ap₂ Types.Cons h.0.type (types_read t base xs ids h.1)

-- a node over ids of the table may be added
pub node_ready : (t : Table) (n : ℕ) (x : OpenNode) (d : Symbol) (ids : List TyId) → IsNodeAt t n x → d ≡ x.symbol → HaveAll t ids
    → length ids ≡ length x.parts → IsNode (store_of t) (record { symbol = d; parts = ids })
node_ready t n x d ids h e r l =
    subst (λ s. IsNode (store_of t) (record { symbol = s; parts = ids })) (sym e) (record {
      parts = r;
      counted = l ∙ h.counted;
      rising = h.rising;
    })

-- .. and is what the node is
pub node_read : (t u : Table) (base : ℕ) (x : OpenNode) (made : List Tree) (d : Symbol) (ids : List TyId) (a : TyId)
    → d ≡ x.symbol → AreAllRead t base (map (part_tree t made) x.parts) ids
    → u ≡ with_node_of (record { symbol = d; parts = ids }) t → a ≡ id.Made (length t.nodes)
    → ReadAs u base (node_tree t made x) a
node_read t u base x made d ids a e r n i =
    let y : Node = record { symbol = d; parts = ids } in
    record {
      has = subst (λ z. Has z a) (sym n) (subst (Has (with_node_of y t)) (sym i)
          (let k : length (t.nodes ++ y ∷ []) ≡ length t.nodes + 1 = length_snoc t.nodes y in omega (arith, k)));
      type = ap₂ type_of n i ∙ type_added t.nodes y (length t.nodes) refl
          ∙ ap₂ Ty.Made e (types_read t base (map (part_tree t made) x.parts) ids r);
    }

-- one node more
made_at : (t : Table) (base k : ℕ) (trees : List Tree) (ids : List TyId) (a b : TyId) → AreMade t base trees ids
    → ReadAs t base (get_or trees (length ids) nowhere) a → (slice_get ids k ≡ Some b) ⊎ ((k ≡ length ids) × (a ≡ b))
    → ReadAs t base (get_or trees k nowhere) b
made_at t base k trees ids a b m r (inl e) = m k b e
made_at t base k trees ids a b m r (inr e) =
    subst (λ n. ReadAs t base (get_or trees n nowhere) b) (sym e.0) (subst (ReadAs t base (get_or trees (length ids) nowhere)) e.1 r)

pub made_next : (t : Table) (base : ℕ) (trees : List Tree) (ids : List TyId) (a : TyId) → AreMade t base trees ids
    → ReadAs t base (get_or trees (length ids) nowhere) a → AreMade t base trees (ids ++ a ∷ [])
made_next t base trees ids a m r k b e = made_at t base k trees ids a b m r (get_snoc ids a b k e)

pub node_next : (told old new : Table) (base i : ℕ) (nodes : List OpenNode) (ids all : List TyId) (x : OpenNode) (a : TyId)
    → AreNodes told nodes → slice_get nodes i ≡ Some x → Adds told old → Adds old new → length ids ≡ i
    → AreMade old base (unfolded told nodes) ids → ReadAs new base (node_tree old (unfolded told nodes) x) a → all ≡ ids ++ a ∷ []
    → AreMade new base (unfolded told nodes) all
node_next told old new base i nodes ids all x a are at first then l m r e =
    let trees : List Tree = unfolded told nodes in
    let same : node_tree old trees x ≡ get_or trees (length ids) nowhere =
    node_tree_later told old trees i x (adds_keeps told old first) (are i x at) ∙ sym (noted told nodes i x are at)
    ∙ ap (λ n. get_or trees n nowhere) (sym l) in
    subst (AreMade new base trees) (sym e)
    (made_next new base trees ids a (made_stay old new base trees ids then m) (subst (λ z. ReadAs new base z a) same r))

-- the whole scheme
pub root_made : (told mid new : Table) (base : ℕ) (x : Tree) (nodes : List OpenNode) (root : OpenPart) (ids : List TyId) (a : TyId)
    → Adds told mid → Adds mid new → AreNodes told nodes → IsTree told nodes x root → AreMade new base (unfolded mid nodes) ids
    → IsPartId new base ids root (Some a) → type_of new a ≡ instance_at base x
root_made told mid new base x nodes root ids a first then are tree made read =
    let mids : AreNodes mid nodes = nodes_later told mid nodes (adds_keeps told mid first) are in
    let is : IsTree new nodes x root =
    is_later told new nodes x root (adds_keeps told new (adds_then told mid new first then)) are tree in
    let same : unfolded new nodes ≡ unfolded mid nodes = unfolded_later mid new nodes (adds_keeps mid new then) mids in
    let e : part_tree new (unfolded mid nodes) root ≡ x = ap (λ z. part_tree new z root) (sym same) ∙ is.tree in
    (read (unfolded mid nodes) made a refl).type ∙ ap (instance_at base) e
