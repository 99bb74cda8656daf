-- What a table has of a scheme stays that, when variables and nodes are added to the table.
use Rattle.std.proofs.Common.{◌≡◌, ℕ, suc, ◌+◌, ◌<◌, refl, ap, ap₂, ◌∙◌, subst, arith, Some, List, [], ◌∷◌, ◌++◌, length, map, slice_get}
use Rattle.std.proofs.lemmas.List.{length-append}
use Rattle.semantic_objects.specs.declared.name.TyId.{TyId}
use Rattle.semantic_objects.specs.Trees.{Tree, trees_of, TypeScheme}
use Rattle.unification.specs.Closing.{closed_over}
use Rattle.type_nodes.specs.Tables.{Table, Has, type_of}
use Rattle.table_schemes.specs.declared.scheme.OpenPart.{OpenPart}
use Rattle.table_schemes.specs.declared.scheme.OpenPart.TheVariants as part
use Rattle.table_schemes.specs.declared.scheme.OpenNode.{OpenNode}
use Rattle.table_schemes.specs.declared.scheme.TableScheme.{TableScheme}
use Rattle.table_schemes.specs.Meaning.{part_tree, node_tree, unfolded_after, unfolded, IsPartOf, IsNodeAt, AreNodes, IsTree, IsTableScheme}
use Rattle.table_schemes.proofs.Unfolding.{part_front}

-- all ids of the first table are ids of the second, as what they were made
pub record Keeps (old new : Table) : Type 0 where
  pub types : (a : TyId) → Has old a → type_of new a ≡ type_of old a
  pub ids : (a : TyId) → Has old a → Has new a

part_later : (t u : Table) (n : ℕ) (a : OpenPart) → Keeps t u → IsPartOf t n a → IsPartOf u n a
part_later t u n (part.Closed a) k h = k.ids a h
part_later t u n (part.Bound i) k h = tt
part_later t u n (part.Open p) k h = h

pub part_more : (t : Table) (n m : ℕ) (a : OpenPart) → n < m + 1 → IsPartOf t n a → IsPartOf t m a
part_more t n m (part.Closed a) l h = h
part_more t n m (part.Bound i) l h = tt
part_more t n m (part.Open p) l h = omega (arith, l, h)

pub node_later : (t u : Table) (n : ℕ) (x : OpenNode) → Keeps t u → IsNodeAt t n x → IsNodeAt u n x
node_later t u n x k h = record {
  parts = λ i a e. part_later t u n a k (h.parts i a e);
  counted = h.counted;
  rising = h.rising;
  varies = h.varies;
}

pub nodes_later : (t u : Table) (xs : List OpenNode) → Keeps t u → AreNodes t xs → AreNodes u xs
nodes_later t u xs k h i x e = node_later t u i x k (h i x e)

-- trees stay
tree_later : (t u : Table) (made : List Tree) (n : ℕ) (a : OpenPart) → Keeps t u → IsPartOf t n a
    → part_tree u made a ≡ part_tree t made a
tree_later t u made n (part.Closed a) k h = ap (closed_over []) (k.types a h)
tree_later t u made n (part.Bound i) k h = refl
tree_later t u made n (part.Open p) k h = refl

trees_later : (t u : Table) (made : List Tree) (n : ℕ) (parts : List OpenPart) → Keeps t u
    → ((i : ℕ) (a : OpenPart) → slice_get parts i ≡ Some a → IsPartOf t n a)
    → map (part_tree u made) parts ≡ map (part_tree t made) parts
trees_later t u made n [] k h = refl
trees_later t u made n (a ∷ parts) k h =
    ap₂ (λ z zs. z ∷ zs) (tree_later t u made n a k (h 0 a refl)) (trees_later t u made n parts k (λ i b e. h (suc i) b e))

pub node_tree_later : (t u : Table) (made : List Tree) (n : ℕ) (x : OpenNode) → Keeps t u → IsNodeAt t n x
    → node_tree u made x ≡ node_tree t made x
node_tree_later t u made n x k h = ap (λ z. Tree.Made x.symbol (trees_of z)) (trees_later t u made n x.parts k h.parts)

after_later : (t u : Table) (made : List Tree) (n : ℕ) (xs : List OpenNode) → Keeps t u
    → ((i : ℕ) (x : OpenNode) → slice_get xs i ≡ Some x → IsNodeAt t (n + i) x)
    → unfolded_after u made xs ≡ unfolded_after t made xs
after_later t u made n [] k h = refl
after_later t u made n (x ∷ xs) k h =
    ap (λ z. unfolded_after u (made ++ z ∷ []) xs) (node_tree_later t u made (n + 0) x k (h 0 x refl))
    ∙ after_later t u (made ++ node_tree t made x ∷ []) (n + 1) xs k
    (λ i y g. subst (λ m. IsNodeAt t m y) (omega arith) (h (suc i) y g))

pub unfolded_later : (t u : Table) (xs : List OpenNode) → Keeps t u → AreNodes t xs → unfolded u xs ≡ unfolded t xs
unfolded_later t u xs k h = after_later t u [] 0 xs k (λ i x e. subst (λ n. IsNodeAt t n x) (omega arith) (h i x e))

pub is_later : (t u : Table) (xs : List OpenNode) (x : Tree) (a : OpenPart) → Keeps t u → AreNodes t xs → IsTree t xs x a
    → IsTree u xs x a
is_later t u xs x a k nodes h = record {
  part = part_later t u (length xs) a k h.part;
  tree = ap (λ made. part_tree u made a) (unfolded_later t u xs k nodes)
      ∙ tree_later t u (unfolded t xs) (length xs) a k h.part ∙ h.tree;
}

-- .. and when nodes of the scheme are added
pub is_front : (t : Table) (xs ys : List OpenNode) (x : Tree) (a : OpenPart) → IsTree t xs x a → IsTree t (xs ++ ys) x a
is_front t xs ys x a h = record {
  part = (let k : length (xs ++ ys) ≡ length xs + length ys = length-append xs ys in
      part_more t (length xs) (length (xs ++ ys)) a (omega (arith, k)) h.part);
  tree = part_front t xs ys a h.part ∙ h.tree;
}

-- a scheme that a table has is had by each table that keeps its ids
pub scheme_later : (t u : Table) (σ : TypeScheme) (s : TableScheme) → Keeps t u → IsTableScheme t σ s → IsTableScheme u σ s
scheme_later t u σ s k h = record {
  nodes = nodes_later t u s.nodes k h.nodes;
  root = is_later t u s.nodes σ.body s.root k h.nodes h.root;
}
