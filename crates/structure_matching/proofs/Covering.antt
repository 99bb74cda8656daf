-- Variables of a table that stand in a type, and schemes as they are known.
use Rattle.std.proofs.Common.{◌≡◌, ℕ, ◌<◌, refl, sym, ap, ap₂, ◌∙◌, subst, List, [], ◌∷◌, ◌++◌, get_or, Bool, true, false, ◌||◌, suc, zero}
use Rattle.std.specs.Prelude.{◌↔◌, IsTrue}
use Rattle.std.proofs.lemmas.Bool.{eqb-true, eq-eqb}
use Rattle.semantic_objects.specs.declared.node.TypeNode.{TypeNode}
use Rattle.semantic_objects.specs.declared.node.TypeNode.TheVariants as node
use Rattle.semantic_objects.specs.Trees.{Tree, Trees, TypeScheme, trees_of, frees, frees_any}
use Rattle.semantic_objects.specs.Nodes.{nowhere, node_tree, trees_at, unfolded, unfolded_after}
use Rattle.unification.specs.Types.{Ty, Types, State, occurs, occurs_any}
use Rattle.unification.specs.Instances.{IsMoreGeneral}
use Rattle.unification.specs.Closing.{closed_over, closed_over_all, put_tree, put_trees}
use Rattle.unification.specs.Generality.{IsOf, covers}
use Rattle.unification.specs.Fitting.{IsFit}
use Rattle.unification.proofs.Walking.{or_left, or_right, or_either, or_false_left, or_false_right}
use Rattle.unification.proofs.Covering.{covers_law}
use Rattle.env_parts.specs.Types.{holds_free, any_holds_free}
use Rattle.static_semantics.specs.Holding.{AllItems}
use Rattle.static_semantics.specs.EnvironmentsPut.{put_scheme}
use Rattle.structure_matching.specs.Values.{IsNodeOf}
use Rattle.structure_matching.proofs.RealisingSteps.{put_same}

-- ---- the nodes of a type

at_of : (s : State) (trees : List Tree) (p : ℕ) → AllItems (IsOf s) trees → IsOf s (get_or trees p nowhere)
at_of s [] p h = λ n e. absurd (cc)
at_of s (t ∷ trees) zero h = h.0
at_of s (t ∷ trees) (suc p) h = at_of s trees p h.1

parts_of : (s : State) (trees : List Tree) (ps : List ℕ) → AllItems (IsOf s) trees → (n : ℕ)
    → frees_any n (trees_of (trees_at trees ps)) ≡ true → n < s.next
parts_of s trees [] h n e = absurd (cc)
parts_of s trees (p ∷ ps) h n e = or_either (frees n (get_or trees p nowhere))
    (frees_any n (trees_of (trees_at trees ps))) e (λ k. at_of s trees p h n k) (λ k. parts_of s trees ps h n k)

node_of : (s : State) (trees : List Tree) (x : TypeNode) (is : Bool) → AllItems (IsOf s) trees → IsNodeOf s x is
    → is ≡ true → IsOf s (node_tree trees x)
node_of s trees (node.Bound i) is h k e n f = absurd (cc)
node_of s trees (node.Free m) is h k e n f = subst (λ z. z < s.next) (sym (eqb-true n m f)) (k e)
node_of s trees (node.Made c ps) is h k e n f = parts_of s trees ps h n f

all_more : (s : State) (trees : List Tree) (t : Tree) → AllItems (IsOf s) trees → IsOf s t
    → AllItems (IsOf s) (trees ++ t ∷ [])
all_more s [] t h k = (k, tt)
all_more s (u ∷ trees) t h k = (h.0, all_more s trees t h.1 k)

pub record OfTo (s : State) (nodes rest : List TypeNode) : Type 0 where
  pub trees : List Tree
  pub each : AllItems (IsOf s) trees
  pub whole : unfolded_after trees rest ≡ unfolded nodes

pub of_one : (s : State) (nodes rest more : List TypeNode) (x : TypeNode) (is : Bool) → OfTo s nodes rest
    → rest ≡ x ∷ more → IsNodeOf s x is → is ≡ true → OfTo s nodes more
of_one s nodes rest more x is r at h e = record {
  trees = r.trees ++ node_tree r.trees x ∷ [];
  each = all_more s r.trees (node_tree r.trees x) r.each (node_of s r.trees x is r.each h e);
  whole = sym (ap (unfolded_after r.trees) at) ∙ r.whole;
}

-- ---- types without variables of a table

mutual
  pub free_none : (n : ℕ) (t : Tree) → holds_free t ≡ false → frees n t ≡ false
  free_none n (Tree.Bound i) h = refl
  free_none n (Tree.Free m) h = absurd (cc)
  free_none n (Tree.Made c ts) h = free_none_all n ts h

  free_none_all : (n : ℕ) (ts : Trees) → any_holds_free ts ≡ false → frees_any n ts ≡ false
  free_none_all n Trees.Nil h = refl
  free_none_all n (Trees.Cons t ts) h = ap₂ (λ a b. a || b)
      (free_none n t (or_false_left (holds_free t) (any_holds_free ts) h))
      (free_none_all n ts (or_false_right (holds_free t) (any_holds_free ts) h))

pub closed_of : (s : State) (t : Tree) → holds_free t ≡ false → IsOf s t
closed_of s t h n e = absurd (let k : true ≡ false = sym e ∙ free_none n t h in cc)

-- ---- types as they are known

mutual
  frees_closed : (n : ℕ) (t : Ty) → frees n (closed_over [] t) ≡ occurs n t
  frees_closed n (Ty.Var m) = refl
  frees_closed n (Ty.Made c ts) = frees_closed_all n ts

  frees_closed_all : (n : ℕ) (ts : Types) → frees_any n (closed_over_all [] ts) ≡ occurs_any n ts
  frees_closed_all n Types.Nil = refl
  frees_closed_all n (Types.Cons t ts) = ap₂ (λ a b. a || b) (frees_closed n t) (frees_closed_all n ts)

mutual
  known_of : (s : State) → IsFit s → (t : Tree) → IsOf s t → IsOf s (put_tree s.stands t)
  known_of s f (Tree.Bound i) h n e = absurd (cc)
  known_of s f (Tree.Free m) h n e = f.below m (h m (eq-eqb m m refl)) n (sym (frees_closed n (s.stands m)) ∙ e)
  known_of s f (Tree.Made c ts) h n e = known_all s f ts h n e

  known_all : (s : State) → IsFit s → (ts : Trees) → ((n : ℕ) → frees_any n ts ≡ true → n < s.next) → (n : ℕ)
      → frees_any n (put_trees s.stands ts) ≡ true → n < s.next
  known_all s f Trees.Nil h n e = absurd (cc)
  known_all s f (Trees.Cons t ts) h n e = or_either (frees n (put_tree s.stands t)) (frees_any n (put_trees s.stands ts)) e
      (λ k. known_of s f t (λ m j. h m (or_left (frees m t) (frees_any m ts) j)) n k)
      (λ k. known_all s f ts (λ m j. h m (or_right (frees m t) (frees_any m ts) j)) n k)

same_truth : {P : Type 0} (b c : Bool) → IsTrue b ↔ P → (c ≡ true) ↔ P → b ≡ c
same_truth true c h k = sym (k.1 (h.0 refl))
same_truth false true h k = h.1 (k.0 refl)
same_truth false false h k = refl

scheme_same : (s : State) (h : TypeScheme) → holds_free h.body ≡ false → put_scheme s.stands h ≡ h
scheme_same s h closed = ap (λ t. (let σ : TypeScheme = record { marks = h.marks; body = t } in σ))
    (put_same s.stands h.body closed)

pub covered : (s : State) (g h : TypeScheme) (b : Bool) → IsFit s → IsOf s g.body → holds_free h.body ≡ false
    → IsTrue b ↔ IsMoreGeneral s (put_scheme s.stands g) (put_scheme s.stands h)
    → b ≡ covers s (put_scheme s.stands g) h
covered s g h b f of_g closed told =
    same_truth b (covers s (put_scheme s.stands g) h) told
    (subst (λ z. (covers s (put_scheme s.stands g) h ≡ true) ↔ IsMoreGeneral s (put_scheme s.stands g) z) (sym (scheme_same s h closed))
    (covers_law s (put_scheme s.stands g) h f.marks (known_of s f g.body of_g) (closed_of s h.body closed)))
