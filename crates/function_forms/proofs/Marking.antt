-- Which types of nodes admit equality, from what is known of earlier nodes.
use Rattle.std.proofs.Common.{◌≡◌, ℕ, suc, ◌-◌, ◌+◌, ◌<◌, refl, sym, ap, ◌∙◌, List, [], ◌∷◌, ◌++◌, length, map, get_or, Bool, true, false, ◌&&◌, Some, slice_get, arith}
use Rattle.semantic_objects.specs.declared.node.TypeNode.{TypeNode}
use Rattle.semantic_objects.specs.Trees.{Tree}
use Rattle.semantic_objects.specs.Nodes.{nowhere, unfolded, unfolded_after, root}
use Rattle.semantic_objects.proofs.Unfolding.{trees_of_nodes}
use Rattle.env_parts.proofs.Facting.{get_or_map}
use Rattle.unification.specs.Types.{Marks}
use Rattle.function_forms.specs.Admitting.{admits, Knows, parts_admit}
use Rattle.function_forms.proofs.Places.{got_map, last_got}

mark_at : (trees : List Tree) (marked : List Bool) (p : ℕ) (m : Bool) → Knows trees marked → slice_get marked p ≡ Some m
    → (q : Marks) → admits q (get_or trees p nowhere) ≡ m
mark_at trees marked p m k h q =
    got_map (admits q) trees p m nowhere (ap (λ z. slice_get z p) (k q) ∙ h)

and_with : (b c d : Bool) → b ≡ c → (b && d) ≡ (c && d)
and_with b c d h = ap (λ z. z && d) h

-- one part, after which the rest decides, or which decides
pub part_admits : (trees : List Tree) (marked : List Bool) (all rest more : List ℕ) (p : ℕ) (m : Bool)
    → Knows trees marked → rest ≡ p ∷ more → slice_get marked p ≡ Some m → (q : Marks)
    → parts_admit q trees rest ≡ parts_admit q trees all → (m && parts_admit q trees more) ≡ parts_admit q trees all
part_admits trees marked all rest more p m k at h q e =
    sym (and_with (admits q (get_or trees p nowhere)) m (parts_admit q trees more) (mark_at trees marked p m k h q))
    ∙ sym (ap (parts_admit q trees) at) ∙ e

pub goes_on : (m b c : Bool) → m ≡ true → (m && b) ≡ c → b ≡ c
goes_on true b c h e = e
goes_on false b c h e = absurd (cc)

pub ends : (m b c : Bool) → m ≡ false → (m && b) ≡ c → false ≡ c
ends true b c h e = absurd (cc)
ends false b c h e = e

-- what is known before the rest of some nodes
pub record ReadsTo (nodes rest : List TypeNode) (marked : List Bool) : Type 0 where
  pub trees : List Tree
  pub known : Knows trees marked
  pub whole : unfolded_after trees rest ≡ unfolded nodes

pub reads_all : (nodes rest : List TypeNode) (marked front : List Bool) (m : Bool) → ReadsTo nodes rest marked
    → rest ≡ [] → marked ≡ front ++ m ∷ [] → 0 < length nodes → (q : Marks) → m ≡ admits q (root nodes)
reads_all nodes rest marked front m r e pop some q =
    let same : r.trees ≡ unfolded nodes = sym (ap (unfolded_after r.trees) e) ∙ r.whole in
    let marks : map (admits q) (unfolded nodes) ≡ front ++ m ∷ [] = sym (ap (map (admits q)) same) ∙ r.known q ∙ pop in
    sym (last_marked (unfolded nodes) front m (length nodes - 1) q marks
    (let k : (length nodes - 1) + 1 ≡ length (unfolded nodes) =
    (let l : length (unfolded nodes) ≡ length nodes = trees_of_nodes nodes in omega (arith, some, l)) in k))
  where
    count_same : {A B : Type 0} (f : A → B) (xs : List A) → length (map f xs) ≡ length xs
    count_same f [] = refl
    count_same f (x ∷ xs) = ap suc (count_same f xs)

    last_marked : (trees : List Tree) (front : List Bool) (m : Bool) (k : ℕ) (q : Marks)
        → map (admits q) trees ≡ front ++ m ∷ [] → k + 1 ≡ length trees → admits q (get_or trees k nowhere) ≡ m
    last_marked trees front m k q e l =
        sym (get_or_map (admits q) trees k nowhere)
        ∙ last_got (map (admits q) trees) front m (admits q nowhere) (length trees) e (sym (count_same (admits q) trees)) k l
