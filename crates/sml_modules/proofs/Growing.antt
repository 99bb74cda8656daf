-- A graph from its nodes: what stands there, what a node adds, and what is left when nodes are taken away.
use Rattle.std.proofs.Common.{◌≡◌, ℕ, zero, suc, ◌+◌, ◌≤◌, refl, sym, ap, ◌∙◌, subst, arith, Some, None, List, [], ◌∷◌, ◌++◌, length, take, Bool}
use Rattle.std.specs.Prelude.{Option, slice_get, IfSome, IfNone}
use Rattle.std.specs.Option.{option_copied}
use denote.Ref.{Bor}
use Rattle.std.proofs.Math.Seq.{get_or-append_seam}
use Rattle.semantic_objects.specs.declared.name.TyName.{TyName}
use Rattle.semantic_objects.specs.declared.name.Owner.TheVariants as owner
use Rattle.sml_modules.specs.declared.node.Node.{Node}
use Rattle.sml_modules.specs.Items.{Item, at}
use Rattle.sml_modules.specs.Graphs.{Graph, entered, new_name_of, with_name}
use Rattle.sml_modules.specs.Nodes.{node_item, unfolded, IsNodeAfter, AreNodes}
use Rattle.sml_modules.specs.Adding.{StandsAt, Adds, cut}
use Rattle.sml_modules.proofs.Unfolding.{noted, length-unfolded, unfolded_push, unfolded_take, are_push, are_take, nothing_past}

-- the graph of nodes, a home and made names
abbrev pub graph_of : List Node → List ℕ → List TyName → Graph
graph_of xs home made = record { items = unfolded xs; home = home; made = made }

pub graph_same : (g h : Graph) → g.items ≡ h.items → g.home ≡ h.home → g.made ≡ h.made → g ≡ h
graph_same g h i j k = λ n. record { items = i n; home = j n; made = k n }

pub stands : (xs : List Node) (home : List ℕ) (made : List TyName) (g : Graph) (p : ℕ) (x : Node) → AreNodes xs
    → graph_of xs home made ≡ g → slice_get xs p ≡ Some x → StandsAt g.items p x
stands xs home made g p x h e k = subst (λ (z : Graph). StandsAt z.items p x) e (noted xs p x h k)

past_end : {A : Type 0} (xs : List A) (p : ℕ) → slice_get xs p ≡ None → length xs ≤ p
past_end [] p h = omega arith
past_end (x ∷ xs) zero h = absurd (cc)
past_end (x ∷ xs) (suc p) h = let k : length xs ≤ p = past_end xs p h in omega (arith, k)

pub stands_nowhere : (xs : List Node) (home : List ℕ) (made : List TyName) (g : Graph) (p : ℕ)
    → graph_of xs home made ≡ g → slice_get xs p ≡ None → at g.items p ≡ Item.Nowhere
stands_nowhere xs home made g p e k = subst (λ (z : Graph). at z.items p ≡ Item.Nowhere) e
    (nothing_past (unfolded xs) p (let l : length xs ≤ p = past_end xs p k in
    let m : length (unfolded xs) ≡ 0 + length xs = length-unfolded [] xs in omega (arith, l, m)))

pub pushed_are : (xs ys : List Node) (home : List ℕ) (made : List TyName) (g : Graph) (x : Node) → AreNodes xs
    → graph_of xs home made ≡ g → IsNodeAfter g.items x → ys ≡ xs ++ x ∷ [] → AreNodes ys
pushed_are xs ys home made g x h e k l = subst AreNodes (sym l)
    (are_push xs x h (subst (λ (z : Graph). IsNodeAfter z.items x) (sym e) k))

added_to : (xs ys : List Node) (home : List ℕ) (made : List TyName) (x : Node) (p : ℕ) → ys ≡ xs ++ x ∷ []
    → p ≡ length xs → Adds (graph_of xs home made) (graph_of ys home made) (node_item (unfolded xs) x) p
added_to xs ys home made x p l n =
    let m : length (unfolded xs) ≡ 0 + length xs = length-unfolded [] xs in
    let q : p ≡ length (unfolded xs) = omega (arith, m, n) in record {
      stands = ap (λ z. at (unfolded z) p) l ∙ ap (λ z. at z p) (unfolded_push xs x)
          ∙ ap (at (unfolded xs ++ node_item (unfolded xs) x ∷ [])) q
          ∙ get_or-append_seam (unfolded xs) (node_item (unfolded xs) x) [] Item.Nowhere;
      extends = record {
        more = node_item (unfolded xs) x ∷ [];
        items = ap unfolded l ∙ unfolded_push xs x;
        home = refl;
        made = refl;
      };
    }

pub added : (xs ys : List Node) (home : List ℕ) (made : List TyName) (g : Graph) (x : Node) (p : ℕ)
    → graph_of xs home made ≡ g → ys ≡ xs ++ x ∷ [] → p ≡ length xs
    → Adds g (graph_of ys home made) (node_item g.items x) p
added xs ys home made g x p e l n =
    subst (λ (z : Graph). Adds z (graph_of ys home made) (node_item z.items x) p) e (added_to xs ys home made x p l n)

pub counted : (xs : List Node) (home : List ℕ) (made : List TyName) (g : Graph) (n : ℕ) → graph_of xs home made ≡ g
    → n ≡ length xs → n ≡ length g.items
counted xs home made g n e h =
    let m : length (unfolded xs) ≡ 0 + length xs = length-unfolded [] xs in
    let k : n ≡ length (unfolded xs) = omega (arith, m, h) in
    k ∙ ap (λ (z : Graph). length z.items) e

pub cut_are : (xs ys : List Node) (n : ℕ) → AreNodes xs → ys ≡ take n xs → AreNodes ys
cut_are xs ys n h e = subst AreNodes (sym e) (are_take n xs h)

pub cut_is : (xs ys : List Node) (home : List ℕ) (made : List TyName) (g : Graph) (n : ℕ) → graph_of xs home made ≡ g
    → ys ≡ take n xs → graph_of ys home made ≡ cut n g
cut_is xs ys home made g n e h =
    graph_same (graph_of ys home made) (cut n (graph_of xs home made)) (ap unfolded h ∙ unfolded_take n xs) refl refl
    ∙ ap (cut n) e

pub entered_is : (xs : List Node) (h t : List ℕ) (m n : List TyName) (g : Graph) (home : List ℕ)
    → graph_of xs h m ≡ g → t ≡ home → n ≡ [] → graph_of xs t n ≡ entered home g
entered_is xs h t m n g home e i j =
    graph_same (graph_of xs t n) (entered home g) (ap (λ (z : Graph). z.items) e) i j

ty_name_same : (m n : TyName) → m.owner ≡ n.owner → m.number ≡ n.number → m.arity ≡ n.arity → m.eq ≡ n.eq → m ≡ n
ty_name_same m n h i j k = λ a. record { owner = h a; number = i a; arity = j a; eq = k a }

pub name_is : (xs : List Node) (h u : List ℕ) (m : List TyName) (g : Graph) (k arity : ℕ) (eq : Bool)
    → graph_of xs h m ≡ g → u ≡ h → k ≡ length m
    → (let n : TyName = record { owner = owner.«Unit» u; number = k; arity = arity; eq = eq } in n)
    ≡ new_name_of g arity eq
name_is xs h u m g k arity eq e i j = ty_name_same _ (new_name_of g arity eq)
    (ap owner.«Unit» (i ∙ ap (λ (z : Graph). z.home) e)) (j ∙ ap (λ (z : Graph). length z.made) e) refl refl

pub named_is : (xs : List Node) (h : List ℕ) (m n : List TyName) (g : Graph) (name copy : TyName)
    → graph_of xs h m ≡ g → copy ≡ name → n ≡ m ++ copy ∷ [] → graph_of xs h n ≡ with_name name g
named_is xs h m n g name copy e i j =
    graph_same (graph_of xs h n) (with_name name (graph_of xs h m)) refl refl (j ∙ ap (λ z. m ++ z ∷ []) i)
    ∙ ap (with_name name) e

pub stands_some : (xs : List Node) (home : List ℕ) (made : List TyName) (g : Graph) (p : ℕ) (found : Option (Bor Node))
    → AreNodes xs → graph_of xs home made ≡ g → option_copied found ≡ slice_get xs p
    → IfSome found (λ node. StandsAt g.items p node.now)
stands_some xs home made g p None h e k = tt
stands_some xs home made g p (Some x) h e k = stands xs home made g p x.now h e (sym k)

pub stands_none : (xs : List Node) (home : List ℕ) (made : List TyName) (g : Graph) (p : ℕ) (found : Option (Bor Node))
    → graph_of xs home made ≡ g → option_copied found ≡ slice_get xs p → IfNone found (at g.items p ≡ Item.Nowhere)
stands_none xs home made g p None e k = stands_nowhere xs home made g p e (sym k)
stands_none xs home made g p (Some x) e k = tt
