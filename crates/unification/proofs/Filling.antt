-- Schemes that are filled, types that are closed, and trees that are put in for the variables of a scheme.
use Rattle.std.proofs.Common.{◌≡◌, ℕ, ◌+◌, ◌-◌, ◌<◌, refl, ap, ap₂, ◌∙◌, Bool, true, false, ◌&&◌, cond, arith, List, []}
use Rattle.std.proofs.lemmas.Bool.{eq-eqb, eqb-true, lt-ltb, le-ltb}
use Rattle.std.specs.Prelude.{ltb}
use Rattle.semantic_objects.proofs.Same.{symbol_is, symbol_same}
use Rattle.semantic_objects.specs.Symbols.{same_symbol}
use Rattle.semantic_objects.specs.Trees.{Tree, Trees, binds}
use Rattle.semantic_objects.specs.declared.symbol.Symbol.{Symbol}
use Rattle.unification.specs.Closing.{is_among, place_of, closed_over, closed_over_all, filler, plug, plug_all, put_tree, put_trees}
use Rattle.unification.specs.Generality.{same_tree, same_trees, tree_admits, trees_admit}
use Rattle.unification.specs.Instances.{fill, fill_all}
use Rattle.unification.specs.Types.{Ty, Types, Substitution, Marks, put, put_all, equality_of, where_parts, admits, admits_all}
use Rattle.unification.proofs.Walking.{Anything, alike, Frees, walk_tree, alike_tree, and_left, and_right, and_both}
use Rattle.unification.proofs.Putting.{put_free}
use Rattle.unification.proofs.Requiring.{more_parts}

-- a function of a choice is the choice of its values
pub of_choice : {A B : Type 0} (f : A → B) (c : Bool) (x y : A) → f (cond c x y) ≡ cond c (f x) (f y)
of_choice f true x y = refl
of_choice f false x y = refl

-- ---- equations of filling

-- what fills a closed type
pub fill_closed : (b f : Substitution) (vs : List ℕ) (t : Ty) → fill b f (closed_over vs t) ≡ put (filler vs b f) t
fill_closed b f vs t = alike Ty.Made Types.Nil Types.Cons (λ u. fill b f (closed_over vs u)) (put (filler vs b f))
    (λ us. fill_all b f (closed_over_all vs us)) (put_all (filler vs b f))
    (record { at_made = λ c ts. refl; at_none = refl; at_more = λ u us. refl })
    (record { at_made = λ c ts. refl; at_none = refl; at_more = λ u us. refl }) t
    (λ n _. of_choice (fill b f) (is_among n vs) (Tree.Bound (place_of n vs)) (Tree.Free n))

pub put_fill : (q b f : Substitution) (x : Tree) → put q (fill b f x) ≡ fill (λ i. put q (b i)) (λ n. put q (f n)) x
put_fill q b f x = alike_tree Ty.Made Types.Nil Types.Cons (λ y. put q (fill b f y))
    (fill (λ i. put q (b i)) (λ n. put q (f n))) (λ ys. put_all q (fill_all b f ys))
    (fill_all (λ i. put q (b i)) (λ n. put q (f n)))
    (record { at_made = λ c ts. refl; at_none = refl; at_more = λ y ys. refl })
    (record { at_made = λ c ts. refl; at_none = refl; at_more = λ y ys. refl }) x (λ i _. refl) (λ n _. refl)

-- what stands for the variables of the table may be put in first
pub fill_put : (b s : Substitution) (x : Tree) → fill b Ty.Var (put_tree s x) ≡ fill b s x
fill_put b s x = alike_tree Ty.Made Types.Nil Types.Cons (λ y. fill b Ty.Var (put_tree s y)) (fill b s)
    (λ ys. fill_all b Ty.Var (put_trees s ys)) (fill_all b s)
    (record { at_made = λ c ts. refl; at_none = refl; at_more = λ y ys. refl })
    (record { at_made = λ c ts. refl; at_none = refl; at_more = λ y ys. refl }) x (λ i _. refl)
    (λ n _. fill_closed b Ty.Var [] (s n) ∙ put_free (s n))

pub fill_plug : (b f : Substitution) (θ : ℕ → Tree) (x : Tree)
    → fill b f (plug θ x) ≡ fill (λ i. fill b f (θ i)) f x
fill_plug b f θ x = alike_tree Ty.Made Types.Nil Types.Cons (λ y. fill b f (plug θ y)) (fill (λ i. fill b f (θ i)) f)
    (λ ys. fill_all b f (plug_all θ ys)) (fill_all (λ i. fill b f (θ i)) f)
    (record { at_made = λ c ts. refl; at_none = refl; at_more = λ y ys. refl })
    (record { at_made = λ c ts. refl; at_none = refl; at_more = λ y ys. refl }) x (λ i _. refl) (λ n _. refl)

-- types that agree on the variables that occur fill to the same
pub fill_same_on : (b d f : Substitution) (x : Tree) → ((i : ℕ) → binds i x ≡ true → b i ≡ d i)
    → fill b f x ≡ fill d f x
fill_same_on b d f x h = alike_tree Ty.Made Types.Nil Types.Cons (fill b f) (fill d f) (fill_all b f) (fill_all d f)
    (record { at_made = λ c ts. refl; at_none = refl; at_more = λ y ys. refl })
    (record { at_made = λ c ts. refl; at_none = refl; at_more = λ y ys. refl }) x h (λ n _. refl)

-- trees that stand for themselves change nothing
pub plug_still : (θ : ℕ → Tree) (x : Tree) → ((i : ℕ) → θ i ≡ Tree.Bound i) → plug θ x ≡ x
plug_still θ x h = alike_tree Tree.Made Trees.Nil Trees.Cons (plug θ) (λ y. y) (plug_all θ) (λ ys. ys)
    (record { at_made = λ c ts. refl; at_none = refl; at_more = λ y ys. refl })
    (record { at_made = λ c ts. refl; at_none = refl; at_more = λ y ys. refl }) x (λ i _. h i) (λ n _. refl)

-- ---- trees that are compared

abbrev IsDecided : Tree → Type 0
IsDecided x = (y : Tree) → same_tree x y ≡ true → x ≡ y

abbrev AreDecided : Trees → Type 0
AreDecided xs = (ys : Trees) → same_trees xs ys ≡ true → xs ≡ ys

bound_is : (i : ℕ) → IsDecided (Tree.Bound i)
bound_is i (Tree.Bound j) e = ap Tree.Bound (eqb-true i j e)
bound_is i (Tree.Free m) e = absurd (cc)
bound_is i (Tree.Made d us) e = absurd (cc)

free_is : (n : ℕ) → IsDecided (Tree.Free n)
free_is n (Tree.Bound j) e = absurd (cc)
free_is n (Tree.Free m) e = ap Tree.Free (eqb-true n m e)
free_is n (Tree.Made d us) e = absurd (cc)

made_is : (c : Symbol) (ts : Trees) → AreDecided ts → IsDecided (Tree.Made c ts)
made_is c ts h (Tree.Bound j) e = absurd (cc)
made_is c ts h (Tree.Free m) e = absurd (cc)
made_is c ts h (Tree.Made d us) e = ap₂ Tree.Made (symbol_is c d (and_left (same_symbol c d) (same_trees ts us) e))
    (h us (and_right (same_symbol c d) (same_trees ts us) e))

none_is : AreDecided Trees.Nil
none_is Trees.Nil e = refl
none_is (Trees.Cons u us) e = absurd (cc)

more_is : (t : Tree) (ts : Trees) → IsDecided t → AreDecided ts → AreDecided (Trees.Cons t ts)
more_is t ts h hs Trees.Nil e = absurd (cc)
more_is t ts h hs (Trees.Cons u us) e = ap₂ Trees.Cons (h u (and_left (same_tree t u) (same_trees ts us) e))
    (hs us (and_right (same_tree t u) (same_trees ts us) e))

pub tree_is : (x y : Tree) → same_tree x y ≡ true → x ≡ y
tree_is x = walk_tree Anything Anything IsDecided AreDecided
    (record { bound = λ i _. bound_is i; free = λ n _. free_is n; made = made_is; none = none_is; more = more_is }) x
    (λ i _. tt) (λ n _. tt)

pub tree_same : (x : Tree) → same_tree x x ≡ true
tree_same x = walk_tree Anything Anything (λ y. same_tree y y ≡ true) (λ ys. same_trees ys ys ≡ true)
    (record {
      bound = λ i _. eq-eqb i i refl;
      free = λ n _. eq-eqb n n refl;
      made = λ c ts h. and_both (same_symbol c c) (same_trees ts ts) (symbol_same c) h;
      none = refl;
      more = λ t ts h hs. and_both (same_tree t t) (same_trees ts ts) h hs;
    })
    x (λ i _. tt) (λ n _. tt)

-- ---- equality types

-- an equality type filled with equality types is one
pub admits_filled : (m o q : Marks) (b : Substitution) (x : Tree) → ((i : ℕ) → m i ≡ true → admits q (b i) ≡ true)
    → ((n : ℕ) → o n ≡ true → q n ≡ true) → tree_admits m o x ≡ true → admits q (fill b Ty.Var x) ≡ true
admits_filled m o q b x h k = walk_tree Anything Anything
    (λ y. tree_admits m o y ≡ true → admits q (fill b Ty.Var y) ≡ true)
    (λ ys. trees_admit m o ys ≡ true → admits_all q (fill_all b Ty.Var ys) ≡ true)
    (record {
      bound = λ i _. h i;
      free = λ n _. k n;
      made = λ c ts i. more_parts (equality_of c) (trees_admit m o ts) (admits_all q (fill_all b Ty.Var ts)) i;
      none = λ e. refl;
      more = λ t ts i j e. and_both (admits q (fill b Ty.Var t)) (admits_all q (fill_all b Ty.Var ts))
          (i (and_left (tree_admits m o t) (trees_admit m o ts) e))
          (j (and_right (tree_admits m o t) (trees_admit m o ts) e));
    })
    x (λ i _. tt) (λ n _. tt)

-- ---- types read back as trees

-- a type as a tree, with a tree for each variable
abbrev mutual
  pub read_as : (ℕ → Tree) → Ty → Tree
  read_as h (Ty.Var v) = h v
  read_as h (Ty.Made c ts) = Tree.Made c (read_all_as h ts)

  pub read_all_as : (ℕ → Tree) → Types → Trees
  read_all_as h Types.Nil = Trees.Nil
  read_all_as h (Types.Cons t ts) = Trees.Cons (read_as h t) (read_all_as h ts)

-- an instance read back is the scheme's type with what was filled in read back
pub read_filled : (h : ℕ → Tree) (b : Substitution) (x : Tree) → Frees (λ v. h v ≡ Tree.Free v) x
    → read_as h (fill b Ty.Var x) ≡ plug (λ i. read_as h (b i)) x
read_filled h b x free = alike_tree Tree.Made Trees.Nil Trees.Cons (λ y. read_as h (fill b Ty.Var y))
    (plug (λ i. read_as h (b i))) (λ ys. read_all_as h (fill_all b Ty.Var ys)) (plug_all (λ i. read_as h (b i)))
    (record { at_made = λ c ts. refl; at_none = refl; at_more = λ y ys. refl })
    (record { at_made = λ c ts. refl; at_none = refl; at_more = λ y ys. refl }) x (λ i _. refl) free

-- a type is an equality type where the tree that is read back of it is
pub read_admits : (h : ℕ → Tree) (q m o : Marks) (t : Ty) → ((n : ℕ) → q n ≡ tree_admits m o (h n))
    → admits q t ≡ tree_admits m o (read_as h t)
read_admits h q m o t same = alike (λ c b. where_parts (equality_of c) b) true (λ a b. a && b) (admits q)
    (λ u. tree_admits m o (read_as h u)) (admits_all q) (λ us. trees_admit m o (read_all_as h us))
    (record { at_made = λ c ts. refl; at_none = refl; at_more = λ u us. refl })
    (record { at_made = λ c ts. refl; at_none = refl; at_more = λ u us. refl }) t (λ n _. same n)

-- variables from `n` on are those of a scheme
abbrev pub from_on : ℕ → ℕ → Tree
from_on n v = cond (ltb v n) (Tree.Free v) (Tree.Bound (v - n))

pub below_free : (n v : ℕ) → v < n → from_on n v ≡ Tree.Free v
below_free n v h = ap (λ z. cond z (Tree.Free v) (Tree.Bound (v - n))) (lt-ltb v n h)

pub on_bound : (n i : ℕ) → from_on n (n + i) ≡ Tree.Bound i
on_bound n i = ap (λ z. cond z (Tree.Free (n + i)) (Tree.Bound (n + i - n))) (le-ltb (n + i) n (omega arith))
    ∙ ap Tree.Bound (let k : n + i - n ≡ i = omega arith in k)

-- .. with the marks of the table's variables and of the scheme's
abbrev pub marks_on : ℕ → Marks → Marks → Marks
marks_on n o m v = tree_admits m o (from_on n v)
