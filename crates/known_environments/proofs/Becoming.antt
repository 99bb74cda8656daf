-- What is known of variables, one after the other; and the variables of schemes.
use Rattle.std.proofs.Common.{◌≡◌, ℕ, ◌+◌, ◌<◌, sym, ap, ap₂, ◌∙◌, List, [], ◌∷◌, ◌++◌, length, Some, None, slice_get, true, cond, arith, ◌⊎◌, inl, inr}
use Rattle.std.specs.Prelude.{nat_eq}
use Rattle.std.proofs.lemmas.Bool.{eqb-true}
use Rattle.semantic_objects.specs.Trees.{Tree, Trees, binds, binds_any, BindsBelow}
use Rattle.unification.specs.Types.{Ty, Types, Substitution}
use Rattle.unification.specs.Closing.{closed_over, closed_over_all, put_tree, put_trees}
use Rattle.unification.proofs.Walking.{or_left, or_right, or_either, either_way}
use Rattle.environment_walks.specs.Changing.{image_in}
use Rattle.type_walks.proofs.Imaging.{get_snoc, get_last, length_snoc}
use Rattle.known_environments.specs.declared.known.Known.{Known}
use Rattle.known_environments.specs.Known.{AreKnown, tree_for}

some_is : {A : Type 0} (x y : A) → Some x ≡ Some y → x ≡ y
some_is x y h = cc

no_place : {A : Type 0} (p : ℕ) → None ≡ Some p → A
no_place p h = absurd (cc)

pub nothing_known : (s : Substitution) (known : Known) → ((n : ℕ) → image_in known.places n ≡ None) → AreKnown s known
nothing_known s known h = record {
  within = λ n p e. no_place p (sym (h n) ∙ e);
  is = λ n p tree e f. no_place p (sym (h n) ∙ e);
}

pub more_known : (s : Substitution) (old new : Known) (number place : ℕ) (tree : Tree)
    → ((n : ℕ) → image_in new.places n ≡ cond (nat_eq number n) (Some place) (image_in old.places n))
    → place ≡ length old.trees → new.trees ≡ old.trees ++ tree ∷ [] → AreKnown s old → tree ≡ tree_for s number
    → AreKnown s new
more_known s old new number place tree set len trees h is = record { within = within; is = each }
  where
    longer : length new.trees ≡ length old.trees + 1
    longer = ap length trees ∙ length_snoc old.trees tree

    within : (n p : ℕ) → image_in new.places n ≡ Some p → p < length new.trees
    within n p e = either_way (nat_eq number n)
        (λ b. let i : place ≡ p = some_is place p (sym (ap (λ z. cond z (Some place) (image_in old.places n)) b)
        ∙ sym (set n) ∙ e) in omega (arith, i, len, longer))
        (λ b. let i : p < length old.trees = h.within n p (sym (ap (λ z. cond z (Some place) (image_in old.places n)) b)
        ∙ sym (set n) ∙ e) in omega (arith, i, longer))

    at_last : (n p : ℕ) (t : Tree) → nat_eq number n ≡ true → place ≡ p → slice_get new.trees p ≡ Some t
        → t ≡ tree_for s n
    at_last n p t b i f =
        let k : slice_get (old.trees ++ tree ∷ []) (length old.trees) ≡ Some t =
        ap₂ (λ (xs : List Tree) m. slice_get xs m) (sym trees) (sym len ∙ i) ∙ f in
        some_is t tree (sym k ∙ get_last old.trees tree) ∙ is ∙ ap (tree_for s) (eqb-true number n b)

    before : (n p : ℕ) (t : Tree) → image_in old.places n ≡ Some p
        → (slice_get old.trees p ≡ Some t) ⊎ ((p ≡ length old.trees) × (tree ≡ t)) → t ≡ tree_for s n
    before n p t e (inl f) = h.is n p t e f
    before n p t e (inr f) =
        let i : p < length old.trees = h.within n p e in
        let j : p ≡ length old.trees = f.0 in absurd (omega (arith, i, j))

    each : (n p : ℕ) (t : Tree) → image_in new.places n ≡ Some p → slice_get new.trees p ≡ Some t → t ≡ tree_for s n
    each n p t e f = either_way (nat_eq number n)
        (λ b. at_last n p t b (some_is place p (sym (ap (λ z. cond z (Some place) (image_in old.places n)) b)
        ∙ sym (set n) ∙ e)) f)
        (λ b. before n p t (sym (ap (λ z. cond z (Some place) (image_in old.places n)) b) ∙ sym (set n) ∙ e)
        (get_snoc old.trees tree t p (sym (ap (λ (xs : List Tree). slice_get xs p) trees) ∙ f)))

-- ---- the variables of schemes

mutual
  open_binds : {A : Type 0} (i : ℕ) (u : Ty) → binds i (closed_over [] u) ≡ true → A
  open_binds i (Ty.Var n) h = absurd (cc)
  open_binds i (Ty.Made c us) h = open_binds_any i us h

  open_binds_any : {A : Type 0} (i : ℕ) (us : Types) → binds_any i (closed_over_all [] us) ≡ true → A
  open_binds_any i Types.Nil h = absurd (cc)
  open_binds_any i (Types.Cons u us) h = or_either (binds i (closed_over [] u)) (binds_any i (closed_over_all [] us)) h
      (λ k. open_binds i u k) (λ k. open_binds_any i us k)

mutual
  put_binds : (s : Substitution) (i : ℕ) (t : Tree) → binds i (put_tree s t) ≡ true → binds i t ≡ true
  put_binds s i (Tree.Bound j) h = h
  put_binds s i (Tree.Free n) h = open_binds i (s n) h
  put_binds s i (Tree.Made c ts) h = put_binds_any s i ts h

  put_binds_any : (s : Substitution) (i : ℕ) (ts : Trees) → binds_any i (put_trees s ts) ≡ true → binds_any i ts ≡ true
  put_binds_any s i Trees.Nil h = h
  put_binds_any s i (Trees.Cons t ts) h = or_either (binds i (put_tree s t)) (binds_any i (put_trees s ts)) h
      (λ k. or_left (binds i t) (binds_any i ts) (put_binds s i t k))
      (λ k. or_right (binds i t) (binds_any i ts) (put_binds_any s i ts k))

pub put_below : (s : Substitution) (n : ℕ) (t u : Tree) → BindsBelow n t → u ≡ put_tree s t → BindsBelow n u
put_below s n t u h e i k = h i (put_binds s i t (sym (ap (binds i) e) ∙ k))
