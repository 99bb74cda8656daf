-- Types in which no variable stands are made one where they are one.
use Rattle.std.proofs.Common.{◌≡◌, ℕ, ◌||◌, refl, sym, ap, ap₂, ◌∙◌, subst, List, [], map, true, false}
use Rattle.std.proofs.lemmas.Bool.{eq-eqb, eqb-true}
use Rattle.semantic_objects.specs.declared.name.TyId.{TyId}
use Rattle.semantic_objects.specs.declared.symbol.Symbol.{Symbol}
use Rattle.semantic_objects.specs.declared.symbol.Symbol.TheVariants as symbol
use Rattle.semantic_objects.specs.Trees.{Tree, Trees, binds, binds_any}
use Rattle.unification.specs.Types.{Ty, Types, State, Substitution, put, put_all}
use Rattle.unification.specs.Unification.{IsMostGeneral, Solves, LeavesRigid, MakesEqual, IsSettled}
use Rattle.unification.specs.Instances.{fill, fill_all}
use Rattle.unification.specs.Generality.{same_tree}
use Rattle.unification.proofs.Walking.{or_left, or_right, or_false_left, or_false_right, either_way}
use Rattle.unification.proofs.Filling.{tree_is, tree_same}
use Rattle.env_parts.specs.Types.{holds_free, any_holds_free}
use Rattle.type_nodes.specs.Tables.{Table, Has, state, type_of}
use Rattle.type_nodes.specs.Keeping.{IsKept}
use Rattle.type_schemes.specs.Instances.{Extends}
use Rattle.type_functions.specs.Applied.{with_types}

-- ---- trees that are one type whatever is put in

made_symbol : (c d : Symbol) (ts us : Types) → Ty.Made c ts ≡ Ty.Made d us → c ≡ d
made_symbol c d ts us e = cc

made_parts : (c d : Symbol) (ts us : Types) → Ty.Made c ts ≡ Ty.Made d us → ts ≡ us
made_parts c d ts us e = cc

cons_first : (t u : Ty) (ts us : Types) → Types.Cons t ts ≡ Types.Cons u us → t ≡ u
cons_first t u ts us e = cc

cons_rest : (t u : Ty) (ts us : Types) → Types.Cons t ts ≡ Types.Cons u us → ts ≡ us
cons_rest t u ts us e = cc

-- a tree that gives the same for two choices has the same of them for each of its variables
mutual
  same_at : (b d : Substitution) (x : Tree) → fill b Ty.Var x ≡ fill d Ty.Var x → (i : ℕ) → binds i x ≡ true → b i ≡ d i
  same_at b d (Tree.Bound j) e i h = subst (λ z. b z ≡ d z) (sym (eqb-true i j h)) e
  same_at b d (Tree.Free n) e i h = absurd (cc)
  same_at b d (Tree.Made c xs) e i h =
      same_all b d xs (made_parts c c (fill_all b Ty.Var xs) (fill_all d Ty.Var xs) e) i h

  same_all : (b d : Substitution) (xs : Trees) → fill_all b Ty.Var xs ≡ fill_all d Ty.Var xs → (i : ℕ)
      → binds_any i xs ≡ true → b i ≡ d i
  same_all b d Trees.Nil e i h = absurd (cc)
  same_all b d (Trees.Cons x xs) e i h = either_way (binds i x)
      (λ k. same_at b d x (cons_first (fill b Ty.Var x) (fill d Ty.Var x) (fill_all b Ty.Var xs) (fill_all d Ty.Var xs) e) i k)
      (λ k. same_all b d xs (cons_rest (fill b Ty.Var x) (fill d Ty.Var x) (fill_all b Ty.Var xs) (fill_all d Ty.Var xs) e) i
      (sym (ap (λ z. z || binds_any i xs) k) ∙ h))

abbrev arrow : Ty
arrow = Ty.Made symbol.Arrow Types.Nil

abbrev unit : Ty
unit = Ty.Made (symbol.Record []) Types.Nil

-- so none of its own variables stands in it
binds_none : (t : Ty) (x : Tree) → ((o : Ty) → t ≡ with_types o [] x) → (i : ℕ) → binds i x ≡ true → ⊥
binds_none t x h i b =
    let e : unit ≡ arrow = same_at (λ j. unit) (λ j. arrow) x (sym (h unit) ∙ h arrow) i b in absurd (cc)

-- ---- types without variables of a table

mutual
  pub put_filled : (s b : Substitution) (x : Tree) → holds_free x ≡ false → ((i : ℕ) → put s (b i) ≡ b i)
      → put s (fill b Ty.Var x) ≡ fill b Ty.Var x
  put_filled s b (Tree.Bound i) h k = k i
  put_filled s b (Tree.Free n) h k = absurd (cc)
  put_filled s b (Tree.Made c xs) h k = ap (Ty.Made c) (put_filled_all s b xs h k)

  put_filled_all : (s b : Substitution) (xs : Trees) → any_holds_free xs ≡ false → ((i : ℕ) → put s (b i) ≡ b i)
      → put_all s (fill_all b Ty.Var xs) ≡ fill_all b Ty.Var xs
  put_filled_all s b Trees.Nil h k = refl
  put_filled_all s b (Trees.Cons x xs) h k = ap₂ Types.Cons
      (put_filled s b x (or_false_left (holds_free x) (any_holds_free xs) h) k)
      (put_filled_all s b xs (or_false_right (holds_free x) (any_holds_free xs) h) k)

-- distinct ones are distinct types
mutual
  filled_apart : (b : Substitution) (x y : Tree) → holds_free x ≡ false → holds_free y ≡ false
      → ((i : ℕ) → binds i x ≡ true → ⊥) → ((i : ℕ) → binds i y ≡ true → ⊥)
      → fill b Ty.Var x ≡ fill b Ty.Var y → x ≡ y
  filled_apart b (Tree.Bound i) y h k l m e = absurd (l i (eq-eqb i i refl))
  filled_apart b (Tree.Free n) y h k l m e = absurd (cc)
  filled_apart b (Tree.Made c xs) (Tree.Bound j) h k l m e = absurd (m j (eq-eqb j j refl))
  filled_apart b (Tree.Made c xs) (Tree.Free n) h k l m e = absurd (cc)
  filled_apart b (Tree.Made c xs) (Tree.Made d ys) h k l m e =
      ap₂ Tree.Made (made_symbol c d (fill_all b Ty.Var xs) (fill_all b Ty.Var ys) e)
      (all_apart b xs ys h k l m (made_parts c d (fill_all b Ty.Var xs) (fill_all b Ty.Var ys) e))

  all_apart : (b : Substitution) (xs ys : Trees) → any_holds_free xs ≡ false → any_holds_free ys ≡ false
      → ((i : ℕ) → binds_any i xs ≡ true → ⊥) → ((i : ℕ) → binds_any i ys ≡ true → ⊥)
      → fill_all b Ty.Var xs ≡ fill_all b Ty.Var ys → xs ≡ ys
  all_apart b Trees.Nil Trees.Nil h k l m e = refl
  all_apart b Trees.Nil (Trees.Cons y ys) h k l m e = absurd (cc)
  all_apart b (Trees.Cons x xs) Trees.Nil h k l m e = absurd (cc)
  all_apart b (Trees.Cons x xs) (Trees.Cons y ys) h k l m e =
      ap₂ Trees.Cons
      (filled_apart b x y (or_false_left (holds_free x) (any_holds_free xs) h)
      (or_false_left (holds_free y) (any_holds_free ys) k) (λ i j. l i (or_left (binds i x) (binds_any i xs) j))
      (λ i j. m i (or_left (binds i y) (binds_any i ys) j))
      (cons_first (fill b Ty.Var x) (fill b Ty.Var y) (fill_all b Ty.Var xs) (fill_all b Ty.Var ys) e))
      (all_apart b xs ys (or_false_right (holds_free x) (any_holds_free xs) h)
      (or_false_right (holds_free y) (any_holds_free ys) k) (λ i j. l i (or_right (binds i x) (binds_any i xs) j))
      (λ i j. m i (or_right (binds i y) (binds_any i ys) j))
      (cons_rest (fill b Ty.Var x) (fill b Ty.Var y) (fill_all b Ty.Var xs) (fill_all b Ty.Var ys) e))

-- ---- two types of a table

-- what is known of a state and of two types that were made in it
pub record AreTwo (s : State) (x y : Tree) (t u : Ty) : Type 0 where
  pub settled : IsSettled s
  pub left : (o : Ty) → t ≡ with_types o [] x
  pub right : (o : Ty) → u ≡ with_types o [] y
  pub left_closed : holds_free x ≡ false
  pub right_closed : holds_free y ≡ false

stays : (s : Substitution) (x : Tree) (t : Ty) → ((o : Ty) → t ≡ with_types o [] x) → holds_free x ≡ false → put s t ≡ t
stays s x t is closed = ap (put s) (is arrow) ∙ put_filled s (λ i. arrow) x closed (λ i. refl) ∙ sym (is arrow)

pub made_one : (s r : State) (x y : Tree) (t u : Ty) → AreTwo s x y t u
    → IsMostGeneral s r (MakesEqual (put s.stands t) (put s.stands u)) → true ≡ same_tree x y
made_one s r x y t u h g =
    let one : put r.stands (put s.stands t) ≡ put r.stands (put s.stands u) = (g.sound r g.settled.solves).1 in
    let left : put r.stands (put s.stands t) ≡ t =
    ap (put r.stands) (stays s.stands x t h.left h.left_closed) ∙ stays r.stands x t h.left h.left_closed in
    let right : put r.stands (put s.stands u) ≡ u =
    ap (put r.stands) (stays s.stands y u h.right h.right_closed) ∙ stays r.stands y u h.right h.right_closed in
    let same : x ≡ y = filled_apart (λ i. arrow) x y h.left_closed h.right_closed (binds_none t x h.left)
    (binds_none u y h.right) (sym (h.left arrow) ∙ sym left ∙ one ∙ right ∙ h.right arrow) in
    sym (subst (λ z. same_tree x z ≡ true) same (tree_same x))

pub made_apart : (s : State) (x y : Tree) (t u : Ty) → AreTwo s x y t u
    → ((p : State) → Solves p s → LeavesRigid p s → MakesEqual (put s.stands t) (put s.stands u) p → ⊥)
    → false ≡ same_tree x y
made_apart s x y t u h none = either_way (same_tree x y)
    (λ e. absurd (none s h.settled.solves h.settled.leaves (ap (λ z. put s.stands (put s.stands z))
    (h.left arrow ∙ ap (λ z. with_types arrow [] z) (tree_is x y e) ∙ sym (h.right arrow)))))
    (λ e. sym e)

-- two types that were made one after the other, without arguments
pub are_two : (t this_t that_t : Table) (none : List TyId) (this that : TyId) (x y : Tree) → none ≡ []
    → ((o : Ty) → type_of this_t this ≡ with_types o (map (type_of t) none) x) → Has this_t this
    → ((o : Ty) → type_of that_t that ≡ with_types o (map (type_of this_t) none) y) → Extends this_t that_t
    → IsKept that_t → holds_free x ≡ false → holds_free y ≡ false
    → AreTwo (state that_t) x y (type_of that_t this) (type_of that_t that)
are_two t this_t that_t none this that x y e a has b f k cx cy = record {
  settled = k.fit.settled;
  left = λ o. f.types this has ∙ a o ∙ ap (λ ids. with_types o (map (type_of t) ids) x) e;
  right = λ o. b o ∙ ap (λ ids. with_types o (map (type_of this_t) ids) y) e;
  left_closed = cx;
  right_closed = cy;
}
