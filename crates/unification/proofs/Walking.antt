-- Walks over types and trees, so that what is shown of them is shown once for a type and its parts together.
use Rattle.std.proofs.Common.{◌≡◌, ℕ, refl, sym, ap, ap₂, ◌∙◌, Bool, true, false, ◌||◌, ◌&&◌}
use Rattle.std.proofs.lemmas.Bool.{eq-eqb}
use Rattle.semantic_objects.specs.declared.symbol.Symbol.{Symbol}
use Rattle.semantic_objects.specs.Trees.{Tree, Trees, binds, binds_any, frees, frees_any}
use Rattle.unification.specs.Touching.{IsWithin, AreWithin}
use Rattle.unification.specs.Types.{Ty, Types, occurs, occurs_any}

-- ---- booleans

pub either_way : {P : Type 0} (b : Bool) → (b ≡ true → P) → (b ≡ false → P) → P
either_way true f g = f refl
either_way false f g = g refl

pub not_both : (b : Bool) → b ≡ false → b ≡ true → ⊥
not_both true h k = absurd (cc)
not_both false h k = absurd (cc)

pub or_left : (a b : Bool) → a ≡ true → (a || b) ≡ true
or_left true b h = refl
or_left false b h = absurd (cc)

pub or_right : (a b : Bool) → b ≡ true → (a || b) ≡ true
or_right true b h = refl
or_right false b h = h

pub or_either : {P : Type 0} (a b : Bool) → (a || b) ≡ true → (a ≡ true → P) → (b ≡ true → P) → P
or_either true b h this that = this refl
or_either false b h this that = that h

pub or_false_left : (a b : Bool) → (a || b) ≡ false → a ≡ false
or_false_left true b h = h
or_false_left false b h = refl

pub or_false_right : (a b : Bool) → (a || b) ≡ false → b ≡ false
or_false_right true b h = absurd (cc)
or_false_right false b h = h

pub and_left : (a b : Bool) → (a && b) ≡ true → a ≡ true
and_left true b h = refl
and_left false b h = h

pub and_right : (a b : Bool) → (a && b) ≡ true → b ≡ true
and_right true b h = h
and_right false b h = absurd (cc)

pub and_both : (a b : Bool) → a ≡ true → b ≡ true → (a && b) ≡ true
and_both true b h k = k
and_both false b h k = h

-- ---- types

abbrev pub Anything : ℕ → Type 0
Anything n = Unit {0}

-- what has to be shown so that `P` holds of each type of whose variables `V` holds
pub record Walk (V : ℕ → Type 0) (P : Ty → Type 0) (Ps : Types → Type 0) : Type 0 where
  pub variable : (n : ℕ) → V n → P (Ty.Var n)
  pub made : (c : Symbol) (ts : Types) → Ps ts → P (Ty.Made c ts)
  pub none : Ps Types.Nil
  pub more : (t : Ty) (ts : Types) → P t → Ps ts → Ps (Types.Cons t ts)

mutual
  pub walk : (V : ℕ → Type 0) (P : Ty → Type 0) (Ps : Types → Type 0) → Walk V P Ps → (t : Ty) → IsWithin V t → P t
  walk V P Ps w (Ty.Var n) h = w.variable n (h n (eq-eqb n n refl))
  walk V P Ps w (Ty.Made c ts) h = w.made c ts (walk_all V P Ps w ts h)

  pub walk_all : (V : ℕ → Type 0) (P : Ty → Type 0) (Ps : Types → Type 0) → Walk V P Ps → (ts : Types)
      → AreWithin V ts → Ps ts
  walk_all V P Ps w Types.Nil h = w.none
  walk_all V P Ps w (Types.Cons t ts) h = w.more t ts
      (walk V P Ps w t (λ n e. h n (or_left (occurs n t) (occurs_any n ts) e)))
      (walk_all V P Ps w ts (λ n e. h n (or_right (occurs n t) (occurs_any n ts) e)))

-- a function that goes through types: what it makes of a symbol, of no parts and of a part more
pub record Goes {A As : Type 0} (made : Symbol → As → A) (none : As) (more : A → As → As)
    (f : Ty → A) (fs : Types → As) : Type 0 where
  pub at_made : (c : Symbol) (ts : Types) → f (Ty.Made c ts) ≡ made c (fs ts)
  pub at_none : fs Types.Nil ≡ none
  pub at_more : (t : Ty) (ts : Types) → fs (Types.Cons t ts) ≡ more (f t) (fs ts)

-- two that go alike and agree on the variables of a type agree on it
pub alike : {A As : Type 0} (made : Symbol → As → A) (none : As) (more : A → As → As)
    (f g : Ty → A) (fs gs : Types → As) → Goes made none more f fs → Goes made none more g gs
    → (t : Ty) → IsWithin (λ n. f (Ty.Var n) ≡ g (Ty.Var n)) t → f t ≡ g t
alike made none more f g fs gs i j = walk (λ n. f (Ty.Var n) ≡ g (Ty.Var n)) (λ t. f t ≡ g t) (λ ts. fs ts ≡ gs ts)
    (record {
      variable = λ n e. e;
      made = λ c ts e. i.at_made c ts ∙ ap (made c) e ∙ sym (j.at_made c ts);
      none = i.at_none ∙ sym j.at_none;
      more = λ t ts e es. i.at_more t ts ∙ ap₂ more e es ∙ sym (j.at_more t ts);
    })

-- ---- trees

-- the same for trees, of whose variables of a scheme `B` holds, and `F` of those of a table
pub record TreeWalk (B F : ℕ → Type 0) (P : Tree → Type 0) (Ps : Trees → Type 0) : Type 0 where
  pub bound : (i : ℕ) → B i → P (Tree.Bound i)
  pub free : (n : ℕ) → F n → P (Tree.Free n)
  pub made : (c : Symbol) (ts : Trees) → Ps ts → P (Tree.Made c ts)
  pub none : Ps Trees.Nil
  pub more : (t : Tree) (ts : Trees) → P t → Ps ts → Ps (Trees.Cons t ts)

abbrev pub Binds : (ℕ → Type 0) → Tree → Type 0
Binds B x = (i : ℕ) → binds i x ≡ true → B i

abbrev pub Frees : (ℕ → Type 0) → Tree → Type 0
Frees F x = (n : ℕ) → frees n x ≡ true → F n

mutual
  pub walk_tree : (B F : ℕ → Type 0) (P : Tree → Type 0) (Ps : Trees → Type 0) → TreeWalk B F P Ps → (x : Tree)
      → Binds B x → Frees F x → P x
  walk_tree B F P Ps w (Tree.Bound i) b f = w.bound i (b i (eq-eqb i i refl))
  walk_tree B F P Ps w (Tree.Free n) b f = w.free n (f n (eq-eqb n n refl))
  walk_tree B F P Ps w (Tree.Made c ts) b f = w.made c ts (walk_trees B F P Ps w ts b f)

  pub walk_trees : (B F : ℕ → Type 0) (P : Tree → Type 0) (Ps : Trees → Type 0) → TreeWalk B F P Ps → (xs : Trees)
      → ((i : ℕ) → binds_any i xs ≡ true → B i) → ((n : ℕ) → frees_any n xs ≡ true → F n) → Ps xs
  walk_trees B F P Ps w Trees.Nil b f = w.none
  walk_trees B F P Ps w (Trees.Cons t ts) b f = w.more t ts
      (walk_tree B F P Ps w t (λ i e. b i (or_left (binds i t) (binds_any i ts) e))
      (λ n e. f n (or_left (frees n t) (frees_any n ts) e)))
      (walk_trees B F P Ps w ts (λ i e. b i (or_right (binds i t) (binds_any i ts) e))
      (λ n e. f n (or_right (frees n t) (frees_any n ts) e)))

pub record GoesTree {A As : Type 0} (made : Symbol → As → A) (none : As) (more : A → As → As)
    (f : Tree → A) (fs : Trees → As) : Type 0 where
  pub at_made : (c : Symbol) (ts : Trees) → f (Tree.Made c ts) ≡ made c (fs ts)
  pub at_none : fs Trees.Nil ≡ none
  pub at_more : (t : Tree) (ts : Trees) → fs (Trees.Cons t ts) ≡ more (f t) (fs ts)

pub alike_tree : {A As : Type 0} (made : Symbol → As → A) (none : As) (more : A → As → As)
    (f g : Tree → A) (fs gs : Trees → As) → GoesTree made none more f fs → GoesTree made none more g gs
    → (x : Tree) → Binds (λ i. f (Tree.Bound i) ≡ g (Tree.Bound i)) x → Frees (λ n. f (Tree.Free n) ≡ g (Tree.Free n)) x
    → f x ≡ g x
alike_tree made none more f g fs gs i j = walk_tree (λ k. f (Tree.Bound k) ≡ g (Tree.Bound k))
    (λ n. f (Tree.Free n) ≡ g (Tree.Free n)) (λ x. f x ≡ g x) (λ xs. fs xs ≡ gs xs)
    (record {
      bound = λ k e. e;
      free = λ n e. e;
      made = λ c ts e. i.at_made c ts ∙ ap (made c) e ∙ sym (j.at_made c ts);
      none = i.at_none ∙ sym j.at_none;
      more = λ t ts e es. i.at_more t ts ∙ ap₂ more e es ∙ sym (j.at_more t ts);
    })
