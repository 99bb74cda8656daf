-- Types below a binder of so many variables.
use Rattle.std.proofs.Common.{◌≡◌, ℕ, ◌<◌, ◌≤◌, refl, sym, ap, subst, ◌∙◌, arith, List, [], ◌∷◌, ◌++◌, Bool, true, false, ◌||◌, eqb}
use Rattle.std.specs.List.{flat_map}
use Rattle.std.specs.Prelude.{IsTrue}
use Rattle.std.proofs.lemmas.Bool.{eq-eqb, eqb-true}
use Rattle.unification.specs.Closing.{is_among}
use Rattle.unification.proofs.Walking.{or_left, or_right, or_either}
use Rattle.semantic_objects.specs.Trees.{Tree, Trees, binds, binds_any, BindsBelow}
use Rattle.semantic_objects.specs.Nodes.{AreBelow}
use Rattle.interface_format.specs.Rules.{IsNumber, IsType, AreTypes}
use Rattle.name_walks.specs.Noting.{noted_all}
use Rattle.name_walks.specs.Visits.{variables_in, variables_in_all}
use Rattle.name_walks.proofs.Notes.{listed_append, listed_noted}
use Rattle.name_walks.proofs.Once.{tells_variables, variables_noted}
use Rattle.row_types.specs.Told.{most}
use Rattle.row_entries.specs.Variables.{AreFirst, AreAmong}
use Rattle.row_entries.proofs.Numbered.{range_below}

-- ---- numbers below a count

pub below_parts : (n : ℕ) (xs ys : List ℕ) → AreBelow n (xs ++ ys) → AreBelow n xs × AreBelow n ys
below_parts n [] ys h = (tt, h)
below_parts n (x ∷ xs) ys h = let k = below_parts n xs ys h.1 in ((h.0, k.0), k.1)

pub below_both : (n : ℕ) (xs ys : List ℕ) → AreBelow n xs → AreBelow n ys → AreBelow n (xs ++ ys)
below_both n [] ys h k = k
below_both n (x ∷ xs) ys h k = (h.0, below_both n xs ys h.1 k)

below_at : (n : ℕ) (xs : List ℕ) (v : ℕ) → AreBelow n xs → is_among v xs ≡ true → v < n
below_at n [] v h e = absurd (cc)
below_at n (x ∷ xs) v h e = or_either (eqb v x) (is_among v xs) e
    (λ k. subst (λ z. z < n) (sym (eqb-true v x k)) h.0) (λ k. below_at n xs v h.1 k)

below_all : (n : ℕ) (xs : List ℕ) → ((v : ℕ) → is_among v xs ≡ true → v < n) → AreBelow n xs
below_all n [] h = tt
below_all n (x ∷ xs) h = (
  h x (or_left (eqb x x) (is_among x xs) (eq-eqb x x refl)),
  below_all n xs (λ v e. h v (or_right (eqb v x) (is_among v xs) e)),
)

-- the same variables stand in both
alike : (xs ys : List ℕ) (v : ℕ) → noted_all is_among [] xs ≡ noted_all is_among [] ys → is_among v xs ≡ is_among v ys
alike xs ys v e = sym (listed_noted eqb is_among tells_variables v [] xs) ∙ ap (is_among v) e
    ∙ listed_noted eqb is_among tells_variables v [] ys

pub below_alike : (n : ℕ) (xs ys : List ℕ) → noted_all is_among [] xs ≡ noted_all is_among [] ys → AreBelow n xs
    → AreBelow n ys
below_alike n xs ys e h = below_all n ys (λ v k. below_at n xs v h (alike xs ys v e ∙ k))

-- ---- types

mutual
  pub type_among : (n : ℕ) (t : Tree) → IsType n t → AreAmong t n
  type_among n (Tree.Bound i) h = (h, tt)
  type_among n (Tree.Free v) h = tt
  type_among n (Tree.Made c ts) h = types_among n ts h.1

  types_among : (n : ℕ) (ts : Trees) → AreTypes n ts → AreBelow n (variables_in_all ts)
  types_among n Trees.Nil h = tt
  types_among n (Trees.Cons t ts) h =
      below_both n (variables_in t) (variables_in_all ts) (type_among n t h.0) (types_among n ts h.1)

-- a type that meets the rules below some binder meets them below another one that has its variables
mutual
  pub type_below : (m n : ℕ) (t : Tree) → IsType m t → AreAmong t n → IsType n t
  type_below m n (Tree.Bound i) h k = k.0
  type_below m n (Tree.Free v) h k = h
  type_below m n (Tree.Made c ts) h k = (h.0, types_below m n ts h.1 k)

  types_below : (m n : ℕ) (ts : Trees) → AreTypes m ts → AreBelow n (variables_in_all ts) → AreTypes n ts
  types_below m n Trees.Nil h k = tt
  types_below m n (Trees.Cons t ts) h k =
      let p = below_parts n (variables_in t) (variables_in_all ts) k in
      (type_below m n t h.0 p.0, types_below m n ts h.1 p.1)

or_none : (b : Bool) → (b || false) ≡ b
or_none true = refl
or_none false = refl

mutual
  binds_found : (i : ℕ) (t : Tree) → binds i t ≡ is_among i (variables_in t)
  binds_found i (Tree.Bound j) = sym (or_none (eqb i j))
  binds_found i (Tree.Free n) = refl
  binds_found i (Tree.Made c ts) = all_binds_found i ts

  all_binds_found : (i : ℕ) (ts : Trees) → binds_any i ts ≡ is_among i (variables_in_all ts)
  all_binds_found i Trees.Nil = refl
  all_binds_found i (Trees.Cons t ts) = ap (λ b. b || binds_any i ts) (binds_found i t)
      ∙ ap (λ b. is_among i (variables_in t) || b) (all_binds_found i ts)
      ∙ sym (listed_append eqb is_among tells_variables i (variables_in t) (variables_in_all ts))

pub among_binds : (n : ℕ) (t : Tree) → AreAmong t n → BindsBelow n t
among_binds n t h i e = below_at n (variables_in t) i h (sym (binds_found i t) ∙ e)

pub first_among : (n : ℕ) (t : Tree) → AreFirst t n → AreAmong t n
first_among n t h = below_all n (variables_in t)
    (λ v e. (let k = range_below 0 n v
    (sym (ap (is_among v) h) ∙ sym (ap (is_among v) (variables_noted t []))
    ∙ listed_noted eqb is_among tells_variables v [] (variables_in t) ∙ e) in
    omega (arith, k)))

-- the largest count can be written
pub most_number : IsNumber most
most_number = record { below = omega arith }

number_most : (n : ℕ) → IsNumber n → n ≤ most
number_most n h = let b = h.below in omega (arith, b)

below_more : (m n : ℕ) (xs : List ℕ) → m ≤ n → AreBelow m xs → AreBelow n xs
below_more m n [] le h = tt
below_more m n (x ∷ xs) le h = (let lt = h.0 in omega (arith, le, lt), below_more m n xs le h.1)

-- a type below a binder is one below the largest one
pub type_most : (n : ℕ) (t : Tree) → IsNumber n → IsType n t → IsType most t
type_most n t k h =
    type_below n most t h (below_more n most (variables_in t) (number_most n k) (type_among n t h))

-- ---- nodes one after the other

abbrev pub BelowSo : ℕ → (ℕ → List ℕ) → List ℕ → List ℕ → Type 0
BelowSo k N all rest = (AreBelow k (flat_map N rest) → AreBelow k all) × (AreBelow k all → AreBelow k (flat_map N rest))

pub below_next : (k : ℕ) (N : ℕ → List ℕ) (all : List ℕ) (p : ℕ) (rest others : List ℕ) (b : Bool) → rest ≡ p ∷ others
    → (IsTrue b → AreBelow k (N p)) × (AreBelow k (N p) → IsTrue b) → b ≡ true → BelowSo k N all rest
    → BelowSo k N all others
below_next k N all p rest others true e h i s =
    let at : AreBelow k (N p) = h.0 refl in (
      λ x. s.0 (subst (λ (z : List ℕ). AreBelow k (flat_map N z)) (sym e) (below_both k (N p) (flat_map N others) at x)),
      λ x. (below_parts k (N p) (flat_map N others)
          (subst (λ (z : List ℕ). AreBelow k (flat_map N z)) e (s.1 x))).1,
    )
below_next k N all p rest others false e h i s = absurd (cc)

pub below_not : (k : ℕ) (N : ℕ → List ℕ) (all : List ℕ) (p : ℕ) (rest others : List ℕ) (b : Bool) → rest ≡ p ∷ others
    → (IsTrue b → AreBelow k (N p)) × (AreBelow k (N p) → IsTrue b) → b ≡ false → BelowSo k N all rest
    → (IsTrue false → AreBelow k all) × (AreBelow k all → IsTrue false)
below_not k N all p rest others true e h i s = absurd (cc)
below_not k N all p rest others false e h i s = (
  λ f. absurd (no_truth f),
  λ x. h.1 (below_parts k (N p) (flat_map N others)
      (subst (λ (z : List ℕ). AreBelow k (flat_map N z)) e (s.1 x))).0,
)
  where
    no_truth : IsTrue false → ⊥
    no_truth f = cc

pub below_end : (k : ℕ) (N : ℕ → List ℕ) (all rest : List ℕ) → rest ≡ [] → BelowSo k N all rest
    → (IsTrue true → AreBelow k all) × (AreBelow k all → IsTrue true)
below_end k N all rest e s =
    (λ t. s.0 (subst (λ (z : List ℕ). AreBelow k (flat_map N z)) (sym e) tt), λ x. refl)

pub among_visited : (t : Tree) (k : ℕ) (b : Bool) (xs : List ℕ)
    → noted_all is_among [] xs ≡ noted_all is_among [] (variables_in t)
    → (IsTrue b → AreBelow k xs) × (AreBelow k xs → IsTrue b)
    → (IsTrue b → AreAmong t k) × (AreAmong t k → IsTrue b)
among_visited t k b xs e h = (
  λ i. below_alike k xs (variables_in t) e (h.0 i),
  λ x. h.1 (below_alike k (variables_in t) xs (sym e) x),
)
