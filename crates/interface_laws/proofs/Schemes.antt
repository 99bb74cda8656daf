-- A scheme whose variables are numbered by first occurrence is its own canonical form.
use Rattle.std.proofs.Common.{◌≡◌, ℕ, zero, suc, ◌+◌, ◌<◌, refl, sym, ap, ap₂, ◌∙◌, arith, Bool, true, false, cond, List, [], ◌∷◌, map, length, get_or, eqb}
use Rattle.std.specs.List.{range_with_len}
use Rattle.std.proofs.lemmas.Bool.{eq-eqb, ne_eqb}
use Rattle.semantic_objects.specs.declared.name.TyName.{TyName}
use Rattle.semantic_objects.specs.declared.symbol.Symbol.{Symbol}
use Rattle.semantic_objects.specs.declared.symbol.Symbol.TheVariants as symbol
use Rattle.semantic_objects.specs.Trees.{Tree, Trees, TypeScheme}
use Rattle.unification.specs.Closing.{place_of, bound_in, plug, plug_all, renumbered, canonical_scheme}
use Rattle.unification.specs.Instances.{mark_of}
use Rattle.realisation.specs.Canonical.{renamed_symbol, renamed, renamed_all}
use Rattle.interface_format.specs.Rules.{IsType, AreTypes, IsClosed}
use Rattle.canonical_interfaces.proofs.Places.{range_more}

-- ---- places in a range

pub place_in_range : (a n i : ℕ) → i < n → place_of (a + i) (range_with_len a n) ≡ i
place_in_range a zero i lt = absurd (omega (arith, lt))
place_in_range a (suc n) zero lt =
    let same : a + 0 ≡ a = omega arith in
    ap (λ (c : Bool). cond c 0 (suc (place_of (a + 0) (range_with_len (a + 1) n)))) (eq-eqb (a + 0) a same)
place_in_range a (suc n) (suc i) lt =
    let apart : a + suc i ≡ a → ⊥ = λ e. omega (arith, e) in
    let next : a + suc i ≡ (a + 1) + i = omega arith in
    let less : i < n = omega (arith, lt) in
    ap (λ (c : Bool). cond c 0 (suc (place_of (a + suc i) (range_with_len (a + 1) n)))) (ne_eqb (a + suc i) a apart)
    ∙ ap (λ (v : ℕ). suc (place_of v (range_with_len (a + 1) n))) next
    ∙ ap suc (place_in_range (a + 1) n i less)

place_is : (n i : ℕ) → i < n → place_of i (range_with_len 0 n) ≡ i
place_is n i lt =
    let same : i ≡ 0 + i = omega arith in
    ap (λ (v : ℕ). place_of v (range_with_len 0 n)) same ∙ place_in_range 0 n i lt

-- the marks at all places
map_after : (f : ℕ → Bool) (xs : List ℕ) → map f (map suc xs) ≡ map (λ i. f (suc i)) xs
map_after f [] = refl
map_after f (x ∷ xs) = ap (λ ys. f (suc x) ∷ ys) (map_after f xs)

marks_all : (marks : List Bool) → map (mark_of marks) (range_with_len 0 (length marks)) ≡ marks
marks_all [] = refl
marks_all (m ∷ marks) =
    ap (λ (xs : List ℕ). m ∷ map (mark_of (m ∷ marks)) xs) (sym (range_more 0 (length marks)))
    ∙ ap (λ (bs : List Bool). m ∷ bs) (map_after (mark_of (m ∷ marks)) (range_with_len 0 (length marks)))
    ∙ ap (λ (bs : List Bool). m ∷ bs) (marks_all marks)

-- ---- variables in their places

mutual
  pub plug_same : (θ : ℕ → Tree) (count : ℕ) → ((i : ℕ) → i < count → θ i ≡ Tree.Bound i) → (t : Tree)
      → IsType count t → plug θ t ≡ t
  plug_same θ count h (Tree.Bound i) lt = h i lt
  plug_same θ count h (Tree.Free n) k = absurd k
  plug_same θ count h (Tree.Made c ts) k = ap (Tree.Made c) (plug_same_all θ count h ts k.1)

  pub plug_same_all : (θ : ℕ → Tree) (count : ℕ) → ((i : ℕ) → i < count → θ i ≡ Tree.Bound i) → (ts : Trees)
      → AreTypes count ts → plug_all θ ts ≡ ts
  plug_same_all θ count h Trees.Nil k = refl
  plug_same_all θ count h (Trees.Cons t ts) k =
      ap₂ Trees.Cons (plug_same θ count h t k.0) (plug_same_all θ count h ts k.1)

abbrev scheme_of : List Bool → Tree → TypeScheme
scheme_of marks body = record { marks = marks; body = body }

abbrev by_place : List ℕ → ℕ → Tree
by_place vs i = Tree.Bound (place_of i vs)

pub closed_same : (σ : TypeScheme) → IsClosed σ → canonical_scheme σ ≡ σ
closed_same σ h =
    let all = range_with_len 0 (length σ.marks) in
    ap (λ (vs : List ℕ). renumbered vs σ) h.ordered
    ∙ ap₂ scheme_of (marks_all σ.marks)
    (plug_same (by_place all) (length σ.marks) (λ i lt. ap Tree.Bound (place_is (length σ.marks) i lt)) σ.body h.body)

-- ---- names as they are

abbrev pub as_it_is : TyName → TyName
as_it_is n = n

symbol_same : (c : Symbol) → renamed_symbol as_it_is c ≡ c
symbol_same symbol.Arrow = refl
symbol_same (symbol.Record labels) = refl
symbol_same (symbol.Name name) = refl

mutual
  pub renamed_same : (t : Tree) → renamed as_it_is t ≡ t
  renamed_same (Tree.Bound i) = refl
  renamed_same (Tree.Free n) = refl
  renamed_same (Tree.Made c ts) = ap₂ Tree.Made (symbol_same c) (renamed_all_same ts)

  renamed_all_same : (ts : Trees) → renamed_all as_it_is ts ≡ ts
  renamed_all_same Trees.Nil = refl
  renamed_all_same (Trees.Cons t ts) = ap₂ Trees.Cons (renamed_same t) (renamed_all_same ts)
