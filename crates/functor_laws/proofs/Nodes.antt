-- Which nodes stand outside functors, in the body of one, and in its result.
use Rattle.std.proofs.Common.{◌≡◌, ℕ, suc, ◌≤◌, List, [], ◌∷◌, refl, ap, ◌∙◌, arith, Bool, true, false, ◌||◌, ◌&&◌, not}
use Rattle.std.specs.Prelude.{ltb}
use Rattle.std.proofs.lemmas.Bool.{lt-ltb, ltb-true, le-ltb}
use Rattle.semantic_objects.proofs.Same.{text_same}
use Rattle.semantic_objects.specs.declared.name.Owner.TheVariants as owner
use Rattle.semantic_objects.specs.declared.name.TyName.{TyName}
use Rattle.semantic_objects.specs.declared.symbol.Symbol.TheVariants as symbol
use Rattle.unification.proofs.Walking.{or_left, or_right, or_either, and_left, and_right, and_both}
use Rattle.env_parts.specs.Types.{is_bound}
use Rattle.realisation.specs.Names.{is_listed}
use Rattle.realisation.specs.Canonical.{is_bound_name}
use Rattle.static_semantics.specs.Inferring.{Progress}
use Rattle.static_semantics.specs.DatatypeInference.{same_as_home}
use Rattle.static_semantics.specs.Holding.{AllItems}
use Rattle.inference_laws.specs.Nodes.{Nodes, Admits, NumberedFrom, MayStand, Makes, below_number}
use Rattle.inference_laws.proofs.Making.{numbered_rise}
use Rattle.unit_laws.proofs.Promised.{More}
use Rattle.functor_laws.specs.Promises.{open_below}
use Rattle.functor_laws.proofs.Pairs.{IsUnitFrom, comes_from}

-- ---- names of a unit

pub is_home : (home : List ℕ) (n : TyName) → n.owner ≡ owner.«Unit» home → same_as_home home n.owner ≡ true
is_home home n e = ap (same_as_home home) e ∙ text_same home

pub not_bound : (home : List ℕ) (n : TyName) → n.owner ≡ owner.«Unit» home → not (is_bound_name n) ≡ true
not_bound home n e = ap (λ z. not (is_bound z)) e

not_not : (b : Bool) → b ≡ true → not b ≡ true → ⊥
not_not true h k = absurd (cc)
not_not false h k = absurd (cc)

-- a name of the unit with a number below another one isn't below a lower one
pub not_below : (home : List ℕ) (k : ℕ) (n : TyName) → n.owner ≡ owner.«Unit» home → k ≤ n.number
    → (not (same_as_home home n.owner) || ltb n.number k) ≡ true → ⊥
not_below home k n e l h = or_either (not (same_as_home home n.owner)) (ltb n.number k) h
    (λ i. not_not (same_as_home home n.owner) (is_home home n e) i)
    (λ i. let j : suc n.number ≤ k = ltb-true n.number k i in absurd (omega (arith, j, l)))

-- ---- outside functors

open_name : (home : List ℕ) (k m : ℕ) → k ≤ m → (n : TyName) → (not (same_as_home home n.owner) || ltb n.number k) ≡ true
    → (not (same_as_home home n.owner) || ltb n.number m) ≡ true
open_name home k m l n h = or_either (not (same_as_home home n.owner)) (ltb n.number k) h
    (λ i. or_left (not (same_as_home home n.owner)) (ltb n.number m) i)
    (λ i. or_right (not (same_as_home home n.owner)) (ltb n.number m)
    (lt-ltb n.number m (let j : suc n.number ≤ k = ltb-true n.number k i in omega (arith, j, l))))

pub open_rises : (home : List ℕ) (k m : ℕ) → k ≤ m → More (open_below home k) (open_below home m)
open_rises home k m l symbol.Arrow parts h = refl
open_rises home k m l (symbol.Record labels) parts h = refl
open_rises home k m l (symbol.Name n) parts h =
    let below : Bool = not (same_as_home home n.owner) || ltb n.number k in
    and_both (not (is_bound_name n)) (not (same_as_home home n.owner) || ltb n.number m)
    (and_left (not (is_bound_name n)) below h) (open_name home k m l n (and_right (not (is_bound_name n)) below h))

pub open_is_below : (home : List ℕ) (k : ℕ) → More (open_below home k) (below_number home k)
open_is_below home k symbol.Arrow parts h = refl
open_is_below home k (symbol.Record labels) parts h = refl
open_is_below home k (symbol.Name n) parts h =
    and_right (not (is_bound_name n)) (not (same_as_home home n.owner) || ltb n.number k) h

pub open_admits : (good : List ℕ → Bool) (home : List ℕ) (k : ℕ) → Admits good (open_below home k)
open_admits good home k = record {
  arrow = refl;
  records = λ labels h l. refl;
  int = refl;
  string = refl;
  char = refl;
  exn = refl;
}

-- `From` holds where no bound name stands and the unit's names have numbers below a number, or below a later one
abbrev pub IsOpenFor : List ℕ → (Nodes → Type 0) → ℕ → Type 0
IsOpenFor home From k = (m : ℕ) → k ≤ m → From (open_below home m)

pub open_names : (home : List ℕ) (from : ℕ) (names : List TyName) (to m : ℕ) → NumberedFrom home from names to → to ≤ m
    → AllItems (MayStand (open_below home m)) names
open_names home from [] to m h l = tt
open_names home from (n ∷ names) to m h l = (
  and_both (not (is_bound_name n)) (not (same_as_home home n.owner) || ltb n.number m) (not_bound home n h.0)
      (or_right (not (same_as_home home n.owner)) (ltb n.number m) (lt-ltb n.number m
      (let k : suc from ≤ to = numbered_rise home (suc from) names to h.2 in
      let e : n.number ≡ from = h.1 in omega (arith, k, l, e)))),
  open_names home (suc from) names to m h.2 l,
)

pub open_after : {home : List ℕ} {From To Then : Nodes → Type 0} {st u : Progress} → IsOpenFor home From st.names
    → Makes home From st u To → ((q : Nodes) → From q → To q → Then q) → IsOpenFor home Then u.names
open_after {home = home} {st = st} {u = u} h k f m l =
    let p = h m (let i : st.names ≤ u.names = numbered_rise home st.names k.names u.names k.numbered in
    omega (arith, i, l)) in
    f (open_below home m) p
    (k.holds (open_below home m) p (open_names home st.names k.names u.names m k.numbered l))

-- ---- in the body of a functor

-- no bound name, and of the unit's: those before the parameter, those that stand for a bound name that occurs in the
-- parameter, and those after it
abbrev pub is_inside : List ℕ → ℕ → ℕ → List TyName → List TyName → List TyName → TyName → Bool
is_inside home before after bound opened names n =
    (not (same_as_home home n.owner) || ltb n.number before)
    || (comes_from bound opened names n || not (ltb n.number after))

abbrev pub inside_nodes : List ℕ → ℕ → ℕ → List TyName → List TyName → List TyName → Nodes
inside_nodes home before after bound opened names symbol.Arrow parts = true
inside_nodes home before after bound opened names (symbol.Record labels) parts = true
inside_nodes home before after bound opened names (symbol.Name n) parts =
    not (is_bound_name n) && is_inside home before after bound opened names n

module _ (home : List ℕ) (before after : ℕ) (bound opened names : List TyName) where
  pub inside_admits : (good : List ℕ → Bool) → Admits good (inside_nodes home before after bound opened names)
  inside_admits good = record {
    arrow = refl;
    records = λ labels h l. refl;
    int = refl;
    string = refl;
    char = refl;
    exn = refl;
  }

  pub open_inside : (k : ℕ) → k ≤ before
      → More (open_below home k) (inside_nodes home before after bound opened names)
  open_inside k l symbol.Arrow parts h = refl
  open_inside k l (symbol.Record labels) parts h = refl
  open_inside k l (symbol.Name n) parts h =
      let below : Bool = not (same_as_home home n.owner) || ltb n.number k in
      and_both (not (is_bound_name n)) (is_inside home before after bound opened names n)
      (and_left (not (is_bound_name n)) below h)
      (or_left (not (same_as_home home n.owner) || ltb n.number before)
      (comes_from bound opened names n || not (ltb n.number after))
      (open_name home k before l n (and_right (not (is_bound_name n)) below h)))

  -- a name of the unit
  unit_inside : (n : TyName) (parts : ℕ) → n.owner ≡ owner.«Unit» home
      → (comes_from bound opened names n || not (ltb n.number after)) ≡ true
      → inside_nodes home before after bound opened names (symbol.Name n) parts ≡ true
  unit_inside n parts e h = and_both (not (is_bound_name n)) (is_inside home before after bound opened names n)
      (not_bound home n e) (or_right (not (same_as_home home n.owner) || ltb n.number before)
      (comes_from bound opened names n || not (ltb n.number after)) h)

  pub coming_inside : (n : TyName) (parts : ℕ) → n.owner ≡ owner.«Unit» home → comes_from bound opened names n ≡ true
      → inside_nodes home before after bound opened names (symbol.Name n) parts ≡ true
  coming_inside n parts e h =
      unit_inside n parts e (or_left (comes_from bound opened names n) (not (ltb n.number after)) h)

  pub new_inside : (from : ℕ) (news : List TyName) (to : ℕ) → after ≤ from → NumberedFrom home from news to
      → AllItems (MayStand (inside_nodes home before after bound opened names)) news
  new_inside from [] to l h = tt
  new_inside from (n ∷ news) to l h = (
    unit_inside n n.arity h.0 (or_right (comes_from bound opened names n) (not (ltb n.number after))
        (ap not (le-ltb n.number after (let e : n.number ≡ from = h.1 in omega (arith, e, l))))),
    new_inside (suc from) news to (omega (arith, l)) h.2,
  )

  -- one of the parameter's names in the functor stands there for a name that occurs
  pub inside_comes : (n : TyName) (parts : ℕ) → IsUnitFrom home before after n
      → inside_nodes home before after bound opened names (symbol.Name n) parts ≡ true
      → comes_from bound opened names n ≡ true
  inside_comes n parts u h = or_either (not (same_as_home home n.owner) || ltb n.number before)
      (comes_from bound opened names n || not (ltb n.number after))
      (and_right (not (is_bound_name n)) (is_inside home before after bound opened names n) h)
      (λ i. absurd (not_below home before n u.owner u.from_on i))
      (λ i. or_either (comes_from bound opened names n) (not (ltb n.number after)) i (λ j. j)
      (λ j. absurd (not_not (ltb n.number after) (lt-ltb n.number after u.below) j)))

-- ---- in the result of a functor

-- of the names that it binds for its parameter, those that occur in the parameter
abbrev pub result_nodes : List TyName → List TyName → Nodes
result_nodes bound names symbol.Arrow parts = true
result_nodes bound names (symbol.Record labels) parts = true
result_nodes bound names (symbol.Name n) parts = not (is_bound_name n && is_listed n bound) || is_listed n names

not_left : (a b : Bool) → not a ≡ true → not (a && b) ≡ true
not_left true b h = absurd (cc)
not_left false b h = refl

not_right : (a b : Bool) → b ≡ false → not (a && b) ≡ true
not_right true true h = absurd (cc)
not_right true false h = refl
not_right false b h = refl

pub free_in_result : (bound names : List TyName) (n : TyName) (parts : ℕ) → not (is_bound_name n) ≡ true
    → result_nodes bound names (symbol.Name n) parts ≡ true
free_in_result bound names n parts h = or_left (not (is_bound_name n && is_listed n bound)) (is_listed n names)
    (not_left (is_bound_name n) (is_listed n bound) h)

pub other_in_result : (bound names : List TyName) (n : TyName) (parts : ℕ) → is_listed n bound ≡ false
    → result_nodes bound names (symbol.Name n) parts ≡ true
other_in_result bound names n parts h = or_left (not (is_bound_name n && is_listed n bound)) (is_listed n names)
    (not_right (is_bound_name n) (is_listed n bound) h)

pub listed_in_result : (bound names : List TyName) (n : TyName) (parts : ℕ) → is_listed n names ≡ true
    → result_nodes bound names (symbol.Name n) parts ≡ true
listed_in_result bound names n parts h =
    or_right (not (is_bound_name n && is_listed n bound)) (is_listed n names) h

pub result_listed : (bound names : List TyName) (n : TyName) (parts : ℕ)
    → result_nodes bound names (symbol.Name n) parts ≡ true → (is_bound_name n && is_listed n bound) ≡ true
    → is_listed n names ≡ true
result_listed bound names n parts h k = or_either (not (is_bound_name n && is_listed n bound)) (is_listed n names) h
    (λ i. absurd (not_not (is_bound_name n && is_listed n bound) k i)) (λ i. i)
