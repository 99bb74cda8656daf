-- What inference makes is well formed over the names that were known and those that it makes.
use Rattle.std.proofs.Common.{◌≡◌, ℕ, suc, ◌<◌, ◌≤◌, List, [], ◌∷◌, length, refl, sym, ap, ◌∙◌, subst, arith, Bool, true, false, ◌||◌, ◌&&◌, not, inl, inr}
use Rattle.std.specs.Prelude.{eqb, ltb}
use Rattle.std.specs.List.{list_any, list_all}
use Rattle.std.specs.Ordering.{is_lt}
use Rattle.std.proofs.lemmas.Bool.{eq-eqb, lt-ltb, ltb-true}
use Rattle.semantic_objects.specs.declared.name.Owner.{Owner}
use Rattle.semantic_objects.specs.declared.name.Owner.TheVariants as owner
use Rattle.semantic_objects.specs.declared.name.TyName.{TyName}
use Rattle.semantic_objects.specs.declared.symbol.Symbol.{Symbol}
use Rattle.semantic_objects.specs.declared.symbol.Symbol.TheVariants as symbol
use Rattle.semantic_objects.specs.Symbols.{same_symbol, AreRising}
use Rattle.semantic_objects.specs.Tables.{by_bytes}
use Rattle.semantic_objects.proofs.Same.{text_is, symbol_is, symbol_same}
use Rattle.unification.proofs.Walking.{either_way, or_either, or_left, or_right, and_left, and_right, and_both}
use Rattle.static_semantics.specs.Inferring.{Progress, Scope}
use Rattle.static_semantics.specs.DatatypeInference.{same_as_home}
use Rattle.static_semantics.specs.Holding.{AllItems}
use Rattle.inference_laws.specs.Nodes.{Nodes, basis_symbol, IsGood, Admits, IsOf, NumberedFrom, MayStand, Makes, below_number}
use Rattle.inference_laws.specs.WellFormed.{are_rising, well_formed, AreKnown, IsBetween, KnowsMore}
use Rattle.inference_laws.specs.Promises.{IsWellFormed, GivesWellFormed}
use Rattle.inference_laws.proofs.Both.{Join, ty_both, env_both, rows_both}
use Rattle.inference_laws.proofs.Making.{names_rise, numbered_rise}

-- ---- fewer tests

-- what is made of some nodes is made of more
pub of_more : (good : List ℕ → Bool) (q r : Nodes) (sc : Scope) (st : Progress) → ((c : Symbol) (k : ℕ) → q c k ≡ true
    → r c k ≡ true) → Admits good r → IsOf good sc st q → IsOf good sc st r
of_more good q r sc st f a h =
    let join : Join q q r = λ c k i j. f c k i in
    record {
      scope = record {
        admits = a;
        env = env_both q q r join sc.env h.scope.env h.scope.env;
        written = rows_both q q r join sc.written h.scope.written h.scope.written;
      };
      state = λ n. ty_both q q r join (st.types.stands n) (h.state n) (h.state n);
    }

-- ---- names that were made

abbrev with_made : (TyName → Bool) → List TyName → TyName → Bool
with_made known names n = known n || list_any (λ m. same_symbol (symbol.Name m) (symbol.Name n)) names

name_is : (m n : TyName) → same_symbol (symbol.Name m) (symbol.Name n) ≡ true → m ≡ n
name_is m n h = let e : symbol.Name m ≡ symbol.Name n = symbol_is (symbol.Name m) (symbol.Name n) h in cc

made_between : (home : List ℕ) (from : ℕ) (names : List TyName) (to : ℕ) → NumberedFrom home from names to
    → (n : TyName) → list_any (λ m. same_symbol (symbol.Name m) (symbol.Name n)) names ≡ true → IsBetween home from to n
made_between home from [] to h n e = absurd (cc)
made_between home from (name ∷ names) to h n e = or_either (same_symbol (symbol.Name name) (symbol.Name n))
    (list_any (λ m. same_symbol (symbol.Name m) (symbol.Name n)) names) e
    (λ i. subst (IsBetween home from to) (name_is name n i) (record {
      owner = h.0;
      from_on = let k : name.number ≡ from = h.1 in omega (arith, k);
      below = let k : name.number ≡ from = h.1 in
          let l : suc from ≤ to = numbered_rise home (suc from) names to h.2 in omega (arith, k, l);
    }))
    (λ i. let b : IsBetween home (suc from) to n = made_between home (suc from) names to h.2 n i in record {
      owner = b.owner;
      from_on = let k : suc from ≤ n.number = b.from_on in omega (arith, k);
      below = b.below;
    })

-- of two names that were made with one number both are one
made_one : (home : List ℕ) (from : ℕ) (names : List TyName) (to : ℕ) → NumberedFrom home from names to
    → (m n : TyName) → list_any (λ x. same_symbol (symbol.Name x) (symbol.Name m)) names ≡ true
    → list_any (λ x. same_symbol (symbol.Name x) (symbol.Name n)) names ≡ true → m.number ≡ n.number → m ≡ n
made_one home from [] to h m n i j e = absurd (cc)
made_one home from (name ∷ names) to h m n i j e =
    let at : name.number ≡ from = h.1 in
    or_either (same_symbol (symbol.Name name) (symbol.Name m))
    (list_any (λ x. same_symbol (symbol.Name x) (symbol.Name m)) names) i
    (λ a. or_either (same_symbol (symbol.Name name) (symbol.Name n))
    (list_any (λ x. same_symbol (symbol.Name x) (symbol.Name n)) names) j
    (λ b. sym (name_is name m a) ∙ name_is name n b)
    (λ b. let l : suc from ≤ n.number = (made_between home (suc from) names to h.2 n b).from_on in
    let k : name.number ≡ m.number = ap (λ (z : TyName). z.number) (name_is name m a) in
    absurd (omega (arith, at, e, l, k))))
    (λ a. or_either (same_symbol (symbol.Name name) (symbol.Name n))
    (list_any (λ x. same_symbol (symbol.Name x) (symbol.Name n)) names) j
    (λ b. let l : suc from ≤ m.number = (made_between home (suc from) names to h.2 m a).from_on in
    let k : name.number ≡ n.number = ap (λ (z : TyName). z.number) (name_is name n b) in
    absurd (omega (arith, at, e, l, k)))
    (λ b. made_one home (suc from) names to h.2 m n a b e))

-- what is known with them
knows_more : (home : List ℕ) (from to : ℕ) (known : TyName → Bool) (names : List TyName) → AreKnown home from known
    → NumberedFrom home from names to → from ≤ to → KnowsMore home from to known (with_made known names)
knows_more home from to known names h k l =
    let made : TyName → Bool = λ n. list_any (λ m. same_symbol (symbol.Name m) (symbol.Name n)) names in
    record {
      kept = λ n e. or_left (known n) (made n) e;
      new = λ n e. or_either (known n) (made n) e (λ i. inl i) (λ i. inr (made_between home from names to k n i));
      all = record {
        one = λ m n i j o e. or_either (known m) (made m) i
            (λ a. or_either (known n) (made n) j
            (λ b. h.one m n a b o e)
            (λ b. let c : IsBetween home from to n = made_between home from names to k n b in
            let x : m.number < from = h.below m a (o ∙ c.owner) in
            let y : from ≤ n.number = c.from_on in
            absurd (omega (arith, x, y, e))))
            (λ a. or_either (known n) (made n) j
            (λ b. let c : IsBetween home from to m = made_between home from names to k m a in
            let x : n.number < from = h.below n b (sym o ∙ c.owner) in
            let y : from ≤ m.number = c.from_on in
            absurd (omega (arith, x, y, e)))
            (λ b. made_one home from names to k m n a b e));
        below = λ n i o. or_either (known n) (made n) i
            (λ a. let x : n.number < from = h.below n a o in omega (arith, x, l))
            (λ a. (made_between home from names to k n a).below);
      };
    }

may_stand : (good : List ℕ → Bool) (later : TyName → Bool) (names : List TyName) → ((n : TyName)
    → list_any (λ m. same_symbol (symbol.Name m) (symbol.Name n)) names ≡ true → later n ≡ true)
    → AllItems (MayStand (well_formed good later)) names
may_stand good later [] h = tt
may_stand good later (name ∷ names) h = (
  and_both (eqb name.arity name.arity) (later name) (eq-eqb name.arity name.arity refl)
      (h name (or_left (same_symbol (symbol.Name name) (symbol.Name name))
      (list_any (λ m. same_symbol (symbol.Name m) (symbol.Name name)) names) (symbol_same (symbol.Name name)))),
  may_stand good later names (λ n i. h n (or_right (same_symbol (symbol.Name name) (symbol.Name n))
      (list_any (λ m. same_symbol (symbol.Name m) (symbol.Name n)) names) i)),
)

-- ---- well-formed nodes

rising_are : (labels : List (List ℕ)) → AreRising labels → are_rising labels ≡ true
rising_are [] h = refl
rising_are (label ∷ []) h = refl
rising_are (label ∷ next ∷ rest) h = and_both (is_lt (by_bytes label next)) (are_rising (next ∷ rest))
    (ap is_lt h.0) (rising_are (next ∷ rest) h.1)

all_good : (good : List ℕ → Bool) (labels : List (List ℕ)) → AllItems (IsGood good) labels
    → list_all good labels ≡ true
all_good good [] h = refl
all_good good (label ∷ labels) h = and_both (good label) (list_all good labels) h.0 (all_good good labels h.1)

well_records : (good : List ℕ → Bool) (known : TyName → Bool) (labels : List (List ℕ)) → AreRising labels
    → AllItems (IsGood good) labels → well_formed good known (symbol.Record labels) (length labels) ≡ true
well_records good known labels h k = and_both (eqb (length labels) (length labels))
    (are_rising labels && list_all good labels) (eq-eqb (length labels) (length labels) refl)
    (and_both (are_rising labels) (list_all good labels) (rising_are labels h) (all_good good labels k))

-- more names are known
more_known : (good : List ℕ → Bool) (known later : TyName → Bool) → ((n : TyName) → known n ≡ true → later n ≡ true)
    → (c : Symbol) (k : ℕ) → well_formed good known c k ≡ true → well_formed good later c k ≡ true
more_known good known later f symbol.Arrow k h = h
more_known good known later f (symbol.Record labels) k h = h
more_known good known later f (symbol.Name name) k h = and_both (eqb k name.arity) (later name)
    (and_left (eqb k name.arity) (known name) h) (f name (and_right (eqb k name.arity) (known name) h))

more_admits : (good : List ℕ → Bool) (known later : TyName → Bool) → ((n : TyName) → known n ≡ true → later n ≡ true)
    → Admits good (well_formed good known) → Admits good (well_formed good later)
more_admits good known later f h = record {
  arrow = refl;
  records = well_records good later;
  int = more_known good known later f (basis_symbol 0 true) 0 h.int;
  string = more_known good known later f (basis_symbol 2 true) 0 h.string;
  char = more_known good known later f (basis_symbol 3 true) 0 h.char;
  exn = more_known good known later f (basis_symbol 7 false) 0 h.exn;
}

-- ---- names below the next number

owner_is : (home : List ℕ) (o : Owner) → same_as_home home o ≡ true → o ≡ owner.«Unit» home
owner_is home owner.Basis h = absurd (cc)
owner_is home (owner.«Unit» unit) h = ap owner.«Unit» (sym (text_is home unit h))
owner_is home owner.Bound h = absurd (cc)

known_below : (good : List ℕ → Bool) (home : List ℕ) (next : ℕ) (known : TyName → Bool) → AreKnown home next known
    → (c : Symbol) (k : ℕ) → well_formed good known c k ≡ true → below_number home next c k ≡ true
known_below good home next known h symbol.Arrow k e = refl
known_below good home next known h (symbol.Record labels) k e = refl
known_below good home next known h (symbol.Name name) k e = either_way (same_as_home home name.owner)
    (λ i. or_right (not (same_as_home home name.owner)) (ltb name.number next)
    (lt-ltb name.number next
    (h.below name (and_right (eqb k name.arity) (known name) e) (owner_is home name.owner i))))
    (λ i. or_left (not (same_as_home home name.owner)) (ltb name.number next) (ap not i))

pub below_admits : (good : List ℕ → Bool) (home : List ℕ) (next : ℕ) → Admits good (below_number home next)
below_admits good home next = record {
  arrow = refl;
  records = λ labels h k. refl;
  int = refl;
  string = refl;
  char = refl;
  exn = refl;
}

pub below_next : (good : List ℕ → Bool) (known : TyName → Bool) (sc : Scope) (st : Progress)
    → IsWellFormed good known sc st → IsOf good sc st (below_number sc.home st.names)
below_next good known sc st h = of_more good (well_formed good known) (below_number sc.home st.names) sc st
    (known_below good sc.home st.names known h.0) (below_admits good sc.home st.names) h.1

-- .. or below a later one
less_more : (home : List ℕ) (k m : ℕ) → k ≤ m → (c : Symbol) (parts : ℕ) → below_number home k c parts ≡ true
    → below_number home m c parts ≡ true
less_more home k m l symbol.Arrow parts e = refl
less_more home k m l (symbol.Record labels) parts e = refl
less_more home k m l (symbol.Name name) parts e = or_either (not (same_as_home home name.owner)) (ltb name.number k) e
    (λ i. or_left (not (same_as_home home name.owner)) (ltb name.number m) i)
    (λ i. or_right (not (same_as_home home name.owner)) (ltb name.number m) (lt-ltb name.number m
    (let j : name.number < k = ltb-true name.number k i in omega (arith, j, l))))

pub ready_below : (good : List ℕ → Bool) (sc : Scope) (st : Progress) → IsOf good sc st (below_number sc.home st.names)
    → (m : ℕ) → st.names ≤ m → IsOf good sc st (below_number sc.home m)
ready_below good sc st h m l = of_more good (below_number sc.home st.names) (below_number sc.home m) sc st
    (less_more sc.home st.names m l) (below_admits good sc.home m) h

-- ---- what is made

pub gives_well_formed : (good : List ℕ → Bool) (known : TyName → Bool) (sc : Scope) (st u : Progress)
    (Of : Nodes → Type 0) → IsWellFormed good known sc st → Makes sc.home (IsOf good sc st) st u Of
    → GivesWellFormed good sc.home known st u Of
gives_well_formed good known sc st u Of h k =
    let rises : st.names ≤ u.names = names_rise k in
    let later : TyName → Bool = with_made known k.names in
    let more : KnowsMore sc.home st.names u.names known later =
    knows_more sc.home st.names u.names known k.names h.0 k.numbered rises in
    record {
      rises = rises;
      later = later;
      more = more;
      of = k.holds (well_formed good later)
          (of_more good (well_formed good known) (well_formed good later) sc st
          (more_known good known later more.kept) (more_admits good known later more.kept h.1.scope.admits) h.1)
          (may_stand good later k.names (λ n i. or_right (known n)
          (list_any (λ m. same_symbol (symbol.Name m) (symbol.Name n)) k.names) i));
    }
