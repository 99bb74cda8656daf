use Rattle.std.proofs.Common.{◌≡◌, ◌+◌, ◌-◌, ◌<◌, ◌≤◌, ℕ, List, length, true, false, arith, refl, sym, ap, subst, ◌∙◌, inl, inr}
use Rattle.std.specs.Ordering.{is_lt, nat_cmp}
use Rattle.std.specs.Cmp.Lexicographic.{slice_cmp, nat_list_cmp_total}
use Rattle.std.specs.declared.cmp.Ordering.{Ordering}
use Rattle.std.specs.declared.cmp.Ordering.TheVariants.{Less, Equal, Greater}
use Rattle.std.proofs.lemmas.Bool.{cases_lt, cases_eq}
use Rattle.std.proofs.lemmas.Cmp.{tied_itself}
use Rattle.dependency_graph.specs.Order.{name_of, AllDiffer}
use Rattle.project_cases.proofs.graphs.all_rise.Goals as goal

-- what tests as less is less
is_less : (o : Ordering) → is_lt o ≡ true → o ≡ Less
is_less Less e = refl
is_less Equal e = cc
is_less Greater e = cc

-- the names up to one more unit rise
rise_more : (names : List (List ℕ)) (n : ℕ) → 1 ≤ n →
    ((a b : ℕ) → a < b → b < n → is_lt (slice_cmp nat_cmp (name_of names a) (name_of names b)) ≡ true) →
    is_lt (slice_cmp nat_cmp (name_of names (n - 1)) (name_of names n)) ≡ true →
    (a b : ℕ) → a < b → b < n + 1 → is_lt (slice_cmp nat_cmp (name_of names a) (name_of names b)) ≡ true
rise_more names n some before last a b less within =
    elim (cases_lt b n) [
      | inl early ↦ before a b less early
      | inr late ↦
          let same : b ≡ n = omega arith in
          subst (λ k. is_lt (slice_cmp nat_cmp (name_of names a) (name_of names k)) ≡ true) (sym same)
          (elim (cases_eq a (n - 1)) [
            | inl at ↦ subst (λ k. is_lt (slice_cmp nat_cmp (name_of names k) (name_of names n)) ≡ true) (sym at) last
            | inr apart ↦
                ap is_lt
                (nat_list_cmp_total.trans (name_of names a) (name_of names (n - 1)) (name_of names n)
                (is_less (slice_cmp nat_cmp (name_of names a) (name_of names (n - 1)))
                (before a (n - 1) (omega arith) (omega arith)))
                (is_less (slice_cmp nat_cmp (name_of names (n - 1)) (name_of names n)) last))
          ])
    ]

-- a name isn't before an equal one
clash : (x y : List ℕ) → x ≡ y → is_lt (slice_cmp nat_cmp x y) ≡ true → ⊥
clash x y same less =
    let e : true ≡ false =
    sym less ∙ ap (λ z. is_lt (slice_cmp nat_cmp z y)) same ∙ ap is_lt (tied_itself nat_list_cmp_total y) in
    cc

-- names that rise differ
rise_differ : (names : List (List ℕ)) (n : ℕ) → length names ≤ n →
    ((a b : ℕ) → a < b → b < n → is_lt (slice_cmp nat_cmp (name_of names a) (name_of names b)) ≡ true) →
    AllDiffer names
rise_differ names n all rise a b here there same =
    elim (cases_lt a b) [
      | inl less ↦ absurd (clash (name_of names a) (name_of names b) same (rise a b less (omega arith)))
      | inr more ↦
          elim (cases_eq a b) [
            | inl is ↦ is
            | inr apart ↦
                absurd (clash (name_of names b) (name_of names a) (sym same) (rise b a (omega arith) (omega arith)))
          ]
    ]

-- one more unit
pub loop-unit-preserved : goal.loop-unit-preserved
loop-unit-preserved c =
    rise_more c.args.names.now c.loop-unit.unit c.loop-unit.auto.unit c.loop-unit.invariant
    (sym c.is_before.ensures ∙ c.in-true.is)

-- all units
pub returns : goal.returns
returns c same =
    rise_differ c.args.names.now c.loop-unit.unit c.loop-unit-test.false c.loop-unit.invariant
