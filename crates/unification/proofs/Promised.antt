-- The laws, as the public functions of this crate state them.
use Rattle.std.proofs.Common.{◌≡◌, ℕ, zero, suc, ◌<◌, ◌≤◌, subst, arith, Bool, true, false, []}
use Rattle.std.specs.Prelude.{ltb}
use Rattle.std.proofs.lemmas.Bool.{ltb-true, ltb-false}
use Rattle.unification.specs.Types.{Ty, Substitution, occurs}
use Rattle.unification.specs.Closing.{is_among, found_in, held_below}
use Rattle.unification.specs.Promises.{GivesMostGeneral, DepthChangesNothing, TouchesOwnAlone, LeavesOthers, KeepsFit, CoversDecides, CanonicalKeepsInstances, ClosesTypes}
use Rattle.unification.proofs.Walking.{either_way, or_either, or_left, or_right}
use Rattle.unification.proofs.General.{most_general}
use Rattle.unification.proofs.Deeper.{as_deep}
use Rattle.unification.proofs.Untouched.{touches_two, type_untouched, holds_only}
use Rattle.unification.proofs.Covering.{covers_law}
use Rattle.unification.proofs.Canonical.{canonical_law}
use Rattle.unification.proofs.Closing.{found_same, found_all, found_only, closed_fits}
use Rattle.unification.proofs.Fitting.{fit_nothing, fit_unified, fit_variable, fit_instance, solves_before}

pub gives_most_general : GivesMostGeneral
gives_most_general = most_general

pub depth_changes_nothing : DepthChangesNothing
depth_changes_nothing = as_deep

pub touches_own_alone : TouchesOwnAlone
touches_own_alone = touches_two

pub leaves_others : LeavesOthers
leaves_others = record { types = type_untouched; variables = holds_only }

pub keeps_fit : KeepsFit
keeps_fit = record {
  first = fit_nothing;
  unified = fit_unified;
  variable = fit_variable;
  instantiated = fit_instance;
  solved = solves_before;
}

pub covers_decides : CoversDecides
covers_decides = covers_law

pub canonical_keeps_instances : CanonicalKeepsInstances
canonical_keeps_instances = canonical_law

-- ---- what is found in a type, and what is kept

only_wanted : (kept : ℕ → Bool) (t : Ty) (n : ℕ) → is_among n (found_in kept t []) ≡ true
    → (occurs n t ≡ true) × (kept n ≡ false)
only_wanted kept t = found_only (λ n. (occurs n t ≡ true) × (kept n ≡ false)) kept t [] (λ n e. absurd (cc))
    (λ n e free. (e, free))

-- a variable is held where it stands in what stands for an older one
held_by : (n : ℕ) (s : Substitution) (v : ℕ) → held_below n s v ≡ true → (w : ℕ) × (w < n) × (occurs v (s w) ≡ true)
held_by zero s v h = absurd (cc)
held_by (suc n) s v h = or_either (occurs v (s n)) (held_below n s v) h
    (λ e. (n, (omega arith), e))
    (λ e. let older = held_by n s v e in let below = older.1 in (older.0, (omega (arith, below)), older.2))

holds : (n : ℕ) (s : Substitution) (v w : ℕ) → w < n → occurs v (s w) ≡ true → held_below n s v ≡ true
holds zero s v w h e = absurd (omega (arith, h))
holds (suc n) s v w h e = either_way (ltb w n)
    (λ k. or_right (occurs v (s n)) (held_below n s v) (holds n s v w (ltb-true w n k) e))
    (λ k. let l : n ≤ w = ltb-false w n k in
    let same : w ≡ n = omega (arith, h, l) in
    or_left (occurs v (s n)) (held_below n s v) (subst (λ z. occurs v (s z) ≡ true) same e))

pub closes_types : ClosesTypes
closes_types = record {
  found = λ kept t n. (only_wanted kept t n, λ h. found_all kept n t [] h.0 h.1);
  same = λ p q t. found_same p q t [];
  fits = λ s vs t. closed_fits s vs s.marks t;
  held = λ n s v. (held_by n s v, λ h. holds n s v h.0 h.1 h.2);
}
