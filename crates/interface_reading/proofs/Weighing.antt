-- Less is left to be done where bytes were taken.
use Rattle.std.proofs.Common.{◌≡◌, ℕ, ◌+◌, ◌<◌, ◌≤◌, refl, sym, ap, subst, List, [], ◌∷◌, ◌++◌, length, take, drop, Bool, true, false, cond, ltb, Option, Some, None, arith}
use Rattle.std.specs.Prelude.{Result, Ok, Err, IfOk}
use Rattle.std.proofs.lemmas.Bool.{ltb-false}
use Rattle.std.proofs.lemmas.List.{length-drop}
use Rattle.cm_bytes.specs.Fields.{byte_at, raw_at, u32_at}
use Rattle.cm_bytes.proofs.Fields.{some_is}
use Rattle.interface_reading.specs.declared.fault.RestoreFault.{RestoreFault}
use Rattle.interface_reading.specs.declared.needs.Need.{Need}
use Rattle.interface_reading.specs.Weights.{needs_weight, IsLighter}
use Rattle.interface_reading.proofs.Opens.{needs_snoc}

guard_taken : {A : Type 0} (n : ℕ) (x y : A) (bytes rest : List ℕ) (b : Bool) → ltb (length bytes) n ≡ b
    → cond {A = Option (A × List ℕ)} b None (Some (x, drop n bytes)) ≡ Some (y, rest)
    → length rest + n ≤ length bytes
guard_taken n x y bytes rest true is e = absurd (cc)
guard_taken n x y bytes rest false is e =
    let long : n ≤ length bytes = ltb-false (length bytes) n is in
    subst (λ (p : _ × List ℕ). length p.1 + n ≤ length bytes) (some_is (x, drop n bytes) (y, rest) e)
    (omega (arith, long, length-drop n bytes))

pub raw_taken : (n : ℕ) (bytes text rest : List ℕ) → raw_at n bytes ≡ Some (text, rest)
    → length rest + n ≤ length bytes
unfolding raw_at
raw_taken n bytes text rest e = guard_taken n (take n bytes) text bytes rest (ltb (length bytes) n) refl e

pub u32_taken : (bytes : List ℕ) (n : ℕ) (rest : List ℕ) → u32_at bytes ≡ Some (n, rest)
    → length rest + 4 ≤ length bytes
unfolding u32_at
u32_taken bytes n rest e = guard_taken 4 _ n bytes rest (ltb (length bytes) 4) refl e

pub byte_taken : (bytes : List ℕ) (b : ℕ) (rest : List ℕ) → byte_at bytes ≡ Some (b, rest) → bytes ≡ b ∷ rest
unfolding byte_at
byte_taken [] b rest e = absurd (cc)
byte_taken (x ∷ bytes) b rest e =
    ap (λ (p : ℕ × List ℕ). p.0 ∷ p.1) (some_is (x, bytes) (b, rest) e)

pub byte_none : (bytes : List ℕ) → byte_at bytes ≡ None → bytes ≡ []
unfolding byte_at
byte_none [] e = refl
byte_none (x ∷ bytes) e = absurd (cc)

-- one need more, of a small weight
pub one_lighter : (first n : Need) (bytes rest : List ℕ) (needs others : List Need) → others ≡ needs ++ n ∷ []
    → length rest + 1 ≤ length bytes → needs_weight (n ∷ []) ≤ 17179869184
    → IsLighter first bytes needs rest others
one_lighter first n bytes rest needs others e fewer small =
    subst (λ z. IsLighter first bytes needs rest z) (sym e)
    (let a = needs_snoc needs n in omega (arith, a, fewer, small))

-- what is awaited behind a tag is little
pub few_needs : (r : Result (List Need) RestoreFault) (needs : List Need) → IfOk r (λ list. list ≡ needs)
    → needs_weight needs < 64 → IfOk r (λ list. needs_weight list < 64)
few_needs (Ok list) needs e lt = subst (λ (z : List Need). needs_weight z < 64) (sym e) lt
few_needs (Err f) needs e lt = tt
