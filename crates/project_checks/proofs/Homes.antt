-- The homes of units, one unit after the other; and the lists of members, as they are dealt.
use Rattle.std.proofs.Common.{◌≡◌, ◌∙◌, ℕ, zero, suc, ◌+◌, ◌<◌, ◌≤◌, List, [], ◌∷◌, ◌++◌, length, map, take, get_or, refl, ap, sym, arith}
use Rattle.std.specs.List.{enumerate_from}
use Rattle.std.proofs.lemmas.List.{length-take-le, take_more}
use Rattle.cm_description.specs.declared.loaded.Unit.{Unit as LoadedUnit}
use Rattle.project_checks.specs.Assembly.{home_of, homes_of}
use Rattle.project_checks.specs.declared.progress.Membership.{Membership}

abbrev homes_from : ℕ → List LoadedUnit → List Membership
homes_from start units = map (λ (at : ℕ × LoadedUnit). home_of at.0 at.1) (enumerate_from start units)

from_push : (units : List LoadedUnit) (unit : LoadedUnit) (start : ℕ)
    → homes_from start (units ++ unit ∷ []) ≡ homes_from start units ++ home_of (start + length units) unit ∷ []
from_push [] unit start =
    let same : start ≡ start + 0 = omega arith in ap (λ (n : ℕ). home_of n unit ∷ []) same
from_push (first ∷ units) unit start =
    let same : start + 1 + length units ≡ start + suc (length units) = omega arith in
    ap (λ (ms : List Membership). home_of start first ∷ ms) (from_push units unit (start + 1)
    ∙ ap (λ (n : ℕ). homes_from (start + 1) units ++ home_of n unit ∷ []) same)

pub homes_more : (units : List LoadedUnit) (n : ℕ) (unit : LoadedUnit) (homes new : List Membership)
    → n < length units → get_or units n unit ≡ unit → homes ≡ homes_of (take n units)
    → new ≡ homes ++ home_of n unit ∷ [] → new ≡ homes_of (take (n + 1) units)
homes_more units n unit homes new inside here are pushed =
    let front : take (n + 1) units ≡ take n units ++ unit ∷ [] =
    take_more units n unit inside ∙ ap (λ (u : LoadedUnit). take n units ++ u ∷ []) here in
    let same : n ≡ 0 + length (take n units) =
    let long = length-take-le n units (omega arith) in omega (arith, long) in
    pushed
    ∙ ap (λ (ms : List Membership). ms ++ home_of n unit ∷ []) are
    ∙ ap (λ (k : ℕ). homes_of (take n units) ++ home_of k unit ∷ []) same
    ∙ sym (from_push (take n units) unit 0)
    ∙ ap homes_of (sym front)
