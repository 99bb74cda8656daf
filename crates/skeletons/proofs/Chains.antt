-- Steps of a walk one after another.
use Rattle.std.proofs.Common.{◌≡◌, ◌∙◌, sym, ap, ap₂, refl, ℕ, ◌+◌, ◌-◌, Bool, true, false, ◌||◌, List, [], ◌∷◌, ◌++◌, Option, append_assoc, append-nil, take, length, length-append, arith}
use Rattle.std.specs.Prelude.{Result, Ok, Err, OnOk}
use Rattle.cm_base.specs.declared.record.ModName.{ModName}
use Rattle.cm_base.specs.declared.record.Need.{Need}
use Rattle.skeletons.specs.declared.walk.Walk.{Walk}
use Rattle.skeletons.specs.declared.walk.Mark.{Mark}
use Rattle.skeletons.specs.Scopes.{Uses, Brings, both, within, hiding, after}
use Rattle.skeletons.specs.Counting.{hide_at}
use Rattle.skeletons.specs.Walks.{scope_of, noted, declared, closed, shut}
use Rattle.skeletons.proofs.Counts.{take_front, hide_middle}

-- two openings one after the other
pub or_swap : (rest first before : Bool) → rest || (first || before) ≡ (first || rest) || before
or_swap true true before = refl
or_swap true false before = refl
or_swap false true before = refl
or_swap false false before = refl

pub or_false : (b : Bool) → b || false ≡ b
or_false true = refl
or_false false = refl

-- the uses of two phrases
pub noted_both : (walk : Walk) (first next : Uses) → noted (noted walk first) next ≡ noted walk (both first next)
noted_both walk first next =
    ap (λ (uses : List Need). record { names = walk.names; opened = walk.opened; uses = uses })
    (append_assoc walk.uses (first (scope_of walk)) (next (scope_of walk)))

-- the scope that a walk is in, to come back to
abbrev pub mark_of : Walk → Mark
mark_of walk = record { names = length walk.names; opened = walk.opened }

-- a walk that is back from a declaration
pub closed_declared : (walk : Walk) (dec : Brings) → closed (declared walk dec) (mark_of walk) ≡ noted walk dec.uses
closed_declared walk dec =
    ap (λ (names : List (Option ModName)). record {
      names = names;
      opened = walk.opened;
      uses = walk.uses ++ dec.uses (scope_of walk);
    }) (take_front walk.names dec.binds)

-- a walk that is back from a phrase in the scope of a declaration
pub closed_within : (walk : Walk) (dec : Brings) (phrase : Uses)
    → closed (noted (declared walk dec) phrase) (mark_of walk) ≡ noted walk (within dec phrase)
closed_within walk dec phrase =
    ap₂ (λ (names : List (Option ModName)) (uses : List Need). record { names = names; opened = walk.opened; uses = uses })
    (take_front walk.names dec.binds)
    (append_assoc walk.uses (dec.uses (scope_of walk)) (phrase (after (scope_of walk) dec)))

-- a walk after a `local`
pub shut_local : (walk : Walk) (first dec : Brings)
    → shut (declared (declared walk first) dec) (mark_of walk) (mark_of (declared walk first)) dec.opens
    ≡ declared walk (hiding first dec)
shut_local walk first dec =
    let count : length (walk.names ++ first.binds) - length walk.names ≡ length first.binds =
    let long = length-append walk.names first.binds in omega arith in
    ap₂ (λ (names : List (Option ModName)) (uses : List Need). record {
      names = names;
      opened = dec.opens || walk.opened;
      uses = uses;
    })
    (ap₂ (hide_at (length walk.names)) count (append_assoc walk.names first.binds dec.binds)
    ∙ hide_middle walk.names first.binds dec.binds)
    (append_assoc walk.uses (first.uses (scope_of walk)) (dec.uses (after (scope_of walk) first)))

pub ruleset chains =
    (append_assoc, append-nil, take_front, or_swap, or_false, noted_both, closed_declared, closed_within, shut_local, length-append)

-- what follows from an answer
pub then_ok : {A E : Type 0} (r : Result A E) (P Q : Type 0) → (P → Q) → OnOk r P → OnOk r Q
then_ok (Ok a) P Q f h = f h
then_ok (Err e) P Q f h = tt
