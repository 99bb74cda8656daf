-- Where components lead is a list of components that lead down.
use Rattle.std.proofs.Common.{◌≡◌, ◌∙◌, ap, sym, refl, ℕ, Bool, true, false, List, [], ◌∷◌, ◌++◌, Some, None, append-nil, append_assoc}
use Rattle.std.specs.Prelude.{Option, Result, Ok, Err, All, if◌then◌else◌}
use Rattle.std.specs.Option.{option_and_then}
use Rattle.std.proofs.lemmas.List.Elements.{All-nil, All-cons}
use Rattle.path_anchors.specs.Names.{is_stay, is_up, all_but_last, above, stepped, walked}
use Rattle.path_anchors.specs.Laws.{LeadsDown}
use Rattle.path_anchors.proofs.Spelling.{Free, EachFree}

-- ---- tests that were passed

pub if_ok : {A E : Type 0} (b : Bool) (e : E) (r : Result A E) (v : A) → (if b then Err e else r) ≡ Ok v
    → (b ≡ false) × (r ≡ Ok v)
if_ok true e r v is = absurd cc
if_ok false e r v is = (refl, is)

pub if_some : {A : Type 0} (b : Bool) (o : Option A) (v : A) → (if b then o else None) ≡ Some v
    → (b ≡ true) × (o ≡ Some v)
if_some true o v is = (refl, is)
if_some false o v is = absurd cc

pub if_none : {A : Type 0} (b : Bool) (o : Option A) (v : A) → (if b then None else o) ≡ Some v
    → (b ≡ false) × (o ≡ Some v)
if_none true o v is = absurd cc
if_none false o v is = (refl, is)

-- ---- components that lead down, without slashes

abbrev pub Good : List (List ℕ) → Type 0
Good [] = Unit {0}
Good (part ∷ parts) = (LeadsDown part × Free part) × Good parts

pub Good-free : (parts : List (List ℕ)) → Good parts → EachFree parts
Good-free [] good = tt
Good-free (part ∷ parts) good = (good.0.1, Good-free parts good.1)

pub Good-append : (a b : List (List ℕ)) → Good a → Good b → Good (a ++ b)
Good-append [] b ga gb = gb
Good-append (part ∷ a) b ga gb = (ga.0, Good-append a b ga.1 gb)

Good-all_but_last : (parts : List (List ℕ)) → Good parts → Good (all_but_last parts)
Good-all_but_last [] good = tt
Good-all_but_last (part ∷ []) good = tt
Good-all_but_last (part ∷ next ∷ parts) good = (good.0, Good-all_but_last (next ∷ parts) good.1)

Good-above : (here there : List (List ℕ)) → Good here → above here ≡ Some there → Good there
Good-above [] there good is = absurd cc
Good-above (part ∷ here) there good is =
    let same : all_but_last (part ∷ here) ≡ there = cc in
    rw (← same) (Good-all_but_last (part ∷ here) good)

Good-stepped : (here there : List (List ℕ)) (part : List ℕ) (stay up : Bool) → is_stay part ≡ stay → is_up part ≡ up
    → Good here → Free part
    → (if stay then Some here else (if up then above here else Some (here ++ part ∷ []))) ≡ Some there → Good there
Good-stepped here there part true up a b good free is = let same : here ≡ there = cc in rw (← same) good
Good-stepped here there part false true a b good free is = Good-above here there good is
Good-stepped here there part false false a b good free is =
    let same : here ++ part ∷ [] ≡ there = cc in
    rw (← same) (Good-append here (part ∷ []) good ((record { stay = a; up = b }, free), tt))

pub Good-walked : (parts here there : List (List ℕ)) → Good here → EachFree parts → walked here parts ≡ Some there
    → Good there
Good-walked [] here there good free is = let same : here ≡ there = cc in rw (← same) good
Good-walked (part ∷ parts) here there good free is =
    by_step (λ next step. Good-walked parts next there step free.1) (stepped here part) refl is
  where
    by_step : ((next : List (List ℕ)) → Good next → walked next parts ≡ Some there → Good there)
        → (o : Option (List (List ℕ))) → stepped here part ≡ o
        → option_and_then (λ next. walked next parts) o ≡ Some there → Good there
    by_step rest None step so = absurd cc
    by_step rest (Some next) step so =
        rest next (Good-stepped here next part (is_stay part) (is_up part) refl refl good free.0 step) so

pub Good-down : (parts : List (List ℕ)) → Good parts → All LeadsDown parts
Good-down [] good = All-nil LeadsDown
Good-down (part ∷ parts) good = All-cons LeadsDown part parts good.0.0 (Good-down parts good.1)

-- components that lead down lead to themselves
pub walked-good : (parts here : List (List ℕ)) → Good parts → walked here parts ≡ Some (here ++ parts)
walked-good [] here good = ap Some (sym (append-nil here))
walked-good (part ∷ parts) here good =
    rw (good.0.0.stay, good.0.0.up) (walked-good parts (here ++ part ∷ []) good.1
    ∙ ap Some (append_assoc here (part ∷ []) parts))
