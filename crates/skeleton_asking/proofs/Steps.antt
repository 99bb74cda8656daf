-- The steps of the asking, one unit after the other.
use Rattle.std.proofs.Common.{◌≡◌, ◌∙◌, sym, ap, subst, refl, ℕ, suc, ◌+◌, ◌<◌, ◌≤◌, List, [], ◌∷◌, ◌++◌, append-nil, append_assoc, length, drop, get_or, None, add-one, drop-cons}
use Rattle.std.specs.Prelude.{Result, Ok, Err, IsErrAnd}
use Rattle.std.proofs.lemmas.List.{drop_all}
use Rattle.cm_base.specs.declared.diag.Diag.{Diag}
use Rattle.cm_base.specs.declared.record.Skeleton.{Skeleton}
use Rattle.cm_base.specs.Fronts.{GrowsUpTo}
use Rattle.cm_base.proofs.FrontLemmas.{grows_more, grows_after}
use Rattle.cm_description.specs.declared.loaded.Unit.{Unit as ProjectUnit}
use Rattle.cm_description.specs.declared.loaded.UnitBody.{UnitBody}
use Rattle.skeleton_asking.specs.Answers.{FindsAll, FindsOne}
use Rattle.skeleton_asking.specs.Skeletons.{Answer, Skeletons, skeletons_by, then_skeletons}
use Rattle.skeleton_asking.specs.declared.fault.PlanFault.{PlanFault}
use Rattle.skeleton_asking.specs.declared.fault.PlanFault.TheVariants as fault

-- how the name and the body of a unit are answered
abbrev pub Answering : Type 0
Answering = List ℕ → UnitBody → Answer

-- what was found and asked before, and the rest, are all that is found and asked
pub record Continues (before : List Skeleton) (old now : List (List ℕ)) (rest all : Skeletons) : Type 0 where
  pub found : before ++ rest.found ≡ all.found
  pub ended : rest.ended ≡ all.ended
  pub some : List (List ℕ)
  pub grew : now ≡ old ++ some
  pub asked : some ++ rest.asked ≡ all.asked

-- before the first unit
pub none_before : (before : List Skeleton) (old : List (List ℕ)) (all : Skeletons) → before ≡ []
    → Continues before old old all all
none_before before old all is = record {
  found = ap (λ b. b ++ all.found) is;
  ended = refl;
  some = [];
  grew = sym (append-nil old);
  asked = refl;
}

-- the units that are left begin with the one whose turn it is
left_at : (units : List ProjectUnit) (i : ℕ) (unit : ProjectUnit) → i < length units → unit ≡ get_or units i unit
    → drop i units ≡ unit ∷ drop (i + 1) units
left_at units i unit lt is = drop-cons units i unit lt ∙ ap (λ u. u ∷ drop (suc i) units) (sym is)
    ∙ ap (λ n. unit ∷ drop n units) (sym (add-one i))

-- the units that are left begin with the unit of a turn
pub record IsTurn (units : List ProjectUnit) (i : ℕ) (unit : ProjectUnit) : Type 0 where
  pub within : i < length units
  pub is : unit ≡ get_or units i unit

-- the rest where the first of it is answered so
rest_at : (answering : Answering) (units : List ProjectUnit) (i : ℕ) (unit : ProjectUnit)
    (given : Result Skeleton Diag) → IsTurn units i unit → (answering unit.name unit.body).gives ≡ given
    → skeletons_by answering (drop i units)
    ≡ then_skeletons (answering unit.name unit.body).asked given (skeletons_by answering (drop (i + 1) units))
rest_at answering units i unit given turn is =
    ap (skeletons_by answering) (left_at units i unit turn.within turn.is)
    ∙ ap (λ a. then_skeletons (answering unit.name unit.body).asked a (skeletons_by answering (drop (i + 1) units))) is

-- one skeleton goes from the rest to those before it
continues_more : (before next : List Skeleton) (old now new asked : List (List ℕ))
    (skeleton : Skeleton) (rest whole all : Skeletons)
    → next ≡ before ++ skeleton ∷ [] → new ≡ now ++ asked → rest ≡ then_skeletons asked (Ok skeleton) whole
    → Continues before old now rest all → Continues next old new whole all
continues_more before next old now new asked skeleton rest whole all pushed grown is so = record {
  found = ap (λ n. n ++ whole.found) pushed ∙ append_assoc before (skeleton ∷ []) whole.found
      ∙ ap (λ r. before ++ r.found) (sym is) ∙ so.found;
  ended = ap (λ r. r.ended) (sym is) ∙ so.ended;
  some = so.some ++ asked;
  grew = grown ∙ ap (λ n. n ++ asked) so.grew ∙ append_assoc old so.some asked;
  asked = append_assoc so.some asked whole.asked ∙ ap (λ r. so.some ++ r.asked) (sym is) ∙ so.asked;
}

-- a unit's skeleton was found
pub one_found : (answering : Answering) (units : List ProjectUnit) (i : ℕ) (unit : ProjectUnit) (skeleton : Skeleton)
    (before next : List Skeleton) (old now new : List (List ℕ)) (all : Skeletons) → IsTurn units i unit
    → FindsOne (Ok skeleton) (answering unit.name unit.body) now new → next ≡ before ++ skeleton ∷ []
    → Continues before old now (skeletons_by answering (drop i units)) all
    → Continues next old new (skeletons_by answering (drop (i + 1) units)) all
one_found answering units i unit skeleton before next old now new all turn finds pushed so =
    continues_more before next old now new (answering unit.name unit.body).asked skeleton
    (skeletons_by answering (drop i units)) (skeletons_by answering (drop (i + 1) units)) all pushed finds.asks
    (rest_at answering units i unit (Ok skeleton) turn finds.gives) so

-- what is asked of the compiler begins with what is asked for the unit
asked_first : (asked : List (List ℕ)) (answer : Result Skeleton Diag) (rest : Skeletons)
    → (more : List (List ℕ)) × ((then_skeletons asked answer rest).asked ≡ asked ++ more)
asked_first asked (Ok skeleton) rest = (rest.asked, refl)
asked_first asked (Err diag) rest = ([], sym (append-nil asked))

-- a unit's turn was cut off
cut_off : (answering : Answering) (units : List ProjectUnit) (i : ℕ) (unit : ProjectUnit) (before : List Skeleton)
    (old now new : List (List ℕ)) (all : Skeletons) → IsTurn units i unit
    → GrowsUpTo now new (answering unit.name unit.body).asked
    → Continues before old now (skeletons_by answering (drop i units)) all → GrowsUpTo old new all.asked
cut_off answering units i unit before old now new all turn grown so =
    let answer = answering unit.name unit.body in
    let rest = skeletons_by answering (drop i units) in
    let first = asked_first answer.asked answer.gives (skeletons_by answering (drop (i + 1) units)) in
    let is : rest.asked ≡ answer.asked ++ first.0 =
    ap (λ r. r.asked) (rest_at answering units i unit answer.gives turn refl) ∙ first.1 in
    grows_after old now new so.some (answer.asked ++ first.0) all.asked
    (ap (λ l. so.some ++ l) (sym is) ∙ so.asked) so.grew
    (grows_more now new answer.asked first.0 (answer.asked ++ first.0) refl grown)

-- a unit that is refused or cut off ends the asking
pub one_stops : (e : PlanFault) (answering : Answering) (units : List ProjectUnit) (i : ℕ) (unit : ProjectUnit)
    (before : List Skeleton) (old now new : List (List ℕ)) (all : Skeletons) → IsTurn units i unit
    → FindsOne (Err e) (answering unit.name unit.body) now new
    → Continues before old now (skeletons_by answering (drop i units)) all → FindsAll (Err e) all old new
one_stops (fault.Diag diag) answering units i unit before old now new all turn finds so =
    let asked = (answering unit.name unit.body).asked in
    let rest = rest_at answering units i unit (Err diag) turn finds.gives in
    record {
      gives = sym so.ended ∙ ap (λ r. r.ended) rest;
      asks = finds.asks ∙ ap (λ n. n ++ asked) so.grew ∙ append_assoc old so.some asked
          ∙ ap (λ l. old ++ l) (ap (λ r. so.some ++ r.asked) (sym rest) ∙ so.asked);
    }
one_stops fault.Folder answering units i unit before old now new all turn finds so =
    record { gives = tt; asks = cut_off answering units i unit before old now new all turn finds.asks so }
one_stops fault.NoMemory answering units i unit before old now new all turn finds so =
    record { gives = tt; asks = cut_off answering units i unit before old now new all turn finds.asks so }

-- no memory is left for the skeleton that was found
pub one_lost : (answering : Answering) (units : List ProjectUnit) (i : ℕ) (unit : ProjectUnit) (skeleton : Skeleton)
    (before : List Skeleton) (old now new : List (List ℕ)) (all : Skeletons) → IsTurn units i unit
    → FindsOne (Ok skeleton) (answering unit.name unit.body) now new
    → Continues before old now (skeletons_by answering (drop i units)) all → FindsAll (Err fault.NoMemory) all old new
one_lost answering units i unit skeleton before old now new all turn finds so =
    let whole = skeletons_by answering (drop (i + 1) units) in
    let more =
    one_found answering units i unit skeleton before (before ++ skeleton ∷ []) old now new all turn finds refl so in
    record { gives = tt; asks = (more.some, more.grew, (whole.asked, more.asked)) }

-- after the last unit all is found
pub all_found : (answering : Answering) (units : List ProjectUnit) (i : ℕ) (before : List Skeleton)
    (old now : List (List ℕ)) (all : Skeletons) → length units ≤ i
    → Continues before old now (skeletons_by answering (drop i units)) all → FindsAll (Ok before) all old now
all_found answering units i before old now all end so =
    let whole = subst (λ us. Continues before old now (skeletons_by answering us) all) (drop_all i units end) so in
    record {
      gives = (sym whole.found ∙ append-nil before, sym whole.ended);
      asks = whole.grew ∙ ap (λ l. old ++ l) (sym (append-nil whole.some) ∙ whole.asked);
    }

-- what holds of a fault holds of the answer that passes it on
pub passed : {A E : Type 0} (r : Result A E) (e : E) (P : Result A E → Type 0) → IsErrAnd r (λ y. y ≡ e)
    → P (Err e) → P r
passed (Ok value) e P is holds = absurd is
passed (Err y) e P is holds = subst (λ y. P (Err y)) (sym is) holds
