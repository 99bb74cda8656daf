-- What holds of what was loaded goes on to hold at each step.
use Rattle.std.proofs.Common.{◌≡◌, ◌⊎◌, ℕ, ◌+◌, ◌<◌, ◌≤◌, List, [], ◌∷◌, ◌++◌, length, length-append, inl, inr, ap, sym, subst, arith}
use Rattle.std.specs.Prelude.{All, Contains}
use Rattle.std.proofs.lemmas.List.Elements.{All-push, All-weaker, Contains-append_left, Contains-push, Contains-push_cases}
use Rattle.cm_description.specs.WellFormed.{StandsAt}
use Rattle.cm_description.specs.declared.loaded.Group.{Group}
use Rattle.cm_description.specs.declared.loaded.Unit.{Unit as LoadedUnit}
use Rattle.project_checks.specs.Loaded.{nothing, with_begun, with_finished, with_membership, with_unit}
use Rattle.project_checks.specs.Whole.{IsRead, IsSound, IsOpen, Descends, IsWhole}
use Rattle.project_checks.proofs.Places.{below_or, differ_push, stands_contained, stands_front, stands_here, stands_push}
use Rattle.project_checks.specs.declared.limits.TheConstants.{UNITS}
use Rattle.project_checks.specs.declared.progress.Membership.{Membership}
use Rattle.project_checks.specs.declared.progress.Progress.{Progress}

-- ---- the start

pub sound_nothing : IsSound nothing
sound_nothing = record {
  read = λ k d below. absurd (omega (arith, below));
  homes = λ k d below. absurd (omega (arith, below));
  holders = λ k d below. absurd (omega (arith, below));
  members = λ k d below. absurd (omega (arith, below));
  ended = λ k d below. absurd (omega (arith, below));
  once = λ i j x at other. absurd (cc);
  members_first = λ i membership has at. absurd (cc);
}

-- ---- steps

-- a group whose loading begins
pub sound_begun : (p : Progress) (group : Group) → IsSound p → IsRead group → IsSound (with_begun group p)
sound_begun p group sound read =
    let more : length (p.groups ++ group ∷ []) ≡ length p.groups + 1 = length-append p.groups (group ∷ []) in
    record {
      read = All-push IsRead p.groups group sound.read read;
      homes = All-weaker (λ (unit : LoadedUnit). unit.group < length p.groups)
          (λ (unit : LoadedUnit). unit.group < length (p.groups ++ group ∷ []))
          (λ unit below. omega (arith, below, more)) p.units sound.homes;
      holders = All-weaker (λ (membership : Membership). membership.group < length p.groups)
          (λ (membership : Membership). membership.group < length (p.groups ++ group ∷ []))
          (λ membership below. omega (arith, below, more)) p.memberships sound.holders;
      members = sound.members;
      ended = All-weaker (λ (number : ℕ). number < length p.groups)
          (λ (number : ℕ). number < length (p.groups ++ group ∷ []))
          (λ number below. omega (arith, below, more)) p.finished sound.ended;
      once = sound.once;
      members_first = sound.members_first;
    }

-- .. is open, as those before it are
pub open_begun : (p : Progress) (group : Group) → IsSound p → IsOpen (with_begun group p) (length p.groups)
open_begun p group sound = record {
  known = omega (arith, length-append p.groups (group ∷ []));
  goes_on = λ (has : Contains p.finished (length p.groups)).
      let below : length p.groups < length p.groups =
      subst (λ (number : ℕ). number < length p.groups) has.2 (sound.ended has.0 (length p.groups) has.1) in
      omega (arith, below);
}

-- a unit that is met
pub sound_unit : (p : Progress) (unit : LoadedUnit) (bytes : ℕ) → IsSound p → unit.group < length p.groups
    → IsSound (with_unit unit bytes p)
sound_unit p unit bytes sound known = record {
  read = sound.read;
  homes = All-push (λ (unit : LoadedUnit). unit.group < length p.groups) p.units unit sound.homes known;
  holders = sound.holders;
  members = sound.members;
  ended = sound.ended;
  once = sound.once;
  members_first = sound.members_first;
}

-- a group that is a member of an open one, and ended
pub sound_membership : (p : Progress) (group member : ℕ) → IsSound p → IsOpen p group → Contains p.finished member
    → IsSound (with_membership group member p)
sound_membership p group member sound going done =
    let joined : Membership = record { group = group; member = member } in
    record {
      read = sound.read;
      homes = sound.homes;
      holders = All-push (λ (membership : Membership). membership.group < length p.groups) p.memberships joined
          sound.holders going.known;
      members = All-push (λ (membership : Membership). Contains p.finished membership.member) p.memberships joined
          sound.members done;
      ended = sound.ended;
      once = sound.once;
      members_first = λ i membership has at.
          elim (Contains-push_cases p.memberships joined membership has) [
            | inl before ↦ sound.members_first i membership before at
            | inr new ↦ absurd (going.goes_on (stands_contained p.finished i group
                (subst (λ (m : Membership). StandsAt p.finished i m.group) (sym new) at)))
          ];
    }

-- a member that ended before stands there, also behind one more
sooner : (p : Progress) (number i : ℕ) (membership : Membership)
    → (j : ℕ) × (j < i) × StandsAt p.finished j membership.member
    → (j : ℕ) × (j < i) × StandsAt (p.finished ++ number ∷ []) j membership.member
sooner p number i membership first =
    (first.0, first.1, stands_front p.finished (number ∷ []) first.0 membership.member first.2)

member_stands : (xs : List ℕ) (number i member : ℕ) → i ≡ length xs → Contains xs member
    → (j : ℕ) × (j < i) × StandsAt (xs ++ number ∷ []) j member
member_stands xs number i member is has =
    let inside = has.1 in (
      has.0,
      omega (arith, inside, is),
      stands_front xs (number ∷ []) has.0 member (stands_here xs has.0 member has.1 has.2),
    )

-- the loading of an open group ends
pub sound_finished : (p : Progress) (number : ℕ) → IsSound p → IsOpen p number → IsSound (with_finished number p)
sound_finished p number sound going = record {
  read = sound.read;
  homes = sound.homes;
  holders = sound.holders;
  members = All-weaker (λ (membership : Membership). Contains p.finished membership.member)
      (λ (membership : Membership). Contains (p.finished ++ number ∷ []) membership.member)
      (λ membership done. Contains-append_left p.finished (number ∷ []) membership.member done) p.memberships
      sound.members;
  ended = All-push (λ (number : ℕ). number < length p.groups) p.finished number sound.ended going.known;
  once = differ_push p.finished number sound.once going.goes_on;
  members_first = λ i membership has at.
      elim (stands_push p.finished number i membership.group at) [
        | inl before ↦ sooner p number i membership (sound.members_first i membership has before)
        | inr last ↦ member_stands p.finished number i membership.member last.0
            (subst (λ (m : Membership). Contains p.finished m.member) has.2 (sound.members has.0 membership has.1))
      ];
}

-- ---- the way down

pub descends_same : (p q : Progress) → p.groups ≡ q.groups → p.finished ≡ q.finished → Descends p q
descends_same p q groups finished =
    let long : length p.groups ≡ length q.groups = ap length groups in
    record {
      grows = omega (arith, long);
      stays = λ number has. subst (λ (xs : List ℕ). Contains xs number) finished has;
      ended = λ number above below. absurd (omega (arith, above, below, long));
      others = λ number below has. subst (λ (xs : List ℕ). Contains xs number) (sym finished) has;
    }

-- two ways down, one after the other
pub descends_on : (p q r : Progress) → Descends p q → Descends q r → Descends p r
descends_on p q r one two =
    let grows = one.grows in let more = two.grows in
    record {
      grows = omega (arith, grows, more);
      stays = λ number has. two.stays number (one.stays number has);
      ended = λ number above below.
          elim (below_or number (length q.groups)) [
            | inl inside ↦ two.stays number (one.ended number above inside)
            | inr behind ↦ two.ended number behind below
          ];
      others = λ number below has. one.others number below (two.others number (omega (arith, grows, below)) has);
    }

-- a group that began is open when all its members were loaded
pub open_behind : (p q : Progress) (group : Group) → IsSound p → Descends (with_begun group p) q
    → IsOpen q (length p.groups)
open_behind p q group sound down =
    let grows = down.grows in
    let begun = open_begun p group sound in
    let known = begun.known in
    record {
      known = omega (arith, grows, known);
      goes_on = λ has. begun.goes_on (down.others (length p.groups) begun.known has);
    }

-- an open group stays open
pub open_stays : (p q : Progress) (number : ℕ) → IsOpen p number → Descends p q → IsOpen q number
open_stays p q number going down =
    let grows = down.grows in let known = going.known in
    record {
      known = omega (arith, grows, known);
      goes_on = λ has. going.goes_on (down.others number going.known has);
    }

-- a group with all that its members lead to
pub descends_group : (p q : Progress) (group : Group) → Descends (with_begun group p) q
    → Descends p (with_finished (length p.groups) q)
descends_group p q group down =
    let grows = down.grows in
    let more = length-append p.groups (group ∷ []) in
    record {
      grows = omega (arith, grows, more);
      stays = λ number has. Contains-append_left q.finished (length p.groups ∷ []) number (down.stays number has);
      ended = λ number above below.
          elim (below_or (length p.groups) number) [
            | inl behind ↦ Contains-append_left q.finished (length p.groups ∷ []) number
                (down.ended number (omega (arith, behind, more)) below)
            | inr at ↦ subst (Contains (q.finished ++ length p.groups ∷ [])) (omega (arith, above, at))
                (Contains-push q.finished (length p.groups))
          ];
      others = λ number below has.
          elim (Contains-push_cases q.finished (length p.groups) number has) [
            | inl before ↦ down.others number (omega (arith, below, more)) before
            | inr last ↦ absurd (omega (arith, last, below))
          ];
    }

-- .. is more than nothing
pub longer_group : (p q : Progress) (group : Group) → Descends (with_begun group p) q
    → length p.groups < length q.groups
longer_group p q group down =
    let grows = down.grows in omega (arith, grows, length-append p.groups (group ∷ []))

-- all that ROOT leads to
pub whole_from : (p : Progress) → IsSound p → Descends nothing p → length p.units ≤ UNITS → IsWhole p
whole_from p sound down few = record {
  sound = sound;
  all = λ number below. down.ended number (omega arith) below;
  few = few;
}
