use Rattle.std.proofs.Common.{◌≡◌, ◌∙◌, ◌<◌, List, length, ap, ap₂, sym, subst, ℕ, map, Result, Ok, Err}
use Rattle.std.specs.Prelude.{All, IfOk}
use Rattle.std.specs.List.{range_with_len}
use Rattle.cm_description.specs.declared.loaded.Unit.{Unit as LoadedUnit}
use Rattle.project_checks.specs.Assembly.{filled_by, homes_of}
use Rattle.project_checks.specs.Checks.{members_among}
use Rattle.project_checks.specs.declared.progress.Membership.{Membership}
use Rattle.project_checks.proofs.Dealt.{home_small, made_count}
use Rattle.project_checks.proofs.Filling.{all_filled}
use Rattle.project_checks.proofs.assembling.filled_groups.Goals as goal

pub members_by_group-requires : goal.members_by_group-requires
members_by_group-requires c =
    let same : c.as_slice.result.now ≡ homes_of c.args.units.now = c.as_slice.ensures.value ∙ c.in_ok-homes.ensures in
    subst (λ (ms : List Membership). All (λ (m : Membership). m.group < c.len.result) ms) (sym same)
    (λ k d below. home_small c.len.result c.args.units.now 0
    (subst (λ (n : ℕ). All (λ (u : LoadedUnit). u.group < n) c.args.units.now) (sym c.len.ensures) c.requires.homes)
    k d below)

pub all_filled-requires-clause-units : goal.all_filled-requires-clause-units
all_filled-requires-clause-units c =
    ap length (c.as_slice-2.ensures.value ∙ c.in_ok-own.ensures)
    ∙ made_count (members_among c.as_slice.result.now) c.len.result ∙ c.len.ensures

pub all_filled-requires-clause-members : goal.all_filled-requires-clause-members
all_filled-requires-clause-members c =
    ap length (c.as_slice-3.ensures.value ∙ c.in_ok-members.ensures)
    ∙ made_count (members_among c.args.memberships.now) c.len-2.result ∙ c.len-2.ensures

answered : {A E : Type 0} (r : Result A E) (a b : A) → a ≡ b → IfOk r (λ x. x ≡ a) → IfOk r (λ x. x ≡ b)
answered (Ok x) a b same is = is ∙ same
answered (Err e) a b same is = tt

pub returns : goal.returns
returns c =
    let homes : c.as_slice.result.now ≡ homes_of c.args.units.now = c.as_slice.ensures.value ∙ c.in_ok-homes.ensures in
    let own : c.as_slice-2.result.now
    ≡ map (members_among (homes_of c.args.units.now)) (range_with_len 0 (length c.args.groups)) =
    c.as_slice-2.ensures.value ∙ c.in_ok-own.ensures
    ∙ ap₂ (λ (ms : List Membership) (n : ℕ). map (members_among ms) (range_with_len 0 n)) homes c.len.ensures in
    let members : c.as_slice-3.result.now
    ≡ map (members_among c.args.memberships.now) (range_with_len 0 (length c.args.groups)) =
    c.as_slice-3.ensures.value ∙ c.in_ok-members.ensures
    ∙ ap (λ (n : ℕ). map (members_among c.args.memberships.now) (range_with_len 0 n)) c.len-2.ensures in
    answered c.all_filled.result _ _
    (ap₂ (λ (us ms : List (List ℕ)). filled_by c.args.groups us ms) own members
    ∙ all_filled c.args.units.now c.args.memberships.now c.args.groups) c.all_filled.ensures
