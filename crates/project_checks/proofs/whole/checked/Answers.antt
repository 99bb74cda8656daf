use Rattle.std.proofs.Common.{◌≡◌, ◌<◌, ◌∙◌, ℕ, List, Result, Ok, Err, length, map, ap, ap₂, refl, sym, subst}
use Rattle.std.specs.Prelude.{All}
use Rattle.cm_description.specs.declared.loaded.Group.{Group}
use Rattle.cm_description.specs.declared.loaded.Unit.{Unit as LoadedUnit}
use Rattle.cm_base.specs.Calls.{Gives}
use Rattle.cm_base.specs.declared.diag.Diag.{Diag}
use Rattle.cm_description.specs.WellFormed.{IsWellFormed}
use Rattle.cm_description.specs.declared.loaded.Project.{Project}
use Rattle.project_checks.specs.Assembly.{filled_groups_of, owned_by}
use Rattle.project_checks.specs.Checks.{checked, filled_groups, freezing_checked, group_names, none_of, repeated}
use Rattle.project_checks.specs.Owners.{AreOrdered}
use Rattle.project_checks.specs.Owning.{AreWithin, HaveOwners, is_known_shared}
use Rattle.project_checks.specs.declared.owners.Owned.{Owned}
use Rattle.project_checks.specs.declared.progress.Membership.{Membership}
use Rattle.project_checks.proofs.Checking.{checks_go, freezing_stops, names_differ, passed_here, project_is, shared_stops}
use Rattle.project_checks.proofs.Filling.{filled_whole}
use Rattle.project_checks.proofs.Forming.{well_formed}
use Rattle.project_checks.proofs.Ordering.{numbered, ordered, within}
use Rattle.project_checks.proofs.whole.checked.Goals as goal

pub owners_of-requires-clause-ordered : goal.owners_of-requires-clause-ordered
owners_of-requires-clause-ordered c =
    let p = c.args.progress in
    let groups : c.as_slice-4.result.now ≡ filled_groups p =
    c.as_slice-4.ensures ∙ c.in_ok-groups.ensures
    ∙ ap₂ (λ (us : List LoadedUnit) (ms : List Membership). filled_groups_of p.groups us ms) c.as_slice-2.ensures
    c.as_slice-3.ensures ∙ filled_whole p in
    subst (λ (xs : List ℕ). AreOrdered c.as_slice-4.result.now xs) (sym c.as_slice-5.ensures)
    (subst (λ (gs : List Group). AreOrdered gs p.finished) (sym groups) (ordered p c.requires))

pub owners_of-requires-clause-numbers : goal.owners_of-requires-clause-numbers
owners_of-requires-clause-numbers c =
    let p = c.args.progress in
    let groups : c.as_slice-4.result.now ≡ filled_groups p =
    c.as_slice-4.ensures ∙ c.in_ok-groups.ensures
    ∙ ap₂ (λ (us : List LoadedUnit) (ms : List Membership). filled_groups_of p.groups us ms) c.as_slice-2.ensures
    c.as_slice-3.ensures ∙ filled_whole p in
    subst (λ (xs : List ℕ). All (λ (n : ℕ). n < length c.as_slice-4.result.now) xs) (sym c.as_slice-5.ensures)
    (subst (λ (gs : List Group). All (λ (n : ℕ). n < length gs) p.finished) (sym groups) (numbered p c.requires))

pub owners_of-requires-clause-members : goal.owners_of-requires-clause-members
owners_of-requires-clause-members c =
    let p = c.args.progress in
    let groups : c.as_slice-4.result.now ≡ filled_groups p =
    c.as_slice-4.ensures ∙ c.in_ok-groups.ensures
    ∙ ap₂ (λ (us : List LoadedUnit) (ms : List Membership). filled_groups_of p.groups us ms) c.as_slice-2.ensures
    c.as_slice-3.ensures ∙ filled_whole p in
    subst AreWithin (sym groups) (within p c.requires)

pub returns-in_err-owned_once-clause-gives : goal.returns-in_err-owned_once-clause-gives
returns-in_err-owned_once-clause-gives c =
    let p = c.args.progress in
    let groups = c.in_ok-groups.groups in
    let owners = c.in_ok-owners.owners.items in
    let filled_is : groups ≡ filled_groups p =
    c.in_ok-groups.ensures
    ∙ ap₂ (λ (us : List LoadedUnit) (ms : List Membership). filled_groups_of p.groups us ms) c.as_slice-2.ensures
    c.as_slice-3.ensures ∙ filled_whole p in
    let known : HaveOwners groups p.finished owners =
    subst (λ (gs : List Group). HaveOwners gs p.finished owners) c.as_slice-4.ensures
    (subst (λ (xs : List ℕ). HaveOwners c.as_slice-4.result.now xs owners) c.as_slice-5.ensures c.in_ok-owners.ensures) in
    let units : none_of 11 (repeated (map (λ (unit : LoadedUnit). unit.name) p.units)) ≡ Ok tt =
    ap (λ (us : List LoadedUnit). none_of 11 (repeated (map (λ (unit : LoadedUnit). unit.name) us)))
    (sym c.as_slice.ensures) ∙ c.in_ok-units_once.ensures in
    let turned : none_of 15 (group_names (is_known_shared c.as_slice-7.result.now) 0 c.as_slice-6.result.now)
    ≡ none_of 15 (group_names (is_known_shared owners) 0 groups) =
    ap₂ (λ (os : List Owned) (gs : List Group). none_of 15 (group_names (is_known_shared os) 0 gs))
    c.as_slice-7.ensures.value c.as_slice-6.ensures in
    let e = c.in_err-owned_once.field-0.0 in
    passed_here c.from_residual-in_err-owned_once.result e (checked c.args.freezing p)
    c.from_residual-in_err-owned_once.ensures.1
    (shared_stops p groups owners filled_is known c.args.freezing e units
    (subst (λ (m : Result (Unit {0}) Diag). Gives {A = Unit {0}} (Err e) m) turned c.in_err-owned_once.ensures))

pub returns-in_err-freezing_checked-clause-gives : goal.returns-in_err-freezing_checked-clause-gives
returns-in_err-freezing_checked-clause-gives c =
    let p = c.args.progress in
    let groups = c.in_ok-groups.groups in
    let owners = c.in_ok-owners.owners.items in
    let filled_is : groups ≡ filled_groups p =
    c.in_ok-groups.ensures
    ∙ ap₂ (λ (us : List LoadedUnit) (ms : List Membership). filled_groups_of p.groups us ms) c.as_slice-2.ensures
    c.as_slice-3.ensures ∙ filled_whole p in
    let known : HaveOwners groups p.finished owners =
    subst (λ (gs : List Group). HaveOwners gs p.finished owners) c.as_slice-4.ensures
    (subst (λ (xs : List ℕ). HaveOwners c.as_slice-4.result.now xs owners) c.as_slice-5.ensures c.in_ok-owners.ensures) in
    let units : none_of 11 (repeated (map (λ (unit : LoadedUnit). unit.name) p.units)) ≡ Ok tt =
    ap (λ (us : List LoadedUnit). none_of 11 (repeated (map (λ (unit : LoadedUnit). unit.name) us)))
    (sym c.as_slice.ensures) ∙ c.in_ok-units_once.ensures in
    let turned : none_of 15 (group_names (is_known_shared c.as_slice-7.result.now) 0 c.as_slice-6.result.now)
    ≡ none_of 15 (group_names (is_known_shared owners) 0 groups) =
    ap₂ (λ (os : List Owned) (gs : List Group). none_of 15 (group_names (is_known_shared os) 0 gs))
    c.as_slice-7.ensures.value c.as_slice-6.ensures in
    let e = c.in_err-freezing_checked.field-0.0 in
    passed_here c.from_residual-in_err-freezing_checked.result e (checked c.args.freezing p)
    c.from_residual-in_err-freezing_checked.ensures.1
    (freezing_stops p groups owners filled_is known c.args.freezing e units (sym turned ∙ c.in_ok-owned_once.ensures)
    (subst (λ (gs : List Group). Gives {A = Unit {0}} (Err e) (freezing_checked c.args.freezing gs)) c.as_slice-8.ensures
    c.in_err-freezing_checked.ensures))

pub returns-clause-gives : goal.returns-clause-gives
returns-clause-gives c =
    let p = c.args.progress in
    let groups = c.in_ok-groups.groups in
    let owners = c.in_ok-owners.owners.items in
    let filled_is : groups ≡ filled_groups p =
    c.in_ok-groups.ensures
    ∙ ap₂ (λ (us : List LoadedUnit) (ms : List Membership). filled_groups_of p.groups us ms) c.as_slice-2.ensures
    c.as_slice-3.ensures ∙ filled_whole p in
    let known : HaveOwners groups p.finished owners =
    subst (λ (gs : List Group). HaveOwners gs p.finished owners) c.as_slice-4.ensures
    (subst (λ (xs : List ℕ). HaveOwners c.as_slice-4.result.now xs owners) c.as_slice-5.ensures c.in_ok-owners.ensures) in
    let units : none_of 11 (repeated (map (λ (unit : LoadedUnit). unit.name) p.units)) ≡ Ok tt =
    ap (λ (us : List LoadedUnit). none_of 11 (repeated (map (λ (unit : LoadedUnit). unit.name) us)))
    (sym c.as_slice.ensures) ∙ c.in_ok-units_once.ensures in
    let turned : none_of 15 (group_names (is_known_shared c.as_slice-7.result.now) 0 c.as_slice-6.result.now)
    ≡ none_of 15 (group_names (is_known_shared owners) 0 groups) =
    ap₂ (λ (os : List Owned) (gs : List Group). none_of 15 (group_names (is_known_shared os) 0 gs))
    c.as_slice-7.ensures.value c.as_slice-6.ensures in
    checks_go p groups owners filled_is known c.args.freezing
    (record { units = p.units; groups = c.in_ok-groups-2.groups; finished = p.finished }) units
    (sym turned ∙ c.in_ok-owned_once.ensures)
    (ap (freezing_checked c.args.freezing) (sym c.as_slice-8.ensures) ∙ c.in_ok-freezing_checked.ensures)
    (ap (λ (gs : List Group). record { units = p.units; groups = gs; finished = p.finished })
    (c.in_ok-groups-2.ensures ∙ ap (owned_by groups) c.as_slice-9.ensures.value))

pub returns-clause-formed : goal.returns-clause-formed
returns-clause-formed c =
    let p = c.args.progress in
    let groups = c.in_ok-groups.groups in
    let owners = c.in_ok-owners.owners.items in
    let filled_is : groups ≡ filled_groups p =
    c.in_ok-groups.ensures
    ∙ ap₂ (λ (us : List LoadedUnit) (ms : List Membership). filled_groups_of p.groups us ms) c.as_slice-2.ensures
    c.as_slice-3.ensures ∙ filled_whole p in
    let known : HaveOwners groups p.finished owners =
    subst (λ (gs : List Group). HaveOwners gs p.finished owners) c.as_slice-4.ensures
    (subst (λ (xs : List ℕ). HaveOwners c.as_slice-4.result.now xs owners) c.as_slice-5.ensures c.in_ok-owners.ensures) in
    let units : none_of 11 (repeated (map (λ (unit : LoadedUnit). unit.name) p.units)) ≡ Ok tt =
    ap (λ (us : List LoadedUnit). none_of 11 (repeated (map (λ (unit : LoadedUnit). unit.name) us)))
    (sym c.as_slice.ensures) ∙ c.in_ok-units_once.ensures in
    let turned : none_of 15 (group_names (is_known_shared c.as_slice-7.result.now) 0 c.as_slice-6.result.now)
    ≡ none_of 15 (group_names (is_known_shared owners) 0 groups) =
    ap₂ (λ (os : List Owned) (gs : List Group). none_of 15 (group_names (is_known_shared os) 0 gs))
    c.as_slice-7.ensures.value c.as_slice-6.ensures in
    subst IsWellFormed
    (sym (project_is p groups owners filled_is known
    (record { units = p.units; groups = c.in_ok-groups-2.groups; finished = p.finished })
    (sym turned ∙ c.in_ok-owned_once.ensures)
    (ap (λ (gs : List Group). record { units = p.units; groups = gs; finished = p.finished })
    (c.in_ok-groups-2.ensures ∙ ap (owned_by groups) c.as_slice-9.ensures.value))))
    (well_formed p c.requires (names_differ 11 (map (λ (unit : LoadedUnit). unit.name) p.units) units))
