-- A project is within the limits, and of sources, where what was loaded is.
use Rattle.std.proofs.Common.{◌≡◌, ◌∙◌, ◌≤◌, Bool, length, map, Result, Ok, Err, sym, subst, arith}
use Rattle.std.specs.Prelude.{All}
use Rattle.cm_base.specs.Diags.{◌>>=◌}
use Rattle.cm_base.specs.declared.diag.Diag.{Diag}
use Rattle.cm_description.specs.declared.loaded.Project.{Project}
use Rattle.cm_description.specs.declared.loaded.Unit.{Unit as LoadedUnit}
use Rattle.project_checks.specs.Checks.{assembled, checked, filled, filled_groups, freezing_checked, group_names, none_of, owned, owned_groups, repeated}
use Rattle.project_checks.specs.Owners.{is_shared}
use Rattle.project_checks.specs.declared.limits.TheConstants.{GROUPS, UNITS}
use Rattle.project_checks.specs.declared.progress.Progress.{Progress}
use Rattle.project_checks.proofs.Filling.{numbered_length}
use Rattle.loader_parts.specs.LoadedProjects.{HasSources, IsSource, IsWithinLimits}

after_ok : {A B : Type 0} (m : Result A Diag) (next : A → Result B Diag) (b : B) → (m >>= next) ≡ Ok b
    → (a : A) × (next a ≡ Ok b)
after_ok (Ok a) next b is = (a, is)
after_ok (Err diag) next b is = absurd (cc)

module _ (freezing : Bool) (p : Progress) (project : Project) (is : checked freezing p ≡ Ok project) where
  abbrev at_end : Unit {0} → Result Project Diag
  at_end ready = Ok (assembled p)

  abbrev when_apart : Unit {0} → Result Project Diag
  when_apart apart = freezing_checked freezing (filled_groups p) >>= at_end

  abbrev when_once : Unit {0} → Result Project Diag
  when_once once =
      none_of 15 (group_names (is_shared (filled_groups p) p.finished) 0 (filled_groups p)) >>= when_apart

  assembled_is : project ≡ assembled p
  assembled_is =
      let one = after_ok (none_of 11 (repeated (map (λ (unit : LoadedUnit). unit.name) p.units))) when_once project is in
      let two = after_ok (none_of 15 (group_names (is_shared (filled_groups p) p.finished) 0 (filled_groups p)))
      when_apart project one.1 in
      let three = after_ok (freezing_checked freezing (filled_groups p)) at_end project two.1 in
      let same : ◌≡◌ {A = Result Project Diag} (Ok (assembled p)) (Ok project) = three.1 in
      sym (cc)

  many_groups : length (owned_groups (filled_groups p) p.finished) ≡ length p.groups
  many_groups =
      numbered_length (owned (filled_groups p) p.finished) (filled_groups p) 0 ∙ numbered_length (filled p) p.groups 0

  pub is_within : length p.units ≤ UNITS → length p.groups ≤ GROUPS → IsWithinLimits project
  is_within units groups =
      subst IsWithinLimits (sym assembled_is) (record { units = units; groups = omega (arith, groups, many_groups) })

  pub has_sources : All IsSource p.units → HasSources project
  has_sources sources = subst HasSources (sym assembled_is) sources
