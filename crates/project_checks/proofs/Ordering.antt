-- All groups of what was loaded ended, each after its members.
use Rattle.std.proofs.Common.{◌≡◌, ◌∙◌, ℕ, ◌+◌, ◌<◌, List, length, Option, Some, None, option_map, ap, sym, subst, arith, get_or}
use Rattle.std.specs.Prelude.{All, Contains, slice_get}
use Rattle.std.proofs.lemmas.Option.{slice_get-get_or}
use Rattle.std.proofs.lemmas.List.Elements.{All-weaker}
use Rattle.cm_description.specs.WellFormed.{StandsAt}
use Rattle.cm_description.specs.declared.loaded.Group.{Group}
use Rattle.project_checks.specs.Checks.{filled, filled_groups, members_among}
use Rattle.project_checks.specs.Owners.{AreOrdered}
use Rattle.project_checks.specs.Owning.{AreWithin}
use Rattle.project_checks.specs.Whole.{IsWhole}
use Rattle.project_checks.specs.declared.progress.Progress.{Progress}
use Rattle.project_checks.proofs.Filling.{numbered_at}
use Rattle.project_checks.proofs.Forming.{count, filled_count, members_small}
use Rattle.project_checks.proofs.Numbering.{member_listed, membership}

members_by : (p : Progress) (number : ℕ) (group : Group) (o : Option Group)
    → option_map (filled p number) o ≡ Some group → group.members ≡ members_among p.memberships number
members_by p number group None is = absurd (cc)
members_by p number group (Some from) is =
    let same : filled p number from ≡ group = cc in ap (λ (g : Group). g.members) (sym same)

members_there : (p : Progress) (number : ℕ) (group : Group) → StandsAt (filled_groups p) number group
    → group.members ≡ members_among p.memberships number
members_there p number group at =
    let same : 0 + number ≡ number = omega arith in
    subst (λ (n : ℕ). group.members ≡ members_among p.memberships n) same
    (members_by p (0 + number) group (slice_get p.groups number)
    (sym (numbered_at (filled p) p.groups 0 number) ∙ at))

module _ (p : Progress) (whole : IsWhole p) where
  pub ordered : AreOrdered (filled_groups p) p.finished
  ordered = record {
    all = λ number below. whole.all number (let long = filled_count p in omega (arith, below, long));
    once = whole.sound.once;
    members_first = λ i number member group at stands has.
        whole.sound.members_first i (membership number member)
        (member_listed p.memberships number member
        (subst (λ (xs : List ℕ). Contains xs member) (members_there p number group stands) has))
        at;
  }

  pub numbered : All (λ (number : ℕ). number < length (filled_groups p)) p.finished
  numbered = All-weaker (λ (number : ℕ). number < length p.groups)
      (λ (number : ℕ). number < length (filled_groups p))
      (λ number below. let long = filled_count p in omega (arith, below, long)) p.finished whole.sound.ended

  small : (number : ℕ) → All (λ (member : ℕ). member < length (filled_groups p)) (members_among p.memberships number)
  small number = subst (λ (n : ℕ). All (λ (member : ℕ). member < n) (members_among p.memberships number))
      (count p ∙ sym (filled_count p)) (members_small p whole number)

  pub within : AreWithin (filled_groups p)
  within = λ k d below.
      let at = slice_get-get_or (filled_groups p) k d below in
      subst (λ (xs : List ℕ). All (λ (member : ℕ). member < length (filled_groups p)) xs)
      (sym (members_there p k (get_or (filled_groups p) k d) at)) (small k)
