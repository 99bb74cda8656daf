-- The project of what was loaded is well formed.
use Rattle.std.proofs.Common.{◌≡◌, ◌∙◌, ◌⊎◌, ℕ, zero, suc, ◌+◌, ◌<◌, ◌≤◌, List, [], ◌∷◌, ◌++◌, length, map, Bool, true, false, Option, Some, None, option_map, inl, inr, refl, ap, sym, subst, arith, get_or, if◌then◌else◌}
use Rattle.std.specs.Prelude.{◌==◌, slice_get, nat_eq, All, Contains}
use Rattle.std.specs.List.{list_any, flat_map}
use Rattle.std.proofs.lemmas.Bool.Decides.{nat_tests}
use Rattle.std.proofs.lemmas.List.Elements.{All-append, All-contains, All-weaker}
use Rattle.std.proofs.lemmas.Option.{slice_get_within, slice_get-get_or}
use Rattle.cm_description.specs.WellFormed.{AllDiffer, AreBelow, IsGroupWithin, IsWellFormed, StandsAt}
use Rattle.cm_description.specs.declared.loaded.Export.{Export}
use Rattle.cm_description.specs.declared.loaded.Group.{Group}
use Rattle.cm_description.specs.declared.loaded.Unit.{Unit as LoadedUnit}
use Rattle.project_checks.specs.Owners.{first_owner, holders_of, numbers_of, owner_of, owners_of, owners_within, owns_itself}
use Rattle.project_checks.specs.Checks.{assembled, filled, filled_groups, members_among, owned, owned_groups}
use Rattle.project_checks.specs.Whole.{IsRead, IsWhole}
use Rattle.project_checks.specs.declared.progress.Membership.{Membership}
use Rattle.project_checks.specs.declared.progress.Progress.{Progress}
use Rattle.project_checks.proofs.Filling.{numbered_at, numbered_length}
use Rattle.project_checks.proofs.Numbering.{member_listed, membership, number_passes, numbers_differ, passes_number}
use Rattle.project_checks.proofs.Places.{stands_contained}

-- ---- owners are groups

flat_small : (n : ℕ) (f : ℕ → List ℕ) (xs : List ℕ) → ((x : ℕ) → Contains xs x → All (λ (o : ℕ). o < n) (f x))
    → All (λ (o : ℕ). o < n) (flat_map f xs)
flat_small n f [] small = λ k d below. absurd (omega (arith, below))
flat_small n f (x ∷ xs) small =
    All-append (λ (o : ℕ). o < n) (f x) (flat_map f xs) (small x (zero, omega arith, refl))
    (flat_small n f xs (λ y has. let inside = has.1 in small y (suc has.0, omega (arith, inside), has.2)))

one_small : (n number k d : ℕ) → number < n → k < 1 → get_or (number ∷ []) k d < n
one_small n number zero d known below = known
one_small n number (suc k) d known below = absurd (omega (arith, below))

small_by : (n number : ℕ) (b : Bool) (above : List ℕ) → number < n → All (λ (o : ℕ). o < n) above
    → All (λ (o : ℕ). o < n) (if b then number ∷ [] else above)
small_by n number true above known rest = λ k d below. one_small n number k d known below
small_by n number false above known rest = rest

owners_small : (groups : List Group) (up number : ℕ) → number < length groups
    → All (λ (o : ℕ). o < length groups) (owners_within groups up number)
owners_small groups zero number known = λ k d below. absurd (omega (arith, below))
owners_small groups (suc up) number known =
    small_by (length groups) number (owns_itself groups number)
    (flat_map (owners_within groups up) (holders_of groups number)) known
    (flat_small (length groups) (owners_within groups up) (holders_of groups number) (λ holder has.
    let found = number_passes (λ (group : Group). list_any (nat_eq number) group.members) groups 0 holder has in
    let is = found.2 in
    let inside = slice_get_within groups found.0 found.1 found.3 in
    owners_small groups up holder (omega (arith, is, inside))))

first_small : (n : ℕ) (xs : List ℕ) → 0 < n → All (λ (o : ℕ). o < n) xs → first_owner xs < n
first_small n [] some small = some
first_small n (x ∷ xs) some small = small zero x (omega arith)

owner_small : (groups : List Group) (finished : List ℕ) (number : ℕ) → number < length groups
    → owner_of groups finished number < length groups
unfolding owners_of
owner_small groups finished number known =
    first_small (length groups) (owners_within groups (length finished) number) (omega (arith, known))
    (owners_small groups (length finished) number known)

-- ---- groups of the project

module _ (p : Progress) where
  abbrev pub groups : List Group
  groups = owned_groups (filled_groups p) p.finished

  pub count : length groups ≡ length p.groups
  count = numbered_length (owned (filled_groups p) p.finished) (filled_groups p) 0
      ∙ numbered_length (filled p) p.groups 0

  pub filled_count : length (filled_groups p) ≡ length p.groups
  filled_count = numbered_length (filled p) p.groups 0

  -- the group of a number
  abbrev pub made : ℕ → Group → Group
  made number group = owned (filled_groups p) p.finished number (filled p number group)

  twice : (number : ℕ) (o : Option Group)
      → option_map (owned (filled_groups p) p.finished (0 + number)) (option_map (filled p (0 + number)) o)
      ≡ option_map (made number) o
  twice number None = refl
  twice number (Some group) =
      let here : 0 + number ≡ number = omega arith in
      ap (λ (k : ℕ). Some (owned (filled_groups p) p.finished k (filled p k group))) here

  made_at : (number : ℕ) → slice_get groups number ≡ option_map (made number) (slice_get p.groups number)
  made_at number =
      numbered_at (owned (filled_groups p) p.finished) (filled_groups p) 0 number
      ∙ ap (option_map (owned (filled_groups p) p.finished (0 + number))) (numbered_at (filled p) p.groups 0 number)
      ∙ twice number (slice_get p.groups number)

  -- each group of the project is one that was loaded
  abbrev pub Made : ℕ → Group → Type 0
  Made number group = (from : Group) × StandsAt p.groups number from × (group ≡ made number from)

  made_by : (number : ℕ) (group : Group) (o : Option Group) → slice_get p.groups number ≡ o
      → option_map (made number) o ≡ Some group → Made number group
  made_by number group None at is = absurd (cc)
  made_by number group (Some from) at is = let same : made number from ≡ group = cc in (from, at, sym same)

  pub made_from : (number : ℕ) (group : Group) → StandsAt groups number group → Made number group
  made_from number group at =
      made_by number group (slice_get p.groups number) refl (sym (made_at number) ∙ at)

-- ---- well formed

same_default : (xs : List ℕ) (k d : ℕ) → k < length xs → get_or xs k (get_or xs k d) ≡ get_or xs k d
same_default [] k d below = absurd (omega (arith, below))
same_default (x ∷ xs) zero d below = refl
same_default (x ∷ xs) (suc k) d below = same_default xs k d (omega (arith, below))

-- two items at one place are one
one_there : {A : Type 0} (xs : List A) (k : ℕ) (x y : A) → StandsAt xs k x → StandsAt xs k y → x ≡ y
one_there xs k x y a b = let both : Some x ≡ Some y = sym a ∙ b in cc

module _ (p : Progress) (whole : IsWhole p) where
  pub members_small : (group : ℕ) → All (λ (member : ℕ). member < length (groups p)) (members_among p.memberships group)
  members_small group k d below =
      let member : ℕ = get_or (members_among p.memberships group) k d in
      let has : Contains (members_among p.memberships group) member =
      (k, below, same_default (members_among p.memberships group) k d below) in
      let listed = member_listed p.memberships group member has in
      let done = All-contains (λ (m : Membership). Contains p.finished m.member) p.memberships (membership group member)
      whole.sound.members listed in
      let small = All-contains (λ (number : ℕ). number < length p.groups) p.finished member whole.sound.ended done in
      let long = count p in omega (arith, small, long)

  units_small : (group : ℕ)
      → All (λ (unit : ℕ). unit < length p.units) (numbers_of (λ (unit : LoadedUnit). unit.group == group) p.units)
  units_small group k d below =
      let numbers = numbers_of (λ (unit : LoadedUnit). unit.group == group) p.units in
      let found = number_passes (λ (unit : LoadedUnit). unit.group == group) p.units 0 (get_or numbers k d)
      (k, below, same_default numbers k d below) in
      let is = found.2 in
      let inside = slice_get_within p.units found.0 found.1 found.3 in omega (arith, is, inside)

  no_exports : (units : ℕ) (thawed : Option (List Export)) → thawed ≡ None → AreBelow units thawed
  no_exports units thawed none = subst (AreBelow units) (sym none) tt

  within : (number : ℕ) (group : Group) → StandsAt p.groups number group
      → IsGroupWithin (length (groups p)) (length p.units) (made p number group)
  within number group at =
      let read = All-contains IsRead p.groups group whole.sound.read (stands_contained p.groups number group at) in
      let inside = slice_get_within p.groups number group at in
      let long = count p in let filled = filled_count p in
      let small = owner_small (filled_groups p) p.finished number (omega (arith, inside, filled)) in
      record {
        owner = omega (arith, small, long, filled);
        members = members_small number;
        units_below = units_small number;
        items = read.items;
        thawed = no_exports (length p.units) group.thawed read.plain;
      }

  -- the units of a group of the project
  units_of : (number : ℕ) (group : Group) → StandsAt (groups p) number group
      → group.units ≡ numbers_of (λ (unit : LoadedUnit). unit.group == number) p.units
  units_of number group at = ap (λ (g : Group). g.units) (made_from p number group at).2

  members_of : (number : ℕ) (group : Group) → StandsAt (groups p) number group
      → group.members ≡ members_among p.memberships number
  members_of number group at = ap (λ (g : Group). g.members) (made_from p number group at).2

  home_of : (n g : ℕ) (unit : LoadedUnit) (group : Group) → StandsAt p.units n unit → StandsAt (groups p) g group
      → Contains group.units n → g ≡ unit.group
  home_of n g unit group at held has =
      let found = number_passes (λ (unit : LoadedUnit). unit.group == g) p.units 0 n
      (subst (λ (xs : List ℕ). Contains xs n) (units_of g group held) has) in
      let is = found.2 in
      let there = subst (λ (k : ℕ). StandsAt p.units k unit) (omega (arith, is)) at in
      let same : found.1 ≡ unit = one_there p.units found.0 found.1 unit found.3 there in
      let test = found.4 in
      let group_is : found.1.group ≡ g = grind (arith, nat_tests) in
      sym group_is ∙ ap (λ (u : LoadedUnit). u.group) same

  at_home_of : (n : ℕ) (unit : LoadedUnit) (group : Group) → StandsAt p.units n unit
      → StandsAt (groups p) unit.group group → Contains group.units n
  at_home_of n unit group at held =
      let test : (unit.group == unit.group) ≡ true = grind (arith, nat_tests) in
      let here : 0 + n ≡ n = omega arith in
      subst (λ (xs : List ℕ). Contains xs n) (sym (units_of unit.group group held))
      (subst (Contains (numbers_of (λ (u : LoadedUnit). u.group == unit.group) p.units)) here
      (passes_number (λ (u : LoadedUnit). u.group == unit.group) p.units 0 n unit at test))

  pub well_formed : AllDiffer (map (λ (unit : LoadedUnit). unit.name) p.units) → IsWellFormed (assembled p)
  well_formed names = record {
    groups = λ k d below.
        let at = slice_get-get_or (groups p) k d below in
        let from = made_from p k (get_or (groups p) k d) at in
        subst (IsGroupWithin (length (groups p)) (length p.units)) (sym from.2) (within k from.0 from.1);
    owned = All-weaker (λ (unit : LoadedUnit). unit.group < length p.groups)
        (λ (unit : LoadedUnit). unit.group < length (groups p))
        (λ unit below. let long = count p in omega (arith, below, long)) p.units whole.sound.homes;
    names = names;
    home = λ n g unit group at held has. home_of n g unit group at held has;
    at_home = λ n unit group at held. at_home_of n unit group at held;
    once = λ k d below.
        let at = slice_get-get_or (groups p) k d below in
        subst AllDiffer (sym (units_of k (get_or (groups p) k d) at))
        (numbers_differ (λ (unit : LoadedUnit). unit.group == k) p.units 0);
    finished_below = All-weaker (λ (number : ℕ). number < length p.groups)
        (λ (number : ℕ). number < length (groups p))
        (λ number below. let long = count p in omega (arith, below, long)) p.finished whole.sound.ended;
    finished_all = λ g below. whole.all g (let long = count p in omega (arith, below, long));
    finished_once = whole.sound.once;
    members_first = λ i g member group at held has.
        whole.sound.members_first i (membership g member)
        (member_listed p.memberships g member
        (subst (λ (xs : List ℕ). Contains xs member) (members_of g group held) has))
        at;
  }
