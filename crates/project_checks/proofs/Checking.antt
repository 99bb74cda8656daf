-- What is refused of what was loaded is what the checks refuse, and the project that is left is the one that is made.
use Rattle.std.proofs.Common.{◌≡◌, ◌∙◌, ℕ, zero, suc, ◌+◌, ◌<◌, ◌≤◌, List, [], ◌∷◌, length, map, Bool, true, false, Option, Some, None, option_map, Result, Ok, Err, refl, ap, ap₂, sym, subst, arith, get_or, if◌then◌else◌}
use Rattle.std.specs.Prelude.{◌&&◌, ◌||◌, nat_eq, IsErrAnd}
use Rattle.std.specs.List.{enumerate_from, list_any}
use lib.Pointwise.{pointwise}
use Rattle.std.proofs.lemmas.Bool.Decides.{nat_tests}
use Rattle.cm_description.specs.WellFormed.{AllDiffer}
use Rattle.cm_base.specs.Calls.{Gives}
use Rattle.cm_base.specs.Diags.{whole_file, ◌>>=◌}
use Rattle.cm_base.specs.declared.diag.Diag.{Diag}
use Rattle.cm_base.specs.declared.fault.Fault.{Fault}
use Rattle.cm_base.specs.declared.fault.Fault.TheVariants as fault
use Rattle.cm_description.specs.declared.loaded.Group.{Group}
use Rattle.cm_description.specs.declared.loaded.Project.{Project}
use Rattle.cm_description.specs.declared.loaded.Unit.{Unit as LoadedUnit}
use Rattle.project_checks.specs.Assembly.{owned_by, owner_number}
use Rattle.project_checks.specs.Checks.{assembled, checked, filled, filled_groups, freezing_checked, group_names, least, members_among, none_of, on_file, owned, owned_groups, repeated}
use Rattle.project_checks.specs.Owners.{is_shared, owners_of}
use Rattle.project_checks.specs.Owning.{HaveOwners, is_known_shared, is_several, owned_at}
use Rattle.project_checks.specs.declared.owners.Owned.{Owned}
use Rattle.project_checks.specs.declared.owners.Owned.TheVariants as nobody
use Rattle.project_checks.specs.declared.progress.Progress.{Progress}
use Rattle.project_checks.proofs.Numbering.{differ_cons}
use Rattle.project_checks.proofs.Summing.{number_is, several_is}
use Rattle.project_checks.proofs.Turns.{whatever_else}

-- ---- steps

pub stops_here : {A B : Type 0} (e : Fault) (m : Result A Diag) (next : A → Result B Diag) → Gives {A = A} (Err e) m
    → Gives {A = B} (Err e) (m >>= next)
stops_here (fault.Diag diag) m next is = ap (λ r. r >>= next) is
stops_here fault.NoMemory m next is = tt

pub goes_here : {A B : Type 0} (r : Result B Fault) (m : Result A Diag) (a : A) (next : A → Result B Diag)
    → m ≡ Ok a → Gives r (next a) → Gives r (m >>= next)
goes_here {A} {B} r m a next is rest = subst (λ (m : Result A Diag). Gives r (m >>= next)) (sym is) rest

-- ---- names of groups

names_alike : (one other : ℕ → Bool) (groups : List Group) (start : ℕ)
    → ((k : ℕ) → start ≤ k → k < start + length groups → one k ≡ other k)
    → group_names one start groups ≡ group_names other start groups
names_alike one other [] start same = refl
names_alike one other (group ∷ groups) start same =
    ap₂ (λ (b : Bool) (rest : List (List ℕ)). if b then group.file ∷ rest else rest)
    (same start (omega arith) (omega arith))
    (names_alike one other groups (start + 1) (λ k le lt. same k (omega (arith, le)) (omega (arith, lt))))

-- where no group is named, none passes
none_by : (passes : ℕ → Bool) (file : List ℕ) (rest : List (List ℕ)) (n start : ℕ) (b : Bool) → passes start ≡ b
    → (if b then file ∷ rest else rest) ≡ []
    → (rest ≡ [] → (k : ℕ) → k < n → passes (start + 1 + k) ≡ false)
    → (k : ℕ) → k < suc n → passes (start + k) ≡ false
none_by passes file rest n start true e none later k inside = absurd (cc)
none_by passes file rest n start false e none later zero inside =
    let same : start ≡ start + 0 = omega arith in subst (λ (m : ℕ). passes m ≡ false) same e
none_by passes file rest n start false e none later (suc k) inside =
    let same : start + 1 + k ≡ start + suc k = omega arith in
    subst (λ (m : ℕ). passes m ≡ false) same (later none k (omega (arith, inside)))

none_names : (passes : ℕ → Bool) (groups : List Group) (start : ℕ) → group_names passes start groups ≡ []
    → (k : ℕ) → k < length groups → passes (start + k) ≡ false
none_names passes [] start none k inside = absurd (omega (arith, inside))
none_names passes (group ∷ groups) start none k inside =
    none_by passes group.file (group_names passes (start + 1) groups) (length groups) start (passes start) refl none
    (none_names passes groups (start + 1)) k inside

no_least : (number : ℕ) (names : List (List ℕ)) → none_of number names ≡ Ok tt → names ≡ []
no_least number [] is = refl
no_least number (name ∷ names) is = absurd (cc)

-- ---- owners

module _ (groups : List Group) (finished : List ℕ) (owners : List Owned) (known : HaveOwners groups finished owners) where
  pub shared_names : group_names (is_known_shared owners) 0 groups ≡ group_names (is_shared groups finished) 0 groups
  shared_names = names_alike (is_known_shared owners) (is_shared groups finished) groups 0 (λ k le lt.
      several_is (owned_at owners k) (owners_of groups finished k) (known.sums k (omega (arith, lt))))

  -- with each group's one owner
  owned_rest : (left : List Group) (rest : List Owned) (start : ℕ) → length rest ≡ length left
      → start + length left ≡ length groups
      → ((k : ℕ) (d : Owned) → k < length rest → get_or rest k d ≡ owned_at owners (start + k))
      → ((k : ℕ) → k < length groups → is_known_shared owners k ≡ false)
      → owned_by left rest ≡ map (λ (at : ℕ × Group). owned groups finished at.0 at.1) (enumerate_from start left)
  owned_rest [] rest start each all here none = refl
  owned_rest (group ∷ left) [] start each all here none = absurd (omega (arith, each))
  owned_rest (group ∷ left) (one ∷ rest) start each all here none =
      let inside : start < length groups = omega (arith, all) in
      let zero_is : start + 0 ≡ start = omega arith in
      let first : one ≡ owned_at owners start = here zero one (omega arith) ∙ ap (owned_at owners) zero_is in
      ap₂ (λ (x : Group) (xs : List Group). x ∷ xs)
      (ap (λ (n : ℕ). record group { owner = n })
      (ap owner_number first
      ∙ number_is (owned_at owners start) (owners_of groups finished start) (known.sums start inside) (none start inside)))
      (owned_rest left rest (start + 1) (omega (arith, each)) (omega (arith, all))
      (λ k d below. let same : start + suc k ≡ start + 1 + k = omega arith in
      here (suc k) d (omega (arith, below)) ∙ ap (owned_at owners) same) none)

default_free : (xs : List Owned) (k : ℕ) (d e : Owned) → k < length xs → get_or xs k d ≡ get_or xs k e
default_free [] k d e below = absurd (omega (arith, below))
default_free (x ∷ xs) zero d e below = refl
default_free (x ∷ xs) (suc k) d e below = default_free xs k d e (omega (arith, below))

-- ---- the whole

module _ (p : Progress) (groups : List Group) (owners : List Owned) (filled_is : groups ≡ filled_groups p)
    (known : HaveOwners groups p.finished owners) where
  abbrev pub once : Result (Unit {0}) Diag
  once = none_of 11 (repeated (map (λ (unit : LoadedUnit). unit.name) p.units))

  abbrev pub apart : Result (Unit {0}) Diag
  apart = none_of 15 (group_names (is_shared (filled_groups p) p.finished) 0 (filled_groups p))

  apart_is : none_of 15 (group_names (is_known_shared owners) 0 groups) ≡ apart
  apart_is =
      ap (none_of 15) (shared_names groups p.finished owners known)
      ∙ ap (λ (gs : List Group). none_of 15 (group_names (is_shared gs p.finished) 0 gs)) filled_is

  abbrev ending : Bool → Unit {0} → Result Project Diag
  ending freezing done = freezing_checked freezing (filled_groups p) >>= λ ready. Ok (assembled p)

  abbrev after : Bool → Unit {0} → Result Project Diag
  after freezing done = apart >>= ending freezing

  pub shared_stops : (freezing : Bool) (e : Fault) → once ≡ Ok tt
      → Gives {A = Unit {0}} (Err e) (none_of 15 (group_names (is_known_shared owners) 0 groups))
      → Gives {A = Project} (Err e) (checked freezing p)
  shared_stops freezing e units stops =
      goes_here (Err e) once tt (after freezing) units
      (stops_here e apart (ending freezing)
      (subst (λ (m : Result (Unit {0}) Diag). Gives {A = Unit {0}} (Err e) m) apart_is stops))

  pub freezing_stops : (freezing : Bool) (e : Fault) → once ≡ Ok tt
      → none_of 15 (group_names (is_known_shared owners) 0 groups) ≡ Ok tt
      → Gives {A = Unit {0}} (Err e) (freezing_checked freezing groups)
      → Gives {A = Project} (Err e) (checked freezing p)
  freezing_stops freezing e units names stops =
      goes_here (Err e) once tt (after freezing) units
      (goes_here (Err e) apart tt (ending freezing) (sym apart_is ∙ names)
      (stops_here e (freezing_checked freezing (filled_groups p)) (λ ready. Ok (assembled p))
      (subst (λ (gs : List Group). Gives {A = Unit {0}} (Err e) (freezing_checked freezing gs)) filled_is stops)))

  -- no group is shared, so that each has one owner
  owned_is : none_of 15 (group_names (is_known_shared owners) 0 groups) ≡ Ok tt
      → owned_by groups owners ≡ owned_groups groups p.finished
  owned_is names =
      let each = known.each in
      owned_rest groups p.finished owners known groups owners 0 each (omega arith)
      (λ k d below. let same : k ≡ 0 + k = omega arith in
      default_free owners k d nobody.Nobody below ∙ ap (owned_at owners) same)
      (λ k inside. let same : 0 + k ≡ k = omega arith in
      subst (λ (n : ℕ). is_known_shared owners n ≡ false) same
      (none_names (is_known_shared owners) groups 0 (no_least 15 (group_names (is_known_shared owners) 0 groups) names)
      k inside))

  pub project_is : (project : Project) → none_of 15 (group_names (is_known_shared owners) 0 groups) ≡ Ok tt
      → project ≡ record { units = p.units; groups = owned_by groups owners; finished = p.finished }
      → project ≡ assembled p
  project_is project names is =
      is
      ∙ ap (λ (gs : List Group). record { units = p.units; groups = gs; finished = p.finished })
      (owned_is names ∙ ap (λ (gs : List Group). owned_groups gs p.finished) filled_is)

  pub checks_go : (freezing : Bool) (project : Project) → once ≡ Ok tt
      → none_of 15 (group_names (is_known_shared owners) 0 groups) ≡ Ok tt
      → freezing_checked freezing groups ≡ Ok tt
      → project ≡ record { units = p.units; groups = owned_by groups owners; finished = p.finished }
      → Gives (Ok project) (checked freezing p)
  checks_go freezing project units names ready is =
      goes_here (Ok project) once tt (after freezing) units
      (goes_here (Ok project) apart tt (ending freezing) (sym apart_is ∙ names)
      (goes_here (Ok project) (freezing_checked freezing (filled_groups p)) tt (λ ready. Ok (assembled p))
      (ap (freezing_checked freezing) (sym filled_is) ∙ ready)
      (ap Ok (sym (project_is project names is)))))

-- ---- names

same_name : (name : List ℕ) → pointwise nat_eq name name ≡ true
same_name [] = refl
same_name (x ∷ xs) =
    let equal : nat_eq x x ≡ true = grind (arith, nat_tests) in
    ap (λ (b : Bool). b && pointwise nat_eq xs xs) equal ∙ same_name xs

or_true : (a : Bool) → (a || true) ≡ true
or_true true = refl
or_true false = refl

listed_any : (name : List ℕ) (names : List (List ℕ)) (k : ℕ) (d : List ℕ) → k < length names
    → get_or names k d ≡ name → list_any (pointwise nat_eq name) names ≡ true
listed_any name [] k d inside is = absurd (omega (arith, inside))
listed_any name (x ∷ xs) zero d inside is =
    ap (λ (b : Bool). b || list_any (pointwise nat_eq name) xs)
    (ap (pointwise nat_eq name) is ∙ same_name name)
listed_any name (x ∷ xs) (suc k) d inside is =
    ap (λ (b : Bool). pointwise nat_eq name x || b) (listed_any name xs k d (omega (arith, inside)) is)
    ∙ or_true (pointwise nat_eq name x)

differ_by : (name : List ℕ) (names : List (List ℕ)) (b : Bool) → list_any (pointwise nat_eq name) names ≡ b
    → (if b then name ∷ repeated names else repeated names) ≡ [] → (repeated names ≡ [] → AllDiffer names)
    → AllDiffer (name ∷ names)
differ_by name names true e none rest = absurd (cc)
differ_by name names false e none rest =
    differ_cons name names
    (λ has. let listed = listed_any name names has.0 name has.1 (whatever_else names has.0 name name has.1 ∙ has.2) in
    absurd (cc)) (rest none)

no_repeats : (names : List (List ℕ)) → repeated names ≡ [] → AllDiffer names
no_repeats [] none = λ i j x a b. absurd (cc)
no_repeats (name ∷ names) none =
    differ_by name names (list_any (pointwise nat_eq name) names) refl none (no_repeats names)

pub names_differ : (number : ℕ) (names : List (List ℕ)) → none_of number (repeated names) ≡ Ok tt → AllDiffer names
names_differ number names is = no_repeats names (no_least number (repeated names) is)

pub passed_here : {A : Type 0} (r : Result A Fault) (e : Fault) (m : Result A Diag) → IsErrAnd r (λ y. y ≡ e)
    → Gives {A = A} (Err e) m → Gives r m
passed_here (Ok a) e m is gives = absurd is
passed_here {A} (Err y) e m is gives = subst (λ (y : Fault). Gives {A = A} (Err y) m) (sym is) gives
