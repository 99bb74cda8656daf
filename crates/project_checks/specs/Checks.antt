-- The project of what was loaded, or what is refused of it after all loading, in this order: 11 for the least name of a
-- unit that is a member twice; 15 for the least name of a group that is reached from two owners; and where the project
-- is to be frozen, 14 for a ROOT that is no library, and 13 for the least name of a library below that isn't frozen.
use Rattle.std.specs.Prelude.{ℕ, ◌+◌, ◌==◌, ◌&&◌, Bool, not, is_some, false, nat_eq, List, [], ◌∷◌, map, Option, Some, None, Result, Ok, Err, slice_get, filter, if◌then◌else◌}
use Rattle.std.specs.List.{list_any, enumerate_from}
use Rattle.std.specs.Option.{option_map_or}
use Rattle.std.specs.Ordering.{nat_cmp, is_lt}
use Rattle.std.specs.Cmp.Lexicographic.{slice_cmp}
use lib.Pointwise.{pointwise}
use Rattle.cm_base.specs.Diags.{whole_file, ◌>>=◌}
use Rattle.cm_base.specs.declared.diag.Diag.{Diag}
use Rattle.cm_description.specs.declared.loaded.Group.{Group}
use Rattle.cm_description.specs.declared.loaded.Project.{Project}
use Rattle.project_checks.specs.Owners.{numbers_of, is_library, is_shared, owner_of}
use Rattle.project_checks.specs.declared.progress.Membership.{Membership}
use Rattle.project_checks.specs.declared.progress.Progress.{Progress}

-- the project of what was loaded: units, members and owners in their groups
abbrev pub members_among : List Membership → ℕ → List ℕ
members_among memberships number =
    map (λ membership. membership.member) (filter (λ membership. membership.group == number) memberships)

abbrev pub filled : Progress → ℕ → Group → Group
filled p number group = record group {
  units = numbers_of (λ unit. unit.group == number) p.units;
  members = members_among p.memberships number;
}

abbrev pub filled_groups : Progress → List Group
filled_groups p = map (λ at. filled p at.0 at.1) (enumerate_from 0 p.groups)

abbrev pub owned : List Group → List ℕ → ℕ → Group → Group
owned groups finished number group = record group { owner = owner_of groups finished number }

abbrev pub owned_groups : List Group → List ℕ → List Group
owned_groups groups finished = map (λ at. owned groups finished at.0 at.1) (enumerate_from 0 groups)

abbrev pub assembled : Progress → Project
assembled p = record {
  units = p.units;
  groups = owned_groups (filled_groups p) p.finished;
  finished = p.finished;
}

-- the lesser of two names, in byte order
abbrev pub lesser : List ℕ → List ℕ → List ℕ
lesser a b = if is_lt (slice_cmp nat_cmp b a) then b else a

-- the least of these names
abbrev pub least_with : List ℕ → Option (List ℕ) → List ℕ
least_with name None = name
least_with name (Some other) = lesser name other

abbrev pub least : List (List ℕ) → Option (List ℕ)
least [] = None
least (name ∷ names) = Some (least_with name (least names))

-- .. where the name passes
abbrev pub least_if : Bool → List ℕ → Option (List ℕ) → Option (List ℕ)
least_if passes name others = if passes then Some (least_with name others) else others

-- a number on the least of these files, if there is one
abbrev pub on_file : ℕ → Option (List ℕ) → Result (Unit {0}) Diag
on_file number None = Ok tt
on_file number (Some name) = Err (whole_file number name)

abbrev pub none_of : ℕ → List (List ℕ) → Result (Unit {0}) Diag
none_of number names = on_file number (least names)

-- the names that stand there again further on
abbrev pub repeated : List (List ℕ) → List (List ℕ)
repeated [] = []
repeated (name ∷ names) =
    if list_any (pointwise nat_eq name) names then name ∷ repeated names else repeated names

-- the names of the groups whose numbers pass
abbrev pub group_names : (ℕ → Bool) → ℕ → List Group → List (List ℕ)
group_names passes number [] = []
group_names passes number (group ∷ groups) =
    if passes number then group.file ∷ group_names passes (number + 1) groups
    else group_names passes (number + 1) groups

-- a library below ROOT that isn't thawed
abbrev pub is_thawed : List Group → ℕ → Bool
is_thawed groups number = option_map_or (λ group. is_some group.thawed) (slice_get groups number) false

abbrev pub is_unfrozen : List Group → ℕ → Bool
is_unfrozen groups number = is_library groups number && (not (number == 0) && not (is_thawed groups number))

-- for a project that is to be frozen: 14 where ROOT is no library, 13 where one below isn't thawed
abbrev pub root_is_library : List Group → Result (Unit {0}) Diag
root_is_library [] = Ok tt
root_is_library (root ∷ groups) = if root.library then Ok tt else Err (whole_file 14 root.file)

abbrev pub can_freeze : List Group → Result (Unit {0}) Diag
can_freeze groups =
    root_is_library groups >>= λ library. none_of 13 (group_names (is_unfrozen groups) 0 groups)

-- the project of what was loaded, or what is refused of it
abbrev pub freezing_checked : Bool → List Group → Result (Unit {0}) Diag
freezing_checked freezing groups = if freezing then can_freeze groups else Ok tt

abbrev pub checked : Bool → Progress → Result Project Diag
checked freezing p =
    none_of 11 (repeated (map (λ unit. unit.name) p.units)) >>= λ once.
    none_of 15 (group_names (is_shared (filled_groups p) p.finished) 0 (filled_groups p)) >>= λ apart.
    freezing_checked freezing (filled_groups p) >>= λ ready.
    Ok (assembled p)
