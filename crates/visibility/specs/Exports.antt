-- The names that a group exports, each with its unit, or its first refusal (CM manual, export filters).
use Rattle.std.specs.Prelude.{ℕ, ◌==◌, Bool, true, not, ◌&&◌, if◌then◌else◌, List, [], ◌∷◌, ◌++◌, map, filter, flat_map, find, Option, Some, None, slice_get, Result, Ok, Err}
use Rattle.std.specs.FinMap.{FinMap, from_entries, keys}
use Rattle.std.specs.Ordering.{nat_cmp, ordering_then}
use Rattle.std.specs.Cmp.Lexicographic.{slice_cmp}
use Rattle.std.specs.declared.cmp.Ordering.{Ordering}
use Rattle.cm_base.specs.Diags.{◌>>=◌}
use Rattle.cm_base.specs.declared.diag.Diag.{Diag}
use Rattle.cm_base.specs.declared.diag.Place.{Place}
use Rattle.cm_base.specs.declared.record.Def.{Def}
use Rattle.cm_base.specs.declared.record.ModName.{ModName}
use Rattle.cm_base.specs.declared.record.Namespace.{Namespace}
use Rattle.cm_base.specs.declared.record.Namespace.TheVariants as space
use Rattle.cm_base.specs.declared.record.Skeleton.{Skeleton}
use Rattle.cm_base.specs.declared.record.Spot.{Spot}
use Rattle.cm_conditions.specs.Values.{same_module}
use Rattle.cm_description.specs.Answers.{is_empty}
use Rattle.cm_description.specs.declared.description.Entry.{Entry}
use Rattle.cm_description.specs.declared.loaded.Export.{Export}
use Rattle.cm_description.specs.declared.loaded.Group.{Group}
use Rattle.cm_description.specs.declared.loaded.Project.{Project}
use Rattle.visibility.specs.Choosing.{chosen_items}
use Rattle.visibility.specs.Imports.{collected}
use Rattle.visibility.specs.Projects.{sources, members, is_library, unit_file, skeleton_of, defined_by, spot_place, file_place, name_refused}
use Rattle.visibility.specs.Providers.{definers_among, definers, exports_among, found_behind}
use Rattle.visibility.specs.declared.found.Found.{Found}
use Rattle.visibility.specs.declared.found.Found.TheVariants as found

-- ---- names that two sources define

-- spots in a unit
abbrev pub spots_in : ℕ → List Spot → List (ℕ × Spot)
spots_in u spots = map (λ (spot : Spot). (u, spot)) spots

-- the names that these units define, each with its unit and its spot: the units in order, and the names of each as its
-- skeleton has them
abbrev pub defined_spots : List Skeleton → List ℕ → List (ℕ × Spot)
defined_spots skeletons units = flat_map (λ u. spots_in u (skeleton_of skeletons u).defined) units

-- whether a unit is the first of these, or there is none
abbrev pub is_first : List ℕ → ℕ → Bool
is_first [] u = true
is_first (v ∷ more) u = v == u

-- the first name of these units that an earlier one defines too, where there is one
abbrev pub clash_among : List Skeleton → List ℕ → Option (ℕ × Spot)
clash_among skeletons units =
    find (λ (at : ℕ × Spot). not (is_first (definers_among skeletons units at.1.name) at.0))
    (defined_spots skeletons units)

-- the first name that two sources of a group define, at the second one
abbrev pub clash_in : Project → List Skeleton → ℕ → Option (ℕ × Spot)
clash_in project skeletons g = clash_among skeletons (sources project g)

-- 22 at the second unit's spot
abbrev pub clash_diag : Project → ℕ × Spot → Diag
clash_diag project at = name_refused 22 (spot_place (unit_file project at.0) at.1) at.1.name

abbrev pub unless_clash : Project → Option (ℕ × Spot) → Result (List Export) Diag → Result (List Export) Diag
unless_clash project None rest = rest
unless_clash project (Some at) rest = Err (clash_diag project at)

-- ---- one name

abbrev pub export : ModName → ℕ → Export
export name v = record { name = name; unit = v; hash = None }

-- the export of a name by what is found behind it: 25 where that is none, 23 where it is several units
abbrev pub export_by : Place → ModName → Found → Result (List Export) Diag
export_by at name (found.One v) = Ok (export name v ∷ [])
export_by at name found.Missing = Err (name_refused 25 at name)
export_by at name found.Several = Err (name_refused 23 at name)

-- what is found behind a name of a group: the source that defines it, or else the units under which these members
-- export it
abbrev pub behind_name : Project → List Skeleton → List (List Export) → ℕ → List ℕ → ModName → Found
behind_name project skeletons below g among name =
    found_behind project below (definers project skeletons g name) among name

-- ---- an export list

-- the names that these units define and those of these exports
abbrev pub names_in : List Skeleton → List ℕ → List Export → List ModName
names_in skeletons units exports = flat_map (defined_by skeletons) units ++ map (λ (e : Export). e.name) exports

-- the names that `defined(NS NAME)` finds in an export list: those that a source of the group defines or a member
-- exports, under however many units
abbrev pub names_there : Project → List Skeleton → List (List Export) → ℕ → List ModName
names_there project skeletons below g =
    names_in skeletons (sources project g) (exports_among project below (members project g))

-- the export of an entry, by what is found behind its name; there is none behind a list
abbrev pub entry_export : (ModName → Found) → Option Entry → Result (List Export) Diag
entry_export behind None = Ok []
entry_export behind (Some entry) = export_by entry.at entry.name (behind entry.name)

abbrev pub same_export : Export → Export → Bool
same_export a b = same_module a.name b.name && (a.unit == b.unit)

-- each item once, at its first place
abbrev pub each_once : {A : Type 0} → (A → A → Bool) → List A → List A
each_once same [] = []
each_once same (x ∷ xs) = x ∷ filter (λ y. not (same x y)) (each_once same xs)

-- the exports of chosen entries, as they are written: each from the source of the group that defines its name, or else
-- from the only unit under which the members export it
abbrev pub entry_exports : (ModName → Found) → List Entry → List ℕ → Result (List Export) Diag
entry_exports behind entries chosen = do
  all ← collected (λ n. entry_export behind (slice_get entries n)) chosen
  Ok (each_once same_export all)

-- ---- without an export list

-- the subgroups of a group: the groups among its members that are no libraries
abbrev pub subgroups : Project → ℕ → List ℕ
subgroups project g = filter (λ m. not (is_library project m)) (members project g)

-- the names that a group shows where no entry is written: those that its sources define, and those that its subgroups
-- export; what comes only from libraries isn't among them
abbrev pub default_names : Project → List Skeleton → List (List Export) → ℕ → List ModName
default_names project skeletons below g =
    names_in skeletons (sources project g) (exports_among project below (subgroups project g))

-- where a name space stands in the order: structure, signature, functor, funsig
abbrev pub space_place : Namespace → ℕ
space_place space.Structure = 0
space_place space.Signature = 1
space_place space.Functor = 2
space_place space.Funsig = 3

-- the order of names: by name space, and then in byte order
abbrev pub name_cmp : ModName → ModName → Ordering
name_cmp a b = ordering_then (nat_cmp (space_place a.space) (space_place b.space)) (slice_cmp nat_cmp a.name b.name)

abbrev pub named : ModName → ModName × Unit {0}
named name = (name, tt)

-- names in their order, each once
abbrev pub in_name_order : List ModName → List ModName
in_name_order names = keys (from_entries {R = name_cmp} (map named names))

-- the exports of these names, of which the sources define some and the subgroups export the others; the least name that
-- several units are exported under is 23, on the description as a whole
abbrev pub default_exports : (ModName → Found) → List ℕ → List ModName → Result (List Export) Diag
default_exports behind file shown =
    collected (λ name. export_by (file_place file) name (behind name)) (in_name_order shown)

-- ---- a group

-- the chosen entries of an export list, or what a group shows by itself where none is written
abbrev pub shown_list : (ModName → Found) → (ModName → Found) → Group → List ModName → List ℕ
    → Result (List Export) Diag
shown_list behind beneath group shown chosen =
    if is_empty group.entries then default_exports beneath group.file shown
    else entry_exports behind group.entries chosen

-- the exports of a group by its export list, once no two of its sources define a name; directives alone are no entries
abbrev pub shown_by : Project → List Skeleton → List Def → ℕ → List (List Export) → Group → Result (List Export) Diag
shown_by project skeletons defs g below group = do
  chosen ← chosen_items defs (names_there project skeletons below g) group.export_lines
  shown_list (behind_name project skeletons below g (members project g))
      (behind_name project skeletons below g (subgroups project g)) group
      (default_names project skeletons below g) chosen

-- what a frozen library records, or what a group shows
abbrev pub recorded_or : Option (List Export) → Result (List Export) Diag → Result (List Export) Diag
recorded_or (Some exports) shown = Ok exports
recorded_or None shown = shown

abbrev pub group_exports : Project → List Skeleton → List Def → ℕ → List (List Export) → Option Group
    → Result (List Export) Diag
group_exports project skeletons defs g below None = Ok []
group_exports project skeletons defs g below (Some group) = recorded_or group.thawed
    (unless_clash project (clash_in project skeletons g) (shown_by project skeletons defs g below group))

-- The exports of a group, where `below` has those of the groups that ended before it. In this order: 22 at the first
-- name that an earlier source defines too; 3 or 4 of the export list; then 25 and 23 entry by entry, or 23 of the names
-- that the group shows by itself.
abbrev pub exports_of : Project → List Skeleton → List Def → ℕ → List (List Export) → Result (List Export) Diag
exports_of project skeletons defs g below = group_exports project skeletons defs g below (slice_get project.groups g)
