-- All names of a project: what each group exports and each unit imports, or the first refusal.
use Rattle.std.specs.Prelude.{ℕ, List, [], ◌∷◌, ◌++◌, map, slice_get, slice_set, Option, Some, None, Result, Ok, Err}
use Rattle.std.specs.Option.{option_map_or}
use Rattle.cm_base.specs.Diags.{◌>>=◌}
use Rattle.cm_base.specs.declared.diag.Diag.{Diag}
use Rattle.cm_base.specs.declared.record.Def.{Def}
use Rattle.cm_base.specs.declared.record.Skeleton.{Skeleton}
use Rattle.cm_description.specs.declared.loaded.Export.{Export}
use Rattle.cm_description.specs.declared.loaded.Group.{Group}
use Rattle.cm_description.specs.declared.loaded.Project.{Project}
use Rattle.cm_description.specs.declared.loaded.Unit.{Unit as ProjectUnit}
use Rattle.cm_description.specs.declared.loaded.Wanted.{Wanted}
use Rattle.visibility.specs.Exports.{exports_of}
use Rattle.visibility.specs.Imports.{imports_in}
use Rattle.visibility.specs.declared.names.Names.{Names}

abbrev pub names : List (List Export) → List (List Wanted) → Names
names exports wanted = record { exports = exports; wanted = wanted }

-- the lists of imports with those of these units set, up to the first refusal
abbrev pub with_imports : (ℕ → Result (List Wanted) Diag) → List ℕ → List (List Wanted)
    → Result (List (List Wanted)) Diag
with_imports imports [] wanted = Ok wanted
with_imports imports (u ∷ units) wanted = do
  these ← imports u
  with_imports imports units (slice_set wanted u these)

-- the units of a group whose imports are looked for: those of a frozen library are recorded
abbrev pub unless_frozen : Option (List Export) → List ℕ → List ℕ
unless_frozen None units = units
unless_frozen (Some recorded) units = []

abbrev pub importing : Project → ℕ → List ℕ
importing project g =
    option_map_or (λ (group : Group). unless_frozen group.thawed group.units) (slice_get project.groups g) []

-- the names so far with those of these groups: of each group first its exports, then the imports of its units in member
-- order, which see the exports of the groups that ended before
abbrev pub with_groups : Project → List Skeleton → List Def → List ℕ → Names → Result Names Diag
with_groups project skeletons defs [] so_far = Ok so_far
with_groups project skeletons defs (g ∷ groups) so_far = do
  exports ← exports_of project skeletons defs g so_far.exports
  wanted ← with_imports (imports_in project skeletons so_far.exports g) (importing project g) so_far.wanted
  with_groups project skeletons defs groups (names (so_far.exports ++ exports ∷ []) wanted)

-- each unit without imports
abbrev pub no_imports : Project → List (List Wanted)
no_imports project = map (λ (unit : ProjectUnit). []) project.units

-- All names of a project, the groups in the order in which their loading ended: the exports of each group in that
-- order, and the imports of each unit by its number.
abbrev pub names_of : Project → List Skeleton → List Def → Result Names Diag
names_of project skeletons defs = with_groups project skeletons defs project.finished (names [] (no_imports project))
