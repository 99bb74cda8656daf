-- What was loaded so far, and its steps: lists that grow at their ends.
use Rattle.std.specs.Prelude.{ℕ, ◌+◌, [], ◌∷◌, ◌++◌}
use Rattle.cm_description.specs.declared.loaded.Group.{Group}
use Rattle.cm_description.specs.declared.loaded.Unit.{Unit as LoadedUnit}
use Rattle.project_checks.specs.declared.progress.Progress.{Progress}

-- nothing is loaded yet
abbrev pub nothing : Progress
nothing = record { units = []; groups = []; memberships = []; finished = []; sum = 0 }

-- with one unit more
abbrev pub with_unit : LoadedUnit → ℕ → Progress → Progress
with_unit unit bytes p = record p { units = p.units ++ unit ∷ []; sum = p.sum + bytes }

-- the loading of a group begins
abbrev pub with_begun : Group → Progress → Progress
with_begun group p = record p { groups = p.groups ++ group ∷ [] }

-- the loading of a group ends
abbrev pub with_finished : ℕ → Progress → Progress
with_finished number p = record p { finished = p.finished ++ number ∷ [] }

-- a group is a member of another one
abbrev pub with_membership : ℕ → ℕ → Progress → Progress
with_membership group member p =
    record p { memberships = p.memberships ++ record { group = group; member = member } ∷ [] }
