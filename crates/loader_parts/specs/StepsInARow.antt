-- Steps of loading that stand in a row.
use Rattle.std.specs.Prelude.{ℕ, List, Option, Result, Err}
use Rattle.cm_base.specs.Diags.{whole_file, ◌>>=◌}
use Rattle.cm_base.specs.declared.diag.Diag.{Diag}
use Rattle.cm_base.specs.declared.diag.Place.{Place}
use Rattle.cm_description.specs.declared.description.Description.{Description}
use Rattle.project_checks.specs.declared.progress.Progress.{Progress}
use Rattle.project_loading.specs.Projects.{Setting, counted, frozen, source_of, there, with_source, within_size}
use Rattle.project_loading.specs.declared.found.Found.{Found}

-- a source that is there, and not too large
abbrev pub source_there : Place → List ℕ → Option (List ℕ) → Result (List ℕ) Diag
source_there at name found = there at name found >>= within_size name

-- a member that is a source, in the group of a number
abbrev pub with_source_of : Setting → ℕ → Place → Found → Progress → Result Progress Diag
with_source_of setting holder at found p =
    source_of setting at found.name >>= λ source. with_source holder found.name found.options source p

-- a group that has a frozen file, where one group more has room
abbrev pub frozen_refused : List ℕ → Progress → Result Description Diag
frozen_refused name p = counted name p >>= λ room. Err (whole_file 60 (frozen name))
