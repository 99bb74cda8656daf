-- Outside the store nothing changes but the files of a generated project.
use Rattle.std.proofs.Common.{subst, inl, inr, ℕ, ◌≤◌, List, [], ◌∷◌, Option, Some, None}
use Rattle.std.specs.Prelude.{Contains, Result, Ok, Err}
use Rattle.std.specs.List.{AllByRecursion}
use Rattle.std.proofs.lemmas.List.Elements.{Contains-append_cases}
use Rattle.cm_base.specs.Files.{Files}
use Rattle.cm_base.specs.declared.diag.Diag.{Diag}
use Rattle.cm_base.specs.declared.record.Def.{Def}
use Rattle.cm_description.specs.declared.loaded.Project.{Project}
use Rattle.session_scripts.specs.declared.step.Step.{Step}
use Rattle.session_scripts.specs.declared.step.Step.TheVariants as step
use Rattle.generated_projects.specs.Generating.{generated}
use Rattle.command_words.specs.Words.{command_of}
use Rattle.command_words.specs.declared.command.Command.{Command}
use Rattle.command_words.specs.declared.command.Command.TheVariants as command
use Rattle.command_parts.specs.Generating.{files_of}
use Rattle.command_parts.specs.Meaning.{target_paths}
use Rattle.command_parts.specs.ProjectBuild as build
use Rattle.command_parts.proofs.Parts.{HasNoTarget, IsOf, all_of, none_within, one_within}
use Rattle.cm_top.specs.Generating.{generating, make, of_part}
use Rattle.cm_top.specs.Meaning.{of_project, of_words}
use Rattle.cm_top.specs.Ways.{Way}
use Rattle.cm_top.specs.declared.printed.Printed.{Printed}
use Rattle.cm_top.specs.declared.printed.Printed.TheVariants as printed
use Rattle.cm_top.proofs.GoingOn.{either_way}

-- ---- what a command changes outside the store is its target

project_within : (part : Printed) (works : build.Way) (target : Option (List ℕ)) (defs : List Def)
    (r : Result Project Diag) (files : Files) (path : List ℕ)
    → Contains (of_project part works target defs r files).outside path → Contains (target_paths target) path
project_within part works target defs (Ok project) files path within = within
project_within part works target defs (Err diag) files path within = absurd (none_within path within)

-- words that mean a command without a target change nothing there
words_none : (part : Printed) (way : Way) (files : Files) (command : Option Command) → HasNoTarget command
    → (path : List ℕ) → Contains (of_words part way files command).effect.outside path → ⊥
words_none part way files None is path within = none_within path within
words_none part way files (Some (command.Build defs root)) is path within =
    none_within path
    (project_within part way.works None defs (way.loads files defs root).result (way.loads files defs root).work.files path
    within)
words_none part way files (Some (command.Link defs root out)) is path within = is

part_within : (n : ℕ) (way : Way) (files : Files) (first : Step) → IsOf n first → (path : List ℕ)
    → Contains (of_part way files first).effect.outside path → Contains (files_of n) path
part_within n way files (step.Write file content) is path within =
    subst (Contains (files_of n)) (one_within file path within) is
part_within n way files (step.Remove file) is path within =
    subst (Contains (files_of n)) (one_within file path within) is
part_within n way files (step.Command words) is path within =
    absurd (words_none printed.LastLine way files (command_of words) is path within)

-- ---- generated projects

made_within : (n : ℕ) (way : Way) (parts : List Step) → AllByRecursion (IsOf n) parts → (files : Files) (path : List ℕ)
    → Contains (make way parts files).effect.outside path → Contains (files_of n) path
made_within n way [] all files path = λ within. absurd (none_within path within)
made_within n way (part ∷ parts) all files path =
    let first = of_part way files part in
    let rest = make way parts first.effect.files in
    either_way first rest (λ m. Contains m.effect.outside path → Contains (files_of n) path)
    (λ within. elim (Contains-append_cases first.effect.outside rest.effect.outside path within) [
      | inl here ↦ part_within n way files part all.0 path here
      | inr later ↦ made_within n way parts all.1 first.effect.files path later
    ])
    (λ within. part_within n way files part all.0 path within)

pub generated_within : (n : ℕ) → 1 ≤ n → (way : Way) (files : Files) (path : List ℕ)
    → Contains (generating way n files).effect.outside path → Contains (files_of n) path
generated_within n least way files path within =
    made_within n way (generated n) (all_of n least) files path within
