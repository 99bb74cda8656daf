-- What a generated project means where there are tools: its steps are done one after the other. Of the report of a build
-- the last line alone is printed, and a diagnostic ends the whole behind its line.
use Rattle.std.specs.Prelude.{ℕ, List, [], ◌∷◌}
use Rattle.std.specs.FinMap.{insert, remove}
use Rattle.cm_base.specs.Files.{Files}
use Rattle.session_scripts.specs.declared.step.Step.{Step}
use Rattle.session_scripts.specs.declared.step.Step.TheVariants as step
use Rattle.generated_projects.specs.Generating.{generated}
use Rattle.command_words.specs.Words.{command_of}
use Rattle.command_parts.specs.InTurn.{at_end, edit}
use Rattle.command_parts.specs.declared.status.Status.{Status}
use Rattle.command_parts.specs.declared.status.Status.TheVariants as status
use Rattle.cm_top.specs.Meaning.{Meaning, of_words, then_command, without_tools}
use Rattle.cm_top.specs.Ways.{Way}
use Rattle.cm_top.specs.declared.printed.Printed.TheVariants as printed

-- a part of a project: an edit, or a command of whose report the last line alone is printed
abbrev pub of_part : Way → Files → Step → Meaning
of_part way files (step.Write path content) = without_tools (edit path (insert files path content))
of_part way files (step.Remove path) = without_tools (edit path (remove files path))
of_part way files (step.Command words) = of_words printed.LastLine way files (command_of words)

-- one behind the other where the first ended well, and else the first alone
abbrev pub on_status : Status → Meaning → Meaning → Meaning
on_status status.Ok first rest = then_command first rest
on_status status.Diagnostic first rest = first
on_status status.Usage first rest = first
on_status status.FolderFault first rest = first
on_status status.SinkFault first rest = first
on_status status.NoMemory first rest = first
on_status status.ToolFault first rest = first

abbrev pub going_on : Meaning → Meaning → Meaning
going_on first rest = on_status first.effect.status first rest

-- the parts of a project in their order, as long as they end well
abbrev pub make : Way → List Step → Files → Meaning
make way [] files = without_tools (at_end files)
make way (first ∷ parts) files =
    going_on (of_part way files first) (make way parts (of_part way files first).effect.files)

-- the project of so many units
abbrev pub generating : Way → ℕ → Files → Meaning
generating way n files = make way (generated n) files
