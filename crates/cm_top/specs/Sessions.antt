-- What a session means where there are tools, and so what the words of any call of the program mean: as without them, with
-- the uses of tools of all its commands.
use Rattle.std.specs.Prelude.{ℕ, List, [], ◌∷◌, Option, Some, None, Result, Ok, Err}
use Rattle.std.specs.FinMap.{insert, remove}
use Rattle.cm_base.specs.Definitions.{Definitions}
use Rattle.cm_base.specs.Derived.{ToolRules}
use Rattle.cm_base.specs.Files.{Files}
use Rattle.cm_base.specs.declared.diag.Diag.{Diag}
use Rattle.session_scripts.specs.declared.step.Step.{Step}
use Rattle.session_scripts.specs.declared.step.Step.TheVariants as step
use Rattle.command_words.specs.Words.{call_of}
use Rattle.command_words.specs.declared.call.Call.{Call}
use Rattle.command_words.specs.declared.call.Call.TheVariants as call
use Rattle.command_parts.specs.InTurn.{at_end, edit}
use Rattle.command_parts.specs.Meaning.{usage}
use Rattle.command_parts.specs.Sessions.{refused, script_in}
use Rattle.command_parts.specs.Sessions as plain
use Rattle.cm_top.specs.Generating.{generating}
use Rattle.cm_top.specs.Meaning.{Meaning, of_command, then_command, without_tools}
use Rattle.cm_top.specs.Ways.{Way, plain_way, store_way}
use Rattle.cm_top.specs.declared.printed.Printed.TheVariants as printed

-- What the words of a command mean that stands in a script: a command by itself, or a generated project. A session is
-- none of these; no script that is read has one.
abbrev pub of_line : Way → Files → Option Call → Meaning
of_line way files None = without_tools (usage files)
of_line way files (Some (call.Single command)) = of_command printed.Report way files command
of_line way files (Some (call.Gen n)) = generating way n files
of_line way files (Some (call.Session file)) = without_tools (usage files)

-- a command within a session: how it ended is printed behind its output, and the session goes on
abbrev pub reported : Meaning → Meaning
reported m = record { effect = plain.reported m.effect; uses = m.uses; runs = m.runs }

abbrev pub of_step : Way → Files → Step → Meaning
of_step way files (step.Write path content) = without_tools (edit path (insert files path content))
of_step way files (step.Remove path) = without_tools (edit path (remove files path))
of_step way files (step.Command words) = reported (of_line way files (call_of words))

abbrev pub play : Way → List Step → Files → Meaning
play way [] files = without_tools (at_end files)
play way (first ∷ steps) files =
    then_command (of_step way files first) (play way steps (of_step way files first).effect.files)

abbrev pub of_script : Way → Files → Result (List Step) Diag → Meaning
of_script way files (Err diag) = without_tools (refused files diag)
of_script way files (Ok steps) = play way steps files

-- ---- calls of the program

abbrev pub of_call : Way → Files → Option Call → Meaning
of_call way files None = without_tools (usage files)
of_call way files (Some (call.Single command)) = of_command printed.Report way files command
of_call way files (Some (call.Gen n)) = generating way n files
of_call way files (Some (call.Session file)) = of_script way files (script_in files file)

-- What the words of a call mean in a folder, as `meaning_of` says of a command by itself.
abbrev pub meaning_of_call : Definitions → ToolRules → List (List ℕ) → Files → Meaning
meaning_of_call by rules words files = of_call (plain_way by rules) files (call_of words)

-- .. and what they do over a store as it stands, whoever wrote it. Over a good store, where no two differing interfaces
-- share a hash, it is what they mean.
abbrev pub doing_of_call : Definitions → ToolRules → List (List ℕ) → Files → Meaning
doing_of_call by rules words files = of_call (store_way by rules) files (call_of words)
