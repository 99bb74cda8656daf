-- A command prints all at its end, so one that is cut off before has printed nothing.
use Rattle.std.proofs.Common.{ℕ, List, [], ◌∷◌, Option, Some, None}
use Rattle.std.specs.Prelude.{Contains, Result, Ok, Err}
use Rattle.std.proofs.lemmas.List.Elements.{Contains-append_left}
use Rattle.cm_base.specs.Files.{Files}
use Rattle.cm_base.specs.declared.diag.Diag.{Diag}
use Rattle.cm_base.specs.declared.record.Def.{Def}
use Rattle.session_scripts.specs.declared.step.Step.{Step}
use Rattle.session_scripts.specs.declared.step.Step.TheVariants as step
use Rattle.generated_projects.specs.Generating.{generated}
use Rattle.command_words.specs.Words.{call_of, command_of}
use Rattle.command_words.specs.declared.call.Call.{Call}
use Rattle.command_words.specs.declared.call.Call.TheVariants as call
use Rattle.command_words.specs.declared.command.Command.{Command}
use Rattle.command_words.specs.declared.command.Command.TheVariants as command
use Rattle.command_parts.specs.Meaning.{prints_last}
use Rattle.command_parts.specs.Sessions.{script_in}
use Rattle.command_parts.specs.Targets.{out_in}
use Rattle.command_parts.proofs.Ending.{nothing_printed}
use Rattle.cm_top.specs.Generating.{generating, make, of_part}
use Rattle.cm_top.specs.Meaning.{of_command, of_link, of_words}
use Rattle.cm_top.specs.Sessions.{of_call, of_line, of_script, of_step, play}
use Rattle.cm_top.specs.Ways.{Way}
use Rattle.cm_top.specs.declared.printed.Printed.{Printed}
use Rattle.cm_top.specs.declared.printed.Printed.TheVariants as printed
use Rattle.cm_top.proofs.GoingOn.{either_way}

pub link_cut : (part : Printed) (way : Way) (defs : List Def) (root : List ℕ) (files : Files) (out : Result (List ℕ) Diag)
    → Contains (of_link part way defs root files out).effect.cuts []
link_cut part way defs root files (Err diag) = nothing_printed
link_cut part way defs root files (Ok path) = Contains-append_left prints_last _ [] nothing_printed

pub command_cut : (part : Printed) (way : Way) (files : Files) (command : Command)
    → Contains (of_command part way files command).effect.cuts []
command_cut part way files (command.Build defs root) = Contains-append_left prints_last _ [] nothing_printed
command_cut part way files (command.Link defs root out) =
    link_cut part way defs root files (out_in files root out)

pub words_cut : (part : Printed) (way : Way) (files : Files) (command : Option Command)
    → Contains (of_words part way files command).effect.cuts []
words_cut part way files None = nothing_printed
words_cut part way files (Some command) = command_cut part way files command

part_cut : (way : Way) (files : Files) (first : Step) → Contains (of_part way files first).effect.cuts []
part_cut way files (step.Write path content) = nothing_printed
part_cut way files (step.Remove path) = nothing_printed
part_cut way files (step.Command words) = words_cut printed.LastLine way files (command_of words)

make_cut : (way : Way) (parts : List Step) (files : Files) → Contains (make way parts files).effect.cuts []
make_cut way [] files = nothing_printed
make_cut way (first ∷ parts) files =
    let one = part_cut way files first in
    let rest = make way parts (of_part way files first).effect.files in
    either_way (of_part way files first) rest (λ m. Contains m.effect.cuts [])
    (Contains-append_left (of_part way files first).effect.cuts _ [] one) one

pub generating_cut : (way : Way) (n : ℕ) (files : Files) → Contains (generating way n files).effect.cuts []
generating_cut way n files = make_cut way (generated n) files

pub line_cut : (way : Way) (files : Files) (call : Option Call) → Contains (of_line way files call).effect.cuts []
line_cut way files None = nothing_printed
line_cut way files (Some (call.Single command)) = command_cut printed.Report way files command
line_cut way files (Some (call.Gen n)) = generating_cut way n files
line_cut way files (Some (call.Session file)) = nothing_printed

step_cut : (way : Way) (files : Files) (first : Step) → Contains (of_step way files first).effect.cuts []
step_cut way files (step.Write path content) = nothing_printed
step_cut way files (step.Remove path) = nothing_printed
step_cut way files (step.Command words) =
    Contains-append_left (of_line way files (call_of words)).effect.cuts _ [] (line_cut way files (call_of words))

play_cut : (way : Way) (steps : List Step) (files : Files) → Contains (play way steps files).effect.cuts []
play_cut way [] files = nothing_printed
play_cut way (first ∷ steps) files =
    Contains-append_left (of_step way files first).effect.cuts _ [] (step_cut way files first)

pub script_cut : (way : Way) (files : Files) (r : Result (List Step) Diag)
    → Contains (of_script way files r).effect.cuts []
script_cut way files (Ok steps) = play_cut way steps files
script_cut way files (Err diag) = nothing_printed

pub call_cut : (way : Way) (files : Files) (call : Option Call) → Contains (of_call way files call).effect.cuts []
call_cut way files None = nothing_printed
call_cut way files (Some (call.Single command)) = command_cut printed.Report way files command
call_cut way files (Some (call.Gen n)) = generating_cut way n files
call_cut way files (Some (call.Session file)) = script_cut way files (script_in files file)
