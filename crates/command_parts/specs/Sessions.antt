-- The script of a session, what is printed behind its commands, and what a command by itself keeps.
use Rattle.std.specs.Prelude.{ℕ, ◌≡◌, false, List, [], ◌∷◌, ◌++◌, Option, Some, None, Result}
use Rattle.std.specs.FinMap.{get}
use Rattle.cm_base.specs.Diags.{◌>>=◌}
use Rattle.cm_base.specs.Files.{Files, is_stored}
use Rattle.cm_base.specs.declared.diag.Diag.{Diag}
use Rattle.path_anchors.specs.Names.{Bindings, folder_path_of}
use Rattle.project_loading.specs.Projects.{anchors_of, command_place, root_name, there}
use Rattle.session_scripts.specs.Scripts.{script_of}
use Rattle.session_scripts.specs.declared.step.Step.{Step}
use Rattle.session_scripts.specs.declared.step.Step.TheVariants as step
use Rattle.command_words.specs.declared.call.Call.{Call}
use Rattle.command_words.specs.declared.call.Call.TheVariants as call
use Rattle.command_parts.specs.Generating.{files_of}
use Rattle.command_parts.specs.Headline.{KeepsOthersOf, KeepsOutside}
use Rattle.command_parts.specs.Lines.{diag_line, status_line}
use Rattle.command_parts.specs.Meaning.{Meaning, prints_last}
use Rattle.command_parts.specs.Targets.{target_of}
use Rattle.command_parts.specs.declared.status.Status.TheVariants as status

-- ---- the script

-- the steps of a script that is there, by its name and its text
abbrev pub script_at : List ℕ → Option (List ℕ) → Result (List Step) Diag
script_at name file = there command_place name file >>= λ text. script_of name text

abbrev pub named_script : Files → Bindings → List ℕ → Result (List Step) Diag
named_script files anchors file =
    root_name anchors file >>= λ name. script_at name (get files (folder_path_of anchors name))

-- The steps of the script FILE, or the first refusal: pathconfig's; that of FILE, a written path at the top, at
-- `command:0:0` as ROOT is refused; 1 there where it isn't in the folder; or that of its lines.
abbrev pub script_in : Files → List ℕ → Result (List Step) Diag
script_in files file = anchors_of files >>= λ anchors. named_script files anchors file

-- an edit is one of the project: nobody but a command writes the store
abbrev pub IsLawful : Step → Type 0
IsLawful (step.Write path content) = is_stored path ≡ false
IsLawful (step.Remove path) = is_stored path ≡ false
IsLawful (step.Command words) = Unit {0}

-- A command within a session: how it ended is printed behind its output, and the session goes on. It may be cut off as
-- it is by itself, or between its output and that line.
abbrev pub reported : Meaning → Meaning
reported m = record {
  status = status.Ok;
  output = m.output ++ status_line m.status;
  cuts = m.cuts ++ m.output ∷ [];
  files = m.files;
  asked = m.asked;
  asked_skeletons = m.asked_skeletons;
  interfaces = m.interfaces;
  paths = m.paths;
  outside = m.outside;
}

-- ---- sessions

-- a session that is refused: nothing is done
abbrev pub refused : Files → Diag → Meaning
refused files diag = record {
  status = status.Diagnostic;
  output = diag_line diag;
  cuts = prints_last;
  files = files;
  asked = [];
  asked_skeletons = [];
  interfaces = [];
  paths = [];
  outside = [];
}

-- a command by itself that does this changes nothing outside the store but its target, and that only once its linked
-- program stands; and a generated project nothing there but its files
abbrev pub KeepsTarget : Option Call → Meaning → Files → Option Files → Type 0
KeepsTarget None m files new = KeepsOthersOf m None files new
KeepsTarget (Some (call.Single command)) m files new = KeepsOthersOf m (target_of files command) files new
KeepsTarget (Some (call.Gen n)) m files new = KeepsOutside (files_of n) files new
KeepsTarget (Some (call.Session file)) m files new = Unit {0}
