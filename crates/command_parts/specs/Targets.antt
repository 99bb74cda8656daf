-- Where a command writes the linked program besides.
use Rattle.std.specs.Prelude.{ℕ, List, Option, Some, None, Result, Ok, Err}
use Rattle.cm_base.specs.Diags.{◌>>=◌}
use Rattle.cm_base.specs.Files.{Files}
use Rattle.cm_base.specs.declared.diag.Diag.{Diag}
use Rattle.path_anchors.specs.Names.{Bindings, folder_path_of}
use Rattle.project_loading.specs.Projects.{anchors_of, root_name}
use Rattle.command_words.specs.declared.command.Command.{Command}
use Rattle.command_words.specs.declared.command.Command.TheVariants as command

-- The path in the folder that OUT means. ROOT and then OUT are looked at as written paths at the top, each refused as
-- ROOT is: at `command:0:0`, by its word where the number isn't 12.
abbrev pub out_path : Bindings → List ℕ → List ℕ → Result (List ℕ) Diag
out_path anchors root out =
    root_name anchors root >>= λ root_is. root_name anchors out >>= λ name. Ok (folder_path_of anchors name)

-- .. under the anchors of the folder, before anything is loaded
abbrev pub out_in : Files → List ℕ → List ℕ → Result (List ℕ) Diag
out_in files root out = anchors_of files >>= λ anchors. out_path anchors root out

abbrev pub path_in : Result (List ℕ) Diag → Option (List ℕ)
path_in (Ok path) = Some path
path_in (Err diag) = None

-- the target of a command: the path at which it writes the linked program besides
abbrev pub target_of : Files → Command → Option (List ℕ)
target_of files (command.Build defs root) = None
target_of files (command.Link defs root out) = path_in (out_in files root out)
