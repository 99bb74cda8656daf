-- Generated projects: what is printed of their builds, and which files they have.
use Rattle.std.specs.Prelude.{ℕ, ◌≡◌, ◌≢◌, false, List, ◌∷◌, map, None}
use Rattle.cm_base.specs.Files.{is_stored}
use Rattle.build_laws.specs.CutBuild.{Cut}
use Rattle.session_scripts.specs.declared.step.Step.{Step}
use Rattle.session_scripts.specs.declared.step.Step.TheVariants as step
use Rattle.generated_projects.specs.Generating.{description_path, numbers, source_path}
use Rattle.command_words.specs.Words.{command_of}
use Rattle.command_parts.specs.Lines.{last_line}
use Rattle.command_parts.specs.Meaning.{Meaning, ended_in}

-- the line that ends the report of a build
abbrev pub last_of : Cut → List ℕ
last_of cut = last_line cut.units (ended_in cut)

-- a meaning, but for what it prints
abbrev pub printing : List ℕ → Meaning → Meaning
printing output m = record {
  status = m.status;
  output = output;
  cuts = m.cuts;
  files = m.files;
  asked = m.asked;
  asked_skeletons = m.asked_skeletons;
  interfaces = m.interfaces;
  paths = m.paths;
  outside = m.outside;
}

-- a part of a project: an edit of the project, or words that mean a command by itself
abbrev pub IsPart : Step → Type 0
IsPart (step.Write path content) = is_stored path ≡ false
IsPart (step.Remove path) = is_stored path ≡ false
IsPart (step.Command words) = command_of words ≢ None

-- the files of the project of so many units, each of which is written
abbrev pub files_of : ℕ → List (List ℕ)
files_of n = description_path ∷ map source_path (numbers n)
