-- Meanings one after the other: an edit, one behind another, and what is meant where nothing is left.
use Rattle.std.specs.Prelude.{ℕ, List, [], ◌∷◌, ◌++◌, map}
use Rattle.cm_base.specs.Files.{Files}
use Rattle.command_parts.specs.Meaning.{Meaning, prints_last}
use Rattle.command_parts.specs.declared.status.Status.TheVariants as status

-- an edit at this path that leaves these files
abbrev pub edit : List ℕ → Files → Meaning
edit path files = record {
  status = status.Ok;
  output = [];
  cuts = prints_last;
  files = files;
  asked = [];
  asked_skeletons = [];
  interfaces = [];
  paths = path ∷ [];
  outside = path ∷ [];
}

-- where no step is left
abbrev pub at_end : Files → Meaning
at_end files = record {
  status = status.Ok;
  output = [];
  cuts = prints_last;
  files = files;
  asked = [];
  asked_skeletons = [];
  interfaces = [];
  paths = [];
  outside = [];
}

-- One behind the other: all of both, and the status and the files of the last. It is cut off within the first, or with
-- the first whole within the others.
abbrev pub then_command : Meaning → Meaning → Meaning
then_command first rest = record {
  status = rest.status;
  output = first.output ++ rest.output;
  cuts = first.cuts ++ map (λ printed. first.output ++ printed) rest.cuts;
  files = rest.files;
  asked = first.asked ++ rest.asked;
  asked_skeletons = first.asked_skeletons ++ rest.asked_skeletons;
  interfaces = first.interfaces ++ rest.interfaces;
  paths = first.paths ++ rest.paths;
  outside = first.outside ++ rest.outside;
}
