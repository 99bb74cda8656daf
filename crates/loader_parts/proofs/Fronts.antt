-- One more byte than the limit shows whether a file passes it.
use Rattle.std.proofs.Common.{◌≡◌, ℕ, ◌+◌, List, length, length-take, take, take_all, Option, Some, None, Ok, Err, refl, is_some, arith, if◌then◌else◌}
use Rattle.std.proofs.lemmas.Grind.{common_steps}
use Rattle.std.specs.Prelude.{nat_lt}
use Rattle.cm_base.specs.Diags.{whole_file}
use Rattle.cm_base.specs.Files.{front_read}
use Rattle.cm_base.specs.declared.diag.Place.{Place}
use Rattle.grammars.specs.Reading.{read}
use Rattle.cm_lexer.specs.Tokens.{scan_of}
use Rattle.path_anchors.specs.Pathconfig.{config_file, bindings_of}
use Rattle.description_values.specs.Described.{by_reading, description_of}
use Rattle.cm_description.specs.Grammar.{description}
use Rattle.project_loading.specs.Projects.{bound_by, counted, described_by}
use Rattle.project_checks.specs.declared.limits.TheConstants.{PATHCONFIG, SOURCE}
use Rattle.project_checks.specs.declared.progress.Progress.{Progress}
use Rattle.project_loading.proofs.Levels.{goes_alike}
use Rattle.loader_parts.specs.StepsInARow.{source_there}
use Rattle.loader_parts.specs.declared.limits.TheConstants.{DESCRIPTION}

-- what is answered by a file's size and, within the limit, by its bytes
pub by_front : {A : Type 0} (max : ℕ) (bytes : List ℕ) (refused : A) (goes : List ℕ → A)
    → (if nat_lt max (length (take (max + 1) bytes)) then refused else goes (take (max + 1) bytes))
    ≡ (if nat_lt max (length bytes) then refused else goes bytes)
by_front max bytes refused goes = grind (arith, common_steps, length-take (max + 1) bytes, take_all (max + 1) bytes)

pub bound_front : (file : Option (List ℕ)) → bound_by (front_read PATHCONFIG file) ≡ bound_by file
bound_front None = refl
bound_front (Some bytes) = by_front PATHCONFIG bytes (Err (whole_file 12 config_file)) bindings_of

pub found_front : (at : Place) (name : List ℕ) (file : Option (List ℕ))
    → source_there at name (front_read SOURCE file) ≡ source_there at name file
found_front at name None = refl
found_front at name (Some bytes) = by_front SOURCE bytes (Err (whole_file 12 name)) (λ source. Ok source)

description_front : (name bytes : List ℕ)
    → description_of name (take (DESCRIPTION + 1) bytes) ≡ description_of name bytes
unfolding description_of
description_front name bytes =
    by_front DESCRIPTION bytes (Err (whole_file 12 name))
    (λ text. by_reading name text (read (description name text) (scan_of text).tokens))

pub described_front : (at : Place) (name : List ℕ) (p : Progress) (file : Option (List ℕ))
    → described_by at name p (front_read DESCRIPTION file) ≡ described_by at name p file
described_front at name p None = refl
described_front at name p (Some bytes) =
    goes_alike (counted name p) (λ room. description_of name (take (DESCRIPTION + 1) bytes))
    (λ room. description_of name bytes) (λ room is. description_front name bytes)

pub some_front : (file : Option (List ℕ)) → is_some (front_read 0 file) ≡ is_some file
some_front None = refl
some_front (Some bytes) = refl
