-- Entries that are specified at once. Only private functions cite this file.
use Rattle.std.specs.Prelude.{◌≡◌, ◌++◌}
use Rattle.semantic_objects.specs.declared.entry.ValueEntry.{ValueEntry}
use Rattle.sml_modules.specs.Graphs.{type_rows}
use Rattle.core_scopes.specs.declared.made.Made.{Made}
use Rattle.core_scopes.specs.Listed.{env_rows}
use Rattle.core_scopes.specs.Marks.{value_rows}
use Rattle.signature_specs.specs.declared.specified.Specified.{Specified}

-- entries stand behind those that were specified before
pub record AddsPart {V : Type 0} (old new : Specified) (part : Made V) : Type 0 where
  pub bound : new.bound ≡ old.bound
  pub structures : new.structures ≡ old.structures ++ env_rows part.structures
  pub types : new.types ≡ old.types ++ type_rows part.types
  pub values : (read : V → ValueEntry) → new.values ≡ old.values ++ value_rows read part.values
