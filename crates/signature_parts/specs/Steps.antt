-- Rows of a signature that is made. Only private functions cite this file.
use Rattle.std.specs.Prelude.{◌≡◌, length, drop, Some, [], ◌∷◌}
use Rattle.semantic_objects.specs.declared.entry.ValueEntry.{ValueEntry}
use Rattle.semantic_objects.specs.Environments.{Env, structures, empty_env, modified_by}
use Rattle.sml_modules.specs.Graphs.{Graph, type_rows}
use Rattle.static_semantics.specs.Inferring.{found_at}
use Rattle.core_scopes.specs.declared.made.Made.{Made}
use Rattle.core_scopes.specs.Scopes.{Bindings, seen}
use Rattle.core_scopes.specs.Listed.{env_rows}
use Rattle.core_scopes.specs.Marks.{value_rows, env_of_made}
use Rattle.signature_specs.specs.declared.specified.Specified.{Specified}
use Rattle.signature_parts.specs.declared.marks.SpecifiedMark.{SpecifiedMark}

-- the mark that remembers what is specified
abbrev pub mark_of : Specified → SpecifiedMark
mark_of made = record {
  structures = length made.structures;
  types = length made.types;
  values = length made.values;
}

-- what was specified since, one entry a row
pub record IsMadeSince {V : Type 0} (since : SpecifiedMark) (made : Specified) (part : Made V) : Type 0 where
  pub structures : env_rows part.structures ≡ drop since.structures made.structures
  pub types : type_rows part.types ≡ drop since.types made.types
  pub values : (read : V → ValueEntry) → value_rows read part.values ≡ drop since.values made.values

-- what the structure without a name has that is in scope
abbrev pub OpensNameless : {V : Type 0} → Graph → Bindings V → Made V → Type 0
OpensNameless {V} g sc made = (read : V → ValueEntry) (env : Env)
    → found_at structures ([] ∷ []) (seen g read sc) ≡ Some env → env_of_made g read made ≡ modified_by empty_env env
