-- The datatypes of a declaration in a scope. Only private functions cite this file.
use Rattle.std.specs.Prelude.{◌≡◌, ℕ, List, [], length, map, Result, IfOk}
use Rattle.cm_base.specs.declared.fault.Fault.{Fault}
use Rattle.semantic_objects.specs.declared.entry.TypeStr.{TypeStr}
use Rattle.semantic_objects.specs.declared.entry.ValueEntry.{ValueEntry}
use Rattle.semantic_objects.specs.Tables.{with_all}
use Rattle.semantic_objects.specs.Environments.{Env, env_of, empty_env}
use Rattle.type_nodes.specs.Tables.{Table}
use Rattle.bare_phrases.specs.Phrases.{DatPhrase}
use Rattle.sml_modules.specs.Graphs.{Graph}
use Rattle.name_trails.specs.Trails.{Rows}
use Rattle.static_semantics.specs.Inferring.{Progress, Scope, under, Answer, ◌>>=◌}
use Rattle.static_semantics.specs.DatatypeInference.{Dat, new_types, infer_dats, equality_choice}
use Rattle.core_scopes.specs.Scopes.{Bindings}
use Rattle.type_phrases.specs.Inferred.{Answers, KeepsTypes, progress, scope_in}
use Rattle.datatype_elab.specs.declared.dats.DatRead.{DatRead}
use Rattle.datatype_elab.specs.declared.reading.Datatypes.{Datatypes}
use Rattle.datatype_elab.specs.Listing.{dat_of, AreDats}

-- the environment of types alone
abbrev pub types_env : Rows TypeStr → Env
types_env rows = env_of [] (with_all rows []) []

-- datatypes were read where such types are in scope besides
pub record AreDatsUnder {V : Type 0} (g : Graph) (old : Table) (sc : Bindings V) (refused : List (List ℕ))
    (types : Rows TypeStr) (binds : List DatPhrase) (new : Table) (result : Result (List DatRead) Fault) : Type 0 where
  pub infers : (u : Table) (read : V → ValueEntry)
      → Answers (infer_dats (under (types_env types) (scope_in g u read sc)) refused binds [] (progress old g))
      (λ dats. (map (dat_of new) dats, progress new g)) result
  pub read : IfOk result (AreDats new)
  pub keeps : KeepsTypes old new

-- what is inferred before anything is made of it
abbrev pub infer_datatypes : Scope → List (List ℕ) → List DatPhrase → Progress → Answer (List Dat × Progress)
infer_datatypes sc refused binds st =
    new_types sc binds st.names empty_env
    >>= λ new. infer_dats (under new sc) refused binds [] st

-- the datatypes of a declaration were read
pub record AreRead {V : Type 0} (g : Graph) (old : Table) (sc : Bindings V) (refused : List (List ℕ))
    (binds : List DatPhrase) (new : Table) (result : Result Datatypes Fault) : Type 0 where
  pub infers : (u : Table) (read : V → ValueEntry)
      → Answers (infer_datatypes (scope_in g u read sc) refused binds (progress old g))
      (λ made. (map (dat_of new) made.dats, progress new g)) result
  pub read : IfOk result (λ (made : Datatypes). AreDats new made.dats)
  pub choice : IfOk result (λ (made : Datatypes).
      made.choice ≡ equality_choice g.home (length g.made) (map (dat_of new) made.dats))
  pub keeps : KeepsTypes old new
