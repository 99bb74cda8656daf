-- What `exception` declarations bind, and what is asked of what is in scope.
use Rattle.std.specs.Prelude.{◌≡◌, List, [], map, false, not}
use Rattle.sml_trees.specs.declared.name.Name.{Name}
use Rattle.sml_trees.specs.declared.name.LongName.{LongName}
use Rattle.semantic_objects.specs.declared.entry.ValueEntry.{ValueEntry}
use Rattle.semantic_objects.specs.Tables.{names_of, with_all}
use Rattle.semantic_objects.specs.Environments.{Env, env_of, values}
use Rattle.bare_phrases.specs.Phrases.{TyPhrase}
use Rattle.sml_modules.specs.Items.{map_rows}
use Rattle.sml_modules.specs.declared.id.EnvId.{EnvId}
use Rattle.sml_modules.specs.declared.parts.NamedValue.{NamedValue}
use Rattle.sml_modules.specs.Graphs.{Graph, env_at, HasEnv, Keeps, value_rows}
use Rattle.name_trails.specs.Trails.{Rows}
use Rattle.type_nodes.specs.Tables.{Table, type_of}
use Rattle.static_semantics.specs.BasicTypes.{exn_ty, arrow_ty, is_one_of, reserved_constructors}
use Rattle.static_semantics.specs.Inferring.{Scope, Answer, ◌>>=◌, gives, refuses_where, name_at, long_at, known, found_at}
use Rattle.static_semantics.specs.TypeInference.{infer_ty, new_label}
use Rattle.static_semantics.specs.DatatypeInference.{is_exception, exception_entry}
use Rattle.core_scopes.specs.declared.value.ValueInScope.{ValueInScope}
use Rattle.core_scopes.specs.declared.value.ValueInScope.TheVariants as value
use Rattle.core_scopes.specs.declared.written.InScope.{InScope}
use Rattle.core_scopes.specs.Scopes.{written_rows}

-- what the unit itself bound are no exceptions
abbrev pub AreVariables : {V : Type 0} → (V → ValueEntry) → Type 0
AreVariables {V} read = (own : V) → is_exception (read own).status ≡ false

-- the scope of a declaration in an environment, with written type variables
abbrev pub declared_in : Graph → Table → EnvId → List InScope → Scope
declared_in g t env vars =
    record { env = env_at g env; written = map_rows (type_of t) (written_rows vars); home = g.home }

-- an environment was made: all ids keep theirs, and no name was made
pub record Declares (old new : Graph) (id : EnvId) : Type 0 where
  pub there : HasEnv new id
  pub keeps : Keeps old new
  pub home : new.home ≡ old.home
  pub made : new.made ≡ old.made

-- ---- what follows is cited by private functions alone

-- the environment of values alone
abbrev pub env_of_values : List NamedValue → Env
env_of_values made = env_of [] [] (with_all (value_rows made) [])

-- a table tells the names of values
abbrev pub IsNamed : Rows (Unit {0}) → List NamedValue → Type 0
IsNamed names made = names_of names ≡ names_of (value_rows made)

-- a name may be bound after those of an environment
abbrev pub may_bind : Scope → Name → Env → Answer (Unit {0})
may_bind sc name made =
    refuses_where (is_one_of reserved_constructors name.text) 34 sc (name_at name)
    >>= λ u. new_label sc name (values made)

-- an exception with an argument, and the copy of one
abbrev pub exception_with : Scope → TyPhrase → Answer ValueEntry
exception_with sc ty = infer_ty sc ty >>= λ t. gives (exception_entry (arrow_ty t exn_ty))

abbrev pub exception_copied : Scope → LongName → Answer ValueEntry
exception_copied sc long =
    known sc long (found_at values long.parts sc.env)
    >>= λ value. refuses_where (not (is_exception value.status)) 34 sc (long_at long)
    >>= λ u. gives value

-- entries as rows of a scope
abbrev pub entry_rows : {V : Type 0} → List NamedValue → Rows (ValueInScope V)
entry_rows entries = map (λ (e : NamedValue). (e.name, value.Entry e.entry)) entries
