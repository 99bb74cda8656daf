-- How calls that elaborate phrases tell of inference: the state and the scope that they begin with, and their answers.
-- Every call of this kind is told of by these words.
use Rattle.std.specs.Prelude.{◌≡◌, ℕ, List, [], ◌∷◌, length, Some, Result, Ok, Err}
use Rattle.cm_base.specs.declared.fault.Fault.{Fault}
use Rattle.cm_base.specs.declared.fault.Fault.TheVariants as fault
use Rattle.sml_trees.specs.declared.name.At.{At}
use Rattle.semantic_objects.specs.declared.name.TyId.{TyId}
use Rattle.semantic_objects.specs.declared.entry.ValueEntry.{ValueEntry}
use Rattle.semantic_objects.specs.Tables.{with_all}
use Rattle.semantic_objects.specs.Environments.{empty_env}
use Rattle.unification.specs.Types.{Ty}
use Rattle.type_nodes.specs.Tables.{Table, Has, state, type_of, IsFrontOf}
use Rattle.sml_modules.specs.Items.{map_rows}
use Rattle.sml_modules.specs.Graphs.{Graph}
use Rattle.name_trails.specs.Trails.{Rows}
use Rattle.static_semantics.specs.Inferring.{Progress, Scope, outermost, Answer, gives, diag_at}
use Rattle.core_scopes.specs.Scopes.{Bindings, seen, written_of, IsScopeOf}

-- what inference passes on: what a table knows of its variables, and the number of the next name that a graph makes
abbrev pub progress : Table → Graph → Progress
progress t g = record { types = state t; names = length g.made }

-- the scope of a whole phrase in an environment of a graph
abbrev pub home_scope : Graph → Scope
home_scope g = outermost g.home empty_env

-- what is in scope as inference reads it, where `read` tells what the unit's own values are
abbrev pub scope_in : {V : Type 0} → Graph → Table → (V → ValueEntry) → Bindings V → Scope
scope_in g t read sc =
    record { env = seen g read sc; written = map_rows (type_of t) (written_of sc); home = g.home }

-- rows whose ids are of a table
abbrev pub HaveRows : Table → Rows TyId → Type 0
HaveRows t [] = Unit {0}
HaveRows t (row ∷ rows) = Has t row.1 × HaveRows t rows

-- a scope of a graph whose written type variables are of a table
pub record IsScopeOver {V : Type 0} (g : Graph) (t : Table) (sc : Bindings V) : Type 0 where
  pub there : IsScopeOf g sc
  pub written : HaveRows t (written_of sc)

-- ids stay ids of the table and what they were made as, and what was there when the table was as before can be had again
pub record KeepsTypes (old new : Table) : Type 0 where
  pub front : IsFrontOf old new
  pub types : (a : TyId) → Has old a → type_of new a ≡ type_of old a
  pub ids : (a : TyId) → Has old a → Has new a

-- what a call answers where inference gives this: its result, as `read` reads it, or the first diagnostic. Want of
-- memory may come at any time
abbrev pub Answers : {A R : Type 0} → Answer A → (R → A) → Result R Fault → Type 0
Answers want read (Ok r) = want ≡ gives (read r)
Answers want read (Err (fault.Diag diag)) = want ≡ Some (Err diag)
Answers want read (Err fault.NoMemory) = Unit {0}

-- .. where it gives a type and what is known then: the id was made as that type, and the table and the graph know that
abbrev pub Inferred : Answer (Ty × Progress) → Result TyId Fault → Table → Graph → Type 0
Inferred want result t g = Answers want (λ (id : TyId). (type_of t id, progress t g)) result

-- the answer of a check that failed
abbrev pub Refuses : Graph → ℕ → At → List (List ℕ) → Fault → Type 0
Refuses g number at names (fault.Diag diag) = diag ≡ diag_at number (home_scope g) at names
Refuses g number at names fault.NoMemory = Unit {0}

-- the fields of a record so far, by label
abbrev pub made_fields : Table → Rows TyId → Rows Ty
made_fields t fields = with_all (map_rows (type_of t) fields) []
