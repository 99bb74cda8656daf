-- The variables of a `val` one after another, and what it makes of them. The Definition of Standard ML (Revised),
-- sections 4.6 to 4.8.
use Rattle.std.specs.Prelude.{ℕ, List, [], ◌∷◌, ◌++◌, map, Option, Some, None, Bool, ◌&&◌, ◌||◌, not, cond}
use Rattle.std.specs.List.{list_any}
use Rattle.sml_trees.specs.declared.name.At.{At}
use Rattle.semantic_objects.specs.declared.entry.ValueEntry.{ValueEntry}
use Rattle.semantic_objects.specs.declared.entry.VidStatus.TheVariants as status
use Rattle.semantic_objects.specs.Tables.{Table, with_all}
use Rattle.semantic_objects.specs.Environments.{Env, env_of}
use Rattle.unification.specs.Types.{Ty, State, put, occurs}
use Rattle.static_semantics.specs.Inferring.{Progress, Scope, Answer, ◌>>=◌, gives, refuses_where, Bound, is_too_large, sized_dec}
use Rattle.static_semantics.specs.CoreInference.{Group, closed_where, none_left, closed_val}

-- whether a variable is closed, its name and its type
abbrev pub Closing : Type 0
Closing = Bool × (List ℕ × Ty)

abbrev pub all_closing : Bool → Bound → List Closing
all_closing closes rows = map (λ row. (closes, row)) rows

-- the variables of bindings in their order
abbrev pub variables_of : List Group → List Closing
variables_of [] = []
variables_of (group ∷ groups) = all_closing group.0 group.1 ++ variables_of groups

-- what a variable stands for behind the `val`
abbrev pub closed_entry : (ℕ → Bool) → State → Closing → ValueEntry
closed_entry kept s x = record { status = status.Variable; scheme = closed_where x.0 kept s x.1.1 }

abbrev pub closed_rows : (ℕ → Bool) → State → List Closing → Table ValueEntry
closed_rows kept s xs = map (λ (x : Closing). (x.1.0, closed_entry kept s x)) xs

-- an environment of values alone
abbrev pub env_of_values : Table ValueEntry → Env
env_of_values rows = env_of [] [] (with_all rows [])

-- whether a variable of the table is kept, or stands in the type of a variable that isn't closed
abbrev pub stays_open : (ℕ → Bool) → State → List Closing → ℕ → Bool
stays_open kept s xs v = kept v || list_any (λ (x : Closing). not x.0 && occurs v (put s.stands x.1.1)) xs

-- the first of some written type variables for which this holds
abbrev pub first_left : (ℕ → Bool) → List (List ℕ × ℕ) → Option (List ℕ)
first_left left [] = None
first_left left (row ∷ rows) = cond (left row.1) (Some row.0) (first_left left rows)

-- whether a variable's type has more than 65,536 nodes as it is known
abbrev pub any_too_large : State → List Closing → Bool
any_too_large s xs = list_any (λ (x : Closing). is_too_large (put s.stands x.1.1)) xs

-- the end of a `val` as inference has it
abbrev pub val_end : Scope → At → (ℕ → Bool) → List (List ℕ × ℕ) → List Group → Progress → Answer (Env × Progress)
val_end sc at kept own groups st = closed_val sc at kept own groups st >>= λ r. sized_dec sc at r

-- .. and variable by variable: 37 for a written type variable that is left, then 38, then its variables
abbrev pub ended_val :
    Scope → At → (ℕ → Bool) → List (List ℕ × ℕ) → List Closing → Progress → Answer (Env × Progress)
ended_val sc at kept own xs st =
    none_left sc at (tt {0}) (first_left (stays_open kept st.types xs) own)
    >>= λ u. refuses_where (any_too_large st.types xs) 38 sc at
    >>= λ v. gives (env_of_values (closed_rows kept st.types xs), st)
