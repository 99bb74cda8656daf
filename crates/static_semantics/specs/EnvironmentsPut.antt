-- An environment with types put in for the variables of the table.
use Rattle.std.specs.Prelude.{ℕ, List, map}
use Rattle.semantic_objects.specs.declared.entry.ConEntry.{ConEntry}
use Rattle.semantic_objects.specs.declared.entry.TypeStr.{TypeStr}
use Rattle.semantic_objects.specs.declared.entry.ValueEntry.{ValueEntry}
use Rattle.semantic_objects.specs.Tables.{Table}
use Rattle.semantic_objects.specs.Trees.{TypeScheme}
use Rattle.semantic_objects.specs.Environments.{Env, Structures}
use Rattle.unification.specs.Types.{Ty, Substitution, put}
use Rattle.unification.specs.Closing.{put_tree}
use Rattle.static_semantics.specs.Inferring.{Scope}

abbrev pub put_scheme : Substitution → TypeScheme → TypeScheme
put_scheme s σ = record { marks = σ.marks; body = put_tree s σ.body }

abbrev pub put_con : Substitution → ConEntry → ConEntry
put_con s con = record { name = con.name; scheme = put_scheme s con.scheme }

abbrev pub put_type : Substitution → TypeStr → TypeStr
put_type s str = record {
  function = record { arity = str.function.arity; body = put_tree s str.function.body };
  cons = map (put_con s) str.cons;
}

abbrev pub put_value : Substitution → ValueEntry → ValueEntry
put_value s value = record { status = value.status; scheme = put_scheme s value.scheme }

-- the rows of a table under a function of their entries
abbrev pub each_entry : {A : Type 0} → (A → A) → Table A → Table A
each_entry f rows = map (λ row. (row.0, f row.1)) rows

abbrev mutual
  pub put_env : Substitution → Env → Env
  put_env s (Env.MakeEnv ss ts vs) =
      Env.MakeEnv (put_structures s ss) (each_entry (put_type s) ts) (each_entry (put_value s) vs)

  pub put_structures : Substitution → Structures → Structures
  put_structures s Structures.Nil = Structures.Nil
  put_structures s (Structures.Cons name env rest) = Structures.Cons name (put_env s env) (put_structures s rest)

-- variables with their types, and a scope
abbrev pub put_rows : Substitution → List (List ℕ × Ty) → List (List ℕ × Ty)
put_rows s rows = map (λ row. (row.0, put s row.1)) rows

abbrev pub put_scope : Substitution → Scope → Scope
put_scope s sc = record { env = put_env s sc.env; written = put_rows s sc.written; home = sc.home }
