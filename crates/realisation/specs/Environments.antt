-- An environment with other type functions and other schemes: names, statuses and the order of all stay.
use Rattle.std.specs.Prelude.{map}
use Rattle.semantic_objects.specs.declared.entry.ConEntry.{ConEntry}
use Rattle.semantic_objects.specs.declared.entry.TypeFn.{TypeFn}
use Rattle.semantic_objects.specs.declared.entry.TypeStr.{TypeStr}
use Rattle.semantic_objects.specs.declared.entry.ValueEntry.{ValueEntry}
use Rattle.semantic_objects.specs.Tables.{Table}
use Rattle.semantic_objects.specs.Trees.{Tree, TypeScheme}
use Rattle.semantic_objects.specs.Environments.{Env, Structures}

-- what becomes of each type function and of each scheme
pub record Change : Type 0 where
  pub function : TypeFn → TypeFn
  pub scheme : TypeScheme → TypeScheme

-- what becomes of each type, where arities and marks stay
abbrev pub by_types : (Tree → Tree) → Change
by_types f = record {
  function = λ function. record { arity = function.arity; body = f function.body };
  scheme = λ σ. record { marks = σ.marks; body = f σ.body };
}

abbrev pub changed_con : Change → ConEntry → ConEntry
changed_con by con = record { name = con.name; scheme = by.scheme con.scheme }

abbrev pub changed_type : Change → TypeStr → TypeStr
changed_type by str = record { function = by.function str.function; cons = map (changed_con by) str.cons }

abbrev pub changed_value : Change → ValueEntry → ValueEntry
changed_value by value = record { status = value.status; scheme = by.scheme value.scheme }

abbrev pub each_row : {A : Type 0} → (A → A) → Table A → Table A
each_row f rows = map (λ row. (row.0, f row.1)) rows

abbrev mutual
  pub changed : Change → Env → Env
  changed by (Env.MakeEnv ss ts vs) =
      Env.MakeEnv (changed_structures by ss) (each_row (changed_type by) ts) (each_row (changed_value by) vs)

  pub changed_structures : Change → Structures → Structures
  changed_structures by Structures.Nil = Structures.Nil
  changed_structures by (Structures.Cons name env rest) =
      Structures.Cons name (changed by env) (changed_structures by rest)
