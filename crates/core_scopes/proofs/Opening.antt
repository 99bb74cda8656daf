-- An environment's entries are bound name by name.
use Rattle.std.proofs.Common.{◌≡◌, ℕ, sym, ap, subst, ◌∙◌, List, [], ◌∷◌, ◌++◌, Option, Some, None, append_assoc}
use Rattle.semantic_objects.specs.Tables.{Table, entry, names_of}
use Rattle.semantic_objects.specs.Symbols.{AreRising}
use Rattle.sml_modules.specs.declared.id.EnvId.{EnvId}
use Rattle.sml_modules.specs.Items.{map_rows}
use Rattle.sml_modules.specs.Graphs.{Graph, env_at, HasEnv, FindsEnv}
use Rattle.semantic_objects.specs.Environments.{Env, structures}
use Rattle.name_trails.specs.Trails.{Rows}
use Rattle.core_scopes.specs.Scopes.{AreEnvs}
use Rattle.core_scopes.proofs.Tables.{row_of, rows_of, rows_of-names}
use Rattle.core_scopes.proofs.Scoping.{map_append, envs_append}

-- nothing is bound yet
pub first_rows : {A : Type 0} (table : Table A) (names : List (List ℕ)) → names ≡ names_of table → AreRising names
    → rows_of table names ≡ table
first_rows table names is rising =
    ap (rows_of table) is ∙ rows_of-names table (subst (λ ns. AreRising ns) is rising)

-- the row of the next name goes over to what was bound
pub next_row : {A B : Type 0} (f : A → B) (table : Table A) (name : List ℕ) (names left : List (List ℕ)) (x : A)
    (trail new whole : Rows B) → left ≡ name ∷ names → Some x ≡ entry name table
    → trail ++ map_rows f (rows_of table left) ≡ whole → new ≡ trail ++ (name, f x) ∷ []
    → new ++ map_rows f (rows_of table names) ≡ whole
next_row {A} {B} f table name names left x trail new whole is found before after =
    ap (λ z. z ++ map_rows f (rows_of table names)) after
    ∙ append_assoc trail ((name, f x) ∷ []) (map_rows f (rows_of table names))
    ∙ ap (λ (o : Option A). trail ++ map_rows f (row_of name o ++ rows_of table names)) found
    ∙ ap (λ ns. trail ++ map_rows f (rows_of table ns)) (sym is)
    ∙ before

pub no_row : {A B : Type 0} (f : A → B) (table : Table A) (name : List ℕ) (names left : List (List ℕ))
    (trail whole : Rows B) → left ≡ name ∷ names → None ≡ entry name table
    → trail ++ map_rows f (rows_of table left) ≡ whole → trail ++ map_rows f (rows_of table names) ≡ whole
no_row {A} {B} f table name names left trail whole is found before =
    ap (λ (o : Option A). trail ++ map_rows f (row_of name o ++ rows_of table names)) found
    ∙ ap (λ ns. trail ++ map_rows f (rows_of table ns)) (sym is)
    ∙ before

-- the same of structures, of which ids are bound
pub next_structure : (g : Graph) (env : Env) (name : List ℕ) (names left : List (List ℕ)) (id : EnvId)
    (trail new : Rows EnvId) (whole : Rows Env) → left ≡ name ∷ names
    → FindsEnv g (entry name (structures env)) (Some id)
    → map_rows (env_at g) trail ++ rows_of (structures env) left ≡ whole → new ≡ trail ++ (name, id) ∷ []
    → map_rows (env_at g) new ++ rows_of (structures env) names ≡ whole
next_structure g env name names left id trail new whole is found before after =
    ap (λ z. map_rows (env_at g) z ++ rows_of (structures env) names) after
    ∙ ap (λ z. z ++ rows_of (structures env) names) (map_append (env_at g) trail ((name, id) ∷ []))
    ∙ append_assoc (map_rows (env_at g) trail) ((name, env_at g id) ∷ []) (rows_of (structures env) names)
    ∙ ap (λ (o : Option Env). map_rows (env_at g) trail ++ (row_of name o ++ rows_of (structures env) names))
    (sym found.1)
    ∙ ap (λ ns. map_rows (env_at g) trail ++ rows_of (structures env) ns) (sym is)
    ∙ before

pub next_env : (g : Graph) (old trail new : Rows EnvId) (name : List ℕ) (id : EnvId) → HasEnv g id
    → (AreEnvs g old → AreEnvs g trail) → new ≡ trail ++ (name, id) ∷ [] → AreEnvs g old → AreEnvs g new
next_env g old trail new name id there before after h =
    subst (AreEnvs g) (sym after) (envs_append g trail ((name, id) ∷ []) (before h) (there, tt))
