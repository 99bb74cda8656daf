-- Environments are opened one after the other.
use Rattle.std.proofs.Common.{◌≡◌, ℕ, refl, sym, ap, ap₂, subst, ◌∙◌, List, [], ◌∷◌, ◌++◌, ◌+◌, ◌<◌, length, drop, get_or, Option, Some, append_assoc}
use Rattle.std.specs.Prelude.{Err}
use Rattle.semantic_objects.specs.declared.entry.TypeStr.{TypeStr}
use Rattle.semantic_objects.specs.declared.entry.ValueEntry.{ValueEntry}
use Rattle.semantic_objects.specs.Tables.{Table as Named, entry, with_all}
use Rattle.semantic_objects.specs.Environments.{Env, env_of, table_of, structures_of, structures, types, values, empty_env, modified_by}
use Rattle.cm_base.specs.declared.fault.Fault.{Fault}
use Rattle.sml_trees.specs.declared.name.LongName.{LongName}
use Rattle.sml_modules.specs.declared.id.EnvId.{EnvId}
use Rattle.sml_modules.specs.declared.parts.NamedEnv.{NamedEnv}
use Rattle.sml_modules.specs.Items.{map_rows}
use Rattle.sml_modules.specs.Graphs.{Graph, env_at, HasEnv, HasEnvs, structure_rows, type_rows}
use Rattle.name_trails.specs.Trails.{Rows}
use Rattle.type_nodes.specs.Tables.{Table}
use Rattle.static_semantics.specs.Inferring.{Scope, Answer, ◌>>=◌, gives, known, found_at}
use Rattle.static_semantics.specs.CoreInference.{infer_open}
use Rattle.core_scopes.specs.declared.made.Made.{Made}
use Rattle.core_scopes.specs.declared.made.NamedInScope.{NamedInScope}
use Rattle.core_scopes.specs.Scopes.{entry_of}
use Rattle.core_scopes.specs.Listed.{scope_rows}
use Rattle.core_scopes.specs.Marks.{value_rows, env_of_made}
use Rattle.core_scopes.proofs.Tables.{row_of, rows_of, all_append}
use Rattle.core_scopes.proofs.Scoping.{map_append}
use Rattle.type_phrases.specs.Inferred.{Answers}
use Rattle.type_phrases.proofs.Steps.{failed}
use Rattle.env_parts.proofs.Tabling.{drop_next}
use Rattle.open_declarations.specs.Opened.{AllEnvs, opened_after, opened_env, as_held, AddsValues, AddsEnv, IsOpened}

-- ---- entries in the order of their names

-- the row of the next name goes over to those that were added
row_next : {A : Type 0} (table : Named A) (name : List ℕ) (names left : List (List ℕ)) (x : A)
    (front new whole : Named A) → left ≡ name ∷ names → Some x ≡ entry name table
    → front ++ rows_of table left ≡ whole → new ≡ front ++ (name, x) ∷ [] → new ++ rows_of table names ≡ whole
row_next {A} table name names left x front new whole is found before after =
    ap (λ z. z ++ rows_of table names) after
    ∙ append_assoc front ((name, x) ∷ []) (rows_of table names)
    ∙ ap (λ (o : Option A). front ++ (row_of name o ++ rows_of table names)) found
    ∙ ap (λ ns. front ++ rows_of table ns) (sym is)
    ∙ before

rows_append : (g : Graph) (front back : List NamedEnv)
    → structure_rows g (front ++ back) ≡ structure_rows g front ++ structure_rows g back
rows_append g [] back = refl
rows_append g (e ∷ front) back = ap (λ (rows : Named Env). (e.name, env_at g e.env) ∷ rows) (rows_append g front back)

envs_append : (g : Graph) (front : List NamedEnv) (e : NamedEnv) → HasEnvs g front → HasEnv g e.env
    → HasEnvs g (front ++ e ∷ [])
envs_append g [] e h k = (k, tt)
envs_append g (x ∷ front) e h k = (h.0, envs_append g front e h.1 k)

-- a structure more
structure_more : (g : Graph) (entries new : List NamedEnv) (name : List ℕ) (id : EnvId)
    → new ≡ entries ++ (let e : NamedEnv = record { name = name; env = id } in e) ∷ []
    → structure_rows g new ≡ structure_rows g entries ++ (name, env_at g id) ∷ []
structure_more g entries new name id e =
    ap (structure_rows g) e
    ∙ rows_append g entries ((let e : NamedEnv = record { name = name; env = id } in e) ∷ [])

pub structure_next : (g : Graph) (table : Named Env) (name : List ℕ) (names left : List (List ℕ)) (id : EnvId)
    (entries new : List NamedEnv) (whole : Named Env) → left ≡ name ∷ names → entry name table ≡ Some (env_at g id)
    → structure_rows g entries ++ rows_of table left ≡ whole
    → new ≡ entries ++ (let e : NamedEnv = record { name = name; env = id } in e) ∷ []
    → structure_rows g new ++ rows_of table names ≡ whole
structure_next g table name names left id entries new whole is found before after =
    row_next table name names left (env_at g id) (structure_rows g entries) (structure_rows g new) whole is (sym found)
    before (structure_more g entries new name id after)

pub envs_more : (g : Graph) (old entries new : List NamedEnv) (name : List ℕ) (id : EnvId)
    → new ≡ entries ++ (let e : NamedEnv = record { name = name; env = id } in e) ∷ []
    → (HasEnvs g old → HasEnvs g entries) → HasEnv g id → HasEnvs g old → HasEnvs g new
envs_more g old entries new name id e h k there = subst (HasEnvs g) (sym e)
    (envs_append g entries (let e : NamedEnv = record { name = name; env = id } in e) (h there) k)

-- ---- environments one after the other

tables_back : (rows : Named Env) → table_of (structures_of rows) ≡ rows
tables_back [] = refl
tables_back (row ∷ rows) = ap (λ (z : Named Env). row ∷ z) (tables_back rows)

set_structures : (old new : Named Env) (more : Named Env) → new ≡ old ++ more
    → with_all new [] ≡ with_all more (table_of (structures_of (with_all old [])))
set_structures old new more e =
    ap (λ z. with_all z []) e ∙ all_append old more [] ∙ ap (with_all more) (sym (tables_back (with_all old [])))

set_rows : {A : Type 0} (old new more : Named A) → new ≡ old ++ more → with_all new [] ≡ with_all more (with_all old [])
set_rows old new more e = ap (λ z. with_all z []) e ∙ all_append old more []

values_read : {V : Type 0} (read : V → ValueEntry) (entries : List (NamedInScope V))
    → value_rows read entries ≡ map_rows (entry_of read) (scope_rows entries)
values_read read [] = refl
values_read {V} read (e ∷ entries) =
    ap (λ (rows : Rows ValueEntry). (e.name, entry_of read e.entry) ∷ rows) (values_read read entries)

entries_read : {V : Type 0} (read : V → ValueEntry) (rows : Rows ValueEntry)
    → map_rows (entry_of read) (map_rows as_held rows) ≡ rows
entries_read read [] = refl
entries_read read (row ∷ rows) = ap (λ (z : Rows ValueEntry). row ∷ z) (entries_read read rows)

more_values : {V : Type 0} (env : Env) (read : V → ValueEntry) (old new : List (NamedInScope V)) → AddsValues env old new
    → value_rows read new ≡ value_rows read old ++ values env
more_values {V} env read old new h =
    values_read read new
    ∙ ap (map_rows (entry_of read)) h
    ∙ map_append (entry_of read) (scope_rows old) (map_rows as_held (values env))
    ∙ ap₂ (λ (a : Rows ValueEntry) b. a ++ b) (sym (values_read read old)) (entries_read read (values env))

one_env : (ss rs : Named Env) (ts us : Named TypeStr) (vs ws : Named ValueEntry) → ss ≡ rs → ts ≡ us → vs ≡ ws
    → env_of ss ts vs ≡ env_of rs us ws
one_env ss rs ts us vs ws h k l = cc

pub one_more : {V : Type 0} (g : Graph) (env : Env) (read : V → ValueEntry) (old new : Made V) → AddsEnv g env old new
    → env_of_made g read new ≡ modified_by (env_of_made g read old) env
one_more g env read old new h =
    one_env _ _ _ _ _ _
    (set_structures (structure_rows g old.structures) (structure_rows g new.structures) (structures env)
    h.structures.rows)
    (set_rows (type_rows old.types) (type_rows new.types) (types env) h.types)
    (set_rows (value_rows read old.values) (value_rows read new.values) (values env)
    (more_values env read old.values new.values h.values))

-- what was opened so far, and the environments that are left
pub record OpenedSoFar {V : Type 0} (g : Graph) (ids left : List EnvId) (made : Made V) : Type 0 where
  pub env : (read : V → ValueEntry) → opened_after g left (env_of_made g read made) ≡ opened_env g ids
  pub all : AllEnvs g left
  pub there : HasEnvs g made.structures

pub opened_none : {V : Type 0} (g : Graph) (ids : List EnvId) (made : Made V) → AllEnvs g ids → made.structures ≡ []
    → made.types ≡ [] → made.values ≡ [] → OpenedSoFar g ids ids made
opened_none {V} g ids made all ss ts vs = record {
  env = λ read. ap (opened_after g ids) (one_env _ _ _ _ _ _
      (ap (λ es. with_all (structure_rows g es) []) ss)
      (ap (λ es. with_all (type_rows es) []) ts)
      (ap (λ es. with_all (value_rows read es) []) vs));
  all = all;
  there = subst (HasEnvs g) (sym ss) tt;
}

pub opened_more : {V : Type 0} (g : Graph) (ids left rest : List EnvId) (id : EnvId) (made new : Made V)
    → OpenedSoFar g ids left made → left ≡ id ∷ rest → AddsEnv g (env_at g id) made new → OpenedSoFar g ids rest new
opened_more {V} g ids left rest id made new inv e h = record {
  env = λ read.
      ap (opened_after g rest) (one_more g (env_at g id) read made new h)
      ∙ ap (λ z. opened_after g z (env_of_made g read made)) (sym e)
      ∙ inv.env read;
  all = (subst (AllEnvs g) e inv.all).1;
  there = h.structures.there inv.there;
}

pub opened_next : {V : Type 0} (g : Graph) (ids left rest : List EnvId) (id : EnvId) (made : Made V)
    → OpenedSoFar g ids left made → left ≡ id ∷ rest → HasEnv g id
opened_next g ids left rest id made inv e = (subst (AllEnvs g) e inv.all).0

pub opened_all : {V : Type 0} (g : Graph) (ids left : List EnvId) (made : Made V) → OpenedSoFar g ids left made
    → left ≡ [] → IsOpened g ids made
opened_all g ids left made inv e = record {
  env = λ read. ap (λ z. opened_after g z (env_of_made g read made)) (sym e) ∙ inv.env read;
  there = inv.there;
}

-- ---- the names of structures

after_more : (g : Graph) (ids : List EnvId) (id : EnvId) (made : Env)
    → opened_after g (ids ++ id ∷ []) made ≡ modified_by (opened_after g ids made) (env_at g id)
after_more g [] id made = refl
after_more g (x ∷ ids) id made = after_more g ids id (modified_by made (env_at g x))

all_more : (g : Graph) (ids : List EnvId) (id : EnvId) → AllEnvs g ids → HasEnv g id → AllEnvs g (ids ++ id ∷ [])
all_more g [] id h k = (k, tt)
all_more g (x ∷ ids) id h k = (h.0, all_more g ids id h.1 k)

-- the structures of the first names
pub record FoundSoFar (V : Type 0) (g : Graph) (inner : Table → (V → ValueEntry) → Scope) (longs left : List LongName)
    (ids : List EnvId) : Type 0 where
  pub all : AllEnvs g ids
  pub left_is : (t : Table) (read : V → ValueEntry)
      → infer_open (inner t read) longs empty_env ≡ infer_open (inner t read) left (opened_env g ids)

pub found_none : {V : Type 0} (g : Graph) (inner : Table → (V → ValueEntry) → Scope) (longs : List LongName)
    (ids : List EnvId) → ids ≡ [] → FoundSoFar V g inner longs longs ids
found_none {V} g inner longs ids e = subst (FoundSoFar V g inner longs longs) (sym e)
    (record { all = tt; left_is = λ t read. refl })

abbrev known_env : Scope → LongName → Answer Env
known_env sc long = known sc long (found_at structures long.parts sc.env)

pub found_more : {V : Type 0} (g : Graph) (inner : Table → (V → ValueEntry) → Scope) (longs left rest : List LongName)
    (long : LongName) (ids new : List EnvId) (id : EnvId) → FoundSoFar V g inner longs left ids → left ≡ long ∷ rest
    → ((t : Table) (read : V → ValueEntry) → known_env (inner t read) long ≡ gives (env_at g id)) → HasEnv g id
    → new ≡ ids ++ id ∷ [] → FoundSoFar V g inner longs rest new
found_more {V} g inner longs left rest long ids new id inv e known there k =
    subst (FoundSoFar V g inner longs rest) (sym k) (record {
      all = all_more g ids id inv.all there;
      left_is = λ t read.
          inv.left_is t read
          ∙ ap (λ xs. infer_open (inner t read) xs (opened_env g ids)) e
          ∙ ap (λ (m : Answer Env). m >>= λ env. infer_open (inner t read) rest (modified_by (opened_env g ids) env))
          (known t read)
          ∙ ap (infer_open (inner t read) rest) (sym (after_more g ids id empty_env));
    })

pub found_refused : {V : Type 0} (g : Graph) (inner : Table → (V → ValueEntry) → Scope) (longs left rest : List LongName)
    (long : LongName) (ids : List EnvId) (e : Fault) → FoundSoFar V g inner longs left ids → left ≡ long ∷ rest
    → ((t : Table) (read : V → ValueEntry) → Answers (known_env (inner t read) long) (env_at g) (Err e))
    → (t : Table) (read : V → ValueEntry) → Answers (infer_open (inner t read) longs empty_env) (opened_env g) (Err e)
found_refused g inner longs left rest long ids e inv is h t read =
    subst (λ (w : Answer Env). Answers w (opened_env g) (Err e))
    (sym (inv.left_is t read ∙ ap (λ xs. infer_open (inner t read) xs (opened_env g ids)) is))
    (failed (known_env (inner t read) long)
    (λ env. infer_open (inner t read) rest (modified_by (opened_env g ids) env)) (env_at g) (opened_env g) e (h t read))

pub found_all : {V : Type 0} (g : Graph) (inner : Table → (V → ValueEntry) → Scope) (longs left : List LongName)
    (ids : List EnvId) → FoundSoFar V g inner longs left ids → left ≡ [] → (t : Table) (read : V → ValueEntry)
    → infer_open (inner t read) longs empty_env ≡ gives (opened_env g ids)
found_all g inner longs left ids inv is t read =
    inv.left_is t read ∙ ap (λ xs. infer_open (inner t read) xs (opened_env g ids)) is

-- the next item of a list
pub item_at : {A : Type 0} (items xs : List A) (i : ℕ) (d : A) → items ≡ xs → i < length items
    → drop i xs ≡ get_or items i d ∷ drop (i + 1) xs
item_at {A} items xs i d e h =
    subst (λ (ys : List A). drop i ys ≡ get_or items i d ∷ drop (i + 1) ys) e (drop_next i items d h)
