-- The environment of a replication.
use Rattle.std.proofs.Common.{◌≡◌, ℕ, List, [], ◌∷◌, map, refl, sym, ap, ◌∙◌, Option}
use Rattle.sml_trees.specs.declared.name.Name.{Name}
use Rattle.sml_trees.specs.declared.name.LongName.{LongName}
use Rattle.semantic_objects.specs.declared.entry.ConEntry.{ConEntry}
use Rattle.semantic_objects.specs.declared.entry.TypeStr.{TypeStr}
use Rattle.semantic_objects.specs.declared.entry.ValueEntry.{ValueEntry}
use Rattle.semantic_objects.specs.Tables.{Table as Named, with_entry, with_all}
use Rattle.semantic_objects.specs.Environments.{env_of, empty_env, types}
use Rattle.type_nodes.specs.Tables.{Table}
use Rattle.sml_modules.specs.Items.{map_rows}
use Rattle.sml_modules.specs.Graphs.{Graph, structure_rows, type_rows}
use Rattle.name_trails.specs.Trails.{Rows}
use Rattle.static_semantics.specs.DatatypeInference.{with_cons, with_datatype, infer_replication}
use Rattle.static_semantics.specs.Inferring.{◌>>=◌, gives, known, found_at}
use Rattle.core_scopes.specs.declared.made.Made.{Made}
use Rattle.core_scopes.specs.declared.made.NamedInScope.{NamedInScope}
use Rattle.core_scopes.specs.Scopes.{Bindings, entry_of, seen}
use Rattle.core_scopes.specs.Listed.{scope_rows}
use Rattle.core_scopes.specs.Marks.{value_rows, env_of_made}
use Rattle.type_phrases.specs.Inferred.{scope_in}
use Rattle.type_bindings.specs.Replicas.{con_entry, con_rows, IsReplica}

abbrev entry_rows : List ConEntry → Rows ValueEntry
entry_rows cons = map (λ (con : ConEntry). (con.name, con_entry con)) cons

rows_read : {V : Type 0} (read : V → ValueEntry) (entries : List (NamedInScope V))
    → value_rows read entries ≡ map_rows (entry_of read) (scope_rows entries)
rows_read read [] = refl
rows_read {V} read (e ∷ entries) =
    ap (λ (rows : Rows ValueEntry). (e.name, entry_of read e.entry) ∷ rows) (rows_read read entries)

cons_read : {V : Type 0} (read : V → ValueEntry) (cons : List ConEntry)
    → map_rows (entry_of read) (con_rows cons) ≡ entry_rows cons
cons_read read [] = refl
cons_read read (con ∷ cons) =
    ap (λ (rows : Rows ValueEntry). (con.name, con_entry con) ∷ rows) (cons_read read cons)

cons_set : (cons : List ConEntry) (ts : Named TypeStr) (vs : Named ValueEntry)
    → with_cons cons (env_of [] ts vs) ≡ env_of [] ts (with_all (entry_rows cons) vs)
cons_set [] ts vs = refl
cons_set (con ∷ cons) ts vs = cons_set cons ts (with_entry con.name (con_entry con) vs)

pub replica_is : {V : Type 0} (g : Graph) (read : V → ValueEntry) (name : List ℕ) (found : TypeStr) (made : Made V)
    → IsReplica name found made → env_of_made g read made ≡ with_datatype name found empty_env
replica_is {V} g read name found made h =
    ap (λ es. env_of (with_all (structure_rows g es) []) (with_all (type_rows made.types) [])
    (with_all (value_rows read made.values) [])) h.structures
    ∙ ap (λ (rows : Named TypeStr). env_of [] (with_all rows []) (with_all (value_rows read made.values) [])) h.types
    ∙ ap (λ (rows : Rows ValueEntry). env_of [] (with_entry name found []) (with_all rows []))
    (rows_read read made.values
    ∙ ap (map_rows (entry_of read)) h.values
    ∙ cons_read read found.cons)
    ∙ sym (cons_set found.cons (with_entry name found []) [])

-- what the copied name stands for
pub replication_is : {V : Type 0} (g : Graph) (t : Table) (read : V → ValueEntry) (sc : Bindings V) (name : Name)
    (long : LongName) (o : Option TypeStr) → o ≡ found_at types long.parts (seen g read sc)
    → infer_replication (scope_in g t read sc) name long
    ≡ (known (scope_in g t read sc) long o >>= λ str. gives (with_datatype name.text str empty_env))
replication_is g t read sc name long o e =
    ap (λ (w : Option TypeStr). known (scope_in g t read sc) long w
    >>= λ str. gives (with_datatype name.text str empty_env)) (sym e)
