-- Names that are specified one after another.
use Rattle.std.proofs.Common.{◌≡◌, ℕ, refl, sym, ap, ap₂, ◌∙◌, subst, List, [], ◌∷◌, ◌++◌, Option, Some, None, Bool, true, false, ◌||◌}
use Rattle.std.specs.Prelude.{Result, Err, IsErrAnd}
use Rattle.std.specs.Option.{is_some, option_map}
use Rattle.cm_base.specs.declared.fault.Fault.{Fault}
use Rattle.sml_trees.specs.declared.name.At.{At}
use Rattle.semantic_objects.specs.declared.entry.TypeStr.{TypeStr}
use Rattle.semantic_objects.specs.declared.entry.ValueEntry.{ValueEntry}
use Rattle.semantic_objects.specs.Tables.{Table, entry, with_entry, with_all}
use Rattle.semantic_objects.specs.Environments.{Env, Signature, env_of, empty_env, structures_of, table_of, modified_by, with_structure, with_type, with_value}
use Rattle.sml_modules.specs.declared.id.EnvId.{EnvId}
use Rattle.sml_modules.specs.Items.{map_rows}
use Rattle.sml_modules.specs.Graphs.{Graph, env_at}
use Rattle.name_trails.specs.Trails.{Rows, last_entry}
use Rattle.static_semantics.specs.Inferring.{Scope, Answer, ◌>>=◌, gives, refuses_where}
use Rattle.module_semantics.specs.SignatureInference.{have_common, specified}
use Rattle.core_scopes.proofs.Tables.{or_held, entry_over, entry_under, all_append}
use Rattle.core_scopes.proofs.Scoping.{map_append}
use Rattle.type_phrases.specs.Inferred.{Answers}
use Rattle.type_phrases.proofs.Steps.{failed}
use Rattle.type_phrases.proofs.PartsRead.{passed_on}
use Rattle.signature_specs.specs.declared.specified.Specified.{Specified}
use Rattle.signature_specs.specs.Specs.{env_so_far}

-- ---- a check, and what is specified after it

pub not_specified : {S : Type 0} (inner : Scope) (at : At) (part : Env) (sig : Signature) (b : Bool)
    (s : S → Signature) (e : Fault) (r : Result S Fault) → IsErrAnd r (λ f. f ≡ e) → have_common part sig.env ≡ b
    → Answers {R = Unit {0}} (refuses_where b 40 inner at) (λ u. tt) (Err e)
    → Answers (specified inner at part sig) s r
not_specified {S} inner at part sig b s e r is k h =
    passed_on (λ q. Answers (specified inner at part sig) s q) r e is
    (failed {R = Unit {0}} (refuses_where (have_common part sig.env) 40 inner at)
    (λ u. gives (let made : Signature = record { bound = sig.bound; env = modified_by sig.env part } in made))
    (λ u. tt) s e
    (subst (λ c. Answers {R = Unit {0}} (refuses_where c 40 inner at) (λ u. tt) (Err e)) (sym k) h))

pub is_specified : (inner : Scope) (at : At) (part : Env) (sig : Signature) (b : Bool) (env : Env)
    → have_common part sig.env ≡ b → refuses_where b 40 inner at ≡ gives tt → modified_by sig.env part ≡ env
    → specified inner at part sig
    ≡ gives (let made : Signature = record { bound = sig.bound; env = env } in made)
is_specified inner at part sig b env k h e =
    ap (λ c. refuses_where c 40 inner at
    >>= λ u. gives (let made : Signature = record { bound = sig.bound; env = modified_by sig.env part } in made)) k
    ∙ ap (λ (m : Answer (Unit {0})). m
    >>= λ u. gives (let made : Signature = record { bound = sig.bound; env = modified_by sig.env part } in made)) h
    ∙ ap (λ (z : Env). gives (let made : Signature = record { bound = sig.bound; env = z } in made)) e

-- ---- one name

alone : {A : Type 0} (o : Option A) → is_some (or_held o None) ≡ is_some o
alone None = refl
alone (Some x) = refl

or_none : (b : Bool) → (b || false) ≡ b
or_none true = refl
or_none false = refl

pub named : {A : Type 0} (rows : Rows A) (name : List ℕ)
    → is_some (entry name (with_all rows [])) ≡ is_some (last_entry rows name)
named rows name = ap is_some (entry_under rows [] name) ∙ alone (last_entry rows name)

some_mapped : {A B : Type 0} (f : A → B) (o : Option A) → is_some (or_held (option_map f o) None) ≡ is_some o
some_mapped f None = refl
some_mapped f (Some x) = refl

pub named_over : {A B : Type 0} (f : A → B) (rows : Rows A) (name : List ℕ)
    → is_some (entry name (with_all (map_rows f rows) [])) ≡ is_some (last_entry rows name)
named_over f rows name = ap is_some (entry_over f rows [] name) ∙ some_mapped f (last_entry rows name)

pub tables_back : (rows : Table Env) → table_of (structures_of rows) ≡ rows
tables_back [] = refl
tables_back (row ∷ rows) = ap (λ (z : Table Env). row ∷ z) (tables_back rows)

pub set_last : {A : Type 0} (rows new : Rows A) (name text : List ℕ) (x : A) → text ≡ name
    → new ≡ rows ++ (text, x) ∷ [] → with_entry name x (with_all rows []) ≡ with_all new []
set_last {A} rows new name text x t e =
    sym (all_append rows ((name, x) ∷ []) [])
    ∙ ap (λ (z : Rows A). with_all z []) (ap (λ n. rows ++ (n, x) ∷ []) (sym t) ∙ sym e)

module _ (g : Graph) (made : Specified) (name : List ℕ) where
  pub value_is : (x : ValueEntry)
      → have_common (with_value name x empty_env) (env_so_far g made) ≡ is_some (last_entry made.values name)
  value_is x = or_none (is_some (entry name (with_all made.values []))) ∙ named made.values name

  pub value_set : (x : ValueEntry) (text : List ℕ) (new : Rows ValueEntry) → text ≡ name
      → new ≡ made.values ++ (text, x) ∷ []
      → modified_by (env_so_far g made) (with_value name x empty_env) ≡ env_so_far g (record made { values = new })
  value_set x text new t e =
      ap₂ (λ (ss : Table Env) (vs : Table ValueEntry). env_of ss (with_all made.types []) vs)
      (tables_back (with_all (map_rows (env_at g) made.structures) []))
      (set_last made.values new name text x t e)

  pub type_is : (x : TypeStr)
      → have_common (with_type name x empty_env) (env_so_far g made) ≡ is_some (last_entry made.types name)
  type_is x =
      or_none (is_some (entry name (with_all made.types [])) || false)
      ∙ or_none (is_some (entry name (with_all made.types []))) ∙ named made.types name

  pub type_set : (x : TypeStr) (text : List ℕ) (new : Rows TypeStr) → text ≡ name
      → new ≡ made.types ++ (text, x) ∷ []
      → modified_by (env_so_far g made) (with_type name x empty_env) ≡ env_so_far g (record made { types = new })
  type_set x text new t e =
      ap₂ (λ (ss : Table Env) (ts : Table TypeStr). env_of ss ts (with_all made.values []))
      (tables_back (with_all (map_rows (env_at g) made.structures) []))
      (set_last made.types new name text x t e)

  pub structure_is : (x : Env)
      → have_common (with_structure name x empty_env) (env_so_far g made) ≡ is_some (last_entry made.structures name)
  structure_is x =
      or_none (is_some (entry name (table_of (structures_of (with_all (map_rows (env_at g) made.structures) [])))) || false)
      ∙ or_none (is_some (entry name (table_of (structures_of (with_all (map_rows (env_at g) made.structures) [])))))
      ∙ ap (λ (t : Table Env). is_some (entry name t)) (tables_back (with_all (map_rows (env_at g) made.structures) []))
      ∙ named_over (env_at g) made.structures name

  pub structure_set : (id : EnvId) (text : List ℕ) (new : Rows EnvId) → text ≡ name
      → new ≡ made.structures ++ (text, id) ∷ []
      → modified_by (env_so_far g made) (with_structure name (env_at g id) empty_env)
      ≡ env_so_far g (record made { structures = new })
  structure_set id text new t e =
      ap (λ (ss : Table Env). env_of ss (with_all made.types []) (with_all made.values []))
      (ap (with_entry name (env_at g id)) (tables_back (with_all (map_rows (env_at g) made.structures) []))
      ∙ set_last (map_rows (env_at g) made.structures) (map_rows (env_at g) new) name text (env_at g id) t
      (ap (map_rows (env_at g)) e ∙ map_append (env_at g) made.structures ((text, id) ∷ [])))
