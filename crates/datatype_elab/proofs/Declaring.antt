-- The datatypes of a declaration in a scope.
use Rattle.std.proofs.Common.{◌≡◌, ℕ, List, [], length, map, refl, sym, ap, ap₂, ◌∙◌, subst}
use Rattle.std.specs.Prelude.{Result, Ok, Err, IsErrAnd}
use Rattle.cm_base.specs.declared.fault.Fault.{Fault}
use Rattle.cm_base.specs.declared.fault.Fault.TheVariants as fault
use Rattle.semantic_objects.specs.declared.name.TyId.{TyId}
use Rattle.semantic_objects.specs.declared.entry.TypeStr.{TypeStr}
use Rattle.semantic_objects.specs.declared.entry.ValueEntry.{ValueEntry}
use Rattle.semantic_objects.specs.Tables.{with_all}
use Rattle.semantic_objects.specs.Environments.{Env, env_of, empty_env, modified_by}
use Rattle.type_nodes.specs.Tables.{Table, type_of}
use Rattle.bare_phrases.specs.Phrases.{DatPhrase}
use Rattle.sml_modules.specs.Items.{map_rows}
use Rattle.sml_modules.specs.declared.parts.NamedEnv.{NamedEnv}
use Rattle.sml_modules.specs.declared.parts.NamedType.{NamedType}
use Rattle.sml_modules.specs.Graphs.{Graph, HasEnvs, structure_rows, type_rows}
use Rattle.name_trails.specs.Trails.{Rows}
use Rattle.static_semantics.specs.Inferring.{Progress, Scope, under, Answer, ◌>>=◌}
use Rattle.static_semantics.specs.DatatypeInference.{Dat, new_types, infer_dats, equality_choice}
use Rattle.core_scopes.specs.declared.made.Made.{Made}
use Rattle.core_scopes.specs.declared.made.NamedInScope.{NamedInScope}
use Rattle.core_scopes.specs.Scopes.{Bindings, seen, written_of}
use Rattle.core_scopes.specs.Marks.{Becomes, env_of_made, value_rows}
use Rattle.type_phrases.specs.Inferred.{Answers, KeepsTypes, progress, scope_in}
use Rattle.type_phrases.proofs.Keeping.{keeps_all}
use Rattle.type_phrases.proofs.Steps.{failed}
use Rattle.datatype_elab.specs.declared.dats.DatRead.{DatRead}
use Rattle.datatype_elab.specs.declared.reading.Datatypes.{Datatypes}
use Rattle.datatype_elab.specs.Listing.{dat_of, AreDats, AreDatsStep}
use Rattle.datatype_elab.specs.Declaring.{types_env, AreDatsUnder, infer_datatypes, AreRead}
use Rattle.datatype_elab.proofs.Naming.{passed_on}

-- ---- under types

made_env : {V : Type 0} (g : Graph) (read : V → ValueEntry) (made : Made V) → made.structures ≡ [] → made.values ≡ []
    → env_of_made g read made ≡ types_env (type_rows made.types)
made_env {V} g read made e f =
    ap₂ (λ ss vs. env_of (with_all (structure_rows g ss) []) (with_all (type_rows made.types) [])
    (with_all (value_rows read vs) [])) e f

scope_under : {V : Type 0} (g : Graph) (u : Table) (read : V → ValueEntry) (old new : Bindings V) (made : Made V)
    → made.structures ≡ [] → made.values ≡ []
    → Becomes g old new (λ r. modified_by (seen g r old) (env_of_made g r made)) (written_of old)
    → scope_in g u read new ≡ under (types_env (type_rows made.types)) (scope_in g u read old)
scope_under g u read old new made e f becomes =
    ap₂ (λ (env : Env) (rows : Rows TyId).
    (let inner : Scope = record { env = env; written = map_rows (type_of u) rows; home = g.home } in inner))
    (becomes.seen read ∙ ap (modified_by (seen g read old)) (made_env g read made e f))
    becomes.written

abbrev made_of : {V : Type 0} → List NamedEnv → List NamedType → List (NamedInScope V) → Made V
made_of ss ts vs = record { structures = ss; types = ts; values = vs }

pub no_envs : (g : Graph) (ss : List NamedEnv) → ss ≡ [] → HasEnvs g ss
no_envs g ss e = subst (HasEnvs g) (sym e) tt

pub dats_under : {V : Type 0} (g : Graph) (t later : Table) (old new : Bindings V) (ss : List NamedEnv)
    (ts : List NamedType) (vs : List (NamedInScope V))
    (refused : List (List ℕ)) (binds : List DatPhrase) (r : Result (List DatRead) Fault)
    → ss ≡ [] → vs ≡ []
    → Becomes g old new (λ r. modified_by (seen g r old)
    (env_of_made g r (record { structures = ss; types = ts; values = vs }))) (written_of old)
    → AreDatsStep g t new refused binds later r
    → AreDatsUnder g t old refused (type_rows ts) binds later r
dats_under {V} g t later old new ss ts vs refused binds r e f becomes step = record {
  infers = λ u read. subst (λ (inner : Scope).
      Answers (infer_dats inner refused binds [] (progress t g)) (λ dats. (map (dat_of later) dats, progress later g)) r)
      (scope_under g u read old new (made_of ss ts vs) e f becomes) (step.infers u read);
  read = step.read;
  keeps = step.keeps;
}

pub dats_unbound : {V : Type 0} (g : Graph) (t : Table) (sc : Bindings V) (refused : List (List ℕ))
    (types : Rows TypeStr) (binds : List DatPhrase) (r : Result (List DatRead) Fault)
    → IsErrAnd r (λ f. f ≡ fault.NoMemory) → AreDatsUnder g t sc refused types binds t r
dats_unbound g t sc refused types binds r k =
    passed_on (AreDatsUnder g t sc refused types binds t) r fault.NoMemory k
    (record { infers = λ u read. tt; read = tt; keeps = keeps_all t })

-- ---- the whole

abbrev pub NewAs : Graph → List DatPhrase → Result (Rows TypeStr) Fault → Type 0
NewAs g binds r = (inner : Scope) → inner.home ≡ g.home
    → Answers (new_types inner binds (length g.made) empty_env) types_env r

pub read_unnamed : {V : Type 0} (g : Graph) (t : Table) (sc : Bindings V) (refused : List (List ℕ))
    (binds : List DatPhrase) (e : Fault) (r : Result Datatypes Fault) → IsErrAnd r (λ f. f ≡ e)
    → NewAs g binds (Err e) → AreRead g t sc refused binds t r
read_unnamed g t sc refused binds e r k h =
    passed_on (AreRead g t sc refused binds t) r e k (record {
      infers = λ u read. failed (new_types (scope_in g u read sc) binds (length g.made) empty_env)
          (λ new. infer_dats (under new (scope_in g u read sc)) refused binds [] (progress t g)) types_env
          (λ (made : Datatypes). (map (dat_of t) made.dats, progress t g)) e (h (scope_in g u read sc) refl);
      read = tt;
      choice = tt;
      keeps = keeps_all t;
    })

pub read_no_memory : {V : Type 0} (g : Graph) (t new : Table) (sc : Bindings V) (refused : List (List ℕ))
    (binds : List DatPhrase) (r : Result Datatypes Fault) → IsErrAnd r (λ f. f ≡ fault.NoMemory) → KeepsTypes t new
    → AreRead g t sc refused binds new r
read_no_memory g t new sc refused binds r k keeps =
    passed_on (AreRead g t sc refused binds new) r fault.NoMemory k
    (record { infers = λ u read. tt; read = tt; choice = tt; keeps = keeps })

named_first : {V : Type 0} (g : Graph) (t u : Table) (sc : Bindings V) (refused : List (List ℕ))
    (binds : List DatPhrase) (read : V → ValueEntry) (rows types : Rows TypeStr) → NewAs g binds (Ok rows)
    → types ≡ rows
    → infer_datatypes (scope_in g u read sc) refused binds (progress t g)
    ≡ infer_dats (under (types_env types) (scope_in g u read sc)) refused binds [] (progress t g)
named_first g t u sc refused binds read rows types h e =
    ap (λ (w : Answer Env). w >>= λ new. infer_dats (under new (scope_in g u read sc)) refused binds [] (progress t g))
    (h (scope_in g u read sc) refl)
    ∙ ap (λ rs. infer_dats (under (types_env rs) (scope_in g u read sc)) refused binds [] (progress t g)) (sym e)

pub read_undone : {V : Type 0} (g : Graph) (t new : Table) (sc : Bindings V) (refused : List (List ℕ))
    (binds : List DatPhrase) (rows types : Rows TypeStr) (e : Fault) (r : Result Datatypes Fault)
    → IsErrAnd r (λ f. f ≡ e)
    → NewAs g binds (Ok rows) → types ≡ rows → AreDatsUnder g t sc refused types binds new (Err e)
    → AreRead g t sc refused binds new r
read_undone g t new sc refused binds rows types e r k h same step =
    passed_on (AreRead g t sc refused binds new) r e k (record {
      infers = λ u read. subst (λ (w : Answer (List Dat × Progress)).
          Answers w (λ (made : Datatypes). (map (dat_of new) made.dats, progress new g)) (Err e))
          (sym (named_first g t u sc refused binds read rows types h same))
          (err_as (infer_dats (under (types_env types) (scope_in g u read sc)) refused binds [] (progress t g))
          (λ dats. (map (dat_of new) dats, progress new g)) (λ (made : Datatypes). (map (dat_of new) made.dats, progress new g)) e
          (step.infers u read));
      read = tt;
      choice = tt;
      keeps = step.keeps;
    })
  where
    err_as : {A R S : Type 0} (w : Answer A) (f : R → A) (h : S → A) (e : Fault) → Answers w f (Err e)
        → Answers w h (Err e)
    err_as w f h (fault.Diag d) k = k
    err_as w f h fault.NoMemory k = tt

pub read_done : {V : Type 0} (g : Graph) (t new : Table) (sc : Bindings V) (refused : List (List ℕ))
    (binds : List DatPhrase) (rows types : Rows TypeStr) (made : Datatypes) → NewAs g binds (Ok rows) → types ≡ rows
    → AreDatsUnder g t sc refused types binds new (Ok made.dats)
    → ((u : Table) → AreDats u made.dats
    → made.choice ≡ equality_choice g.home (length g.made) (map (dat_of u) made.dats))
    → AreRead g t sc refused binds new (Ok made)
read_done g t new sc refused binds rows types made h same step choice = record {
  infers = λ u read. named_first g t u sc refused binds read rows types h same ∙ step.infers u read;
  read = step.read;
  choice = choice new step.read;
  keeps = step.keeps;
}
