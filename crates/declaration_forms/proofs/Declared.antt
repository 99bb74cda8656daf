-- Declarations without parts: what calls answer of them in a scope, as it is said of moments.
use Rattle.std.proofs.Common.{◌≡◌, ℕ, List, [], ◌∷◌, refl, sym, ap, ◌∙◌, subst, false}
use Rattle.std.specs.Prelude.{Result, Ok, Err, IfOk}
use Rattle.cm_base.specs.declared.fault.Fault.{Fault}
use Rattle.cm_base.specs.declared.fault.NoMemory.{NoMemory}
use Rattle.sml_trees.specs.declared.name.At.{At}
use Rattle.semantic_objects.specs.declared.name.TyId.{TyId}
use Rattle.semantic_objects.specs.declared.entry.ValueEntry.{ValueEntry}
use Rattle.semantic_objects.specs.Tables.{Table as Named, with_all}
use Rattle.semantic_objects.specs.Environments.{Env, env_of}
use Rattle.unification.specs.Types.{Ty}
use Rattle.type_nodes.specs.Tables.{Table, Has, type_of}
use Rattle.sml_modules.specs.Items.{Item, at, as_env, as_signature, as_functor, as_top, IsEnv, IsSignature, IsFunctor, IsTop}
use Rattle.sml_modules.specs.declared.id.EnvId.{EnvId}
use Rattle.sml_modules.specs.declared.parts.NamedEnv.{NamedEnv}
use Rattle.sml_modules.specs.declared.parts.NamedValue.{NamedValue}
use Rattle.sml_modules.specs.Graphs.{Graph, Keeps, GivesEnv, HasEnvs, env_of_entries, structure_rows, type_rows, value_rows}
use Rattle.static_semantics.specs.Inferring.{Progress, Scope, Answer, ◌>>=◌, sized_dec}
use Rattle.static_semantics.specs.DatatypeInference.{is_exception}
use Rattle.static_semantics.specs.CoreInference.{within_let}
use Rattle.core_scopes.specs.declared.made.Made.{Made}
use Rattle.core_scopes.specs.Scopes.{Bindings}
use Rattle.core_scopes.specs.Marks.{env_of_made, value_rows as rows_read}
use Rattle.type_phrases.specs.Inferred.{Answers, KeepsTypes, home_scope, progress, scope_in}
use Rattle.type_phrases.proofs.Keeping.{keeps_all}
use Rattle.pattern_elab.specs.declared.own.OwnVariable.{OwnVariable}
use Rattle.pattern_elab.specs.Scopes.{own_entry}
use Rattle.pattern_elab.proofs.Scoping.{scope_core}
use Rattle.core_rules.specs.Rules.{IsRule}
use Rattle.core_rules.specs.Moments.{Moment, moment, scope_at, progress_at, IsCoreAt, Passes, Elabs}
use Rattle.core_rules.specs.Ready.{made_at}
use Rattle.core_rules.specs.Values.{read_made}
use Rattle.core_rules.specs.Declarations.{Declares, Whatever}
use Rattle.core_rules.proofs.Chains.{passes_table, core_kept, stops, goes_on, has_same}
use Rattle.core_rules.proofs.Declaring.{IsChecked, anything, checked_made, same_table}

-- ---- the end of a `let`

pub let_rule : (g : Graph) (t : Table) (place : At) (from to : ℕ) (a : TyId) (r : Result TyId Fault) → Has t a
    → Answers (within_let (home_scope g) place from to (type_of t a, progress t g))
    (λ (same : TyId). (type_of t same, progress t g)) r
    → IfOk r (λ same. same ≡ a)
    → IsRule g t t (λ sc. within_let sc place from to (type_of t a, progress t g)) r
let_rule g t place from to a r has h same = record {
  infers = λ scope. h;
  has = has_same t a r has same;
  ids = keeps_all t;
}

-- ---- structures that aren't there

pub no_envs : (g : Graph) (made : Made OwnVariable) → made.structures ≡ [] → HasEnvs g made.structures
no_envs g made e = subst (λ (z : List NamedEnv). HasEnvs g z) (sym e) tt

-- ---- where nothing but environments comes of a step

abbrev plain_end : At → Progress → Scope → Env → Answer (Env × Progress)
plain_end place st sc made = sized_dec sc place (made, st)

pub in_scope : (m : Moment) (want : Scope → Answer Env) (r : Result (Made OwnVariable) Fault) → IsCoreAt m
    → Answers (want (scope_in m.graph m.table own_entry m.scope)) (env_of_made m.graph own_entry) r
    → Answers (want (scope_at m)) (made_at m) r
in_scope m want r core h =
    subst (λ sc. Answers (want sc) (made_at m) r) (scope_core m.graph m.table m.scope core) h

-- variables are no exceptions
pub exception_read : (own : OwnVariable) → is_exception (own_entry own).status ≡ false
exception_read own = refl

module _ {m : Moment} (want : Scope → Answer Env) (place : At) where
  env_made : (r : Result (Made OwnVariable) Fault) → IsCoreAt m → Answers (want (scope_at m)) (made_at m) r
      → Elabs m want made_at Whatever m r
  env_made r core h = record {
    infers = h;
    has = anything m.table r;
    goes = passes_table m m.table m.scope (keeps_all m.table);
    left = refl;
    core = core;
  }

  pub plain_first : {e : Fault} (new : Table) → new ≡ m.table → IsCoreAt m
      → Answers (want (scope_at m)) (made_at m) (Err e)
      → Declares m (λ sc. want sc >>= plain_end place (progress_at m) sc) (moment m.graph new m.scope) (Err e)
  plain_first {e} new same core h = same_table new same (record {
    elabs = stops (plain_end place (progress_at m)) (env_made (Err e) core h);
    envs = tt;
  })

  pub plain_done : {r : Result (Made OwnVariable) Fault} (made : Made OwnVariable) (new last : Table)
      → new ≡ m.table → last ≡ new → IsCoreAt m → Answers (want (scope_at m)) (made_at m) (Ok made)
      → HasEnvs m.graph made.structures → IsChecked m.graph new place made r → IfOk r (λ same. same ≡ made)
      → Declares m (λ sc. want sc >>= plain_end place (progress_at m) sc) (moment m.graph last m.scope) r
  plain_done {r} made new last same after core h there z e =
      let ends = checked_made {m = m} {r = r} place made core
      (subst (λ (t : Table). IsChecked m.graph t place made r) same z) there e in
      same_table last (after ∙ same) (record {
        elabs = goes_on (plain_end place (progress_at m)) core (env_made (Ok made) core h) ends.elabs;
        envs = ends.envs;
      })

-- ---- where the table and the graph go on

pub names_kept : (old new : Graph) → new.items ≡ old.items → Keeps old new
names_kept old new e =
    let back = sym e in
    record {
      has_env = λ id i. subst (λ (xs : List Item). IsEnv (at xs id.place)) back i;
      env = λ id i. ap (λ (xs : List Item). as_env (at xs id.place)) e;
      has_signature = λ id i. subst (λ (xs : List Item). IsSignature (at xs id.place)) back i;
      signature = λ id i. ap (λ (xs : List Item). as_signature (at xs id.place)) e;
      has_functor = λ id i. subst (λ (xs : List Item). IsFunctor (at xs id.place)) back i;
      functor = λ id i. ap (λ (xs : List Item). as_functor (at xs id.place)) e;
      has_top = λ id i. subst (λ (xs : List Item). IsTop (at xs id.place)) back i;
      top = λ id i. ap (λ (xs : List Item). as_top (at xs id.place)) e;
    }

pub step_made : (m : Moment) (want : Scope → Answer (Env × Progress)) (g : Graph) (new : Table)
    (after : Bindings OwnVariable) (r : Result (Made OwnVariable) Fault) → IsCoreAt m → g.items ≡ m.graph.items
    → g.home ≡ m.graph.home → KeepsTypes m.table new → after ≡ m.scope
    → Answers (want (scope_in m.graph m.table own_entry m.scope))
    (λ (made : Made OwnVariable). (env_of_made g own_entry made, progress new g)) r
    → Elabs m want read_made Whatever (moment g new after) r
step_made m want g new after r core items home ids left h =
    let goes : Passes m (moment g new after) =
    record { graph = names_kept m.graph g items; home = home; ids = ids } in
    record {
      infers = subst (λ sc. Answers (want sc) (λ (made : Made OwnVariable). (env_of_made g own_entry made, progress new g))
          r) (scope_core m.graph m.table m.scope core) h;
      has = anything new r;
      goes = goes;
      left = left;
      core = core_kept {old = m} {new = moment g new after} core goes left;
    }

-- ---- the environment of what was made

pub given_made : (old new : Graph) (made : Made OwnVariable) (entries : List NamedValue) (r : Result EnvId NoMemory)
    → value_rows entries ≡ rows_read own_entry made.values
    → IfOk r (GivesEnv old new (env_of_entries old made.structures made.types entries))
    → IfOk r (GivesEnv old new (env_of_made old own_entry made))
given_made old new made entries r e h =
    subst (λ (vs : Named ValueEntry). IfOk r (GivesEnv old new (env_of (with_all (structure_rows old made.structures) [])
    (with_all (type_rows made.types) []) (with_all vs [])))) e h
