-- Whole expressions and declarations: the scope that they begin with, and the table after a diagnostic.
use Rattle.std.proofs.Common.{◌≡◌, ℕ, [], length, refl, sym, ap, ap₂, ◌∙◌, subst}
use Rattle.std.specs.Prelude.{Result, Err}
use Rattle.cm_base.specs.declared.fault.Fault.{Fault}
use Rattle.cm_base.specs.declared.fault.Fault.TheVariants as fault
use Rattle.semantic_objects.specs.declared.name.TyId.{TyId}
use Rattle.semantic_objects.specs.Environments.{Env}
use Rattle.unification.specs.Types.{Ty}
use Rattle.unification.specs.Unification.{depth}
use Rattle.type_nodes.specs.Keeping.{IsKept}
use Rattle.type_nodes.specs.Tables.{Table, state}
use Rattle.sml_modules.specs.declared.id.EnvId.{EnvId}
use Rattle.sml_modules.specs.Items.{map_rows}
use Rattle.sml_modules.specs.Graphs.{Graph, Keeps, GivesEnv, env_at}
use Rattle.name_trails.specs.Trails.{Rows}
use Rattle.bare_phrases.specs.Phrases.{ExpPhrase, DecPhrase}
use Rattle.static_semantics.specs.Inferring.{Progress, Answer, gives, outermost}
use Rattle.static_semantics.specs.CoreInference.{infer_exp, infer_dec}
use Rattle.core_scopes.specs.declared.made.Made.{Made}
use Rattle.core_scopes.specs.Marks.{env_of_made}
use Rattle.core_scopes.specs.Scopes.{Bindings, seen, written_of, AreHeld, IsScopeOf}
use Rattle.type_phrases.specs.Inferred.{Answers, Inferred, progress}
use Rattle.pattern_elab.specs.declared.own.OwnVariable.{OwnVariable}
use Rattle.pattern_elab.specs.Scopes.{own_entry, variable_of, scope_of, AreVariables, IsEnteredIn}
use Rattle.closing_laws.specs.Promises.{IsOfState}
use Rattle.core_rules.specs.Ready.{IsReadyAt}
use Rattle.core_rules.specs.Moments.{Moment, moment}
use Rattle.core_rules.specs.Expressions.{IsExp}
use Rattle.core_rules.specs.Values.{read_made}
use Rattle.core_rules.specs.Declarations.{IsDeclared}
use Rattle.core_rules.proofs.Chains.{graph_then}

scope_outermost : (g : Graph) (env : EnvId) (sc : Bindings OwnVariable) → seen g own_entry sc ≡ env_at g env
    → written_of sc ≡ [] → scope_of g sc ≡ outermost g.home (env_at g env)
scope_outermost g env sc e f =
    ap₂ (λ (z : Env) (w : Rows TyId). record { env = z; written = map_rows variable_of w; home = g.home }) e f

pub whole : {g : Graph} {t : Table} {sc : Bindings OwnVariable} {new : Moment} {r : Result TyId Fault} (env : EnvId)
    (p : ExpPhrase) → seen g own_entry sc ≡ env_at g env → written_of sc ≡ [] → IsExp (moment g t sc) p new r
    → Inferred (infer_exp depth (outermost g.home (env_at g env)) p (progress t g)) r new.table new.graph
whole {g} {t} {sc} {new} {r} env p e f h =
    subst (λ inner. Inferred (infer_exp depth inner p (progress t g)) r new.table new.graph)
    (scope_outermost g env sc e f) h.infers

-- a diagnostic is the same whatever stands afterwards
pub refused : (want : Answer (Ty × Progress)) (e : Fault) (t u : Table) (g h : Graph) → Inferred want (Err e) t g
    → Inferred want (Err e) u h
refused want (fault.Diag d) t u g h k = k
refused want fault.NoMemory t u g h k = tt

-- everything is ready there where the environment is of what the table knows
pub begun : (g : Graph) (t : Table) (sc : Bindings OwnVariable) (env : EnvId) → IsScopeOf g sc → IsKept t
    → AreHeld (IsEnteredIn t) sc.values → seen g own_entry sc ≡ env_at g env → written_of sc ≡ []
    → IsOfState (outermost g.home (env_at g env)) (progress t g) → IsReadyAt (moment g t sc)
begun g t sc env there k entered e f s = record {
  core = record { there = there; written = subst (AreVariables t) (sym f) tt; entered = entered };
  kept = k;
  state = subst (λ inner. IsOfState inner (progress t g)) (sym (scope_outermost g env sc e f)) s;
}

-- ---- whole declarations

abbrev wanted : Graph → Table → EnvId → DecPhrase → Answer (Env × Progress)
wanted g t env p = infer_dec depth (outermost g.home (env_at g env)) p (progress t g)

pub dec_whole : {g : Graph} {t : Table} {sc : Bindings OwnVariable} {new : Moment} {r : Result (Made OwnVariable) Fault}
    (env : EnvId) (p : DecPhrase) → seen g own_entry sc ≡ env_at g env → written_of sc ≡ []
    → IsDeclared (moment g t sc) p new r → Answers (wanted g t env p) (read_made new) r
dec_whole {g} {t} {sc} {new} {r} env p e f h =
    subst (λ inner. Answers (infer_dec depth inner p (progress t g)) (read_made new) r)
    (scope_outermost g env sc e f) h.elabs.infers

-- the environment was made of what the declaration made
pub dec_given : (mid new : Graph) (u : Table) (want : Answer (Env × Progress)) (made : Made OwnVariable) (id : EnvId)
    → want ≡ gives (env_of_made mid own_entry made, progress u mid)
    → GivesEnv mid new (env_of_made mid own_entry made) id → want ≡ gives (env_at new id, progress u new)
dec_given mid new u want made id h given =
    h ∙ ap₂ (λ (x : Env) (n : ℕ). gives (x, (let st : Progress = record { types = state u; names = n } in st)))
    (sym given.stands) (sym (ap length given.made))

pub keeps_given : (old mid new : Graph) (env : Env) (id : EnvId) → Keeps old mid → GivesEnv mid new env id
    → Keeps old new
keeps_given old mid new env id k given = graph_then old mid new k given.keeps

pub keeps_same : (old mid new : Graph) → Keeps old mid → new ≡ mid → Keeps old new
keeps_same old mid new k e = subst (Keeps old) (sym e) k

-- a graph keeps itself
pub graph_itself : (g : Graph) → Keeps g g
graph_itself g = record {
  has_env = λ id h. h;
  env = λ id h. refl;
  has_signature = λ id h. h;
  signature = λ id h. refl;
  has_functor = λ id h. h;
  functor = λ id h. refl;
  has_top = λ id h. h;
  top = λ id h. refl;
}
