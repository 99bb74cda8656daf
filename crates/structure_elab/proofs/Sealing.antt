-- Structures with signatures.
use Rattle.std.proofs.Common.{◌≡◌, ℕ, List, refl, sym, ap, ◌∙◌, subst}
use Rattle.std.specs.Prelude.{Result, Ok, Err, IfOk, OnOk}
use Rattle.cm_base.specs.declared.fault.Fault.{Fault}
use Rattle.sml_trees.specs.declared.name.At.{At}
use Rattle.semantic_objects.specs.Environments.{Env, Signature, Top}
use Rattle.unification.specs.Unification.{depth}
use Rattle.type_nodes.specs.Tables.{Table}
use Rattle.sml_modules.specs.declared.id.EnvId.{EnvId}
use Rattle.sml_modules.specs.declared.id.SigId.{SigId}
use Rattle.sml_modules.specs.Graphs.{Graph, Keeps, env_at, signature_at, HasEnv, HasSignature}
use Rattle.static_semantics.specs.Inferring.{Progress, Scope, Answer, ◌>>=◌}
use Rattle.type_phrases.specs.Inferred.{Answers, KeepsTypes, progress}
use Rattle.module_semantics.specs.SigPhrases.{SigPhrase}
use Rattle.module_semantics.specs.SignatureInference.{signature_of}
use Rattle.unit_semantics.specs.UnitPhrases.{ModulePhrase}
use Rattle.unit_semantics.specs.StructureInference.{module_at, core_scope, transparent, opaque, infer_module}
use Rattle.structure_matching.specs.Matches.{StaysGraph}
use Rattle.module_rules.specs.Results.{Grows}
use Rattle.module_scopes.specs.declared.top.TopScope.{TopScope}
use Rattle.module_scopes.specs.Tops.{IsTopScope}
use Rattle.structure_elab.specs.Moments.{Moment, moment, seen_at, progress_at, read_env, Passes, Elabs}
use Rattle.structure_elab.specs.Phrases.{IsModule, IsSignature, IsTransparent, IsOpaque, infer_transparent, infer_opaque}
use Rattle.structure_elab.proofs.Chains.{stops, goes_on, same_left}
use Rattle.structure_elab.proofs.Steps.{changes_graph}

-- the rest behind a signature: what a structure is under it
abbrev by_signature : (Scope → At → Env → Signature × Progress → Answer (Env × Progress)) → At → Env → List ℕ → Top
    → Signature × Progress → Answer (Env × Progress)
by_signature rule at env home top r = rule (core_scope home top) at env r

-- a rule that was applied, as a step
ruled : {m : Moment} (rule : Scope → At → Env → Signature × Progress → Answer (Env × Progress)) (at : At) (env : Env)
    (sig : Signature) (g : Graph) (t : Table) (r : Result EnvId Fault)
    → ((inner : Scope) → inner.home ≡ m.graph.home → Answers (rule inner at env (sig, progress_at m))
    (λ (made : EnvId). (env_at g made, progress t g)) r)
    → IfOk r (HasEnv g) → Keeps m.graph g → g.home ≡ m.graph.home → t ≡ m.table
    → Elabs m (λ home top. by_signature rule at env home top (sig, progress_at m)) read_env HasEnv (moment g t m.top) r
ruled {m} rule at env sig g t r h has k e f = record {
  infers = h (core_scope m.graph.home (seen_at m)) refl;
  has = has;
  goes = changes_graph {m = m} g t k e f;
  left = same_left r m.top m.top refl;
}

module _ {m0 m1 : Moment} (at : At) (sig : SigPhrase) (env : EnvId) where
  pub transparent_stops : {e : Fault} → IsSignature m0 sig m1 (Err e) → IsTransparent m0 at sig env m1 (Err e)
  transparent_stops h = stops (by_signature transparent at (env_at m0.graph env)) h

  pub opaque_stops : {e : Fault} → IsSignature m0 sig m1 (Err e) → IsOpaque m0 at sig env m1 (Err e)
  opaque_stops h = stops (by_signature opaque at (env_at m0.graph env)) h

  pub transparent_done : {id : SigId} (g : Graph) (t : Table) (r : Result EnvId Fault) → IsTopScope m0.graph m0.top
      → HasEnv m0.graph env → IsSignature m0 sig m1 (Ok id)
      → ((inner : Scope) → inner.home ≡ m1.graph.home
      → Answers (transparent inner at (env_at m1.graph env) (signature_at m1.graph id, progress_at m1))
      (λ (made : EnvId). (env_at g made, progress t g)) r)
      → IfOk r (HasEnv g) → StaysGraph m1.graph g → t ≡ m1.table
      → IsTransparent m0 at sig env (moment g t m1.top) r
  transparent_done {id} g t r there has h k env_there grows e =
      goes_on (by_signature transparent at (env_at m0.graph env)) there h
      (subst (λ (z : Env). Elabs m1
      (λ home top. by_signature transparent at z home top (signature_at m1.graph id, progress_at m1)) read_env HasEnv
      (moment g t m1.top) r) (h.goes.graph.env env has)
      (ruled {m = m1} transparent at (env_at m1.graph env) (signature_at m1.graph id) g t r k env_there grows.keeps
      grows.home e))

  pub opaque_done : {id : SigId} (g : Graph) (t : Table) (r : Result EnvId Fault) → IsTopScope m0.graph m0.top
      → HasEnv m0.graph env → IsSignature m0 sig m1 (Ok id)
      → ((inner : Scope) → inner.home ≡ m1.graph.home
      → Answers (opaque inner at (env_at m1.graph env) (signature_at m1.graph id, progress_at m1))
      (λ (made : EnvId). (env_at g made, progress t g)) r)
      → IfOk r (HasEnv g) → Grows m1.graph g → t ≡ m1.table
      → IsOpaque m0 at sig env (moment g t m1.top) r
  opaque_done {id} g t r there has h k env_there grows e =
      goes_on (by_signature opaque at (env_at m0.graph env)) there h
      (subst (λ (z : Env). Elabs m1
      (λ home top. by_signature opaque at z home top (signature_at m1.graph id, progress_at m1)) read_env HasEnv
      (moment g t m1.top) r) (h.goes.graph.env env has)
      (ruled {m = m1} opaque at (env_at m1.graph env) (signature_at m1.graph id) g t r k env_there grows.keeps
      grows.home e))

-- ---- behind the structure expression

abbrev transparent_rest : SigPhrase → At → List ℕ → Top → Env × Progress → Answer (Env × Progress)
transparent_rest sig at home top e = infer_transparent at sig e.0 home top e.1

abbrev opaque_rest : SigPhrase → At → List ℕ → Top → Env × Progress → Answer (Env × Progress)
opaque_rest sig at home top e = infer_opaque at sig e.0 home top e.1

module _ {m0 m1 : Moment} (str : ModulePhrase) (sig : SigPhrase) (at : At) where
  pub constrained_first : {e : Fault} → IsModule m0 str m1 (Err e)
      → IsModule m0 (ModulePhrase.Transparent str sig at) m1 (Err e)
  constrained_first h = stops (transparent_rest sig (module_at str)) h

  pub constrained_done : {m2 : Moment} {id : EnvId} {r : Result EnvId Fault} (place : At) → place ≡ module_at str
      → IsTopScope m0.graph m0.top
      → IsModule m0 str m1 (Ok id) → IsTransparent m1 place sig id m2 r
      → IsModule m0 (ModulePhrase.Transparent str sig at) m2 r
  constrained_done {m2} {id} {r} place e there h k = goes_on (transparent_rest sig (module_at str)) there h
      (subst (λ (z : At). IsTransparent m1 z sig id m2 r) e k)

  pub sealed_first : {e : Fault} → IsModule m0 str m1 (Err e)
      → IsModule m0 (ModulePhrase.Opaque str sig at) m1 (Err e)
  sealed_first h = stops (opaque_rest sig (module_at str)) h

  pub sealed_done : {m2 : Moment} {id : EnvId} {r : Result EnvId Fault} (place : At) → place ≡ module_at str
      → IsTopScope m0.graph m0.top
      → IsModule m0 str m1 (Ok id) → IsOpaque m1 place sig id m2 r
      → IsModule m0 (ModulePhrase.Opaque str sig at) m2 r
  sealed_done {m2} {id} {r} place e there h k = goes_on (opaque_rest sig (module_at str)) there h
      (subst (λ (z : At). IsOpaque m1 z sig id m2 r) e k)
