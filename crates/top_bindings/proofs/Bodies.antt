-- Functors and signatures of functors: what calls answer, from what they answer of parameters and bodies.
use Rattle.std.proofs.Common.{◌≡◌, ℕ, List, Bool, length, refl, sym, ap, ap₂, ◌∙◌, subst}
use Rattle.std.specs.Prelude.{Result, Ok, Err, IfOk, OnOk}
use Rattle.cm_base.specs.declared.fault.Fault.{Fault}
use Rattle.cm_base.specs.declared.fault.Fault.TheVariants as fault
use Rattle.sml_trees.specs.declared.name.Name.{Name}
use Rattle.semantic_objects.specs.declared.name.TyName.{TyName}
use Rattle.semantic_objects.specs.Environments.{Env, Signature, Functor, Top}
use Rattle.unification.specs.Unification.{depth}
use Rattle.type_nodes.specs.Keeping.{IsKept}
use Rattle.type_nodes.specs.Tables.{Table, state}
use Rattle.sml_modules.specs.declared.id.EnvId.{EnvId}
use Rattle.sml_modules.specs.declared.id.SigId.{SigId}
use Rattle.sml_modules.specs.declared.id.FunId.{FunId}
use Rattle.sml_modules.specs.declared.parts.SigParts.{SigParts}
use Rattle.sml_modules.specs.Graphs.{Graph, Keeps, GivesFunctor, env_at, signature_at, functor_at, signature_of, HasEnv, HasFunctor, HasSigParts}
use Rattle.static_semantics.specs.Inferring.{Progress, Scope, Answer, ◌>>=◌, gives}
use Rattle.static_semantics.specs.Holding.{Given}
use Rattle.type_phrases.specs.Inferred.{Answers, progress}
use Rattle.type_phrases.proofs.Keeping.{keeps_all}
use Rattle.core_rules.proofs.Chains.{graph_then}
use Rattle.core_rules.proofs.Ruling.{keeps_same}
use Rattle.module_semantics.specs.SigPhrases.{SigPhrase}
use Rattle.module_semantics.specs.SignatureNames.{opened}
use Rattle.module_semantics.specs.SignatureInference.{signature_of as infer_signature}
use Rattle.signature_sealing.specs.Sealing.{IsOpened}
use Rattle.module_scopes.proofs.Tops.{tops_stay}
use Rattle.unit_semantics.specs.UnitPhrases.{ModulePhrase, FunPhrase, FunsigPhrase}
use Rattle.unit_semantics.specs.StructureInference.{core_scope, infer_module}
use Rattle.unit_semantics.specs.UnitInference.{top_with_param, without_variables, names_since, functor_of, infer_body, infer_result}
use Rattle.known_environments.specs.Grows.{GrowsByNodes}
use Rattle.module_growth.specs.Grown.{IsInside}
use Rattle.unit_derivations.specs.Derived.{IsAtTop}
use Rattle.unit_derivations.specs.Promises.{every}
use Rattle.unit_derivations.proofs.Scopes.{inside_top}
use Rattle.module_scopes.specs.declared.top.TopScope.{TopScope}
use Rattle.module_scopes.specs.Tops.{IsTopScope}
use Rattle.cm_base.specs.declared.fault.NoMemory.{NoMemory}
use Rattle.core_scopes.specs.Scopes.{Bindings}
use Rattle.pattern_elab.specs.declared.own.OwnVariable.{OwnVariable}
use Rattle.module_scopes.specs.Stays.{GoesUnder}
use Rattle.structure_elab.specs.Moments.{Moment, moment, seen_at, progress_at, read_env, Passes, Elabs, GoesInto}
use Rattle.structure_elab.proofs.Entering.{with_core, goes_into}
use Rattle.structure_elab.specs.Phrases.{IsModule, IsSignature, read_signature}
use Rattle.structure_elab.proofs.Chains.{passes_top, passes_then, seen_kept, there_kept, bare_kept, seen_before, stops, goes_on, same_left}
use Rattle.structure_elab.proofs.Steps.{changes_graph}
use Rattle.top_bindings.specs.Ready.{IsReadyTop, IsReadyWith}
use Rattle.top_bindings.specs.Bindings.{read_functor, IsModuleWith, IsSignatureWith, IsBody, IsResult, infer_functor, infer_funsig, IsFunctorBound, IsFunsigBound, IsStructureBound, table_at}
use Rattle.semantic_objects.specs.Tables.{Table as Named}
use Rattle.semantic_objects.specs.Environments.{structures, empty_env, with_structure}
use Rattle.name_trails.specs.Trails.{Rows}
use Rattle.static_semantics.specs.TypeInference.{new_label}
use Rattle.module_scopes.specs.Tops.{structures_env}
use Rattle.sml_trees.specs.declared.exp.StrBind.{StrBind, out-StrBind}
use Rattle.bare_phrases.specs.Phrases.{StrPhrase}
use Rattle.bare_phrases.specs.PhraseOf.{str_phrase}
use Rattle.bare_phrases.proofs.Forms.{str_bind_phrase-kept}
use Rattle.unit_semantics.specs.UnitPhrases.{module_phrase, read_module}
use Rattle.top_bindings.specs.Bindings.{read_bind}
use Rattle.module_scopes.proofs.Rows.{tables_back}
use Rattle.top_bindings.proofs.Readying.{param_inside}

-- ---- parts in a graph that grows

pub parts_kept : (g h : Graph) (parts : SigParts) → Keeps g h → HasSigParts g parts
    → signature_of h parts ≡ signature_of g parts
parts_kept g h parts k there =
    ap (λ (env : Env). (let sig : Signature = record { bound = parts.bound; env = env } in sig)) (k.env parts.env there)

pub parts_there : (g h : Graph) (parts : SigParts) → Keeps g h → HasSigParts g parts → HasSigParts h parts
parts_there g h parts k there = k.has_env parts.env there

-- ---- bodies

abbrev known_rest : Name → List ℕ → Top → Env × Progress → Answer (Env × Progress)
known_rest name home top r = without_variables (core_scope home top) name r

abbrev closing : Signature → Signature → ℕ → List ℕ → Top → Env × Progress → Answer (Functor × Progress)
closing param inside number home top e =
    gives (functor_of param inside (names_since home number e.0) e.0, e.1)

abbrev body_rest : FunPhrase → Signature → Signature → ℕ → List ℕ → Top → Env × Progress → Answer (Functor × Progress)
body_rest bind param inside number home top r =
    without_variables (core_scope home top) bind.name r >>= closing param inside number home top

abbrev rest_at : Moment → FunPhrase → SigParts → SigParts → List ℕ → Top → Env × Progress → Answer (Functor × Progress)
rest_at m0 bind param inside =
    body_rest bind (signature_of m0.graph param) (signature_of m0.graph inside) (length m0.graph.made)

known_step : {m1 : Moment} (name : Name) (id : EnvId) (g : Graph) (t : Table) (r : Result EnvId Fault)
    → ((inner : Scope) → inner.home ≡ m1.graph.home
    → Answers (without_variables inner name (env_at m1.graph id, progress_at m1))
    (λ (made : EnvId). (env_at g made, progress t g)) r)
    → IfOk r (HasEnv g) → GrowsByNodes m1.graph g → t ≡ m1.table
    → Elabs m1 (λ home top. known_rest name home top (read_env m1 id)) read_env HasEnv (moment g t m1.top) r
known_step {m1} name id g t r h has grows e = record {
  infers = h (core_scope m1.graph.home (seen_at m1)) refl;
  has = has;
  goes = changes_graph {m = m1} g t grows.keeps grows.home e;
  left = same_left r m1.top m1.top refl;
}

module _ {m0 m1 : Moment} (bind : FunPhrase) (param inside : SigParts) where
  pub body_first : {e : Fault} → IsModuleWith m0 bind.param (env_at m0.graph inside.env) bind.body m1 (Err e)
      → IsBody m0 bind param inside m1 (Err e)
  body_first h = stops (rest_at m0 bind param inside) h

  module _ {id : EnvId} (there : IsTopScope m0.graph m0.top) (there1 : IsTopScope m1.graph m1.top)
      (h : IsModuleWith m0 bind.param (env_at m0.graph inside.env) bind.body m1 (Ok id)) (g : Graph) (t : Table)
      (grows : GrowsByNodes m1.graph g) (same : t ≡ m1.table) where
    pub body_second : {e : Fault}
        → ((inner : Scope) → inner.home ≡ m1.graph.home
        → Answers (without_variables inner bind.name (env_at m1.graph id, progress_at m1))
        (λ (made : EnvId). (env_at g made, progress t g)) (Err e))
        → IsBody m0 bind param inside (moment g t m1.top) (Err e)
    body_second {e} k = goes_on (rest_at m0 bind param inside) there h
        (stops (closing (signature_of m0.graph param) (signature_of m0.graph inside) (length m0.graph.made))
        (known_step bind.name id g t (Err e) k tt grows same))

    pub body_memory : (known : EnvId) (g2 : Graph) → Keeps g g2 → g2.home ≡ g.home
        → ((inner : Scope) → inner.home ≡ m1.graph.home
        → Answers (without_variables inner bind.name (env_at m1.graph id, progress_at m1))
        (λ (made : EnvId). (env_at g made, progress t g)) (Ok known)) → HasEnv g known
        → IsBody m0 bind param inside (moment g2 t m1.top) (Err fault.NoMemory)
    body_memory known g2 keeps home k has = goes_on (rest_at m0 bind param inside) there h
        (goes_on (closing (signature_of m0.graph param) (signature_of m0.graph inside) (length m0.graph.made)) there1
        (known_step bind.name id g t (Ok known) k has grows same)
        (record {
          infers = tt;
          has = tt;
          goes = record { graph = keeps; home = home; ids = keeps_all t };
          left = tt;
        }))

    pub body_done : {fun : FunId} (known : EnvId) (g2 : Graph) (number : ℕ) → number ≡ length m0.graph.made
        → HasSigParts m0.graph param → HasSigParts m0.graph inside
        → ((inner : Scope) → inner.home ≡ m1.graph.home
        → Answers (without_variables inner bind.name (env_at m1.graph id, progress_at m1))
        (λ (made : EnvId). (env_at g made, progress t g)) (Ok known)) → HasEnv g known
        → GivesFunctor g g2 (functor_of (signature_of g param) (signature_of g inside)
        (names_since g.home number (env_at g known)) (env_at g known)) fun
        → IsBody m0 bind param inside (moment g2 t m1.top) (Ok fun)
    body_done {fun} known g2 number n p i k has given =
        let keeps : Keeps m0.graph g = graph_then m0.graph m1.graph g h.goes.graph grows.keeps in
        goes_on (rest_at m0 bind param inside) there h
        (goes_on (closing (signature_of m0.graph param) (signature_of m0.graph inside) (length m0.graph.made)) there1
        (known_step bind.name id g t (Ok known) k has grows same)
        (record {
          infers = ap₂ (λ (f : Functor) (made : List TyName). gives {A = Functor × Progress} (
            f,
            (let st : Progress = record {
              types = state t;
              names = length made;
            } in st),
          ))
              (ap₂ (λ (x y : Signature). functor_of x y (names_since g.home (length m0.graph.made) (env_at g known))
              (env_at g known)) (sym (parts_kept m0.graph g param keeps p)) (sym (parts_kept m0.graph g inside keeps i))
              ∙ ap (λ (z : ℕ). functor_of (signature_of g param) (signature_of g inside)
              (names_since g.home z (env_at g known)) (env_at g known)) (sym n)
              ∙ sym given.stands)
              (sym given.made);
          has = given.there;
          goes = record { graph = given.keeps; home = given.home; ids = keeps_all t };
          left = refl;
        }))

-- ---- signatures of functors

abbrev making : Signature → Signature → List ℕ → Top → Signature × Progress → Answer (Functor × Progress)
making param inside home top r = gives (functor_of param inside r.0.bound r.0.env, r.1)

abbrev making_at : Moment → SigParts → SigParts → List ℕ → Top → Signature × Progress → Answer (Functor × Progress)
making_at m0 param inside = making (signature_of m0.graph param) (signature_of m0.graph inside)

module _ {m0 m1 : Moment} (bind : FunsigPhrase) (param inside : SigParts) where
  pub result_first : {e : Fault}
      → IsSignatureWith m0 bind.param (env_at m0.graph inside.env) bind.result_sig m1 (Err e)
      → IsResult m0 bind param inside m1 (Err e)
  result_first h = stops (making_at m0 param inside) h

  pub result_memory : {sig : SigId} (g : Graph) → Keeps m1.graph g → g.home ≡ m1.graph.home
      → IsTopScope m0.graph m0.top
      → IsSignatureWith m0 bind.param (env_at m0.graph inside.env) bind.result_sig m1 (Ok sig)
      → IsResult m0 bind param inside (moment g m1.table m1.top) (Err fault.NoMemory)
  result_memory {sig} g keeps home there h = goes_on (making_at m0 param inside) there h (record {
    infers = tt;
    has = tt;
    goes = record { graph = keeps; home = home; ids = keeps_all m1.table };
    left = tt;
  })

  pub result_done : {sig : SigId} {fun : FunId} (result : SigParts) (g : Graph) → IsTopScope m0.graph m0.top
      → HasSigParts m0.graph param → HasSigParts m0.graph inside
      → IsSignatureWith m0 bind.param (env_at m0.graph inside.env) bind.result_sig m1 (Ok sig)
      → signature_of m1.graph result ≡ signature_at m1.graph sig
      → GivesFunctor m1.graph g (functor_of (signature_of m1.graph param) (signature_of m1.graph inside) result.bound
      (env_at m1.graph result.env)) fun
      → IsResult m0 bind param inside (moment g m1.table m1.top) (Ok fun)
  result_done {sig} {fun} result g there p i h e given = goes_on (making_at m0 param inside) there h (record {
    infers = ap₂ (λ (f : Functor) (made : List TyName). gives {A = Functor × Progress} (
      f,
      (let st : Progress = record {
        types = state m1.table;
        names = length made;
      } in st),
    ))
        (ap₂ (λ (x y : Signature). functor_of x y (signature_at m1.graph sig).bound (signature_at m1.graph sig).env)
        (sym (parts_kept m0.graph m1.graph param h.goes.graph p))
        (sym (parts_kept m0.graph m1.graph inside h.goes.graph i))
        ∙ ap (λ (z : Signature). functor_of (signature_of m1.graph param) (signature_of m1.graph inside) z.bound z.env)
        (sym e) ∙ sym given.stands)
        (sym given.made);
    has = given.there;
    goes = record { graph = given.keeps; home = given.home; ids = keeps_all m1.table };
    left = refl;
  })

-- ---- parameters

-- the rest behind a parameter's signature, which is opened
abbrev Rest : Type 0
Rest = List ℕ → Top → Signature → Signature × Progress → Answer (Functor × Progress)

abbrev opening : Rest → List ℕ → Top → Signature × Progress → Answer (Functor × Progress)
opening rest home top p = rest home top p.0 (opened home p.0 p.1)

inside_is : (m1 : Moment) (g : Graph) (sig : Signature) (inside : SigParts) → IsOpened m1.graph g sig inside
    → (signature_of g inside, progress m1.table g) ≡ opened m1.graph.home sig (progress_at m1)
inside_is m1 g sig inside o =
    ap₂ (λ (s : Signature) (n : ℕ). (s, (let st : Progress = record { types = state m1.table; names = n } in st)))
    (o.is (progress_at m1) refl) (o.names (progress_at m1) refl)

module _ {m0 m1 : Moment} (sig : SigPhrase) (rest : Rest) where
  pub param_first : {e : Fault} → IsSignature m0 sig m1 (Err e)
      → Elabs m0 (λ home top. infer_signature top.signatures (core_scope home top) sig (progress_at m0)
      >>= opening rest home top) read_functor HasFunctor m1 (Err e)
  param_first h = stops (opening rest) h

  pub param_memory : {id : SigId} (g : Graph) → Keeps m1.graph g → g.home ≡ m1.graph.home → IsTopScope m0.graph m0.top
      → IsSignature m0 sig m1 (Ok id)
      → Elabs m0 (λ home top. infer_signature top.signatures (core_scope home top) sig (progress_at m0)
      >>= opening rest home top) read_functor HasFunctor (moment g m1.table m1.top) (Err fault.NoMemory)
  param_memory {id} g keeps home there h = goes_on (opening rest) there h (record {
    infers = tt;
    has = tt;
    goes = record { graph = keeps; home = home; ids = keeps_all m1.table };
    left = tt;
  })

  pub param_done : {m3 : Moment} {id : SigId} {r : Result FunId Fault} (param inside : SigParts) (g : Graph)
      → IsTopScope m0.graph m0.top → IsSignature m0 sig m1 (Ok id) → IsTopScope m1.graph m1.top
      → signature_of m1.graph param ≡ signature_at m1.graph id → HasSigParts m1.graph param
      → IsOpened m1.graph g (signature_at m1.graph id) inside
      → Elabs (moment g m1.table m1.top) (λ home top. rest home top (signature_of g param)
      (signature_of g inside, progress m1.table g)) read_functor HasFunctor m3 r
      → Elabs m0 (λ home top. infer_signature top.signatures (core_scope home top) sig (progress_at m0)
      >>= opening rest home top) read_functor HasFunctor m3 r
  param_done {m3} {id} {r} param inside g there h there1 e p o k =
      let m2 : Moment = moment g m1.table m1.top in
      let goes : Passes m1 m2 = record { graph = o.keeps; home = o.home; ids = keeps_all m1.table } in
      goes_on (opening rest) there h (record {
        infers = subst (λ (x : Signature). Answers (rest m1.graph.home (seen_at m1) x
            (opened m1.graph.home (signature_at m1.graph id) (progress_at m1))) (read_functor m3) r)
            (parts_kept m1.graph g param o.keeps p ∙ e)
            (subst (λ (y : Signature × Progress). Answers (rest m1.graph.home (seen_at m1) (signature_of g param) y)
            (read_functor m3) r) (inside_is m1 g (signature_at m1.graph id) inside o)
            (seen_before {old = m1} {mid = m2} (λ home top. rest home top (signature_of g param)
            (signature_of g inside, progress m1.table g)) (read_functor m3) r there1 goes refl k.infers));
        has = k.has;
        goes = passes_then {a = m1} {b = m2} {c = m3} goes k.goes;
        left = k.left;
      })

-- what is in scope is ready for a body
pub ready_with : {m0 m1 : Moment} {id : SigId} (name : Name) (sig : SigPhrase) (inside : SigParts) (g : Graph)
    → IsReadyTop m0 → IsSignature m0 sig m1 (Ok id) → IsOpened m1.graph g (signature_at m1.graph id) inside
    → IsKept m1.table → IsReadyWith (moment g m1.table m1.top) name (env_at g inside.env)
ready_with {m0} {m1} {id} name sig inside g r h o k =
    let m2 : Moment = moment g m1.table m1.top in
    let goes : Passes m1 m2 = record { graph = o.keeps; home = o.home; ids = keeps_all m1.table } in
    let all : Passes m0 m2 = passes_then {a = m0} {b = m1} {c = m2} h.goes goes in
    let first : IsAtTop every m0.graph.home (top_with_param name (opened m0.graph.home (signature_at m1.graph id)
    (progress_at m1)).0.env (seen_at m0)) (opened m0.graph.home (signature_at m1.graph id) (progress_at m1)).1 =
    subst (Given _) h.infers (param_inside m0.graph.home (seen_at m0) name sig (progress_at m0) r.at) in
    let there : IsTopScope m2.graph m2.top = there_kept {old = m0} {new = m2} r.there all h.left in
    let home : m0.graph.home ≡ g.home = sym all.home in
    let opens : opened m0.graph.home (signature_at m1.graph id) (progress_at m1)
    ≡ (signature_of g inside, progress m1.table g) =
    ap (λ z. opened z (signature_at m1.graph id) (progress_at m1)) (sym h.goes.home)
    ∙ sym (inside_is m1 g (signature_at m1.graph id) inside o) in
    let second : IsAtTop every m0.graph.home (top_with_param name (env_at g inside.env) (seen_at m0))
    (progress m1.table g) =
    subst (λ (z : Signature × Progress). IsAtTop every m0.graph.home (top_with_param name z.0.env (seen_at m0)) z.1)
    opens first in
    let third : IsAtTop every g.home (top_with_param name (env_at g inside.env) (seen_at m0)) (progress m1.table g) =
    subst (λ z. IsAtTop every z (top_with_param name (env_at g inside.env) (seen_at m0)) (progress m1.table g)) home
    second in
    record {
      there = there;
      kept = k;
      inside = subst (λ (z : Top). IsInside every g.home (top_with_param name (env_at g inside.env) z)
          (progress m1.table g)) (sym (seen_kept {old = m0} {new = m2} r.there all h.left))
          (inside_top every g.home (top_with_param name (env_at g inside.env) (seen_at m0)) (progress m1.table g) third);
      bare = bare_kept {old = m0.top} {new = m2.top} r.bare h.left;
    }

-- what is in scope is of a graph that grew twice
pub scope_there : (g h : Graph) (old new : TopScope) → IsTopScope g old → {m : Graph} → Keeps g m → Keeps m h
    → new ≡ old → IsTopScope h new
scope_there g h old new there {m} k l e =
    subst (IsTopScope h) (sym e) (tops_stay.scope g h old (graph_then g m h k l) there)

-- ---- structures

module _ {m0 m1 : Moment} (bind : Name × ModulePhrase) where
  pub structure_first : {e : Fault} → IsModule m0 bind.1 m1 (Err e) → IsStructureBound m0 bind m1 (Err e)
  structure_first h = stops (known_rest bind.0) h

  pub structure_done : {id : EnvId} (g : Graph) (t : Table) (r : Result EnvId Fault) → IsTopScope m0.graph m0.top
      → IsModule m0 bind.1 m1 (Ok id)
      → ((inner : Scope) → inner.home ≡ m1.graph.home
      → Answers (without_variables inner bind.0 (env_at m1.graph id, progress_at m1))
      (λ (made : EnvId). (env_at g made, progress t g)) r)
      → IfOk r (HasEnv g) → GrowsByNodes m1.graph g → t ≡ m1.table
      → IsStructureBound m0 bind (moment g t m1.top) r
  structure_done {id} g t r there h k has grows e = goes_on (known_rest bind.0) there h (record {
    infers = k (core_scope m1.graph.home (seen_at m1)) refl;
    has = has;
    goes = changes_graph {m = m1} g t grows.keeps grows.home e;
    left = same_left r m1.top m1.top refl;
  })

-- names that earlier bindings have
pub label_among : (m : Moment) (name : Name) (rows : Rows EnvId) (r : Result (Unit {0}) Fault)
    → ((inner : Scope) → inner.home ≡ m.graph.home
    → Answers (new_label inner name (structures (structures_env m.graph rows))) (λ (u : Unit {0}). tt) r)
    → (inner : Scope) → inner.home ≡ m.graph.home
    → Answers (new_label inner name (table_at env_at m.graph rows)) (λ (u : Unit {0}). tt) r
label_among m name rows r h inner e = subst (λ (table : Named Env). Answers (new_label inner name table)
    (λ (u : Unit {0}). tt) r) (tables_back (table_at env_at m.graph rows)) (h inner e)

-- a binding as it is written
pub bound_as : {old new : Moment} {r : Result EnvId Fault} (sealing : Bool) (bind : StrBind)
    → IsStructureBound old ((out-StrBind bind).name, read_module sealing (module_phrase (str_phrase (out-StrBind bind).body)))
    new r → IsStructureBound old (read_bind sealing bind) new r
bound_as {old} {new} {r} sealing bind h =
    subst (λ (z : Name × StrPhrase). IsStructureBound old (z.0, read_module sealing (module_phrase z.1)) new r)
    (sym (str_bind_phrase-kept bind)) h

pub name_as : (sealing : Bool) (bind : StrBind) → (read_bind sealing bind).0 ≡ (out-StrBind bind).name
name_as sealing bind = ap (λ (z : Name × StrPhrase). z.0) (str_bind_phrase-kept bind)

pub label_as : (r : Result (Unit {0}) Fault) (m : Moment) (sealing : Bool) (bind : StrBind) (rows : Rows EnvId)
    → ((inner : Scope) → inner.home ≡ m.graph.home
    → Answers (new_label inner (out-StrBind bind).name (structures (structures_env m.graph rows))) (λ (u : Unit {0}). tt) r)
    → (inner : Scope) → inner.home ≡ m.graph.home
    → Answers (new_label inner (read_bind sealing bind).0 (table_at env_at m.graph rows)) (λ (u : Unit {0}). tt) r
label_as r m sealing bind rows h inner e =
    subst (λ (n : Name). Answers (new_label inner n (table_at env_at m.graph rows)) (λ (u : Unit {0}). tt) r)
    (sym (name_as sealing bind)) (label_among m (out-StrBind bind).name rows r h inner e)

-- a parameter is entered
pub param_enters : (name : List ℕ) (env : EnvId) (old : TopScope) (core : Bindings OwnVariable)
    (r : Result (Unit {0}) NoMemory)
    → OnOk r ((g : Graph) → HasEnv g env → GoesUnder g (with_structure name (env_at g env) empty_env) old.core core)
    → OnOk r ((g : Graph) → HasEnv g env
    → GoesInto g (with_structure name (env_at g env) empty_env) old (with_core core old))
param_enters name env old core (Ok u) k = λ g h. goes_into g (with_structure name (env_at g env) empty_env) old core (k g h)
param_enters name env old core (Err e) k = tt
