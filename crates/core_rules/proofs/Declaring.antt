-- Declarations: what a call answers of each, from what it answers of its parts.
use Rattle.std.proofs.Common.{◌≡◌, ℕ, List, [], length, refl, sym, ap, ◌∙◌, subst}
use Rattle.std.specs.Prelude.{Result, Ok, Err, IfOk, IsErrAnd}
use Rattle.cm_base.specs.declared.fault.Fault.{Fault}
use Rattle.cm_base.specs.declared.fault.Fault.TheVariants as fault
use Rattle.sml_trees.specs.declared.name.At.{At}
use Rattle.semantic_objects.specs.declared.name.TyId.{TyId}
use Rattle.semantic_objects.specs.Environments.{Env}
use Rattle.unification.specs.Types.{Ty, State}
use Rattle.unification.specs.Unification.{depth}
use Rattle.type_nodes.specs.Tables.{Table, state}
use Rattle.sml_modules.specs.declared.parts.NamedEnv.{NamedEnv}
use Rattle.sml_modules.specs.Graphs.{Graph, HasEnvs}
use Rattle.bare_phrases.specs.Phrases.{ExpPhrase, DecPhrase}
use Rattle.static_semantics.specs.Inferring.{Progress, Scope, Answer, ◌>>=◌, gives, under, sized_dec}
use Rattle.static_semantics.specs.CoreInference.{infer_exp, infer_dec, within_let}
use Rattle.core_scopes.specs.declared.made.Made.{Made}
use Rattle.core_scopes.specs.Scopes.{Bindings}
use Rattle.core_scopes.specs.Marks.{env_of_made}
use Rattle.type_phrases.specs.Inferred.{Answers, KeepsTypes, home_scope, progress}
use Rattle.type_phrases.proofs.Keeping.{keeps_all, keeps_later}
use Rattle.pattern_elab.specs.declared.own.OwnVariable.{OwnVariable}
use Rattle.pattern_elab.specs.Scopes.{own_entry}
use Rattle.value_closing.specs.Under.{IsUnder}
use Rattle.core_rules.specs.Rules.{IsRule}
use Rattle.core_rules.specs.Moments.{Moment, moment, progress_at, IsCoreAt, typed_as, Passes, Elabs}
use Rattle.core_rules.specs.Expressions.{IsExp, ends_sized}
use Rattle.core_rules.specs.Ready.{made_at}
use Rattle.pattern_elab.proofs.Scoping.{core_later}
use Rattle.core_rules.specs.Values.{read_made}
use Rattle.core_rules.specs.Declarations.{Declares, IsDeclared, IsDeclaredBehind, IsBehind, Whatever, dec_sized}
use Rattle.core_rules.proofs.Chains.{passes_table, core_kept, stops, goes_on, ruled}

-- ---- the end, where the table is as it was

abbrev pub IsChecked : Graph → Table → At → Made OwnVariable → Result (Made OwnVariable) Fault → Type 0
IsChecked g t at made r =
    Answers (sized_dec (home_scope g) at (env_of_made g own_entry made, progress t g))
    (λ (m : Made OwnVariable). (env_of_made g own_entry m, progress t g)) r

made_there : (g : Graph) (made : Made OwnVariable) (r : Result (Made OwnVariable) Fault)
    → HasEnvs g made.structures → IfOk r (λ same. same ≡ made)
    → IfOk r (λ (m : Made OwnVariable). HasEnvs g m.structures)
made_there g made (Ok m) h e = subst (λ (z : Made OwnVariable). HasEnvs g z.structures) (sym e) h
made_there g made (Err f) h e = tt

pub anything : (t : Table) (r : Result (Made OwnVariable) Fault) → IfOk r (Whatever t)
anything t (Ok m) = tt
anything t (Err e) = tt

pub checked_made : {m : Moment} {r : Result (Made OwnVariable) Fault} (at : At) (made : Made OwnVariable) → IsCoreAt m
    → IsChecked m.graph m.table at made r → HasEnvs m.graph made.structures → IfOk r (λ same. same ≡ made)
    → Declares m (λ sc. sized_dec sc at (read_made m made)) m r
checked_made {m} {r} at made core h c e = record {
  elabs = record {
    infers = h;
    has = anything m.table r;
    goes = passes_table m m.table m.scope (keeps_all m.table);
    left = refl;
    core = core;
  };
  envs = made_there m.graph made r c e;
}

-- with a table that is the same
pub same_table : {m : Moment} {want : Scope → Answer (Env × Progress)} {r : Result (Made OwnVariable) Fault}
    (new : Table) → new ≡ m.table → Declares m want m r → Declares m want (moment m.graph new m.scope) r
same_table {m} {want} {r} new e h =
    subst (λ (z : Table). Declares m want (moment m.graph z m.scope) r) (sym e) h

-- a phrase as it is written
pub as_dec : {old new : Moment} {p q : DecPhrase} {r : Result (Made OwnVariable) Fault} → p ≡ q
    → IsDeclared old q new r → IsDeclared old p new r
as_dec {old} {new} {p} {q} {r} e h = subst (λ z. IsDeclared old z new r) (sym e) h

-- an error that is passed on
pub dec_passed : {old new : Moment} {want : Scope → Answer (Env × Progress)} (r : Result (Made OwnVariable) Fault)
    (e : Fault) → IsErrAnd r (λ f. f ≡ e) → Declares old want new (Err e) → Declares old want new r
dec_passed {old} {new} {want} (Ok x) e h k = absurd h
dec_passed {old} {new} {want} (Err f) e h k = subst (λ (z : Fault). Declares old want new (Err z)) (sym h) k

-- want of memory
pub dec_memory : {m : Moment} {want : Scope → Answer (Env × Progress)} → IsCoreAt m
    → Declares m want m (Err fault.NoMemory)
dec_memory {m} core = record {
  elabs = record {
    infers = tt;
    has = tt;
    goes = passes_table m m.table m.scope (keeps_all m.table);
    left = refl;
    core = core;
  };
  envs = tt;
}

-- ---- the check of sizes behind what was made

abbrev made_end : At → Scope → Env × Progress → Answer (Env × Progress)
made_end at sc r = sized_dec sc at r

pub step_first : {m0 m1 : Moment} {want : Scope → Answer (Env × Progress)} {e : Fault} (at : At)
    → Elabs m0 want read_made Whatever m1 (Err e) → Declares m0 (λ sc. dec_sized sc at (want sc)) m1 (Err e)
step_first at h = record { elabs = stops (made_end at) h; envs = tt }

pub step_done : {m0 m1 : Moment} {want : Scope → Answer (Env × Progress)} {r : Result (Made OwnVariable) Fault} (at : At)
    (made : Made OwnVariable) (last : Table) → IsCoreAt m0 → Elabs m0 want read_made Whatever m1 (Ok made)
    → last ≡ m1.table → HasEnvs m1.graph made.structures → IsChecked m1.graph m1.table at made r
    → IfOk r (λ same. same ≡ made)
    → Declares m0 (λ sc. dec_sized sc at (want sc)) (moment m1.graph last m1.scope) r
step_done {m0} {m1} {want} {r} at made last core h e there z same =
    let ends = checked_made {m = m1} {r = r} at made h.core z there same in
    subst (λ (t : Table). Declares m0 (λ sc. dec_sized sc at (want sc)) (moment m1.graph t m1.scope) r) (sym e)
    (record { elabs = goes_on (made_end at) core h ends.elabs; envs = ends.envs })

-- ---- `val`

pub val_declared : {old new : Moment} {r : Result (Made OwnVariable) Fault} (phrase : DecPhrase)
    → Elabs old (λ sc. infer_dec depth sc phrase (progress_at old)) read_made (λ t made. made.structures ≡ []) new r
    → IsDeclared old phrase new r
val_declared {old} {new} {r = Ok made} phrase h = record {
  elabs = record { infers = h.infers; has = tt; goes = h.goes; left = h.left; core = h.core };
  envs = subst (λ (z : List NamedEnv). HasEnvs new.graph z) (sym h.has) tt;
}
val_declared {old} {new} {r = Err e} phrase h = record {
  elabs = record { infers = h.infers; has = tt; goes = h.goes; left = h.left; core = h.core };
  envs = tt;
}

-- ---- `local`

abbrev local_end : At → Scope → Env × Progress → Answer (Env × Progress)
local_end at sc r = sized_dec sc at r

abbrev local_rest : DecPhrase → At → Scope → Env × Progress → Answer (Env × Progress)
local_rest shown at sc h = infer_dec depth (under h.0 sc) shown h.1 >>= local_end at sc

module _ {m0 m1 : Moment} (hidden shown : DecPhrase) (at : At) where
  pub local_first : {e : Fault} → IsDeclared m0 hidden m1 (Err e) → IsDeclared m0 (DecPhrase.Local hidden shown at) m1 (Err e)
  local_first h = record { elabs = stops (local_rest shown at) h.elabs; envs = tt }

  pub local_second : {m2 : Moment} {made : Made OwnVariable} {e : Fault} → IsCoreAt m0
      → IsDeclared m0 hidden m1 (Ok made) → IsDeclaredBehind m1 made shown m2 (Err e)
      → IsDeclared m0 (DecPhrase.Local hidden shown at) m2 (Err e)
  local_second core h k = record {
    elabs = goes_on (local_rest shown at) core h.elabs (stops (local_end at) k.elabs);
    envs = tt;
  }

  pub local_done : {m2 : Moment} {new : Table} {made more : Made OwnVariable} {r : Result (Made OwnVariable) Fault}
      → IsCoreAt m0 → IsDeclared m0 hidden m1 (Ok made) → IsDeclaredBehind m1 made shown m2 (Ok more)
      → new ≡ m2.table → IsChecked m2.graph m2.table at more r → IfOk r (λ same. same ≡ more)
      → IsDeclared m0 (DecPhrase.Local hidden shown at) (moment m2.graph new m2.scope) r
  local_done {m2} {new} {made} {more} {r} core h k e z same =
      let ends = checked_made {m = m2} {r = r} at more k.elabs.core z k.envs same in
      subst (λ (t : Table). IsDeclared m0 (DecPhrase.Local hidden shown at) (moment m2.graph t m2.scope) r) (sym e)
      (record {
        elabs = goes_on (local_rest shown at) core h.elabs (goes_on (local_end at) h.elabs.core k.elabs ends.elabs);
        envs = ends.envs;
      })

-- ---- a table that grew behind a declaration, of which as much is known

progress_same : (g : Graph) (t new : Table) → state new ≡ state t → progress new g ≡ progress t g
progress_same g t new e = ap (λ (s : State). (let p : Progress = record { types = s; names = length g.made } in p)) e

pub made_after : {old : Moment} {g : Graph} {t t1 : Table} {sc : Bindings OwnVariable} (made : Made OwnVariable) (p : DecPhrase)
    → KeepsTypes t t1 → state t1 ≡ state t → IsDeclared old p (moment g t sc) (Ok made)
    → IsDeclared old p (moment g t1 sc) (Ok made)
made_after {old} {g} {t} {t1} {sc} made p k e h = record {
  elabs = record {
    infers = h.elabs.infers
        ∙ ap (λ (st : Progress). gives (made_at (moment g t sc) made, st)) (sym (progress_same g t t1 e));
    has = h.elabs.has;
    goes = record {
      graph = h.elabs.goes.graph;
      home = h.elabs.goes.home;
      ids = keeps_later old.table t t1 h.elabs.goes.ids k;
    };
    left = h.elabs.left;
    core = core_later g t t1 sc k h.elabs.core;
  };
  envs = h.envs;
}

-- ---- what stands under what a declaration made

pub shown_done : {m0 : Moment} {g : Graph} {t : Table} {s1 s2 s3 : Bindings OwnVariable}
    {r : Result (Made OwnVariable) Fault} (made : Made OwnVariable) (p : DecPhrase) → IsCoreAt m0
    → IsUnder m0.graph m0.table (made_at m0 made) m0.scope s1 → IsDeclared (moment m0.graph m0.table s1) p (moment g t s2) r
    → s3 ≡ m0.scope → IsDeclaredBehind m0 made p (moment g t s3) r
shown_done {m0} {g} {t} {s1} {s2} {s3} {r} made p core h k left =
    let goes : Passes m0 (moment g t s3) =
    record { graph = k.elabs.goes.graph; home = k.elabs.goes.home; ids = k.elabs.goes.ids } in
    record {
      elabs = record {
        infers = subst (λ sc. Answers (infer_dec depth sc p (progress_at m0)) (read_made (moment g t s3)) r) h.seen
            k.elabs.infers;
        has = k.elabs.has;
        goes = goes;
        left = left;
        core = core_kept {old = m0} {new = moment g t s3} core goes left;
      };
      envs = k.envs;
    }

pub body_done : {m0 : Moment} {g : Graph} {t : Table} {s1 s2 s3 : Bindings OwnVariable} {r : Result TyId Fault}
    (made : Made OwnVariable) (p : ExpPhrase) → IsCoreAt m0 → IsUnder m0.graph m0.table (made_at m0 made) m0.scope s1
    → IsExp (moment m0.graph m0.table s1) p (moment g t s2) r → s3 ≡ m0.scope
    → IsBehind m0 made p (moment g t s3) r
body_done {m0} {g} {t} {s1} {s2} {s3} {r} made p core h k left =
    let goes : Passes m0 (moment g t s3) = record { graph = k.goes.graph; home = k.goes.home; ids = k.goes.ids } in
    record {
      infers = subst (λ sc. Answers (infer_exp depth sc p (progress_at m0)) (typed_as (moment g t s3)) r) h.seen
          k.infers;
      has = k.has;
      goes = goes;
      left = left;
      core = core_kept {old = m0} {new = moment g t s3} core goes left;
    }

-- ---- `let`

abbrev let_last : At → Progress → Progress → Scope → Ty × Progress → Answer (Ty × Progress)
let_last at st u sc r = ends_sized sc at (within_let sc at st.names u.names r)

abbrev let_rest : ExpPhrase → At → Progress → Scope → Env × Progress → Answer (Ty × Progress)
let_rest body at st sc d = infer_exp depth (under d.0 sc) body d.1 >>= let_last at st d.1 sc

module _ {m0 m1 : Moment} (dec : DecPhrase) (body : ExpPhrase) (at : At) where
  pub let_first : {e : Fault} → IsDeclared m0 dec m1 (Err e) → IsExp m0 (ExpPhrase.Let dec body at) m1 (Err e)
  let_first h = stops (let_rest body at (progress_at m0)) h.elabs

  pub let_second : {m2 : Moment} {made : Made OwnVariable} {e : Fault} → IsCoreAt m0 → IsDeclared m0 dec m1 (Ok made)
      → IsBehind m1 made body m2 (Err e) → IsExp m0 (ExpPhrase.Let dec body at) m2 (Err e)
  let_second core h k = goes_on (let_rest body at (progress_at m0)) core h.elabs
      (stops (let_last at (progress_at m0) (progress_at m1)) k)

  pub let_done : {m2 : Moment} {new : Table} {made : Made OwnVariable} {a : TyId} {r : Result TyId Fault} → IsCoreAt m0
      → IsDeclared m0 dec m1 (Ok made) → IsBehind m1 made body m2 (Ok a)
      → IsRule m2.graph m2.table new (λ sc. let_last at (progress_at m0) (progress_at m1) sc (typed_as m2 a)) r
      → IsExp m0 (ExpPhrase.Let dec body at) (moment m2.graph new m2.scope) r
  let_done {m2} core h k l = goes_on (let_rest body at (progress_at m0)) core h.elabs
      (goes_on (let_last at (progress_at m0) (progress_at m1)) h.elabs.core k (ruled {m = m2} k.core l))

-- with the numbers as code has them
pub let_numbered : {m0 m1 m2 : Moment} {new : Table} {made : Made OwnVariable} {a : TyId} {r : Result TyId Fault}
    (dec : DecPhrase) (body : ExpPhrase) (at : At) (from to : ℕ) → IsCoreAt m0 → IsDeclared m0 dec m1 (Ok made)
    → IsBehind m1 made body m2 (Ok a) → from ≡ length m0.graph.made → to ≡ length m1.graph.made
    → IsRule m2.graph m2.table new (λ sc. ends_sized sc at (within_let sc at from to (typed_as m2 a))) r
    → IsExp m0 (ExpPhrase.Let dec body at) (moment m2.graph new m2.scope) r
let_numbered {m0} {m1} {m2} {new} {made} {a} {r} dec body at from to core h k e f l =
    let_done dec body at core h k
    (subst (λ (x : ℕ). IsRule m2.graph m2.table new (λ sc. ends_sized sc at (within_let sc at x
    (length m1.graph.made) (typed_as m2 a))) r) e
    (subst (λ (y : ℕ). IsRule m2.graph m2.table new (λ sc. ends_sized sc at (within_let sc at from y (typed_as m2 a)))
    r) f l))
