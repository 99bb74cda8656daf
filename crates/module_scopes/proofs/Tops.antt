-- What is in scope at the top level, and what was defined.
use Rattle.std.proofs.Common.{◌≡◌, ℕ, refl, sym, ap, ap₂, ◌∙◌, subst, List, [], ◌∷◌, ◌++◌}
use Rattle.semantic_objects.specs.declared.entry.ValueEntry.{ValueEntry}
use Rattle.semantic_objects.specs.Tables.{Table as Named, with_entry, with_all}
use Rattle.semantic_objects.specs.Environments.{Env, Signature, Functor, Top, env_of, table_of, structures_of, modified_by, with_structure}
use Rattle.unification.specs.Types.{Ty}
use Rattle.semantic_objects.proofs.Promised.{keeps_structures}
use Rattle.sml_modules.specs.declared.id.EnvId.{EnvId}
use Rattle.sml_modules.specs.declared.id.SigId.{SigId}
use Rattle.sml_modules.specs.declared.id.FunId.{FunId}
use Rattle.sml_modules.specs.declared.id.TopId.{TopId}
use Rattle.sml_modules.specs.Items.{map_rows}
use Rattle.sml_modules.specs.Graphs.{Graph, env_at, signature_at, functor_at, top_at, HasEnv, HasSignature, HasFunctor, Keeps}
use Rattle.name_trails.specs.Trails.{Rows}
use Rattle.static_semantics.specs.Inferring.{Scope, outermost}
use Rattle.core_scopes.specs.Scopes.{Bindings, seen, written_of, AreEnvs, AreBare}
use Rattle.core_scopes.specs.Marks as marks
use Rattle.core_scopes.specs.Marks.{AddsBare, Becomes}
use Rattle.core_scopes.proofs.Scoping.{envs_append, stays_in_scope, all_bare, adds_nothing}
use Rattle.pattern_elab.specs.declared.own.OwnVariable.{OwnVariable}
use Rattle.pattern_elab.specs.Scopes.{own_entry, variable_of, scope_of}
use Rattle.unit_semantics.specs.UnitInference.{with_given, top_of_env, top_of_signatures, top_of_functors, top_of_funsigs}
use Rattle.module_scopes.specs.declared.defined.Defined.{Defined}
use Rattle.module_scopes.specs.declared.top.TopScope.{TopScope}
use Rattle.module_scopes.specs.Tops.{structures_env, signatures_over, functors_over, defined_top, top_seen, AreSignatures, AreFunctors, IsDefinedIn, IsTopScope}
use Rattle.module_scopes.specs.Stays.{TopsStay, GoesUnder, Defines}
use Rattle.module_scopes.proofs.Rows.{tables_back, one_more, all_more, rows_more, rows_read, rows_hold}

top_same : (d e : Env) (s t : Named Signature) (f h : Named Functor) (k l : Named Functor) → d ≡ e → s ≡ t → f ≡ h
    → k ≡ l
    → (let a : Top = record { env = d; signatures = s; functors = f; funsigs = k } in a)
    ≡ (let b : Top = record { env = e; signatures = t; functors = h; funsigs = l } in b)
top_same d e s t f h k l p q r z = cc

scope_same : (d e : Env) (v w : List (List ℕ × Ty)) (home : List ℕ) → d ≡ e → v ≡ w
    → (let a : Scope = record { env = d; written = v; home = home } in a)
    ≡ (let b : Scope = record { env = e; written = w; home = home } in b)
scope_same d e v w home p q = cc

-- ---- structures by name

structures_only : (s t : Named Env) → s ≡ t → env_of s [] [] ≡ env_of t [] []
structures_only s t e = ap (λ (z : Named Env). env_of z [] []) e

pub structure_more : (g : Graph) (rows new : Rows EnvId) (name text : List ℕ) (env : EnvId) → text ≡ name
    → new ≡ rows ++ (text, env) ∷ []
    → structures_env g new ≡ with_structure name (env_at g env) (structures_env g rows)
structure_more g rows new name text env t e =
    structures_only (with_all (map_rows (env_at g) new) [])
    (with_entry name (env_at g env) (table_of (structures_of (with_all (map_rows (env_at g) rows) []))))
    (one_more (env_at g) rows new name text env t e []
    ∙ ap (with_entry name (env_at g env)) (sym (tables_back (with_all (map_rows (env_at g) rows) []))))

pub envs_one_more : (g : Graph) (rows new : Rows EnvId) (text : List ℕ) (env : EnvId) → new ≡ rows ++ (text, env) ∷ []
    → HasEnv g env → AreEnvs g rows → AreEnvs g new
envs_one_more g rows new text env e h k =
    subst (AreEnvs g) (sym e) (envs_append g rows ((text, env) ∷ []) k (h, tt))

structures_more : (g : Graph) (rows more new : Rows EnvId) → new ≡ rows ++ more
    → structures_env g new ≡ modified_by (structures_env g rows) (structures_env g more)
structures_more g rows more new e =
    structures_only (with_all (map_rows (env_at g) new) [])
    (with_all (table_of (structures_of (with_all (map_rows (env_at g) more) [])))
    (table_of (structures_of (with_all (map_rows (env_at g) rows) []))))
    (all_more (env_at g) rows more new [] e
    ∙ sym (ap₂ (λ (a b : Named Env). with_all a b) (tables_back (with_all (map_rows (env_at g) more) []))
    (tables_back (with_all (map_rows (env_at g) rows) []))))

-- ---- scopes of the core

pub goes_under : (g : Graph) (old new : Bindings OwnVariable) (env : (OwnVariable → ValueEntry) → Env) (made : Env)
    → Becomes g old new env (written_of old) → env own_entry ≡ modified_by (seen g own_entry old) made
    → AddsBare old new → GoesUnder g made old new
goes_under g old new env made b e adds = record {
  seen = scope_same (seen g own_entry new) (modified_by (seen g own_entry old) made)
      (map_rows variable_of (written_of new)) (map_rows variable_of (written_of old)) g.home
      (b.seen own_entry ∙ e) (ap (map_rows variable_of) b.written);
  written = b.written;
  front = b.front;
  bare = adds;
  there = b.there;
}

-- ---- the beginning of a unit

pub core_begins : (g : Graph) (core : Bindings OwnVariable) (env : Env) → seen g own_entry core ≡ env
    → written_of core ≡ [] → scope_of g core ≡ outermost g.home env
core_begins g core env e w =
    scope_same (seen g own_entry core) env (map_rows variable_of (written_of core)) [] g.home e
    (ap (map_rows variable_of) w)

pub top_begins : (g : Graph) (core : Bindings OwnVariable) (given : TopId) (defined : Defined) (env : Env)
    → seen g own_entry core ≡ modified_by env (top_at g given).env → defined.signatures ≡ [] → defined.functors ≡ []
    → defined.funsigs ≡ []
    → top_seen g (let top : TopScope = record { core = core; given = given; defined = defined } in top)
    ≡ with_given env (top_at g given)
top_begins g core given defined env e s f k = top_same
    (seen g own_entry core) (modified_by env (top_at g given).env)
    (signatures_over g defined.signatures (top_at g given).signatures) (top_at g given).signatures
    (functors_over g defined.functors (top_at g given).functors) (top_at g given).functors
    (functors_over g defined.funsigs (top_at g given).funsigs) (top_at g given).funsigs
    e
    (ap (λ (rows : Rows SigId). signatures_over g rows (top_at g given).signatures) s)
    (ap (λ (rows : Rows FunId). functors_over g rows (top_at g given).functors) f)
    (ap (λ (rows : Rows FunId). functors_over g rows (top_at g given).funsigs) k)

-- a table has nothing of an environment that was opened first
pub begins_bare : (below : EnvId) (first core : Bindings OwnVariable) → first ≡ marks.outermost below → AddsBare first core
    → AreBare core
begins_bare below first core e adds =
    all_bare first core adds (subst (λ (sc : Bindings OwnVariable). AreBare sc) (sym e) tt)

-- ---- what declarations define

pub defines_structures : (g : Graph) (made new : Rows EnvId) (old : TopScope) (core : Bindings OwnVariable)
    → new ≡ old.defined.structures ++ made → AreEnvs g made → GoesUnder g (structures_env g made) old.core core
    → Defines g (top_of_env (structures_env g made)) old
    (record old { core = core; defined = record old.defined { structures = new } })
defines_structures g made new old core e h u = record {
  seen = ap (λ (env : Env). let a : Top = record {
    env = env;
    signatures = (top_seen g old).signatures;
    functors = (top_seen g old).functors;
    funsigs = (top_seen g old).funsigs;
  } in a) (ap (λ (sc : Scope). sc.env) u.seen);
  defined = ap (λ (env : Env). let a : Top = record {
    env = env;
    signatures = (defined_top g old.defined).signatures;
    functors = (defined_top g old.defined).functors;
    funsigs = (defined_top g old.defined).funsigs;
  } in a) (structures_more g old.defined.structures made new e);
  bare = u.bare;
  there = λ t. record {
    core = u.there t.core;
    written = u.written ∙ t.written;
    given = t.given;
    defined = record {
      structures = subst (AreEnvs g) (sym e) (envs_append g old.defined.structures made t.defined.structures h);
      signatures = t.defined.signatures;
      functors = t.defined.functors;
      funsigs = t.defined.funsigs;
    };
  };
}

nothing_behind : (env : Env) → modified_by env (env_of [] [] []) ≡ env
nothing_behind (Env.MakeEnv ss ts vs) = ap (λ z. Env.MakeEnv z ts vs) (keeps_structures.parts ss)

pub defines_signatures : (g : Graph) (made new : Rows SigId) (old : TopScope)
    → new ≡ old.defined.signatures ++ made → AreSignatures g made
    → Defines g (top_of_signatures (signatures_over g made [])) old
    (record old { defined = record old.defined { signatures = new } })
defines_signatures g made new old e h = record {
  seen = top_same _ _ _ _ _ _ _ _ (sym (nothing_behind (top_seen g old).env))
      (all_more (signature_at g) old.defined.signatures made new (top_at g old.given).signatures e) refl refl;
  defined = top_same _ _ _ _ _ _ _ _ (sym (nothing_behind (defined_top g old.defined).env))
      (all_more (signature_at g) old.defined.signatures made new [] e) refl refl;
  bare = adds_nothing old.core old.core refl;
  there = λ t. record {
    core = t.core;
    written = t.written;
    given = t.given;
    defined = record {
      structures = t.defined.structures;
      signatures = rows_more (HasSignature g) old.defined.signatures made new e h t.defined.signatures;
      functors = t.defined.functors;
      funsigs = t.defined.funsigs;
    };
  };
}

pub defines_functors : (g : Graph) (made new : Rows FunId) (old : TopScope)
    → new ≡ old.defined.functors ++ made → AreFunctors g made
    → Defines g (top_of_functors (functors_over g made [])) old
    (record old { defined = record old.defined { functors = new } })
defines_functors g made new old e h = record {
  seen = top_same _ _ _ _ _ _ _ _ (sym (nothing_behind (top_seen g old).env)) refl
      (all_more (functor_at g) old.defined.functors made new (top_at g old.given).functors e) refl;
  defined = top_same _ _ _ _ _ _ _ _ (sym (nothing_behind (defined_top g old.defined).env)) refl
      (all_more (functor_at g) old.defined.functors made new [] e) refl;
  bare = adds_nothing old.core old.core refl;
  there = λ t. record {
    core = t.core;
    written = t.written;
    given = t.given;
    defined = record {
      structures = t.defined.structures;
      signatures = t.defined.signatures;
      functors = rows_more (HasFunctor g) old.defined.functors made new e h t.defined.functors;
      funsigs = t.defined.funsigs;
    };
  };
}

pub defines_funsigs : (g : Graph) (made new : Rows FunId) (old : TopScope)
    → new ≡ old.defined.funsigs ++ made → AreFunctors g made
    → Defines g (top_of_funsigs (functors_over g made [])) old
    (record old { defined = record old.defined { funsigs = new } })
defines_funsigs g made new old e h = record {
  seen = top_same _ _ _ _ _ _ _ _ (sym (nothing_behind (top_seen g old).env)) refl refl
      (all_more (functor_at g) old.defined.funsigs made new (top_at g old.given).funsigs e);
  defined = top_same _ _ _ _ _ _ _ _ (sym (nothing_behind (defined_top g old.defined).env)) refl refl
      (all_more (functor_at g) old.defined.funsigs made new [] e);
  bare = adds_nothing old.core old.core refl;
  there = λ t. record {
    core = t.core;
    written = t.written;
    given = t.given;
    defined = record {
      structures = t.defined.structures;
      signatures = t.defined.signatures;
      functors = t.defined.functors;
      funsigs = rows_more (HasFunctor g) old.defined.funsigs made new e h t.defined.funsigs;
    };
  };
}

-- ---- graphs that grow

module _ (old new : Graph) (keeps : Keeps old new) where
  envs_there : (rows : Rows EnvId) → AreEnvs old rows → AreEnvs new rows
  envs_there [] h = tt
  envs_there (row ∷ rows) h = (keeps.has_env row.1 h.0, envs_there rows h.1)

  envs_same : (rows : Rows EnvId) → AreEnvs old rows → map_rows (env_at new) rows ≡ map_rows (env_at old) rows
  envs_same [] h = refl
  envs_same (row ∷ rows) h =
      ap (λ x. (row.0, x) ∷ map_rows (env_at new) rows) (keeps.env row.1 h.0)
      ∙ ap (λ (z : Rows Env). (row.0, env_at old row.1) ∷ z) (envs_same rows h.1)

  sigs_same : (rows : Rows SigId) (t u : Named Signature) → AreSignatures old rows → t ≡ u
      → signatures_over new rows t ≡ signatures_over old rows u
  sigs_same rows t u h e = ap₂ (λ (a b : Named Signature). with_all a b)
      (rows_read (HasSignature old) (signature_at new) (signature_at old) keeps.signature rows h) e

  funs_same : (rows : Rows FunId) (t u : Named Functor) → AreFunctors old rows → t ≡ u
      → functors_over new rows t ≡ functors_over old rows u
  funs_same rows t u h e = ap₂ (λ (a b : Named Functor). with_all a b)
      (rows_read (HasFunctor old) (functor_at new) (functor_at old) keeps.functor rows h) e

  defined_there : (defined : Defined) → IsDefinedIn old defined → IsDefinedIn new defined
  defined_there defined h = record {
    structures = envs_there defined.structures h.structures;
    signatures = rows_hold (HasSignature old) (HasSignature new) keeps.has_signature defined.signatures h.signatures;
    functors = rows_hold (HasFunctor old) (HasFunctor new) keeps.has_functor defined.functors h.functors;
    funsigs = rows_hold (HasFunctor old) (HasFunctor new) keeps.has_functor defined.funsigs h.funsigs;
  }

  defined_same : (defined : Defined) → IsDefinedIn old defined → defined_top new defined ≡ defined_top old defined
  defined_same defined h = top_same _ _ _ _ _ _ _ _
      (structures_only (with_all (map_rows (env_at new) defined.structures) [])
      (with_all (map_rows (env_at old) defined.structures) [])
      (ap (λ (z : Rows Env). with_all z []) (envs_same defined.structures h.structures)))
      (sigs_same defined.signatures [] [] h.signatures refl)
      (funs_same defined.functors [] [] h.functors refl)
      (funs_same defined.funsigs [] [] h.funsigs refl)

  scope_there : (top : TopScope) → IsTopScope old top → IsTopScope new top
  scope_there top h = record {
    core = (stays_in_scope OwnVariable).there old new top.core keeps h.core;
    written = h.written;
    given = keeps.has_top top.given h.given;
    defined = defined_there top.defined h.defined;
  }

  scope_seen : (top : TopScope) → IsTopScope old top → top_seen new top ≡ top_seen old top
  scope_seen top h = top_same _ _ _ _ _ _ _ _
      ((stays_in_scope OwnVariable).seen old new own_entry top.core keeps h.core)
      (sigs_same top.defined.signatures (top_at new top.given).signatures (top_at old top.given).signatures
      h.defined.signatures (ap (λ (t : Top). t.signatures) (keeps.top top.given h.given)))
      (funs_same top.defined.functors (top_at new top.given).functors (top_at old top.given).functors
      h.defined.functors (ap (λ (t : Top). t.functors) (keeps.top top.given h.given)))
      (funs_same top.defined.funsigs (top_at new top.given).funsigs (top_at old top.given).funsigs
      h.defined.funsigs (ap (λ (t : Top). t.funsigs) (keeps.top top.given h.given)))

pub tops_stay : TopsStay
tops_stay = record {
  scope = λ old new top keeps h. scope_there old new keeps top h;
  seen = λ old new top keeps h. scope_seen old new keeps top h;
  of = λ old new defined keeps h. defined_there old new keeps defined h;
  defined = λ old new defined keeps h. defined_same old new keeps defined h;
}
