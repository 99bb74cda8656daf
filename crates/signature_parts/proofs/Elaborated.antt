-- Parts of signatures that were elaborated, in graphs that grow.
use Rattle.std.proofs.Common.{◌≡◌, ℕ, refl, sym, ap, ap₂, ◌∙◌, subst, List, [], ◌∷◌, length}
use Rattle.std.specs.Prelude.{Result, Ok, Err, IsErrAnd}
use Rattle.cm_base.specs.declared.fault.Fault.{Fault}
use Rattle.cm_base.specs.declared.fault.Fault.TheVariants as fault
use Rattle.semantic_objects.specs.declared.name.TyName.{TyName}
use Rattle.semantic_objects.specs.declared.entry.ValueEntry.{ValueEntry}
use Rattle.semantic_objects.specs.Tables.{Table as Named, with_all}
use Rattle.semantic_objects.specs.Environments.{Env, Signature, env_of, modified_by}
use Rattle.sml_modules.specs.declared.id.EnvId.{EnvId}
use Rattle.sml_modules.specs.declared.parts.SigParts.{SigParts}
use Rattle.sml_modules.specs.Items.{map_rows}
use Rattle.sml_modules.specs.Graphs.{Graph, env_at, Keeps}
use Rattle.sml_modules.proofs.Keeping.{keeps, extends_self}
use Rattle.name_trails.specs.Trails.{Rows}
use Rattle.type_nodes.specs.Tables.{Table, state, type_of}
use Rattle.static_semantics.specs.Inferring.{Progress, Scope, Answer, gives}
use Rattle.core_scopes.specs.Scopes.{Bindings, written_of, AreEnvs, IsScopeOf}
use Rattle.core_scopes.proofs.Scoping.{scope_there, scope_seen}
use Rattle.type_phrases.specs.Inferred.{Answers, KeepsTypes, progress, scope_in}
use Rattle.type_phrases.proofs.PartsRead.{passed_on}
use Rattle.signature_specs.specs.declared.specified.Specified.{Specified}
use Rattle.signature_specs.specs.Specs.{env_so_far, signature_so_far, IsFrontOf}
use Rattle.where_types.specs.Where.{GrowsByNodes}
use Rattle.signature_parts.specs.Growing.{Grows, IsUnder, IsBound, IsOpenSig, IsSpecified, IsListed}
use Rattle.signature_parts.specs.Steps.{mark_of}
use Rattle.signature_parts.proofs.Finishing.{keeps_then}

-- ---- graphs that grow

pub grows_self : (g : Graph) → Grows g g
grows_self g = record { keeps = keeps g g (extends_self g); home = refl }

pub grows_then : {a b c : Graph} → Grows a b → Grows b c → Grows a c
grows_then {a} {b} {c} h k = record { keeps = keeps_then a b c h.keeps k.keeps; home = k.home ∙ h.home }

pub grows_nodes : {g h : Graph} → GrowsByNodes g h → Grows g h
grows_nodes k = record { keeps = k.keeps; home = k.home }

-- only names were made
pub grows_items : (g h : Graph) → h.items ≡ g.items → h.home ≡ g.home → Grows g h
grows_items g h e home = record {
  keeps = subst (λ items. Keeps g (record { items = items; home = h.home; made = h.made })) (sym e) (record {
    has_env = λ id i. i;
    env = λ id i. refl;
    has_signature = λ id i. i;
    signature = λ id i. refl;
    has_functor = λ id i. i;
    functor = λ id i. refl;
    has_top = λ id i. i;
    top = λ id i. refl;
  });
  home = home;
}

pub envs_kept : (g h : Graph) (rows : Rows EnvId) → Keeps g h → AreEnvs g rows → AreEnvs h rows
envs_kept g h [] k there = tt
envs_kept g h (row ∷ rows) k there = (k.has_env row.1 there.0, envs_kept g h rows k there.1)

rows_kept : (g h : Graph) (rows : Rows EnvId) → Keeps g h → AreEnvs g rows
    → map_rows (env_at h) rows ≡ map_rows (env_at g) rows
rows_kept g h [] k there = refl
rows_kept g h (row ∷ rows) k there =
    ap₂ (λ (x : Env) (z : Named Env). (row.0, x) ∷ z) (k.env row.1 there.0) (rows_kept g h rows k there.1)

pub env_kept : {g h : Graph} (made : Specified) → Grows g h → AreEnvs g made.structures
    → env_so_far h made ≡ env_so_far g made
env_kept {g} {h} made k there =
    ap (λ (rows : Named Env). env_of (with_all rows []) (with_all made.types []) (with_all made.values []))
    (rows_kept g h made.structures k.keeps there)

abbrev sig_of : List TyName → Env → Signature
sig_of bound env = record { bound = bound; env = env }

pub so_far_kept : {g h : Graph} (made : Specified) → Grows g h → AreEnvs g made.structures
    → signature_so_far h made ≡ signature_so_far g made
so_far_kept made k there = ap (λ (env : Env). sig_of made.bound env) (env_kept made k there)

abbrev scope_with : {V : Type 0} → Table → Bindings V → Env → List ℕ → Scope
scope_with w sc env home = record { env = env; written = map_rows (type_of w) (written_of sc); home = home }

-- what is in scope stays what it was
pub scope_kept : {V : Type 0} {g h : Graph} (sc : Bindings V) (w : Table) (read : V → ValueEntry) → Grows g h
    → IsScopeOf g sc → scope_in h w read sc ≡ scope_in g w read sc
scope_kept {V} {g} {h} sc w read k there =
    ap₂ (λ (env : Env) (home : List ℕ). scope_with w sc env home) (scope_seen g h k.keeps read sc there) k.home

pub names_same : (g h : Graph) (u : Table) → h.made ≡ g.made → progress u h ≡ progress u g
names_same g h u e =
    ap (λ (names : List TyName). (let st : Progress = record { types = state u; names = length names } in st)) e

-- ---- answers in which nothing goes on

module _ {V : Type 0} {g h : Graph} {t u : Table} {past made : Specified} {old new : Bindings V}
    {want : Scope → Signature → Progress → Answer (Signature × Progress)} where
  pub spec_passed : (r : Result (Unit {0}) Fault) (e : Fault) → IsErrAnd r (λ f. f ≡ e)
      → IsSpecified g h t u past made old new want (Err e) → IsSpecified g h t u past made old new want r
  spec_passed r e is k = passed_on (λ z. IsSpecified g h t u past made old new want z) r e is k

  pub spec_fails : (e : Fault)
      → ((w : Table) (read : V → ValueEntry)
      → Answers (want (scope_in g w read old) (signature_so_far g past) (progress t g))
      (λ (done : Unit {0}). (signature_so_far h made, progress u h)) (Err e))
      → KeepsTypes t u → Grows g h → IsSpecified g h t u past made old new want (Err e)
  spec_fails e infers k grows = record { infers = infers; keeps = k; graph = grows; bound = tt }

  pub spec_memory : KeepsTypes t u → Grows g h → IsSpecified g h t u past made old new want (Err fault.NoMemory)
  spec_memory k grows = record { infers = λ w read. tt; keeps = k; graph = grows; bound = tt }

  pub list_passed : (r : Result (Unit {0}) Fault) (e : Fault) → IsErrAnd r (λ f. f ≡ e)
      → IsListed g h t u past made old new want (Err e) → IsListed g h t u past made old new want r
  list_passed r e is k = passed_on (λ z. IsListed g h t u past made old new want z) r e is k

module _ {V : Type 0} {g h : Graph} {t u : Table} {old new : Bindings V}
    {want : Scope → Progress → Answer (Signature × Progress)} where
  pub sig_passed : (r : Result SigParts Fault) (e : Fault) → IsErrAnd r (λ f. f ≡ e)
      → IsOpenSig g h t u old new want (Err e) → IsOpenSig g h t u old new want r
  sig_passed r e is k = passed_on (λ z. IsOpenSig g h t u old new want z) r e is k

  pub sig_memory : KeepsTypes t u → Grows g h → IsOpenSig g h t u old new want (Err fault.NoMemory)
  sig_memory k grows = record { infers = λ w read. tt; there = tt; keeps = k; graph = grows; scope = tt }

-- ---- what was specified is in scope

-- what `bind_since` promises of a scope
abbrev pub Binds : {V : Type 0} → Specified → Specified → Bindings V → Bindings V → Type 0
Binds past made mid new = (g : Graph) (first : Specified) → mark_of past ≡ mark_of first → IsFrontOf first made
    → AreEnvs g made.structures → IsScopeOf g mid → IsBound g g first made mid new

under_later : {V : Type 0} {g h : Graph} (past : Specified) (old : Bindings V) → Grows g h
    → AreEnvs g past.structures → IsScopeOf g old → (read : V → ValueEntry) (env : Env) → IsUnder g read past old env
    → IsUnder h read past old env
under_later {V} {g} {h} past old grows envs there read env k =
    ap (modified_by env) (env_kept past grows envs) ∙ k ∙ sym (scope_seen g h grows.keeps read old there)

module _ {V : Type 0} {g h : Graph} {past made : Specified} {old new : Bindings V} (grows : Grows g h)
    (envs : AreEnvs g past.structures) (there : IsScopeOf g old) where
  bound_later : IsBound h h past made old new → IsBound g h past made old new
  bound_later k = record {
    front = k.front;
    envs = k.envs;
    under = λ read env i. k.under read env (under_later past old grows envs there read env i);
    written = k.written;
    there = k.there;
    behind = k.behind;
    whole = k.whole;
  }

  -- a scope that was left as it was, and then more was bound in it
  pub is_bound : (mid : Bindings V) → mid ≡ old → IsFrontOf past made → AreEnvs h made.structures
      → Binds past made mid new → IsBound g h past made old new
  is_bound mid e front after binds =
      let k : Binds past made old new = subst (λ (z : Bindings V). Binds past made z new) e binds in
      bound_later (k h past refl front after (scope_there g h grows.keeps old there))

-- where what was specified has no structure more
pub same_envs : (g h : Graph) (past made : Specified) → Grows g h → made.structures ≡ past.structures
    → AreEnvs g past.structures → AreEnvs h made.structures
same_envs g h past made k e envs =
    subst (AreEnvs h) (sym e) (envs_kept g h past.structures k.keeps envs)

module _ {V : Type 0} {g h : Graph} {t u : Table} {past made : Specified} {old mid new : Bindings V}
    {want : Scope → Signature → Progress → Answer (Signature × Progress)} where
  -- a specification without signatures
  pub spec_bound : ((w : Table) (read : V → ValueEntry)
      → want (scope_in g w read old) (signature_so_far g past) (progress t g)
      ≡ gives (signature_so_far h made, progress u h))
      → KeepsTypes t u → Grows g h → mid ≡ old → IsFrontOf past made → made.structures ≡ past.structures
      → AreEnvs g past.structures → IsScopeOf g old → Binds past made mid new
      → IsSpecified g h t u past made old new want (Ok tt)
  spec_bound infers k grows e front same envs there binds = record {
    infers = infers;
    keeps = k;
    graph = grows;
    bound = is_bound grows envs there mid e front (same_envs g h past made grows same envs) binds;
  }

  -- structures
  pub listed_bound : AreEnvs g past.structures → IsScopeOf g old → IsListed g h t u past made old mid want (Ok tt)
      → Binds past made mid new → IsSpecified g h t u past made old new want (Ok tt)
  listed_bound envs there k binds = record {
    infers = k.infers;
    keeps = k.keeps;
    graph = k.graph;
    bound = is_bound k.graph envs there mid k.scope k.front k.envs binds;
  }

  pub listed_fails : (e : Fault) → IsListed g h t u past made old mid want (Err e)
      → IsSpecified g h t u past made old new want (Err e)
  listed_fails e k = record { infers = k.infers; keeps = k.keeps; graph = k.graph; bound = tt }
