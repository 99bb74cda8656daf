-- Declarations one after another: what they make together.
use Rattle.std.proofs.Common.{◌≡◌, List, [], ◌∷◌, ◌++◌, map, refl, sym, ap, ap₂, ◌∙◌, subst, append_assoc}
use Rattle.std.proofs.lemmas.List.{append-nil}
use Rattle.std.specs.Prelude.{Result, Ok, Err, Some, None}
use Rattle.cm_base.specs.declared.fault.Fault.{Fault}
use Rattle.cm_base.specs.declared.fault.Fault.TheVariants as fault
use Rattle.semantic_objects.specs.declared.entry.TypeStr.{TypeStr}
use Rattle.semantic_objects.specs.declared.entry.ValueEntry.{ValueEntry}
use Rattle.semantic_objects.specs.Tables.{Table as Named, with_all}
use Rattle.semantic_objects.specs.Environments.{Env, Structures, env_of, table_of, structures_of, structures, types, values, empty_env, modified_by}
use Rattle.unification.specs.Unification.{depth}
use Rattle.type_nodes.specs.Keeping.{IsKept}
use Rattle.type_nodes.specs.Tables.{Table}
use Rattle.sml_modules.specs.declared.parts.NamedEnv.{NamedEnv}
use Rattle.sml_modules.specs.declared.parts.NamedType.{NamedType}
use Rattle.sml_modules.specs.Graphs.{Graph, Keeps, env_at, HasEnvs, structure_rows, type_rows}
use Rattle.sml_modules.proofs.Keeping.{keeps, extends_self}
use Rattle.bare_phrases.specs.Phrases.{DecPhrase, DecPhrases}
use Rattle.static_semantics.specs.Inferring.{Progress, Scope, Answer, ◌>>=◌, gives, under}
use Rattle.static_semantics.specs.CoreInference.{infer_dec, infer_decs}
use Rattle.type_nodes.specs.Tables.{Table}
use Rattle.core_scopes.specs.declared.made.Made.{Made}
use Rattle.core_scopes.specs.declared.made.NamedInScope.{NamedInScope}
use Rattle.core_scopes.specs.Scopes.{Bindings, entry_of}
use Rattle.core_scopes.specs.Marks.{IsFrontOf, value_rows, env_of_made}
use Rattle.core_scopes.proofs.Tables.{all_append, all_at_once}
use Rattle.core_scopes.proofs.Scoping.{fronts_go_on}
use Rattle.type_phrases.specs.Inferred.{Answers, KeepsTypes}
use Rattle.type_phrases.proofs.Steps.{still_refused}
use Rattle.pattern_elab.specs.declared.own.OwnVariable.{OwnVariable}
use Rattle.pattern_elab.specs.Scopes.{own_entry}
use Rattle.pattern_elab.proofs.Scoping.{core_later}
use Rattle.closing_laws.specs.Promises.{IsOfState}
use Rattle.value_closing.specs.Under.{IsUnder}
use Rattle.core_rules.specs.Moments.{Moment, moment, scope_at, progress_at, IsCoreAt, Passes}
use Rattle.core_rules.specs.Ready.{IsReadyAt, IsReadyBehind, made_at}
use Rattle.core_rules.specs.Values.{read_made}
use Rattle.core_rules.specs.Declarations.{IsDeclared}
use Rattle.core_rules.specs.Joined.{IsNothing, joined, made_where, AreDeclared, AreEntered}
use Rattle.core_rules.proofs.Chains.{graph_then, passes_table, passes_then, scope_kept, core_kept, answers_stop}
use Rattle.core_rules.proofs.Readying.{behind}
use Rattle.type_phrases.proofs.Keeping.{keeps_all}

-- ---- lists that follow one another

abbrev made_of : List NamedEnv → List NamedType → List (NamedInScope OwnVariable) → Made OwnVariable
made_of ss ts vs = record { structures = ss; types = ts; values = vs }

one_made : (ss rs : List NamedEnv) (ts us : List NamedType) (vs ws : List (NamedInScope OwnVariable)) → ss ≡ rs
    → ts ≡ us → vs ≡ ws → made_of ss ts vs ≡ made_of rs us ws
one_made ss rs ts us vs ws e f g =
    ap₂ (λ (x : List NamedEnv) (y : List NamedType). made_of x y vs) e f
    ∙ ap (λ (z : List (NamedInScope OwnVariable)). made_of rs us z) g

joined_more : (all made m : Made OwnVariable) → joined all (joined made m) ≡ joined (joined all made) m
joined_more all made m = one_made _ _ _ _ _ _
    (sym (append_assoc all.structures made.structures m.structures))
    (sym (append_assoc all.types made.types m.types))
    (sym (append_assoc all.values made.values m.values))

joined_none : (all : Made OwnVariable) → joined all (made_of [] [] []) ≡ all
joined_none all = one_made _ _ _ _ _ _ (append-nil all.structures) (append-nil all.types) (append-nil all.values)

pub joined_first : (all m : Made OwnVariable) → IsNothing all → m ≡ joined all m
joined_first all m n = one_made _ _ _ _ _ _
    (ap (λ (z : List NamedEnv). z ++ m.structures) (sym n.structures))
    (ap (λ (z : List NamedType). z ++ m.types) (sym n.types))
    (ap (λ (z : List (NamedInScope OwnVariable)). z ++ m.values) (sym n.values))

-- ---- as environments

tables_back : (rows : Named Env) → table_of (structures_of rows) ≡ rows
tables_back [] = refl
tables_back (row ∷ rows) = ap (λ (z : Named Env). row ∷ z) (tables_back rows)

map_both : {A B : Type 0} (f : A → B) (front back : List A) → map f (front ++ back) ≡ map f front ++ map f back
map_both f [] back = refl
map_both {A} {B} f (x ∷ front) back = ap (λ (z : List B). f x ∷ z) (map_both f front back)

at_once : {A : Type 0} (rows t : Named A) → with_all rows t ≡ with_all (with_all rows []) t
at_once rows t = sym (all_at_once rows [] t refl)

both_rows : {A : Type 0} (front back whole : Named A) → whole ≡ front ++ back
    → with_all whole [] ≡ with_all (with_all back []) (with_all front [])
both_rows {A} front back whole e =
    ap (λ (z : Named A). with_all z []) e ∙ all_append front back [] ∙ at_once back (with_all front [])

one_env : (ss rs : Named Env) (ts us : Named TypeStr) (vs ws : Named ValueEntry) → ss ≡ rs → ts ≡ us → vs ≡ ws
    → env_of ss ts vs ≡ env_of rs us ws
one_env ss rs ts us vs ws h k l = cc

made_joined : (g : Graph) (a b : Made OwnVariable)
    → env_of_made g own_entry (joined a b) ≡ modified_by (env_of_made g own_entry a) (env_of_made g own_entry b)
made_joined g a b = one_env _ _ _ _ _ _
    (both_rows (structure_rows g a.structures) (structure_rows g b.structures)
    (structure_rows g (a.structures ++ b.structures))
    (map_both (λ (e : NamedEnv). (e.name, env_at g e.env)) a.structures b.structures)
    ∙ ap₂ (λ (x y : Named Env). with_all x y) (sym (tables_back (with_all (structure_rows g b.structures) [])))
    (sym (tables_back (with_all (structure_rows g a.structures) []))))
    (both_rows (type_rows a.types) (type_rows b.types) (type_rows (a.types ++ b.types))
    (map_both (λ (e : NamedType). (e.name, e.entry)) a.types b.types))
    (both_rows (value_rows own_entry a.values) (value_rows own_entry b.values)
    (value_rows own_entry (a.values ++ b.values))
    (map_both (λ (e : NamedInScope OwnVariable). (e.name, entry_of own_entry e.entry)) a.values b.values))

-- ---- more and more behind an environment

structures_back : (ss : Structures) → structures_of (table_of ss) ≡ ss
structures_back Structures.Nil = refl
structures_back (Structures.Cons name env rest) =
    ap (λ (z : Structures). Structures.Cons name env z) (structures_back rest)

nothing_behind : (env : Env) → modified_by env empty_env ≡ env
nothing_behind (Env.MakeEnv ss ts vs) = ap (λ (z : Structures). Env.MakeEnv z ts vs) (structures_back ss)

rows_behind : {A : Type 0} (front back whole t : Named A) → whole ≡ front ++ back
    → with_all (with_all back []) (with_all (with_all front []) t) ≡ with_all (with_all whole []) t
rows_behind {A} front back whole t e =
    sym (at_once back (with_all (with_all front []) t))
    ∙ ap (λ (z : Named A). with_all back z) (sym (at_once front t))
    ∙ sym (all_append front back t)
    ∙ ap (λ (z : Named A). with_all z t) (sym e)
    ∙ at_once whole t

env_joined : (g : Graph) (a b : Made OwnVariable) (env : Env)
    → modified_by (modified_by env (env_of_made g own_entry a)) (env_of_made g own_entry b)
    ≡ modified_by env (env_of_made g own_entry (joined a b))
env_joined g a b env =
    let sa : Named Env = structure_rows g a.structures in
    let sb : Named Env = structure_rows g b.structures in
    let sj : Named Env = structure_rows g (a.structures ++ b.structures) in
    one_env _ _ _ _ _ _
    (ap₂ (λ (x y : Named Env). with_all x y) (tables_back (with_all sb []))
    (tables_back (with_all (structures (env_of_made g own_entry a)) (structures env))
    ∙ ap (λ (x : Named Env). with_all x (structures env)) (tables_back (with_all sa [])))
    ∙ rows_behind sa sb sj (structures env)
    (map_both (λ (e : NamedEnv). (e.name, env_at g e.env)) a.structures b.structures)
    ∙ ap (λ (x : Named Env). with_all x (structures env)) (sym (tables_back (with_all sj []))))
    (rows_behind (type_rows a.types) (type_rows b.types) (type_rows (a.types ++ b.types)) (types env)
    (map_both (λ (e : NamedType). (e.name, e.entry)) a.types b.types))
    (rows_behind (value_rows own_entry a.values) (value_rows own_entry b.values)
    (value_rows own_entry (a.values ++ b.values)) (values env)
    (map_both (λ (e : NamedInScope OwnVariable). (e.name, entry_of own_entry e.entry)) a.values b.values))

abbrev scope_over : Scope → Env → Scope
scope_over sc env = record { env = env; written = sc.written; home = sc.home }

under_joined : (g : Graph) (a b : Made OwnVariable) (sc : Scope)
    → under (env_of_made g own_entry b) (under (env_of_made g own_entry a) sc)
    ≡ under (env_of_made g own_entry (joined a b)) sc
under_joined g a b sc = ap (scope_over sc) (env_joined g a b sc.env)

under_nothing : (g : Graph) (all : Made OwnVariable) (sc : Scope) → IsNothing all
    → sc ≡ under (env_of_made g own_entry all) sc
under_nothing g all sc n =
    let none : all ≡ made_of [] [] [] = one_made _ _ _ _ _ _ n.structures n.types n.values in
    sym (ap (λ (x : Made OwnVariable). under (env_of_made g own_entry x) sc) none
    ∙ ap (scope_over sc) (nothing_behind sc.env))

rows_kept : (g h : Graph) (entries : List NamedEnv) → Keeps g h → HasEnvs g entries
    → structure_rows h entries ≡ structure_rows g entries
rows_kept g h [] k there = refl
rows_kept g h (e ∷ entries) k there =
    ap₂ (λ (x : Env) (rows : Named Env). (e.name, x) ∷ rows) (k.env e.env there.0) (rows_kept g h entries k there.1)

pub made_kept : (g h : Graph) (made : Made OwnVariable) → Keeps g h → HasEnvs g made.structures
    → env_of_made h own_entry made ≡ env_of_made g own_entry made
made_kept g h made k there =
    ap (λ (rows : Named Env). env_of (with_all rows []) (with_all (type_rows made.types) [])
    (with_all (value_rows own_entry made.values) [])) (rows_kept g h made.structures k there)

pub envs_kept : (g h : Graph) (entries : List NamedEnv) → Keeps g h → HasEnvs g entries → HasEnvs h entries
envs_kept g h [] k there = tt
envs_kept g h (e ∷ entries) k there = (k.has_env e.env there.0, envs_kept g h entries k there.1)

envs_both : (g : Graph) (front back : List NamedEnv) → HasEnvs g front → HasEnvs g back → HasEnvs g (front ++ back)
envs_both g [] back h k = k
envs_both g (e ∷ front) back h k = (h.0, envs_both g front back h.1 k)

-- ---- one declaration after another

-- what is made is put under something
abbrev wrapped : (Env → Env) → Env × Progress → Answer (Env × Progress)
wrapped wrap q = gives (wrap q.0, q.1)

wrapped_none : (m : Answer (Env × Progress)) → m ≡ (m >>= wrapped (λ e. e))
wrapped_none None = refl
wrapped_none (Some (Err d)) = refl
wrapped_none (Some (Ok q)) = refl

wrapped_twice : (m : Answer (Env × Progress)) (first : Env) (wrap : Env → Env)
    → ((m >>= λ q. gives (modified_by first q.0, q.1)) >>= wrapped wrap)
    ≡ (m >>= wrapped (λ e. wrap (modified_by first e)))
wrapped_twice None first wrap = refl
wrapped_twice (Some (Err d)) first wrap = refl
wrapped_twice (Some (Ok q)) first wrap = refl

-- what was made so far, and what is left: `wrap` puts what the rest makes under it
pub record DecsSoFar (begun now : Moment) (phrases left : DecPhrases) (all : Made OwnVariable) : Type 0 where
  pub wrap : Env → Env
  pub left_is : infer_decs depth (scope_at begun) phrases (progress_at begun)
      ≡ (infer_decs depth (scope_at now) left (progress_at now) >>= wrapped wrap)
  pub joins : (h : Graph) → Keeps now.graph h → (m : Made OwnVariable)
      → wrap (env_of_made h own_entry m) ≡ env_of_made h own_entry (joined all m)
  pub envs : HasEnvs now.graph all.structures
  pub goes : Passes begun now
  pub front : IsFrontOf begun.scope now.scope
  pub core : IsCoreAt now
  pub state : IsOfState (scope_at now) (progress_at now)
  pub begins : IsCoreAt begun
  pub under_all : scope_at now ≡ under (made_at now all) (scope_at begun)

pub decs_begin : (m : Moment) (phrases : DecPhrases) (all : Made OwnVariable) → IsReadyAt m
    → IsFrontOf m.scope m.scope → IsNothing all → DecsSoFar m m phrases phrases all
decs_begin m phrases all r front n = record {
  wrap = λ e. e;
  left_is = wrapped_none (infer_decs depth (scope_at m) phrases (progress_at m));
  joins = λ h k made. ap (λ (x : Made OwnVariable). env_of_made h own_entry x) (joined_first all made n);
  envs = subst (λ (z : List NamedEnv). HasEnvs m.graph z) (sym n.structures) tt;
  goes = passes_table m m.table m.scope (keeps_all m.table);
  front = front;
  core = r.core;
  state = r.state;
  begins = r.core;
  under_all = under_nothing m.graph all (scope_at m) n;
}

-- before the next declaration
pub decs_ready : {begun now : Moment} {phrases left : DecPhrases} {all : Made OwnVariable}
    → DecsSoFar begun now phrases left all → IsKept now.table → IsReadyAt now
decs_ready s k = record { core = s.core; kept = k; state = s.state }

abbrev rest_of : Scope → DecPhrases → Env × Progress → Answer (Env × Progress)
rest_of sc rest r = infer_decs depth (under r.0 sc) rest r.1 >>= λ q. gives (modified_by r.0 q.0, q.1)

passes_scope : {old new : Moment} (after : Bindings OwnVariable) → Passes old new
    → Passes old (moment new.graph new.table after)
passes_scope after p = record { graph = p.graph; home = p.home; ids = p.ids }

front_at : {past now new : Bindings OwnVariable} → IsFrontOf past now → new ≡ now → IsFrontOf past new
front_at {past} {now} {new} f e = subst (λ (z : Bindings OwnVariable). IsFrontOf past z) (sym e) f

front_on : {past now mid new : Bindings OwnVariable} → IsFrontOf past now → mid ≡ now → IsFrontOf mid new
    → IsFrontOf past new
front_on {past} {now} {mid} {new} f e g =
    fronts_go_on OwnVariable past now new f (subst (λ (z : Bindings OwnVariable). IsFrontOf z new) e g)

module _ {begun now : Moment} {phrases left rest : DecPhrases} {phrase : DecPhrase} {all : Made OwnVariable}
    (s : DecsSoFar begun now phrases left all) (is : left ≡ DecPhrases.Dec phrase rest) where
  decs_at : infer_decs depth (scope_at begun) phrases (progress_at begun)
      ≡ ((infer_dec depth (scope_at now) phrase (progress_at now) >>= rest_of (scope_at now) rest)
      >>= wrapped s.wrap)
  decs_at = s.left_is
      ∙ ap (λ (z : DecPhrases). infer_decs depth (scope_at now) z (progress_at now) >>= wrapped s.wrap) is

  pub decs_next : {mid : Moment} {made new : Made OwnVariable} {s2 : Bindings OwnVariable} → IsKept now.table → IsKept mid.table
      → IsDeclared now phrase mid (Ok made) → IsUnder mid.graph mid.table (made_at mid made) mid.scope s2
      → new ≡ joined all made → DecsSoFar begun (moment mid.graph mid.table s2) phrases rest new
  decs_next {mid} {made} {new} {s2} k1 k2 h u e =
      let next : Moment = moment mid.graph mid.table s2 in
      let b : IsReadyBehind mid made = behind {m0 = now} {m1 = mid} phrase made (decs_ready s k1) k2 h in
      let here : scope_at next ≡ under (made_at mid made) (scope_at now) =
      u.seen ∙ ap (under (made_at mid made)) (scope_kept {old = now} {new = mid} s.core h.elabs.goes h.elabs.left) in
      record {
        wrap = λ env. s.wrap (modified_by (made_at mid made) env);
        left_is = decs_at
            ∙ ap (λ (m : Answer (Env × Progress)). (m >>= rest_of (scope_at now) rest) >>= wrapped s.wrap) h.elabs.infers
            ∙ wrapped_twice (infer_decs depth (under (made_at mid made) (scope_at now)) rest (progress_at mid))
            (made_at mid made) s.wrap
            ∙ ap (λ (sc : Scope). infer_decs depth sc rest (progress_at mid)
            >>= wrapped (λ env. s.wrap (modified_by (made_at mid made) env))) (sym here);
        joins = λ g k m.
            ap (λ (x : Env). s.wrap (modified_by x (env_of_made g own_entry m)))
            (sym (made_kept mid.graph g made k b.envs))
            ∙ ap s.wrap (sym (made_joined g made m))
            ∙ s.joins g (graph_then now.graph mid.graph g h.elabs.goes.graph k) (joined made m)
            ∙ ap (λ (x : Made OwnVariable). env_of_made g own_entry x) (joined_more all made m)
            ∙ ap (λ (x : Made OwnVariable). env_of_made g own_entry (joined x m)) (sym e);
        envs = subst (λ (x : Made OwnVariable). HasEnvs mid.graph x.structures) (sym e)
            (envs_both mid.graph all.structures made.structures
            (envs_kept now.graph mid.graph all.structures h.elabs.goes.graph s.envs) b.envs);
        goes = passes_then {a = begun} {b = now} {c = next} s.goes (passes_scope {old = now} {new = mid} s2 h.elabs.goes);
        front = front_on s.front h.elabs.left u.front;
        core = u.there mid.table (keeps_all mid.table) h.elabs.core;
        state = subst (λ sc. IsOfState sc (progress_at mid)) (sym u.seen) b.state;
        begins = s.begins;
        under_all = here
            ∙ ap (under (made_at mid made)) (s.under_all
            ∙ ap (λ (x : Env). under x (scope_at begun))
            (sym (made_kept now.graph mid.graph all h.elabs.goes.graph s.envs)))
            ∙ under_joined mid.graph all made (scope_at begun)
            ∙ ap (λ (x : Made OwnVariable). under (env_of_made mid.graph own_entry x) (scope_at begun)) (sym e);
      }

  pub decs_fail : {mid : Moment} {new : Made OwnVariable} {e : Fault} → IsDeclared now phrase mid (Err e)
      → AreEntered begun phrases new mid (Err e)
  decs_fail {mid} {new} {e} h = record {
    infers = subst (λ (w : Answer (Env × Progress)). Answers w (λ (u : Unit {0}). (made_at mid new, progress_at mid)) (Err e))
        (sym decs_at)
        (answers_stop (infer_dec depth (scope_at now) phrase (progress_at now) >>= rest_of (scope_at now) rest)
        (wrapped s.wrap) (read_made mid) (λ (u : Unit {0}). (made_at mid new, progress_at mid)) e
        (answers_stop (infer_dec depth (scope_at now) phrase (progress_at now)) (rest_of (scope_at now) rest)
        (read_made mid) (read_made mid) e h.elabs.infers));
    envs = tt;
    goes = passes_then s.goes h.elabs.goes;
    front = front_at s.front h.elabs.left;
    under = tt;
  }

  pub decs_memory : {mid : Moment} {made new : Made OwnVariable} {t2 : Table} {s2 : Bindings OwnVariable}
      → KeepsTypes mid.table t2 → IsDeclared now phrase mid (Ok made) → s2 ≡ mid.scope
      → AreEntered begun phrases new (moment mid.graph t2 s2) (Err fault.NoMemory)
  decs_memory {mid} {made} {new} {t2} {s2} k h e = record {
    infers = tt;
    envs = tt;
    goes = passes_then {a = begun} {b = now} {c = moment mid.graph t2 s2} s.goes
        (passes_then {a = now} {b = mid} {c = moment mid.graph t2 s2} h.elabs.goes (passes_table mid t2 s2 k));
    front = front_at s.front (e ∙ h.elabs.left);
    under = tt;
  }

pub decs_end : {begun now : Moment} {phrases left : DecPhrases} {all : Made OwnVariable}
    → DecsSoFar begun now phrases left all → left ≡ DecPhrases.EndOfDecs → AreEntered begun phrases all now (Ok tt)
decs_end {begun} {now} {phrases} {left} {all} s is = record {
  infers = s.left_is
      ∙ ap (λ (z : DecPhrases). infer_decs depth (scope_at now) z (progress_at now) >>= wrapped s.wrap) is
      ∙ ap (λ (x : Env). gives (x, progress_at now))
      (s.joins now.graph (keeps now.graph now.graph (extends_self now.graph)) (made_of [] [] [])
      ∙ ap (λ (x : Made OwnVariable). env_of_made now.graph own_entry x) (joined_none all));
  envs = s.envs;
  goes = s.goes;
  front = s.front;
  under = record {
    seen = s.under_all ∙ ap (under (made_at now all))
        (sym (scope_kept {old = begun} {new = moment now.graph now.table begun.scope} s.begins
        (passes_scope {old = begun} {new = now} begun.scope s.goes) refl));
    front = s.front;
    there = λ t k h. core_later now.graph now.table t now.scope k s.core;
  };
}

-- ---- all of them, when the scope is left

left_core : {m0 : Moment} {g : Graph} {t : Table} {s2 : Bindings OwnVariable} (s3 : Bindings OwnVariable)
    → IsCoreAt m0 → Passes m0 (moment g t s2) → s3 ≡ m0.scope → IsCoreAt (moment g t s3)
left_core {m0} {g} {t} {s2} s3 core p e =
    core_kept {old = m0} {new = moment g t s3} core (record { graph = p.graph; home = p.home; ids = p.ids }) e

decs_done : {m0 : Moment} {g : Graph} {t : Table} {s2 s3 : Bindings OwnVariable} {phrases : DecPhrases}
    {all : Made OwnVariable} → IsCoreAt m0 → AreEntered m0 phrases all (moment g t s2) (Ok tt) → s3 ≡ m0.scope
    → AreDeclared m0 phrases (moment g t s3) (Ok all)
decs_done {m0} {g} {t} {s2} {s3} core h e = record {
  elabs = record {
    infers = h.infers;
    has = tt;
    goes = record { graph = h.goes.graph; home = h.goes.home; ids = h.goes.ids };
    left = e;
    core = left_core {m0 = m0} {g = g} {t = t} {s2 = s2} s3 core h.goes e;
  };
  envs = h.envs;
}

decs_stop : {m0 : Moment} {g : Graph} {t : Table} {s2 s3 : Bindings OwnVariable} {phrases : DecPhrases}
    {all : Made OwnVariable} {f : Fault} → IsCoreAt m0 → AreEntered m0 phrases all (moment g t s2) (Err f)
    → s3 ≡ m0.scope → AreDeclared m0 phrases (moment g t s3) (Err f)
decs_stop {m0} {g} {t} {s2} {s3} {phrases} {all} {f} core h e = record {
  elabs = record {
    infers = still_refused (infer_decs depth (scope_at m0) phrases (progress_at m0))
        (λ (u : Unit {0}). (made_at (moment g t s2) all, progress_at (moment g t s2))) (read_made (moment g t s3)) f
        h.infers;
    has = tt;
    goes = record { graph = h.goes.graph; home = h.goes.home; ids = h.goes.ids };
    left = e;
    core = left_core {m0 = m0} {g = g} {t = t} {s2 = s2} s3 core h.goes e;
  };
  envs = tt;
}

-- what a call made of the outcome
pub decs_all : {m0 : Moment} {g : Graph} {t : Table} {s2 s3 : Bindings OwnVariable} {phrases : DecPhrases}
    {all : Made OwnVariable} (outcome : Result (Unit {0}) Fault) (r : Result (Made OwnVariable) Fault) → IsCoreAt m0
    → AreEntered m0 phrases all (moment g t s2) outcome → s3 ≡ m0.scope → r ≡ made_where all outcome
    → AreDeclared m0 phrases (moment g t s3) r
decs_all {m0} {g} {t} {s2} {s3} {phrases} {all} (Ok u) r core h e f =
    subst (λ z. AreDeclared m0 phrases (moment g t s3) z) (sym f) (decs_done core h e)
decs_all {m0} {g} {t} {s2} {s3} {phrases} {all} (Err d) r core h e f =
    subst (λ z. AreDeclared m0 phrases (moment g t s3) z) (sym f) (decs_stop core h e)
