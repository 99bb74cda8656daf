-- Declarations of a structure, one after another: what they make together.
use Rattle.std.proofs.Common.{◌≡◌, ℕ, List, [], ◌∷◌, ◌++◌, map, refl, sym, ap, ap₂, ◌∙◌, subst, append_assoc}
use Rattle.std.proofs.lemmas.List.{append-nil}
use Rattle.std.specs.Prelude.{Result, Ok, Err, Some, None}
use Rattle.cm_base.specs.declared.fault.Fault.{Fault}
use Rattle.cm_base.specs.declared.fault.Fault.TheVariants as fault
use Rattle.semantic_objects.specs.declared.entry.TypeStr.{TypeStr}
use Rattle.semantic_objects.specs.declared.entry.ValueEntry.{ValueEntry}
use Rattle.semantic_objects.specs.Tables.{Table as Named, with_all}
use Rattle.semantic_objects.specs.Environments.{Env, Top, env_of, table_of, structures_of, modified_by}
use Rattle.unification.specs.Unification.{depth}
use Rattle.type_nodes.specs.Keeping.{IsKept}
use Rattle.type_nodes.specs.Tables.{Table}
use Rattle.sml_modules.specs.declared.parts.NamedEnv.{NamedEnv}
use Rattle.sml_modules.specs.declared.parts.NamedType.{NamedType}
use Rattle.sml_modules.specs.Graphs.{Graph, Keeps, env_at, HasEnvs, structure_rows, type_rows}
use Rattle.sml_modules.proofs.Keeping.{keeps, extends_self}
use Rattle.static_semantics.specs.Inferring.{Progress, Answer, ◌>>=◌, gives}
use Rattle.core_scopes.specs.declared.made.Made.{Made}
use Rattle.core_scopes.specs.declared.made.NamedInScope.{NamedInScope}
use Rattle.core_scopes.specs.Scopes.{entry_of, AreBare}
use Rattle.core_scopes.specs.Marks.{value_rows, env_of_made}
use Rattle.core_scopes.proofs.Tables.{all_append, all_at_once}
use Rattle.type_phrases.specs.Inferred.{Answers}
use Rattle.type_phrases.proofs.Steps.{still_refused}
use Rattle.pattern_elab.specs.declared.own.OwnVariable.{OwnVariable}
use Rattle.pattern_elab.specs.Scopes.{own_entry}
use Rattle.core_rules.specs.Joined.{IsNothing, joined}
use Rattle.core_rules.proofs.Chains.{graph_then, answers_stop}
use Rattle.core_rules.proofs.Joining.{made_kept, envs_kept}
use Rattle.module_growth.specs.Grown.{IsInside}
use Rattle.unit_derivations.specs.Promises.{every}
use Rattle.unit_semantics.specs.UnitPhrases.{ModuleDec, ModuleDecs}
use Rattle.unit_semantics.specs.StructureInference.{top_under, infer_module_dec, infer_module_decs}
use Rattle.module_scopes.specs.declared.top.TopScope.{TopScope}
use Rattle.module_scopes.specs.Tops.{IsTopScope}
use Rattle.structure_elab.specs.Moments.{Moment, moment, seen_at, progress_at, read_made, made_at, HasMade, Passes, GoesInto, IsOver}
use Rattle.structure_elab.specs.Ready.{IsReadyAt, IsReadyBehind}
use Rattle.structure_elab.specs.Phrases.{IsDeclared, AreDeclared, AreEntered}
use Rattle.structure_elab.proofs.Chains.{passes_top, passes_then, passes_over, seen_kept}
use Rattle.structure_elab.proofs.Readying.{behind, entered}
use Rattle.structure_elab.proofs.Entering.{over_then}

-- ---- lists that follow one another

abbrev made_of : List NamedEnv → List NamedType → List (NamedInScope OwnVariable) → Made OwnVariable
made_of ss ts vs = record { structures = ss; types = ts; values = vs }

one_made : (ss rs : List NamedEnv) (ts us : List NamedType) (vs ws : List (NamedInScope OwnVariable)) → ss ≡ rs
    → ts ≡ us → vs ≡ ws → made_of ss ts vs ≡ made_of rs us ws
one_made ss rs ts us vs ws e f g =
    ap₂ (λ (x : List NamedEnv) (y : List NamedType). made_of x y vs) e f
    ∙ ap (λ (z : List (NamedInScope OwnVariable)). made_of rs us z) g

joined_more : (all made m : Made OwnVariable) → joined all (joined made m) ≡ joined (joined all made) m
joined_more all made m = one_made _ _ _ _ _ _
    (sym (append_assoc all.structures made.structures m.structures))
    (sym (append_assoc all.types made.types m.types))
    (sym (append_assoc all.values made.values m.values))

joined_none : (all : Made OwnVariable) → joined all (made_of [] [] []) ≡ all
joined_none all = one_made _ _ _ _ _ _ (append-nil all.structures) (append-nil all.types) (append-nil all.values)

joined_first : (all m : Made OwnVariable) → IsNothing all → m ≡ joined all m
joined_first all m n = one_made _ _ _ _ _ _
    (ap (λ (z : List NamedEnv). z ++ m.structures) (sym n.structures))
    (ap (λ (z : List NamedType). z ++ m.types) (sym n.types))
    (ap (λ (z : List (NamedInScope OwnVariable)). z ++ m.values) (sym n.values))

-- ---- as environments

tables_back : (rows : Named Env) → table_of (structures_of rows) ≡ rows
tables_back [] = refl
tables_back (row ∷ rows) = ap (λ (z : Named Env). row ∷ z) (tables_back rows)

map_both : {A B : Type 0} (f : A → B) (front back : List A) → map f (front ++ back) ≡ map f front ++ map f back
map_both f [] back = refl
map_both {A} {B} f (x ∷ front) back = ap (λ (z : List B). f x ∷ z) (map_both f front back)

at_once : {A : Type 0} (rows t : Named A) → with_all rows t ≡ with_all (with_all rows []) t
at_once rows t = sym (all_at_once rows [] t refl)

both_rows : {A : Type 0} (front back whole : Named A) → whole ≡ front ++ back
    → with_all whole [] ≡ with_all (with_all back []) (with_all front [])
both_rows {A} front back whole e =
    ap (λ (z : Named A). with_all z []) e ∙ all_append front back [] ∙ at_once back (with_all front [])

one_env : (ss rs : Named Env) (ts us : Named TypeStr) (vs ws : Named ValueEntry) → ss ≡ rs → ts ≡ us → vs ≡ ws
    → env_of ss ts vs ≡ env_of rs us ws
one_env ss rs ts us vs ws h k l = cc

made_joined : (g : Graph) (a b : Made OwnVariable)
    → env_of_made g own_entry (joined a b) ≡ modified_by (env_of_made g own_entry a) (env_of_made g own_entry b)
made_joined g a b = one_env _ _ _ _ _ _
    (both_rows (structure_rows g a.structures) (structure_rows g b.structures)
    (structure_rows g (a.structures ++ b.structures))
    (map_both (λ (e : NamedEnv). (e.name, env_at g e.env)) a.structures b.structures)
    ∙ ap₂ (λ (x y : Named Env). with_all x y) (sym (tables_back (with_all (structure_rows g b.structures) [])))
    (sym (tables_back (with_all (structure_rows g a.structures) []))))
    (both_rows (type_rows a.types) (type_rows b.types) (type_rows (a.types ++ b.types))
    (map_both (λ (e : NamedType). (e.name, e.entry)) a.types b.types))
    (both_rows (value_rows own_entry a.values) (value_rows own_entry b.values)
    (value_rows own_entry (a.values ++ b.values))
    (map_both (λ (e : NamedInScope OwnVariable). (e.name, entry_of own_entry e.entry)) a.values b.values))

envs_both : (g : Graph) (front back : List NamedEnv) → HasEnvs g front → HasEnvs g back → HasEnvs g (front ++ back)
envs_both g [] back h k = k
envs_both g (e ∷ front) back h k = (h.0, envs_both g front back h.1 k)

-- ---- one declaration after another

-- what is made is put under something
abbrev wrapped : (Env → Env) → Env × Progress → Answer (Env × Progress)
wrapped wrap q = gives (wrap q.0, q.1)

wrapped_none : (m : Answer (Env × Progress)) → m ≡ (m >>= wrapped (λ e. e))
wrapped_none None = refl
wrapped_none (Some (Err d)) = refl
wrapped_none (Some (Ok q)) = refl

wrapped_twice : (m : Answer (Env × Progress)) (first : Env) (wrap : Env → Env)
    → ((m >>= λ q. gives (modified_by first q.0, q.1)) >>= wrapped wrap)
    ≡ (m >>= wrapped (λ e. wrap (modified_by first e)))
wrapped_twice None first wrap = refl
wrapped_twice (Some (Err d)) first wrap = refl
wrapped_twice (Some (Ok q)) first wrap = refl

-- what was made so far, and what is left: `wrap` puts what the rest makes under it
pub record DecsSoFar (begun now : Moment) (phrases left : ModuleDecs) (all : Made OwnVariable) : Type 0 where
  pub wrap : Env → Env
  pub left_is : infer_module_decs depth begun.graph.home (seen_at begun) phrases (progress_at begun)
      ≡ (infer_module_decs depth now.graph.home (seen_at now) left (progress_at now) >>= wrapped wrap)
  pub joins : (h : Graph) → Keeps now.graph h → (m : Made OwnVariable)
      → wrap (env_of_made h own_entry m) ≡ env_of_made h own_entry (joined all m)
  pub envs : HasMade now.graph all
  pub goes : Passes begun now
  pub over : IsOver begun.top now.top
  pub there : IsTopScope now.graph now.top
  pub inside : IsInside every now.graph.home (seen_at now) (progress_at now)
  pub bare : AreBare now.top.core

pub decs_begin : (m : Moment) (phrases : ModuleDecs) (all : Made OwnVariable) → IsReadyAt m → IsOver m.top m.top
    → IsNothing all → DecsSoFar m m phrases phrases all
decs_begin m phrases all r over n = record {
  wrap = λ e. e;
  left_is = wrapped_none (infer_module_decs depth m.graph.home (seen_at m) phrases (progress_at m));
  joins = λ h k made. ap (λ (x : Made OwnVariable). env_of_made h own_entry x) (joined_first all made n);
  envs = subst (λ (z : List NamedEnv). HasEnvs m.graph z) (sym n.structures) tt;
  goes = passes_top m m.top;
  over = over;
  there = r.there;
  inside = r.inside;
  bare = r.bare;
}

-- before the next declaration
pub decs_ready : {begun now : Moment} {phrases left : ModuleDecs} {all : Made OwnVariable}
    → DecsSoFar begun now phrases left all → IsKept now.table → IsReadyAt now
decs_ready s k = record { there = s.there; kept = k; inside = s.inside; bare = s.bare }

abbrev rest_of : List ℕ → Top → ModuleDecs → Env × Progress → Answer (Env × Progress)
rest_of home top rest r =
    infer_module_decs depth home (top_under r.0 top) rest r.1 >>= λ q. gives (modified_by r.0 q.0, q.1)

module _ {begun now : Moment} {phrases left rest : ModuleDecs} {phrase : ModuleDec} {all : Made OwnVariable}
    (s : DecsSoFar begun now phrases left all) (is : left ≡ ModuleDecs.Dec phrase rest) where
  decs_at : infer_module_decs depth begun.graph.home (seen_at begun) phrases (progress_at begun)
      ≡ ((infer_module_dec depth now.graph.home (seen_at now) phrase (progress_at now)
      >>= rest_of now.graph.home (seen_at now) rest) >>= wrapped s.wrap)
  decs_at = s.left_is
      ∙ ap (λ (z : ModuleDecs). infer_module_decs depth now.graph.home (seen_at now) z (progress_at now)
      >>= wrapped s.wrap) is

  pub decs_next : {mid : Moment} {made new : Made OwnVariable} {top : TopScope} → IsKept now.table → IsKept mid.table
      → IsDeclared now phrase mid (Ok made) → GoesInto mid.graph (made_at mid made) mid.top top
      → new ≡ joined all made → DecsSoFar begun (moment mid.graph mid.table top) phrases rest new
  decs_next {mid} {made} {new} {top} k1 k2 h u e =
      let next : Moment = moment mid.graph mid.table top in
      let b : IsReadyBehind mid made = behind {m0 = now} {m1 = mid} phrase made (decs_ready s k1) k2 h in
      let ready : IsReadyAt next = entered {m = mid} made top b u in
      let here : seen_at next ≡ top_under (made_at mid made) (seen_at now) =
      u.seen ∙ ap (top_under (made_at mid made)) (seen_kept {old = now} {new = mid} s.there h.goes h.left) in
      record {
        wrap = λ env. s.wrap (modified_by (made_at mid made) env);
        left_is = decs_at
            ∙ ap (λ (m : Answer (Env × Progress)). (m >>= rest_of now.graph.home (seen_at now) rest) >>= wrapped s.wrap)
            h.infers
            ∙ wrapped_twice
            (infer_module_decs depth now.graph.home (top_under (made_at mid made) (seen_at now)) rest (progress_at mid))
            (made_at mid made) s.wrap
            ∙ ap (λ (z : Top). infer_module_decs depth now.graph.home z rest (progress_at mid)
            >>= wrapped (λ env. s.wrap (modified_by (made_at mid made) env))) (sym here)
            ∙ ap (λ home. infer_module_decs depth home (seen_at next) rest (progress_at mid)
            >>= wrapped (λ env. s.wrap (modified_by (made_at mid made) env))) (sym h.goes.home);
        joins = λ g k m.
            ap (λ (x : Env). s.wrap (modified_by x (env_of_made g own_entry m)))
            (sym (made_kept mid.graph g made k b.envs))
            ∙ ap s.wrap (sym (made_joined g made m))
            ∙ s.joins g (graph_then now.graph mid.graph g h.goes.graph k) (joined made m)
            ∙ ap (λ (x : Made OwnVariable). env_of_made g own_entry x) (joined_more all made m)
            ∙ ap (λ (x : Made OwnVariable). env_of_made g own_entry (joined x m)) (sym e);
        envs = subst (λ (x : Made OwnVariable). HasMade mid.graph x) (sym e)
            (envs_both mid.graph all.structures made.structures
            (envs_kept now.graph mid.graph all.structures h.goes.graph s.envs) b.envs);
        goes = passes_then {a = begun} {b = now} {c = next} s.goes (passes_over now.top top h.goes);
        over = over_then s.over h.left u.over;
        there = ready.there;
        inside = ready.inside;
        bare = ready.bare;
      }

  pub decs_fail : {mid : Moment} {new : Made OwnVariable} {e : Fault} → IsDeclared now phrase mid (Err e)
      → AreEntered begun phrases new mid (Err e)
  decs_fail {mid} {new} {e} h = record {
    infers = subst (λ (w : Answer (Env × Progress)). Answers w (λ (u : Unit {0}). read_made mid new) (Err e))
        (sym decs_at)
        (answers_stop (infer_module_dec depth now.graph.home (seen_at now) phrase (progress_at now)
        >>= rest_of now.graph.home (seen_at now) rest)
        (wrapped s.wrap) (read_made mid) (λ (u : Unit {0}). read_made mid new) e
        (answers_stop (infer_module_dec depth now.graph.home (seen_at now) phrase (progress_at now))
        (rest_of now.graph.home (seen_at now) rest) (read_made mid) (read_made mid) e h.infers));
    envs = tt;
    goes = passes_then {a = begun} {b = now} {c = mid} s.goes h.goes;
    over = tt;
  }

  pub decs_memory : {mid : Moment} {made new : Made OwnVariable} (top : TopScope)
      → IsDeclared now phrase mid (Ok made)
      → AreEntered begun phrases new (moment mid.graph mid.table top) (Err fault.NoMemory)
  decs_memory {mid} {made} {new} top h = record {
    infers = tt;
    envs = tt;
    goes = passes_then {a = begun} {b = now} {c = moment mid.graph mid.table top} s.goes
        (passes_over now.top top h.goes);
    over = tt;
  }

pub decs_end : {begun now : Moment} {phrases left : ModuleDecs} {all : Made OwnVariable}
    → DecsSoFar begun now phrases left all → left ≡ ModuleDecs.EndOfDecs → AreEntered begun phrases all now (Ok tt)
decs_end {begun} {now} {phrases} {left} {all} s is = record {
  infers = s.left_is
      ∙ ap (λ (z : ModuleDecs). infer_module_decs depth now.graph.home (seen_at now) z (progress_at now)
      >>= wrapped s.wrap) is
      ∙ ap (λ (x : Env). gives (x, progress_at now))
      (s.joins now.graph (keeps now.graph now.graph (extends_self now.graph)) (made_of [] [] [])
      ∙ ap (λ (x : Made OwnVariable). env_of_made now.graph own_entry x) (joined_none all));
  envs = s.envs;
  goes = s.goes;
  over = s.over;
}

-- ---- all of them, when the scope is left

pub decs_done : {m0 : Moment} {g : Graph} {t : Table} {top2 top3 : TopScope} {phrases : ModuleDecs}
    {all : Made OwnVariable} → AreEntered m0 phrases all (moment g t top2) (Ok tt) → top3 ≡ m0.top
    → AreDeclared m0 phrases (moment g t top3) (Ok all)
decs_done {m0} {g} {t} {top2} {top3} h e = record {
  infers = h.infers;
  has = h.envs;
  goes = passes_over m0.top top3 h.goes;
  left = e;
}

pub decs_stop : {m0 m1 : Moment} {phrases : ModuleDecs} {all : Made OwnVariable} {f : Fault}
    → AreEntered m0 phrases all m1 (Err f) → AreDeclared m0 phrases m1 (Err f)
decs_stop {m0} {m1} {phrases} {all} {f} h = record {
  infers = still_refused (infer_module_decs depth m0.graph.home (seen_at m0) phrases (progress_at m0))
      (λ (u : Unit {0}). read_made m1 all) (read_made m1) f h.infers;
  has = tt;
  goes = h.goes;
  left = tt;
}
