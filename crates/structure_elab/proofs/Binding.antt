-- Structures that a declaration binds, one after another.
use Rattle.std.proofs.Common.{◌≡◌, ℕ, List, [], ◌∷◌, refl, sym, ap, ap₂, ◌∙◌, subst}
use Rattle.std.specs.Prelude.{Result, Ok, Err, Some, None, IfOk, OnOk, IsErrAnd}
use Rattle.cm_base.specs.declared.fault.Fault.{Fault}
use Rattle.cm_base.specs.declared.fault.Fault.TheVariants as fault
use Rattle.sml_trees.specs.declared.name.At.{At}
use Rattle.sml_trees.specs.declared.name.Name.{Name}
use Rattle.semantic_objects.specs.Environments.{Env, Top, structures, empty_env, with_structure}
use Rattle.unification.specs.Unification.{depth}
use Rattle.type_nodes.specs.Keeping.{IsKept}
use Rattle.type_nodes.specs.Tables.{Table}
use Rattle.sml_modules.specs.declared.id.EnvId.{EnvId}
use Rattle.sml_modules.specs.Graphs.{Graph, env_at, HasEnv}
use Rattle.name_trails.specs.Trails.{Rows}
use Rattle.static_semantics.specs.Inferring.{Progress, Scope, Answer, ◌>>=◌, gives, sized_dec}
use Rattle.static_semantics.specs.TypeInference.{new_label}
use Rattle.core_scopes.specs.declared.made.Made.{Made}
use Rattle.core_scopes.specs.Scopes.{AreEnvs, AreBare}
use Rattle.type_phrases.specs.Inferred.{Answers, home_scope}
use Rattle.pattern_elab.specs.declared.own.OwnVariable.{OwnVariable}
use Rattle.core_rules.proofs.Chains.{answers_stop}
use Rattle.unit_derivations.specs.Promises.{every}
use Rattle.module_growth.specs.Grown.{IsInside}
use Rattle.unit_semantics.specs.UnitPhrases.{ModulePhrase, ModuleDec, ModuleBinds}
use Rattle.unit_semantics.specs.StructureInference.{core_scope, infer_module, infer_module_binds}
use Rattle.module_scopes.specs.declared.top.TopScope.{TopScope}
use Rattle.module_scopes.specs.Tops.{structures_env, IsTopScope}
use Rattle.structure_elab.specs.Moments.{Moment, moment, seen_at, progress_at, read_env, read_made, HasMade, Passes, Elabs}
use Rattle.structure_elab.specs.Ready.{IsReadyAt}
use Rattle.structure_elab.specs.Phrases.{IsModule, AreStructures, read_rows, infer_bind, Binds, IsBind, AreBinds}
use Rattle.structure_elab.proofs.Chains.{passes_top, passes_then, seen_before, seen_kept, there_kept, answers_go}
use Rattle.structure_elab.proofs.Readying.{module_later}
use Rattle.semantic_objects.specs.Tables.{entry}
use Rattle.static_semantics.specs.Holding.{Given}
use Rattle.static_semantics.proofs.Holding.{given_then}
use Rattle.sml_modules.specs.Graphs.{Keeps}
use Rattle.sml_trees.specs.declared.exp.StrBind.{StrBind, out-StrBind}
use Rattle.bare_phrases.specs.PhraseOf.{str_phrase, str_bind_phrase}
use Rattle.bare_phrases.proofs.Forms.{str_bind_phrase-kept}
use Rattle.unit_semantics.specs.UnitPhrases.{module_phrase}
use Rattle.unit_semantics.proofs.Answers.{always}
use Rattle.module_scopes.specs.declared.defined.Defined.{Defined}
use Rattle.module_scopes.proofs.Tops.{tops_stay}
use Rattle.structure_elab.specs.Phrases.{bind_phrase}
use Rattle.structure_elab.proofs.Chains.{goes_on, stops, same_left, bare_kept}
use Rattle.structure_elab.proofs.Readying.{module_stays, inside_seen}
use Rattle.structure_elab.proofs.Steps.{same_table}

-- ---- structures by name in a graph that grows

abbrev rows_alone : Rows EnvId → Defined
rows_alone rows = record { structures = rows; signatures = []; functors = []; funsigs = [] }

pub rows_kept : (g h : Graph) (rows : Rows EnvId) → Keeps g h → AreEnvs g rows
    → structures_env h rows ≡ structures_env g rows
rows_kept g h rows k there = ap (λ (top : Top). top.env) (tops_stay.defined g h (rows_alone rows) k
    (record { structures = there; signatures = tt; functors = tt; funsigs = tt }))

pub envs_kept : (g h : Graph) (rows : Rows EnvId) → Keeps g h → AreEnvs g rows → AreEnvs h rows
envs_kept g h rows k there = (tops_stay.of g h (rows_alone rows) k
    (record { structures = there; signatures = tt; functors = tt; funsigs = tt })).structures

-- ---- one binding

two_steps : {A B C : Type 0} (m : Answer (Unit {0})) (n : Answer A) (f : A → B) (k : B → Answer C)
    → ((m >>= λ u. n >>= λ r. gives (f r)) >>= k) ≡ (m >>= λ u. n >>= λ r. k (f r))
two_steps None n f k = refl
two_steps (Some (Err d)) n f k = refl
two_steps (Some (Ok u)) None f k = refl
two_steps (Some (Ok u)) (Some (Err d)) f k = refl
two_steps (Some (Ok u)) (Some (Ok r)) f k = refl

-- the rest behind a binding
abbrev rest_of : ModuleBinds → List ℕ → Top → Env × Progress → Answer (Env × Progress)
rest_of rest home top q = infer_module_binds depth home top rest q.0 q.1

by_bind : (name : Name) (str : ModulePhrase) (rest : ModuleBinds) (made : Env) (home : List ℕ) (top : Top)
    (st : Progress) → infer_module_binds depth home top (ModuleBinds.Bind name str rest) made st
    ≡ (infer_bind (name, str) made home top st >>= rest_of rest home top)
by_bind name str rest made home top st = sym (two_steps (new_label (core_scope home top) name (structures made))
    (infer_module depth home top str st) (λ r. (with_structure name.text r.0 made, r.1)) (rest_of rest home top))

bind_stays : (bind : Name × ModulePhrase) (made : Env) (home : List ℕ) (top : Top) (st : Progress)
    → IsInside every home top st → Given (λ q. IsInside every home top q.1) (infer_bind bind made home top st)
bind_stays bind made home top st h =
    always (λ q. IsInside every home top q.1) (new_label (core_scope home top) bind.0 (structures made)) _ (λ u.
    given_then (λ r. IsInside every home top r.1) (λ q. IsInside every home top q.1)
    (infer_module depth home top bind.1 st) _ (module_stays home top bind.1 st h) (λ r k. k))

-- 40, then the expression, then the structure under its name
abbrev label_of : Name → Env → List ℕ → Top → Answer (Unit {0})
label_of name made home top = new_label (core_scope home top) name (structures made)

abbrev read_unit : Moment → Unit {0} → Unit {0}
read_unit m u = tt

abbrev NoneOf : Graph → Unit {0} → Type 0
NoneOf g u = Unit {0}

abbrev bind_module : Name → ModulePhrase → Env → Progress → List ℕ → Top → Unit {0} → Answer (Env × Progress)
bind_module name str made st home top u =
    infer_module depth home top str st >>= λ r. gives (with_structure name.text r.0 made, r.1)

abbrev bind_end : Name → Env → List ℕ → Top → Env × Progress → Answer (Env × Progress)
bind_end name made home top r = gives (with_structure name.text r.0 made, r.1)

abbrev IsNew : Moment → Name → Rows EnvId → Result (Unit {0}) Fault → Type 0
IsNew m name rows r = (inner : Scope) → inner.home ≡ m.graph.home
    → Answers (new_label inner name (structures (structures_env m.graph rows))) (λ u. tt) r

none_of : (g : Graph) (q : Result (Unit {0}) Fault) → IfOk q (NoneOf g)
none_of g (Ok u) = tt
none_of g (Err e) = tt

new_in : {m : Moment} (name : Name) (rows : Rows EnvId) (r : Result (Unit {0}) Fault) → IsNew m name rows r
    → Elabs m (label_of name (structures_env m.graph rows)) read_unit NoneOf m r
new_in {m} name rows r h = record {
  infers = h (core_scope m.graph.home (seen_at m)) refl;
  has = none_of m.graph r;
  goes = passes_top m m.top;
  left = same_left r m.top m.top refl;
}

binds_from : {m0 m1 : Moment} {want : List ℕ → Top → Answer (Env × Progress)} {rows : Rows EnvId} {e : Fault}
    {reads : Moment → Unit {0} → Env × Progress} {have : Graph → Unit {0} → Type 0}
    → Elabs m0 want reads have m1 (Err e) → Binds m0 want rows m1 (Err e)
binds_from {m0} {m1} {want} {rows} {e} {reads} h = record {
  infers = Rattle.type_phrases.proofs.Steps.still_refused (want m0.graph.home (seen_at m0)) (reads m1)
      (λ (u : Unit {0}). read_rows m1 rows) e h.infers;
  envs = tt;
  goes = h.goes;
  left = tt;
}

abbrev read_after : Rows EnvId → Moment → Unit {0} → Env × Progress
read_after after m u = read_rows m after

abbrev HasAfter : Rows EnvId → Graph → Unit {0} → Type 0
HasAfter after g u = AreEnvs g after

module _ {m0 : Moment} (name : Name) (str : ModulePhrase) (before after : Rows EnvId) where
  pub bind_first : {e : Fault} → IsNew m0 name before (Err e) → IsBind m0 (name, str) before after m0 (Err e)
  bind_first {e} h = binds_from {reads = read_after after} {have = HasAfter after}
      (stops {told = read_after after} {got = HasAfter after}
      (bind_module name str (structures_env m0.graph before) (progress_at m0)) (new_in {m = m0} name before (Err e) h))

  pub bind_second : {m1 : Moment} {e : Fault} → IsTopScope m0.graph m0.top → IsNew m0 name before (Ok tt)
      → IsModule m0 str m1 (Err e) → IsBind m0 (name, str) before after m1 (Err e)
  bind_second {m1} {e} there h k = binds_from {reads = read_after after} {have = HasAfter after}
      (goes_on {told = read_after after} {got = HasAfter after}
      (bind_module name str (structures_env m0.graph before) (progress_at m0)) there (new_in {m = m0} name before (Ok tt) h)
      (stops (bind_end name (structures_env m0.graph before)) k))

  pub bind_memory : {m1 : Moment} {id : EnvId} → IsModule m0 str m1 (Ok id)
      → IsBind m0 (name, str) before after m1 (Err fault.NoMemory)
  bind_memory h = record { infers = tt; envs = tt; goes = h.goes; left = tt }

  pub bind_done : {m1 : Moment} {id : EnvId} → IsTopScope m0.graph m0.top → IsNew m0 name before (Ok tt)
      → IsModule m0 str m1 (Ok id) → AreEnvs m0.graph before
      → structures_env m1.graph after
      ≡ with_structure name.text (env_at m1.graph id) (structures_env m1.graph before)
      → (AreEnvs m1.graph before → AreEnvs m1.graph after) → IsBind m0 (name, str) before after m1 (Ok tt)
  bind_done {m1} {id} there h k envs e more =
      let all = goes_on {told = read_after after} {got = HasAfter after} {r = Ok tt}
      (bind_module name str (structures_env m0.graph before) (progress_at m0)) there (new_in {m = m0} name before (Ok tt) h)
      (goes_on {told = read_after after} {got = HasAfter after} {r = Ok tt} (bind_end name (structures_env m0.graph before)) there k (record {
        infers = ap (λ (z : Env). gives {A = Env × Progress} (z, progress_at m1))
            (ap (λ (z : Env). with_structure name.text (env_at m1.graph id) z)
            (sym (rows_kept m0.graph m1.graph before k.goes.graph envs)) ∙ sym e);
        has = more (envs_kept m0.graph m1.graph before k.goes.graph envs);
        goes = passes_top m1 m1.top;
        left = refl;
      })) in
      record { infers = all.infers; envs = all.has; goes = all.goes; left = all.left }

-- a binding as it is written
pub bind_of : {old new : Moment} {after : Rows EnvId} {r : Result (Unit {0}) Fault} (before : Rows EnvId)
    (bind : StrBind)
    → IsBind old ((out-StrBind bind).name, module_phrase (str_phrase (out-StrBind bind).body)) before after new r
    → IsBind old (bind_phrase bind) before after new r
bind_of {old} {new} {after} {r} before bind h =
    subst (λ (z : Name × Rattle.bare_phrases.specs.Phrases.StrPhrase). IsBind old (z.0, module_phrase z.1) before after
    new r) (sym (str_bind_phrase-kept bind)) h

-- ---- one binding after another

-- what was bound so far, and the bindings that are left
pub record BindsSoFar (begun now : Moment) (binds left : ModuleBinds) (before rows : Rows EnvId) : Type 0 where
  pub left_is : infer_module_binds depth begun.graph.home (seen_at begun) binds (structures_env begun.graph before)
      (progress_at begun)
      ≡ infer_module_binds depth now.graph.home (seen_at now) left (structures_env now.graph rows) (progress_at now)
  pub envs : AreEnvs now.graph rows
  pub goes : Passes begun now
  pub stays : now.top ≡ begun.top
  pub there : IsTopScope now.graph now.top
  pub inside : IsInside every now.graph.home (seen_at now) (progress_at now)
  pub bare : AreBare now.top.core

pub binds_begin : (m : Moment) (binds : ModuleBinds) (before : Rows EnvId) → IsReadyAt m → AreEnvs m.graph before
    → BindsSoFar m m binds binds before before
binds_begin m binds before r envs = record {
  left_is = refl;
  envs = envs;
  goes = passes_top m m.top;
  stays = refl;
  there = r.there;
  inside = r.inside;
  bare = r.bare;
}

pub binds_ready : {begun now : Moment} {binds left : ModuleBinds} {before rows : Rows EnvId}
    → BindsSoFar begun now binds left before rows → IsKept now.table → IsReadyAt now
binds_ready s k = record { there = s.there; kept = k; inside = s.inside; bare = s.bare }

module _ {begun now : Moment} {binds left rest : ModuleBinds} {bind : Name × ModulePhrase} {before rows : Rows EnvId}
    (s : BindsSoFar begun now binds left before rows) (is : left ≡ ModuleBinds.Bind bind.0 bind.1 rest) where
  binds_at : infer_module_binds depth begun.graph.home (seen_at begun) binds (structures_env begun.graph before)
      (progress_at begun)
      ≡ (infer_bind bind (structures_env now.graph rows) now.graph.home (seen_at now) (progress_at now)
      >>= rest_of rest now.graph.home (seen_at now))
  binds_at = s.left_is
      ∙ ap (λ (z : ModuleBinds). infer_module_binds depth now.graph.home (seen_at now) z (structures_env now.graph rows)
      (progress_at now)) is
      ∙ by_bind bind.0 bind.1 rest (structures_env now.graph rows) now.graph.home (seen_at now) (progress_at now)

  pub binds_next : {mid : Moment} {more : Rows EnvId} → IsBind now bind rows more mid (Ok tt)
      → BindsSoFar begun mid binds rest before more
  binds_next {mid} {more} h = record {
    left_is = binds_at
        ∙ ap (λ (m : Answer (Env × Progress)). m >>= rest_of rest now.graph.home (seen_at now)) h.infers
        ∙ ap (λ home. infer_module_binds depth home (seen_at now) rest (structures_env mid.graph more)
        (progress_at mid)) (sym h.goes.home)
        ∙ ap (λ (top : Top). infer_module_binds depth mid.graph.home top rest (structures_env mid.graph more)
        (progress_at mid)) (sym (seen_kept {old = now} {new = mid} s.there h.goes h.left));
    envs = h.envs;
    goes = passes_then {a = begun} {b = now} {c = mid} s.goes h.goes;
    stays = h.left ∙ s.stays;
    there = there_kept {old = now} {new = mid} s.there h.goes h.left;
    inside = inside_seen {old = now} {new = mid} s.there h.goes h.left
        (subst (Given _) h.infers
        (bind_stays bind (structures_env now.graph rows) now.graph.home (seen_at now) (progress_at now) s.inside));
    bare = bare_kept {old = now.top} {new = mid.top} s.bare h.left;
  }

  pub binds_fail : {mid : Moment} {more : Rows EnvId} {e : Fault} → IsBind now bind rows more mid (Err e)
      → AreBinds begun binds before more mid (Err e)
  binds_fail {mid} {more} {e} h = record {
    infers = subst (λ (w : Answer (Env × Progress)). Answers w (λ (u : Unit {0}). read_rows mid more) (Err e))
        (sym binds_at)
        (answers_stop
        (infer_bind bind (structures_env now.graph rows) now.graph.home (seen_at now) (progress_at now))
        (rest_of rest now.graph.home (seen_at now)) (λ (u : Unit {0}). read_rows mid more)
        (λ (u : Unit {0}). read_rows mid more) e h.infers);
    envs = tt;
    goes = passes_then {a = begun} {b = now} {c = mid} s.goes h.goes;
    left = tt;
  }

pub binds_end : {begun now : Moment} {binds left : ModuleBinds} {before rows : Rows EnvId}
    → BindsSoFar begun now binds left before rows → left ≡ ModuleBinds.EndOfBinds
    → AreBinds begun binds before rows now (Ok tt)
binds_end {begun} {now} {binds} {left} {before} {rows} s is = record {
  infers = s.left_is ∙ ap (λ (z : ModuleBinds). infer_module_binds depth now.graph.home (seen_at now) z
      (structures_env now.graph rows) (progress_at now)) is;
  envs = s.envs;
  goes = s.goes;
  left = s.stays;
}

-- ---- a whole declaration

abbrev sized_at : At → List ℕ → Top → Env × Progress → Answer (Env × Progress)
sized_at at home top r = sized_dec (core_scope home top) at r

from_nothing : (g : Graph) (rows : Rows EnvId) → rows ≡ [] → structures_env g rows ≡ empty_env
from_nothing g rows e = ap (λ (z : Rows EnvId). structures_env g z) e

abbrev WantsBinds : ModuleBinds → Progress → Env → List ℕ → Top → Answer (Env × Progress)
WantsBinds binds st made home top = infer_module_binds depth home top binds made st

module _ {m0 m1 : Moment} (binds : ModuleBinds) (at : At) (none rows : Rows EnvId) (is : none ≡ []) where
  pub structures_stop : {e : Fault} → AreBinds m0 binds none rows m1 (Err e) → AreStructures m0 binds at m1 (Err e)
  structures_stop {e} h = record {
    infers = answers_stop
        (infer_module_binds depth m0.graph.home (seen_at m0) binds empty_env (progress_at m0))
        (sized_at at m0.graph.home (seen_at m0)) (λ (u : Unit {0}). read_rows m1 rows) (read_made m1) e
        (subst (λ (z : Env). Answers (infer_module_binds depth m0.graph.home (seen_at m0) binds z (progress_at m0))
        (λ (u : Unit {0}). read_rows m1 rows) (Err e)) (from_nothing m0.graph none is) h.infers);
    has = tt;
    goes = h.goes;
    left = tt;
  }

  pub structures_done : {r : Result (Made OwnVariable) Fault} (t : Table) → IsTopScope m0.graph m0.top
      → AreBinds m0 binds none rows m1 (Ok tt)
      → Answers (sized_dec (home_scope m1.graph) at (read_rows m1 rows)) (read_made m1) r
      → IfOk r (HasMade m1.graph) → t ≡ m1.table → AreStructures m0 binds at (moment m1.graph t m1.top) r
  structures_done {r} t there h z envs e =
      same_table {m1 = m1} t e (record {
        infers = answers_go (infer_module_binds depth m0.graph.home (seen_at m0) binds empty_env (progress_at m0))
            (read_rows m1 rows) (sized_at at m0.graph.home (seen_at m0)) (read_made m1) r
            (subst (λ (x : Env). infer_module_binds depth m0.graph.home (seen_at m0) binds x (progress_at m0)
            ≡ gives (read_rows m1 rows)) (from_nothing m0.graph none is) h.infers)
            (seen_before {old = m0} {mid = m1} (λ home top. sized_at at home top (read_rows m1 rows)) (read_made m1) r
            there h.goes h.left z);
        has = envs;
        goes = h.goes;
        left = same_left r m0.top m1.top h.left;
      })
