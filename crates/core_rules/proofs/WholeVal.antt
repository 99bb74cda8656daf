-- A whole `val`, closed by the age of variables.
use Rattle.std.proofs.Common.{◌≡◌, ℕ, List, sym, subst}
use Rattle.std.specs.Prelude.{Result, Ok, Err}
use Rattle.cm_base.specs.declared.fault.Fault.{Fault}
use Rattle.sml_trees.specs.declared.name.At.{At}
use Rattle.sml_trees.specs.declared.name.Name.{Name}
use Rattle.semantic_objects.specs.Environments.{Env}
use Rattle.unification.specs.Unification.{depth}
use Rattle.type_nodes.specs.Tables.{Table, state}
use Rattle.sml_modules.specs.Graphs.{Graph}
use Rattle.name_trails.specs.Trails.{Rows}
use Rattle.bare_phrases.specs.Phrases.{DecPhrase}
use Rattle.bare_phrases.specs.PhraseOf.{rules_of}
use Rattle.static_semantics.specs.Inferring.{Progress, Answer, ◌>>=◌, with_written}
use Rattle.static_semantics.specs.TypeInference.{as_written}
use Rattle.static_semantics.specs.CoreInference.{own_variables, infer_dec}
use Rattle.static_semantics.proofs.ByAge.{closes_by_age}
use Rattle.core_scopes.specs.declared.made.Made.{Made}
use Rattle.core_scopes.specs.Scopes.{Bindings}
use Rattle.type_phrases.specs.Inferred.{Answers, KeepsTypes, progress}
use Rattle.type_phrases.proofs.Keeping.{keeps_later}
use Rattle.pattern_elab.specs.declared.own.OwnVariable.{OwnVariable}
use Rattle.core_rules.specs.Moments.{Moment, moment, scope_at, progress_at, IsCoreAt, Passes}
use Rattle.core_rules.proofs.Chains.{passes_table, core_kept, answers_stop}
use Rattle.closing_laws.specs.Promises.{IsOfState}
use Rattle.value_closing.specs.OwnVariables.{EntersOwn}
use Rattle.core_rules.specs.Values.{val_under, read_made, IsValUnder, IsVal}
use Rattle.core_rules.proofs.Binding.{Row}

-- with what calls name otherwise
pub under_as : {m new : Moment} {r : Result (Made OwnVariable) Fault} (since past : Table) (at : At) (own : Rows ℕ)
    (b b2 c c2 : List Row) → since ≡ past → b ≡ b2 → c ≡ c2
    → IsValUnder m (state since).next at own b c new r → IsValUnder m (state past).next at own b2 c2 new r
under_as {m} {new} {r} since past at own b b2 c c2 e f k h =
    subst (λ (t : Table). IsValUnder m (state t).next at own b2 c2 new r) e
    (subst (λ (x : List Row). IsValUnder m (state since).next at own x c2 new r) f
    (subst (λ (y : List Row). IsValUnder m (state since).next at own b y new r) k h))

module _ {m0 : Moment} {t1 : Table} (tyvars : List Name) (binds recs : List Row) (at : At)
    (core : IsCoreAt m0) (ready : IsOfState (scope_at m0) (progress_at m0)) (ids : KeepsTypes m0.table t1) where
  abbrev behind : List (List ℕ × ℕ) × Progress → Answer (Env × Progress)
  behind own = val_under (state m0.table).next at own.0 binds recs (with_written (as_written own.0) (scope_at m0)) own.1

  abbrev owned : Answer (List (List ℕ × ℕ) × Progress)
  owned = own_variables (scope_at m0) tyvars (rules_of binds) (rules_of recs) (progress_at m0)

  abbrev read_own : Rows ℕ → List (List ℕ × ℕ) × Progress
  read_own own = (own, progress t1 m0.graph)

  abbrev whole : Answer (Env × Progress)
  whole = infer_dec depth (scope_at m0) (DecPhrase.Val tyvars (rules_of binds) (rules_of recs) at) (progress_at m0)

  by_age : whole ≡ (owned >>= behind)
  by_age = closes_by_age depth (scope_at m0) tyvars (rules_of binds) (rules_of recs) at (progress_at m0) ready

  pub val_stops : {s3 : Bindings OwnVariable} (e : Fault) → Answers owned read_own (Err e) → s3 ≡ m0.scope
      → IsVal m0 tyvars binds recs at (moment m0.graph t1 s3) (Err e)
  val_stops {s3} e h left =
      let m3 : Moment = moment m0.graph t1 s3 in
      record {
        infers = subst (λ w. Answers w (read_made m3) (Err e)) (sym by_age)
            (answers_stop owned behind read_own (read_made m3) e h);
        has = tt;
        goes = passes_table m0 t1 s3 ids;
        left = left;
        core = core_kept {old = m0} {new = m3} core (passes_table m0 t1 s3 ids) left;
      }

  pub val_whole : {g2 : Graph} {t2 : Table} {s1 s2 s3 : Bindings OwnVariable} {r : Result (Made OwnVariable) Fault}
      (own : Rows ℕ) → Answers owned read_own (Ok own) → EntersOwn m0.graph own m0.scope s1
      → IsValUnder (moment m0.graph t1 s1) (state m0.table).next at own binds recs (moment g2 t2 s2) r
      → s3 ≡ m0.scope → IsVal m0 tyvars binds recs at (moment g2 t2 s3) r
  val_whole {g2} {t2} {s1} {s2} {s3} {r} own h k l left =
      let m3 : Moment = moment g2 t2 s3 in
      let goes : Passes m0 m3 = record {
        graph = l.goes.graph;
        home = l.goes.home;
        ids = keeps_later m0.table t1 t2 ids l.goes.ids;
      } in
      record {
        infers = subst (λ w. Answers w (read_made m3) r) (sym by_age)
            (subst (λ w. Answers (w >>= behind) (read_made m3) r) (sym h)
            (subst (λ sc. Answers (val_under (state m0.table).next at own binds recs sc (progress t1 m0.graph))
            (read_made m3) r) k.seen l.infers));
        has = l.has;
        goes = goes;
        left = left;
        core = core_kept {old = m0} {new = m3} core goes left;
      }
