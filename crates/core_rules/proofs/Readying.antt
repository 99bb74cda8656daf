-- What is in scope stays of what the table knows from call to call.
use Rattle.std.proofs.Common.{◌≡◌, ℕ, List, [], refl, sym, subst, drop, length}
use Rattle.std.specs.Prelude.{Ok}
use Rattle.sml_trees.specs.declared.name.Name.{Name}
use Rattle.semantic_objects.specs.declared.name.TyId.{TyId}
use Rattle.unification.specs.Unification.{depth}
use Rattle.type_nodes.specs.Keeping.{IsKept}
use Rattle.type_nodes.specs.Tables.{Table}
use Rattle.sml_modules.specs.Graphs.{Graph}
use Rattle.name_trails.specs.Trails.{Rows}
use Rattle.bare_phrases.specs.Phrases.{PatPhrase, ExpPhrase, DecPhrase}
use Rattle.bare_phrases.specs.PhraseOf.{rules_of}
use Rattle.static_semantics.specs.Inferring.{Scope, Answer, gives, under, under_bound, Bound}
use Rattle.static_semantics.specs.Holding.{Given, AllRows}
use Rattle.static_semantics.specs.Growing.{TyIn}
use Rattle.static_semantics.specs.CoreInference.{Group, rec_bound, own_variables}
use Rattle.static_semantics.proofs.CoreGrow.{ready_bound, binds_grow, rec_pats_grow, rec_bound_in}
use Rattle.core_scopes.specs.declared.made.Made.{Made}
use Rattle.core_scopes.specs.Scopes.{Bindings}
use Rattle.type_phrases.specs.Inferred.{KeepsTypes, Answers, progress}
use Rattle.pattern_elab.specs.declared.own.OwnVariable.{OwnVariable}
use Rattle.pattern_elab.specs.Scopes.{bound_of, scope_of, IsCoreScope}
use Rattle.pattern_elab.specs.Steps.{IsPat}
use Rattle.closing_laws.specs.Promises.{Any, IsOfState}
use Rattle.closing_laws.proofs.Promised.{stays_of_state}
use Rattle.value_closing.proofs.Staying.{stays_of_table}
use Rattle.value_closing.specs.OwnVariables.{EntersOwn}
use Rattle.value_closing.specs.Recursive.{AreRecPats}
use Rattle.core_rules.specs.Bindings.{AreBinds}
use Rattle.core_rules.specs.Moments.{Moment, moment, scope_at, progress_at, IsCoreAt, Passes}
use Rattle.core_rules.specs.Ready.{IsReadyAt, IsReadyUnder, IsReadyBehind, made_at}
use Rattle.core_rules.specs.Declarations.{IsDeclared}
use Rattle.core_rules.proofs.Chains.{passes_table, scope_kept, core_kept}
use Rattle.core_rules.proofs.Under.{rec_variables}

-- what holds of what is given holds of this
taken : {A : Type 0} (R : A → Type 0) (want : Answer A) (x : A) → want ≡ gives x → Given R want → R x
taken R want x e h = subst (Given R) e h

-- behind a call that leaves the scope
pub later : {old new : Moment} → IsReadyAt old → IsKept new.table → Passes old new → new.scope ≡ old.scope
    → IsReadyAt new
later {old} {new} r k p e = record {
  core = core_kept {old = old} {new = new} r.core p e;
  kept = k;
  state = subst (λ sc. IsOfState sc (progress_at new)) (sym (scope_kept {old = old} {new = new} r.core p e))
      (stays_of_table old.graph new.graph old.table new.table (scope_at old) r.kept k p.ids r.state);
}

-- behind a pattern, which the table outgrew
pub pattern_under : (g : Graph) (t t1 t2 : Table) (sc : Bindings OwnVariable) (p : PatPhrase)
    (before bound : Rows OwnVariable) (a : TyId) → IsReadyAt (moment g t sc) → before ≡ []
    → IsPat g t sc p t1 before bound (Ok a) → IsKept t1 → IsKept t2 → KeepsTypes t1 t2 → IsCoreScope g t2 sc
    → IsReadyUnder (moment g t2 sc) bound
pattern_under g t t1 t2 sc p before bound a r e h k l keeps core =
    let law = stays_of_state.pat depth (scope_of g sc) p (bound_of before) (progress t g) r.state
    (subst (λ (z : Rows OwnVariable). AllRows (TyIn Any (progress t g).types) (bound_of z)) (sym e) tt) in
    let made = subst (Given _) h.infers law in
    record {
      core = core;
      kept = l;
      state = stays_of_table g g t1 t2 (under_bound (bound_of bound) (scope_of g sc)) k l keeps made.1;
    }

-- behind what was entered
pub entered : (old new : Moment) (want : Scope) → scope_at new ≡ want → IsCoreAt new → IsKept new.table
    → IsOfState want (progress_at new) → IsReadyAt new
entered old new want e core k s = record {
  core = core;
  kept = k;
  state = subst (λ sc. IsOfState sc (progress_at new)) (sym e) s;
}

-- behind a call that changed the table alone
pub table_later : (g : Graph) (t t1 : Table) (sc : Bindings OwnVariable) → IsReadyAt (moment g t sc) → IsKept t1
    → KeepsTypes t t1 → IsReadyAt (moment g t1 sc)
table_later g t t1 sc r k h =
    later {old = moment g t sc} {new = moment g t1 sc} r k (passes_table (moment g t sc) t1 sc h) refl

-- behind a declaration, under what it made
pub behind : {m0 m1 : Moment} (p : DecPhrase) (made : Made OwnVariable) → IsReadyAt m0 → IsKept m1.table
    → IsDeclared m0 p m1 (Ok made) → IsReadyBehind m1 made
behind {m0} {m1} p made r k h =
    let given = subst (Given _) h.elabs.infers (stays_of_state.dec depth (scope_at m0) p (progress_at m0) r.state) in
    record {
      core = h.elabs.core;
      kept = k;
      state = subst (λ sc. IsOfState (under (made_at m1 made) sc) (progress_at m1))
          (sym (scope_kept {old = m0} {new = m1} r.core h.elabs.goes h.elabs.left)) given.1;
      envs = h.envs;
    }

-- behind the written type variables of a `val`
pub own_ready : (g : Graph) (t t1 : Table) (sc s1 : Bindings OwnVariable) (tyvars : List Name)
    (binds recs : List (PatPhrase × ExpPhrase)) (own : Rows ℕ) → IsReadyAt (moment g t sc) → IsKept t1
    → Answers (own_variables (scope_of g sc) tyvars (rules_of binds) (rules_of recs) (progress t g))
    (λ (rows : Rows ℕ). (rows, progress t1 g)) (Ok own) → EntersOwn g own sc s1 → IsCoreScope g t1 s1
    → IsReadyAt (moment g t1 s1)
own_ready g t t1 sc s1 tyvars binds recs own r k h e core =
    let given = subst (Given _) h (stays_of_state.own (scope_of g sc) tyvars (rules_of binds) (rules_of recs)
    (progress t g) r.state) in
    record {
      core = core;
      kept = k;
      state = subst (λ inner. IsOfState inner (progress t1 g)) (sym e.seen) given.0;
    }

-- behind the patterns of `rec` bindings, which stand behind plain ones
pub recs_ready : {m m1 : Moment} {t2 : Table} {after1 after2 : Rows OwnVariable} {groups1 groups2 : List Group}
    {types : List TyId} (binds recs : List (PatPhrase × ExpPhrase)) (own : Rows OwnVariable) (start : ℕ)
    → IsReadyAt m → AreBinds m binds [] after1 [] groups1 m1 (Ok tt) → IsKept m1.table
    → AreRecPats m1.graph m1.table m1.scope recs t2 after1 after2 groups1 groups2 (Ok types) → IsKept t2
    → start ≡ length after1 → own ≡ drop start after2 → IsReadyUnder (moment m1.graph t2 m1.scope) own
recs_ready {m} {m1} {t2} {after1} {after2} {groups1} {groups2} {types} binds recs own start r h k l k2 s e =
    let r1 : IsReadyAt m1 = later {old = m} {new = m1} r k h.elabs.goes h.elabs.left in
    let binding = subst (Given _) h.elabs.infers (binds_grow Any depth (scope_at m) (rules_of binds) [] []
    (progress_at m) r.state tt tt) in
    let given = subst (Given _) l.answers.infers (rec_pats_grow Any depth (scope_at m1) (rules_of recs) []
    (bound_of after1) (progress_at m1) r1.state tt binding.1) in
    let r2 : IsReadyAt (moment m1.graph t2 m1.scope) = table_later m1.graph m1.table t2 m1.scope r1 k2 l.goes.ids in
    record {
      core = r2.core;
      kept = k2;
      state = subst (λ (rows : Bound). IsOfState (under_bound rows (scope_at m1)) (progress t2 m1.graph))
          (sym (rec_variables after1 after2 own l.answers.rows start l.answers.bound s e))
          (ready_bound Any (rec_bound l.answers.rows) (scope_at m1) (progress t2 m1.graph)
          (rec_bound_in Any (progress t2 m1.graph).types l.answers.rows given.1) r2.state);
    }
