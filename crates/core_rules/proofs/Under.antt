-- A `val` in the scope with its own type variables.
use Rattle.std.proofs.Common.{◌≡◌, ℕ, List, [], ◌∷◌, ◌++◌, length, map, drop, refl, sym, ap, ap₂, ◌∙◌, subst, true}
use Rattle.std.specs.Prelude.{Result, Ok, Err, IfOk}
use Rattle.cm_base.specs.declared.fault.Fault.{Fault}
use Rattle.cm_base.specs.declared.fault.Fault.TheVariants as fault
use Rattle.sml_trees.specs.declared.name.At.{At}
use Rattle.semantic_objects.specs.declared.name.TyId.{TyId}
use Rattle.unification.specs.Types.{Ty}
use Rattle.unification.specs.Unification.{depth}
use Rattle.unification.specs.Closing.{kept_since}
use Rattle.type_nodes.specs.Tables.{Table, state, type_of, IsFrontOf}
use Rattle.type_schemes.specs.Schemes.{HaveAll}
use Rattle.sml_modules.specs.Graphs.{Graph}
use Rattle.name_trails.specs.Trails.{Rows}
use Rattle.bare_phrases.specs.PhraseOf.{rules_of}
use Rattle.static_semantics.specs.Inferring.{Progress, Scope, Answer, Bound, under_bound}
use Rattle.static_semantics.specs.CoreInference.{Group, RecPats, rec_bound, rec_groups, infer_rec_pats, infer_rec_exps}
use Rattle.static_semantics.specs.RuleConditions.{are_distinct, groups_bound}
use Rattle.core_scopes.specs.declared.made.Made.{Made}
use Rattle.core_scopes.specs.Scopes.{Bindings}
use Rattle.core_scopes.specs.Marks.{env_of_made}
use Rattle.type_phrases.specs.Inferred.{Answers, progress}
use Rattle.type_phrases.proofs.Keeping.{keeps_all, front_later}
use Rattle.pattern_elab.specs.declared.own.OwnVariable.{OwnVariable}
use Rattle.pattern_elab.specs.Scopes.{own_entry, bound_of}
use Rattle.pattern_elab.proofs.Scoping.{core_later}
use Rattle.core_rules.specs.Entered.{IsEntered}
use Rattle.core_rules.specs.Moments.{Moment, moment, scope_at, progress_at, IsCoreAt, Elabs}
use Rattle.core_rules.proofs.Chains.{passes_table, passes_then, scope_kept, core_kept, stops, goes_on, memory}
use Rattle.closing_laws.specs.Variables.{val_end}
use Rattle.value_closing.specs.Recursive.{AreRecPats}
use Rattle.value_closing.proofs.Grouping.{bound_since}
use Rattle.core_rules.specs.Bindings.{Nothing, AreBinds}
use Rattle.core_rules.specs.RecBindings.{infer_rec_exps_by, read_progress, AreRecExps}
use Rattle.core_rules.specs.Values.{AreRecsUnder, end_of, behind_pats, behind_binds, read_made, ValuesAlone, IsValUnder}
use Rattle.core_rules.proofs.Binding.{Row, length_bound}
use Rattle.core_rules.proofs.RecBinding.{by_types}

-- ---- under the variables of patterns

pub recs_under : {m0 : Moment} {g : Graph} {t : Table} {s1 s2 s3 : Bindings OwnVariable} {r : Result (Unit {0}) Fault}
    (bound : Rows OwnVariable) (rows : List Row) (types : List TyId) → IsCoreAt m0
    → IsEntered m0.graph bound m0.scope s1 → AreRecExps (moment m0.graph m0.table s1) rows types (moment g t s2) r
    → s3 ≡ m0.scope → AreRecsUnder m0 bound rows types (moment g t s3) r
recs_under {m0} {g} {t} {s1} {s2} {s3} {r} bound rows types core h k left = record {
  infers = subst (λ sc. Answers (infer_rec_exps_by sc (rules_of rows) (map (type_of m0.table) types) (progress_at m0))
      (read_progress (moment g t s3)) r) h.seen k.infers;
  has = k.has;
  goes = record { graph = k.goes.graph; home = k.goes.home; ids = k.goes.ids };
  left = left;
  core = core_kept {old = m0} {new = moment g t s3} core
      (record { graph = k.goes.graph; home = k.goes.home; ids = k.goes.ids }) left;
}

-- ---- steps as chains have them

-- plain bindings after nothing
pub binds_alone : {old new : Moment} {r : Result (Unit {0}) Fault} (rows : List Row) (before after : Rows OwnVariable)
    (groups more : List Group) → before ≡ [] → groups ≡ [] → AreBinds old rows before after groups more new r
    → AreBinds old rows [] after [] more new r
binds_alone {old} {new} {r} rows before after groups more e f h =
    subst (λ (z : List Group). AreBinds old rows [] after z more new r) f
    (subst (λ (z : Rows OwnVariable). AreBinds old rows z after groups more new r) e h)

abbrev read_rows : RecPats → Moment → List TyId → RecPats × Progress
read_rows rows m types = (rows, progress_at m)

pats_made : {m : Moment} {new : Table} {before after : Rows OwnVariable} {groups more : List Group}
    {types : List TyId} (recs : List Row) → IsCoreAt m
    → (h : AreRecPats m.graph m.table m.scope recs new before after groups more (Ok types))
    → Elabs m (λ sc. infer_rec_pats depth sc (rules_of recs) [] (bound_of before) (progress_at m))
    (read_rows h.answers.rows) HaveAll (moment m.graph new m.scope) (Ok types)
pats_made {m} {new} {before} {after} {groups} {more} {types} recs core h = record {
  infers = h.answers.infers;
  has = h.answers.have;
  goes = passes_table m new m.scope h.goes.ids;
  left = refl;
  core = core_later m.graph m.table new m.scope h.goes.ids core;
}

pats_failed : {m : Moment} {new : Table} {before after : Rows OwnVariable} {groups more : List Group}
    (recs : List Row) (e : Fault) → IsCoreAt m
    → AreRecPats m.graph m.table m.scope recs new before after groups more (Err e)
    → Elabs m (λ sc. infer_rec_pats depth sc (rules_of recs) [] (bound_of before) (progress_at m))
    (read_rows []) HaveAll (moment m.graph new m.scope) (Err e)
pats_failed {m} {new} {before} {after} {groups} {more} recs (fault.Diag d) core h = record {
  infers = h.answers;
  has = tt;
  goes = passes_table m new m.scope h.goes.ids;
  left = refl;
  core = core_later m.graph m.table new m.scope h.goes.ids core;
}
pats_failed {m} {new} {before} {after} {groups} {more} recs fault.NoMemory core h = record {
  infers = tt;
  has = tt;
  goes = passes_table m new m.scope h.goes.ids;
  left = refl;
  core = core_later m.graph m.table new m.scope h.goes.ids core;
}

drop_front : {A : Type 0} (front behind : List A) → drop (length front) (front ++ behind) ≡ behind
drop_front [] behind = refl
drop_front (x ∷ front) behind = drop_front front behind

-- the variables of `rec` patterns are those that were bound behind the others
pub rec_variables : (before after own : Rows OwnVariable) (rows : RecPats) (start : ℕ)
    → bound_of after ≡ bound_of before ++ rec_bound rows → start ≡ length before → own ≡ drop start after
    → bound_of own ≡ rec_bound rows
rec_variables before after own rows start h s e =
    ap bound_of e
    ∙ bound_since start after
    ∙ ap₂ (λ (n : ℕ) (z : Bound). drop n z) (s ∙ sym (length_bound before)) h
    ∙ drop_front (bound_of before) (rec_bound rows)

recs_as : {m new : Moment} {r : Result (Unit {0}) Fault} (bound : Rows OwnVariable) (recs : List Row)
    (types : List TyId) (rows : RecPats) → bound_of bound ≡ rec_bound rows
    → map (λ (row : Ty × Bound). row.0) rows ≡ map (type_of m.table) types → AreRecsUnder m bound recs types new r
    → Elabs m (λ sc. infer_rec_exps depth (under_bound (rec_bound rows) sc) (rules_of recs) rows (progress_at m))
    read_progress Nothing new r
recs_as {m} {new} {r} bound recs types rows e f h = record {
  infers = subst (λ (w : Answer Progress). Answers w (read_progress new) r)
      (ap₂ (λ (z : Bound) (us : List Ty). infer_rec_exps_by (under_bound z (scope_at m)) (rules_of recs) us
      (progress_at m)) e (sym f)
      ∙ sym (by_types (under_bound (rec_bound rows) (scope_at m)) (rules_of recs) rows (progress_at m))) h.infers;
  has = h.has;
  goes = h.goes;
  left = h.left;
  core = h.core;
}

-- the end, where the table is as it was
end_as : {m : Moment} {new : Table} {r : Result (Made OwnVariable) Fault} (n : ℕ) (at : At) (own : List (List ℕ × ℕ))
    (recs : List Row) (groups all : List Group) (rows : RecPats) → IsCoreAt m → new ≡ m.table
    → all ≡ groups ++ rec_groups (scope_at m).env (rules_of recs) rows
    → Answers (val_end (scope_at m) at (kept_since n (state m.table).stands) own all (progress_at m))
    (λ made. (env_of_made m.graph own_entry made, progress m.table m.graph)) r
    → IfOk r (λ made. made.structures ≡ [])
    → Elabs m (λ sc. end_of n at own recs groups rows sc (progress_at m)) read_made ValuesAlone
    (moment m.graph new m.scope) r
end_as {m} {new} {r} n at own recs groups all rows core e f h s =
    subst (λ (z : Table). Elabs m (λ sc. end_of n at own recs groups rows sc (progress_at m)) read_made ValuesAlone
    (moment m.graph z m.scope) r) (sym e) (record {
      infers = subst (λ (gs : List Group). Answers (val_end (scope_at m) at (kept_since n (state m.table).stands) own gs
          (progress_at m)) (read_made m) r) f h;
      has = s;
      goes = passes_table m m.table m.scope (keeps_all m.table);
      left = refl;
      core = core;
    })

-- ---- the steps

module _ {m1 m2 : Moment} {after1 : Rows OwnVariable} {groups1 : List Group} (n : ℕ) (at : At)
    (own : List (List ℕ × ℕ)) (binds recs : List Row) where
  pub val_first : {e : Fault} → AreBinds m1 binds [] after1 [] groups1 m2 (Err e)
      → IsValUnder m1 n at own binds recs m2 (Err e)
  val_first h = stops (behind_binds n at own recs) h.elabs

  pub val_second : {t3 : Table} {after2 : Rows OwnVariable} {groups2 : List Group} (e : Fault) → IsCoreAt m1
      → AreBinds m1 binds [] after1 [] groups1 m2 (Ok tt)
      → AreRecPats m2.graph m2.table m2.scope recs t3 after1 after2 groups1 groups2 (Err e)
      → IsValUnder m1 n at own binds recs (moment m2.graph t3 m2.scope) (Err e)
  val_second e core h k = goes_on (behind_binds n at own recs) core h.elabs
      (stops (behind_pats n at own recs groups1) (pats_failed {m = m2} recs e h.elabs.core k))

  module _ {t3 : Table} {after2 : Rows OwnVariable} {groups2 : List Group} {types : List TyId} (core : IsCoreAt m1)
      (h : AreBinds m1 binds [] after1 [] groups1 m2 (Ok tt))
      (k : AreRecPats m2.graph m2.table m2.scope recs t3 after1 after2 groups1 groups2 (Ok types)) where
    m3 : Moment
    m3 = moment m2.graph t3 m2.scope

    pub val_memory : IsValUnder m1 n at own binds recs (moment m2.graph t3 m2.scope) (Err fault.NoMemory)
    val_memory = memory (passes_then h.elabs.goes (passes_table m2 t3 m2.scope k.goes.ids)) h.elabs.left
        (core_later m2.graph m2.table t3 m2.scope k.goes.ids h.elabs.core)

    pub val_third : {m4 : Moment} {e : Fault} (bound : Rows OwnVariable) (start : ℕ) → start ≡ length after1
        → bound ≡ drop start after2 → AreRecsUnder (moment m2.graph t3 m2.scope) bound recs types m4 (Err e)
        → IsValUnder m1 n at own binds recs m4 (Err e)
    val_third bound start s e l =
        goes_on (behind_binds n at own recs) core h.elabs
        (goes_on (behind_pats n at own recs groups1) h.elabs.core (pats_made {m = m2} recs h.elabs.core k)
        (stops (end_of n at own recs groups1 k.answers.rows)
        (recs_as bound recs types k.answers.rows (rec_variables after1 after2 bound k.answers.rows start k.answers.bound s e) k.answers.typed l)))

    pub val_done : {m4 : Moment} {t5 : Table} {r : Result (Made OwnVariable) Fault} (bound : Rows OwnVariable)
        (start : ℕ) → start ≡ length after1 → bound ≡ drop start after2
        → AreRecsUnder (moment m2.graph t3 m2.scope) bound recs types m4 (Ok tt) → t5 ≡ m4.table
        → Answers (val_end (scope_at m4) at (kept_since n (state m4.table).stands) own groups2 (progress_at m4))
        (λ made. (env_of_made m4.graph own_entry made, progress m4.table m4.graph)) r
        → IfOk r (λ made. made.structures ≡ [])
        → IsValUnder m1 n at own binds recs (moment m4.graph t5 m4.scope) r
    val_done {m4} {t5} {r} bound start s e l same a f =
        let q = recs_as bound recs types k.answers.rows (rec_variables after1 after2 bound k.answers.rows start k.answers.bound s e) k.answers.typed l in
        let here : scope_at m4 ≡ scope_at m2 = scope_kept {old = m2} {new = m4} h.elabs.core
        (passes_then (passes_table m2 t3 m2.scope k.goes.ids) q.goes) q.left in
        goes_on (behind_binds n at own recs) core h.elabs
        (goes_on (behind_pats n at own recs groups1) h.elabs.core (pats_made {m = m2} recs h.elabs.core k)
        (goes_on (end_of n at own recs groups1 k.answers.rows)
        (core_later m2.graph m2.table t3 m2.scope k.goes.ids h.elabs.core) q
        (end_as n at own recs groups1 groups2 k.answers.rows q.core same
        (k.answers.added ∙ ap (λ (sc : Scope). groups1 ++ rec_groups sc.env (rules_of recs) k.answers.rows) (sym here))
        a f)))

    pub val_distinct : are_distinct (groups_bound groups2) ≡ true
    val_distinct = ap are_distinct (k.answers.whole (h.behind.whole refl)) ∙ k.answers.distinct (h.behind.distinct refl)

    pub val_front : {m4 : Moment} {r : Result (Unit {0}) Fault} (past : Table) (bound : Rows OwnVariable)
        → IsFrontOf past m1.table → AreRecsUnder (moment m2.graph t3 m2.scope) bound recs types m4 r
        → IsFrontOf past m4.table
    val_front {m4} past bound f l =
        front_later past m1.table m4.table f
        (passes_then h.elabs.goes (passes_then (passes_table m2 t3 m2.scope k.goes.ids) l.goes)).ids.front
