-- The expressions of `rec` bindings, one after another.
use Rattle.std.proofs.Common.{◌≡◌, suc, List, [], ◌∷◌, map, refl, sym, ap, ◌∙◌, subst, Some, None}
use Rattle.std.specs.Prelude.{Result, Ok, Err}
use Rattle.cm_base.specs.declared.fault.Fault.{Fault}
use Rattle.cm_base.specs.declared.fault.Fault.TheVariants as fault
use Rattle.sml_trees.specs.declared.name.At.{At}
use Rattle.semantic_objects.specs.declared.name.TyId.{TyId}
use Rattle.unification.specs.Types.{Ty}
use Rattle.unification.specs.Unification.{depth}
use Rattle.type_nodes.specs.Tables.{Table, Has, type_of}
use Rattle.type_schemes.specs.Schemes.{HaveAll}
use Rattle.bare_phrases.specs.Phrases.{Rules}
use Rattle.bare_phrases.specs.PhraseOf.{rules_of}
use Rattle.static_semantics.specs.Inferring.{Progress, Scope, Answer, ◌>>=◌, gives, Bound, unify_at}
use Rattle.static_semantics.specs.PatternInference.{pat_at}
use Rattle.static_semantics.specs.CoreInference.{RecPats, joined, infer_exp, infer_rec_exps}
use Rattle.type_phrases.specs.Inferred.{Answers}
use Rattle.type_phrases.proofs.Keeping.{keeps_all, all_later, types_later}
use Rattle.core_rules.specs.Rules.{IsRule}
use Rattle.core_rules.specs.Moments.{Moment, moment, scope_at, progress_at, IsCoreAt, typed_as, Passes, Elabs}
use Rattle.core_rules.specs.Expressions.{IsExp}
use Rattle.core_rules.proofs.Chains.{passes_table, passes_then, scope_kept, stops, goes_on, answers_stop}
use Rattle.core_rules.specs.Bindings.{Nothing}
use Rattle.core_rules.specs.RecBindings.{infer_rec_exp, infer_rec_exps_by, read_progress, IsRecExp, AreRecExps}
use Rattle.core_rules.proofs.Binding.{Row, joins}

-- ---- by the types of patterns

same_behind : {A B : Type 0} (m : Answer A) (f g : A → Answer B) → ((x : A) → f x ≡ g x) → (m >>= f) ≡ (m >>= g)
same_behind None f g h = refl
same_behind (Some (Err d)) f g h = refl
same_behind (Some (Ok x)) f g h = h x

rule_last : (n : Answer Progress) (ty : Ty) (k : Progress → Answer Progress)
    → (n >>= k) ≡ (((n >>= λ u. gives (ty, u)) >>= λ (q : Ty × Progress). gives q.1) >>= k)
rule_last None ty k = refl
rule_last (Some (Err d)) ty k = refl
rule_last (Some (Ok u)) ty k = refl

rule_exp : (n : Answer (Ty × Progress)) (h : Ty → Progress → Answer Progress) (ty : Ty) (k : Progress → Answer Progress)
    → (n >>= λ e. h e.0 e.1 >>= k)
    ≡ ((n >>= λ e. (h e.0 e.1 >>= λ u. gives (ty, u)) >>= λ (q : Ty × Progress). gives q.1) >>= k)
rule_exp None h ty k = refl
rule_exp (Some (Err d)) h ty k = refl
rule_exp (Some (Ok e)) h ty k = rule_last (h e.0 e.1) ty k

pub by_types : (sc : Scope) (rules : Rules) (rows : RecPats) (st : Progress)
    → infer_rec_exps depth sc rules rows st
    ≡ infer_rec_exps_by sc rules (map (λ (row : Ty × Bound). row.0) rows) st
by_types sc Rules.EndOfRules rows st = refl
by_types sc (Rules.Rule pat exp rest) [] st = refl
by_types sc (Rules.Rule pat exp rest) (row ∷ rows) st =
    rule_exp (infer_exp depth sc exp st) (λ v s. unify_at depth sc (pat_at pat) row.0 v s) row.0
    (λ u. infer_rec_exps depth sc rest rows u)
    ∙ same_behind (infer_rec_exp sc (pat, exp) row.0 st) (λ u. infer_rec_exps depth sc rest rows u)
    (λ u. infer_rec_exps_by sc rest (map (λ (row : Ty × Bound). row.0) rows) u) (λ u. by_types sc rest rows u)

-- ---- one expression

abbrev rec_end : Scope → Ty × Progress → Answer Progress
rec_end sc q = gives q.1

abbrev rec_rest : Row → Ty → Scope → Ty × Progress → Answer Progress
rec_rest row u sc e = joined depth sc (pat_at row.0) u e.0 e.1 >>= rec_end sc

module _ {m0 : Moment} (row : Row) (a : TyId) where
  pub rec_first : {m2 : Moment} {e : Fault} → IsExp m0 row.1 m2 (Err e) → IsRecExp m0 row a m2 (Err e)
  rec_first k = stops (rec_rest row (type_of m0.table a)) k

  pub rec_second : {m2 : Moment} {new : Table} {e : Fault} (b : TyId) (place : At) → IsCoreAt m0 → Has m0.table a
      → IsExp m0 row.1 m2 (Ok b) → place ≡ pat_at row.0
      → IsRule m2.graph m2.table new (λ sc. joined depth sc place (type_of m2.table a) (type_of m2.table b)
      (progress_at m2)) (Err e)
      → IsRecExp m0 row a (moment m2.graph new m2.scope) (Err e)
  rec_second {m2} {new} {e} b place core has k at l =
      goes_on (rec_rest row (type_of m0.table a)) core k
      (stops rec_end (joins row a b place k.core k.goes.ids has at l))

  pub rec_done : {m2 : Moment} {new : Table} {c : TyId} (b : TyId) (place : At) → IsCoreAt m0 → Has m0.table a
      → IsExp m0 row.1 m2 (Ok b) → place ≡ pat_at row.0
      → IsRule m2.graph m2.table new (λ sc. joined depth sc place (type_of m2.table a) (type_of m2.table b)
      (progress_at m2)) (Ok c)
      → IsRecExp m0 row a (moment m2.graph new m2.scope) (Ok tt)
  rec_done {m2} {new} {c} b place core has k at l =
      let m3 : Moment = moment m2.graph new m2.scope in
      let q = joins row a b place k.core k.goes.ids has at l in
      let ends : Elabs m3 (λ sc. rec_end sc (typed_as m3 c)) read_progress Nothing m3 (Ok tt) = record {
        infers = refl;
        has = tt;
        goes = passes_table m3 new m2.scope (keeps_all new);
        left = refl;
        core = q.core;
      } in
      goes_on (rec_rest row (type_of m0.table a)) core k (goes_on rec_end k.core q ends)

pub rec_of : {old new : Moment} {row other : Row} {r : Result (Unit {0}) Fault} (a : TyId) → row ≡ other
    → IsRecExp old other a new r → IsRecExp old row a new r
rec_of {old} {new} {row} {other} {r} a e h = subst (λ (z : Row). IsRecExp old z a new r) (sym e) h

-- ---- all of them

pub record RecExpsSoFar (begun now : Moment) (rows left : List Row) (types rest : List TyId) : Type 0 where
  pub left_is : infer_rec_exps_by (scope_at begun) (rules_of rows) (map (type_of begun.table) types) (progress_at begun)
      ≡ infer_rec_exps_by (scope_at begun) (rules_of left) (map (type_of now.table) rest) (progress_at now)
  pub have : HaveAll now.table rest
  pub goes : Passes begun now
  pub same : now.scope ≡ begun.scope
  pub begins : IsCoreAt begun
  pub core : IsCoreAt now

pub recs_begin : (m : Moment) (rows : List Row) (types rest : List TyId) → IsCoreAt m → HaveAll m.table types
    → rest ≡ types → RecExpsSoFar m m rows rows types rest
recs_begin m rows types rest core have e = subst (RecExpsSoFar m m rows rows types) (sym e) (record {
  left_is = refl;
  have = have;
  goes = passes_table m m.table m.scope (keeps_all m.table);
  same = refl;
  begins = core;
  core = core;
})

abbrev others : Scope → List Row → List Ty → Progress → Answer Progress
others sc rest types u = infer_rec_exps_by sc (rules_of rest) types u

rec_at : {begun now : Moment} {rows left behind : List Row} {row : Row} {types rest more : List TyId} {a : TyId}
    → RecExpsSoFar begun now rows left types rest → left ≡ row ∷ behind → rest ≡ a ∷ more
    → infer_rec_exps_by (scope_at begun) (rules_of rows) (map (type_of begun.table) types) (progress_at begun)
    ≡ (infer_rec_exp (scope_at begun) row (type_of now.table a) (progress_at now)
    >>= others (scope_at begun) behind (map (type_of now.table) more))
rec_at {begun} {now} {rows} {left} {behind} {row} {types} {rest} {more} {a} s e f =
    s.left_is
    ∙ ap (λ (z : List Row). infer_rec_exps_by (scope_at begun) (rules_of z) (map (type_of now.table) rest)
    (progress_at now)) e
    ∙ ap (λ (z : List TyId). infer_rec_exps_by (scope_at begun) (rules_of (row ∷ behind)) (map (type_of now.table) z)
    (progress_at now)) f

rec_begun : {begun now new : Moment} {r : Result (Unit {0}) Fault} (row : Row) (a : TyId) → IsCoreAt begun
    → Passes begun now → now.scope ≡ begun.scope → IsRecExp now row a new r
    → Answers (infer_rec_exp (scope_at begun) row (type_of now.table a) (progress_at now)) (read_progress new) r
rec_begun {begun} {now} {new} {r} row a core p e k =
    subst (λ sc. Answers (infer_rec_exp sc row (type_of now.table a) (progress_at now)) (read_progress new) r)
    (scope_kept core p e) k.infers

pub has_first : {rest more : List TyId} {a : TyId} (t : Table) → HaveAll t rest → rest ≡ a ∷ more → Has t a
has_first {rest} {more} {a} t h e = subst (HaveAll t) e h 0 a refl

has_others : {rest more : List TyId} {a : TyId} (t : Table) → HaveAll t rest → rest ≡ a ∷ more → HaveAll t more
has_others {rest} {more} {a} t h e = λ i x f. subst (HaveAll t) e h (suc i) x f

pub recs_next : {begun now new : Moment} {rows left behind : List Row} {row : Row} {types rest more : List TyId}
    {a : TyId} → RecExpsSoFar begun now rows left types rest → left ≡ row ∷ behind → rest ≡ a ∷ more
    → IsRecExp now row a new (Ok tt) → RecExpsSoFar begun new rows behind types more
recs_next {begun} {now} {new} {rows} {left} {behind} {row} {types} {rest} {more} {a} s e f k =
    let have : HaveAll now.table more = has_others now.table s.have f in
    record {
      left_is = rec_at s e f
          ∙ ap (λ (m : Answer Progress). m >>= others (scope_at begun) behind (map (type_of now.table) more))
          (rec_begun row a s.begins s.goes s.same k)
          ∙ ap (λ (z : List Ty). others (scope_at begun) behind z (progress_at new))
          (sym (types_later now.table new.table more k.goes.ids have));
      have = all_later now.table new.table more k.goes.ids have;
      goes = passes_then s.goes k.goes;
      same = k.left ∙ s.same;
      begins = s.begins;
      core = k.core;
    }

pub recs_fail : {begun now new : Moment} {rows left behind : List Row} {row : Row} {types rest more : List TyId}
    {a : TyId} {e : Fault} → RecExpsSoFar begun now rows left types rest → left ≡ row ∷ behind → rest ≡ a ∷ more
    → IsRecExp now row a new (Err e) → AreRecExps begun rows types new (Err e)
recs_fail {begun} {now} {new} {rows} {left} {behind} {row} {types} {rest} {more} {a} {e} s f i k = record {
  infers = subst (λ (w : Answer Progress). Answers w (read_progress new) (Err e)) (sym (rec_at s f i))
      (answers_stop (infer_rec_exp (scope_at begun) row (type_of now.table a) (progress_at now))
      (others (scope_at begun) behind (map (type_of now.table) more)) (read_progress new) (read_progress new) e
      (rec_begun row a s.begins s.goes s.same k));
  has = tt;
  goes = passes_then s.goes k.goes;
  left = k.left ∙ s.same;
  core = k.core;
}

pub recs_stop : {begun now : Moment} {rows left : List Row} {types rest : List TyId}
    → RecExpsSoFar begun now rows left types rest → AreRecExps begun rows types now (Err fault.NoMemory)
recs_stop s = record { infers = tt; has = tt; goes = s.goes; left = s.same; core = s.core }

pub recs_end : {begun now : Moment} {rows left : List Row} {types rest : List TyId}
    → RecExpsSoFar begun now rows left types rest → left ≡ [] → AreRecExps begun rows types now (Ok tt)
recs_end {begun} {now} {rows} {left} {types} {rest} s e = record {
  infers = s.left_is
      ∙ ap (λ (z : List Row). infer_rec_exps_by (scope_at begun) (rules_of z) (map (type_of now.table) rest)
      (progress_at now)) e;
  has = tt;
  goes = s.goes;
  left = s.same;
  core = s.core;
}
