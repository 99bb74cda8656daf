-- Expressions with parts: what a call answers of each, from what it answers of its parts.
use Rattle.std.proofs.Common.{◌≡◌, refl, sym, subst}
use Rattle.std.specs.Prelude.{Result, Ok, Err, IfOk}
use Rattle.cm_base.specs.declared.fault.Fault.{Fault}
use Rattle.sml_trees.specs.declared.name.At.{At}
use Rattle.semantic_objects.specs.declared.name.TyId.{TyId}
use Rattle.semantic_objects.specs.Tables.{Table as Named}
use Rattle.unification.specs.Types.{Ty, State}
use Rattle.unification.specs.Unification.{depth}
use Rattle.type_nodes.specs.Tables.{Table, Has, state, type_of}
use Rattle.sml_modules.specs.Graphs.{Graph}
use Rattle.name_trails.specs.Trails.{Rows}
use Rattle.bare_phrases.specs.Phrases.{TyPhrase, ExpPhrase, ExpFields, Rules}
use Rattle.static_semantics.specs.BasicTypes.{record_ty}
use Rattle.static_semantics.specs.Inferring.{Progress, Scope, Answer, ◌>>=◌, with_types, sized, sized_exp}
use Rattle.static_semantics.specs.TypeInference.{infer_ty}
use Rattle.static_semantics.specs.CoreInference.{infer_exp, infer_match, applied, joined, handled, raised}
use Rattle.core_scopes.specs.Scopes.{Bindings}
use Rattle.type_phrases.specs.Inferred.{Answers, Inferred, KeepsTypes, made_fields, progress, home_scope}
use Rattle.pattern_elab.specs.declared.own.OwnVariable.{OwnVariable}
use Rattle.pattern_elab.proofs.Scoping.{core_later}
use Rattle.core_rules.specs.Rules.{IsRule}
use Rattle.core_rules.specs.Entered.{IsEntered}
use Rattle.core_rules.specs.Moments.{Moment, moment, scope_at, progress_at, IsCoreAt, typed_as, Elabs}
use Rattle.core_rules.specs.Expressions.{IsExp, IsUnder, IsMatch, AreExpFields, IsConstrained, ends_sized, infer_constraint, fields_at}
use Rattle.core_rules.proofs.Chains.{passes_table, core_kept, stops, goes_on, ruled, has_same, IsSized, checked, rule_stops, rule_checked}
use Rattle.core_rules.proofs.Leaves.{made_sized}

-- ---- phrases as they are written, and those without parts

pub as_phrase : {old new : Moment} {p q : ExpPhrase} {r : Result TyId Fault} → p ≡ q → IsExp old q new r
    → IsExp old p new r
as_phrase {old} {new} {p} {q} {r} e h = subst (λ z. IsExp old z new r) (sym e) h

pub plain : (m : Moment) (new : Table) (p : ExpPhrase) (r : Result TyId Fault)
    → Inferred (infer_exp depth (scope_at m) p (progress_at m)) r new m.graph → IfOk r (Has new)
    → KeepsTypes m.table new → IsCoreAt m → IsExp m p (moment m.graph new m.scope) r
plain m new p r h has ids core = record {
  infers = h;
  has = has;
  goes = passes_table m new m.scope ids;
  left = refl;
  core = core_later m.graph m.table new m.scope ids core;
}

-- ---- applications

abbrev app_last : At → Ty → Scope → Ty × Progress → Answer (Ty × Progress)
app_last at u sc a = ends_sized sc at (applied depth sc at u a.0 a.1)

abbrev app_rest : ExpPhrase → At → Scope → Ty × Progress → Answer (Ty × Progress)
app_rest x at sc f = infer_exp depth sc x f.1 >>= app_last at f.0 sc

module _ {m0 m1 : Moment} (f x : ExpPhrase) (at : At) where
  pub app_first : {e : Fault} → IsExp m0 f m1 (Err e) → IsExp m0 (ExpPhrase.App f x at) m1 (Err e)
  app_first h = stops (app_rest x at) h

  pub app_second : {m2 : Moment} {a : TyId} {e : Fault} → IsCoreAt m0 → IsExp m0 f m1 (Ok a) → IsExp m1 x m2 (Err e)
      → IsExp m0 (ExpPhrase.App f x at) m2 (Err e)
  app_second {m2} {a} core h k = goes_on (app_rest x at) core h (stops (app_last at (type_of m1.table a)) k)

  pub app_done : {m2 : Moment} {new : Table} {a b : TyId} {r : Result TyId Fault} → IsCoreAt m0
      → IsExp m0 f m1 (Ok a) → IsExp m1 x m2 (Ok b)
      → IsRule m2.graph m2.table new (λ sc. app_last at (type_of m2.table a) sc (typed_as m2 b)) r
      → IsExp m0 (ExpPhrase.App f x at) (moment m2.graph new m2.scope) r
  app_done {m2} {new} {a} {b} {r} core h k l =
      goes_on (app_rest x at) core h (goes_on (app_last at (type_of m1.table a)) h.core k
      (ruled k.core (subst (λ u. IsRule m2.graph m2.table new (λ sc. app_last at u sc (typed_as m2 b)) r)
      (k.goes.ids.types a h.has) l)))

-- ---- constraints

abbrev constraint_last : At → Ty → Progress → Scope → Ty → Answer (Ty × Progress)
constraint_last at u st sc v = ends_sized sc at (joined depth sc at u v st)

-- the type that is written
abbrev read_type : Moment → TyId → Ty
read_type m a = type_of m.table a

abbrev IsWritten : Moment → TyPhrase → Table → Result TyId Fault → Type 0
IsWritten m ty new r = Answers (infer_ty (scope_at m) ty) (type_of new) r

written : (m : Moment) (new : Table) (ty : TyPhrase) (r : Result TyId Fault) → IsWritten m ty new r → IfOk r (Has new)
    → KeepsTypes m.table new → IsCoreAt m
    → Elabs m (λ sc. infer_ty sc ty) read_type Has (moment m.graph new m.scope) r
written m new ty r h has k core = record {
  infers = h;
  has = has;
  goes = passes_table m new m.scope k;
  left = refl;
  core = core_later m.graph m.table new m.scope k core;
}

-- the rule, with the expression's type and what is known as they were
abbrev IsJoined : Graph → Table → At → TyId → TyId → Table → Result TyId Fault → Type 0
IsJoined g t at a w new r =
    IsRule g t new (λ sc. joined depth sc at (type_of t a) (type_of t w) (progress t g)) r

constraint_rule : (m : Moment) (t2 new : Table) (at : At) (a w : TyId) (r : Result TyId Fault) → IsCoreAt m
    → Has m.table a → KeepsTypes m.table t2 → state t2 ≡ state m.table
    → IsRule m.graph t2 new (λ sc. constraint_last at (type_of t2 a) (progress t2 m.graph) sc (type_of t2 w)) r
    → Elabs (moment m.graph t2 m.scope)
    (λ sc. constraint_last at (type_of m.table a) (progress_at m) sc (type_of t2 w)) typed_as Has
    (moment m.graph new m.scope) r
constraint_rule m t2 new at a w r core has k s h =
    ruled {m = moment m.graph t2 m.scope} (core_later m.graph m.table t2 m.scope k core)
    (subst (λ (z : State). IsRule m.graph t2 new (λ sc. constraint_last at (type_of m.table a)
    (with_types z (progress_at m)) sc (type_of t2 w)) r) s
    (subst (λ u. IsRule m.graph t2 new (λ sc. constraint_last at u (progress t2 m.graph) sc (type_of t2 w)) r)
    (k.types a has) h))

module _ {m : Moment} (ty : TyPhrase) (at : At) (a : TyId) where
  pub constraint_first : {t2 : Table} {e : Fault} → IsCoreAt m → IsWritten m ty t2 (Err e) → KeepsTypes m.table t2
      → IsConstrained m at a ty (moment m.graph t2 m.scope) (Err e)
  constraint_first {t2} {e} core i k =
      stops (constraint_last at (type_of m.table a) (progress_at m)) (written m t2 ty (Err e) i tt k core)

  constraint_on : {t2 new : Table} {r : Result TyId Fault} (w : TyId) → IsCoreAt m → Has m.table a
      → IsWritten m ty t2 (Ok w) → Has t2 w → state t2 ≡ state m.table → KeepsTypes m.table t2
      → IsRule m.graph t2 new (λ sc. constraint_last at (type_of t2 a) (progress t2 m.graph) sc (type_of t2 w)) r
      → IsConstrained m at a ty (moment m.graph new m.scope) r
  constraint_on {t2} {new} {r} w core has i there s k l =
      goes_on (constraint_last at (type_of m.table a) (progress_at m)) core (written m t2 ty (Ok w) i there k core)
      (constraint_rule m t2 new at a w r core has k s l)

  pub constraint_second : {t2 new : Table} {e : Fault} (w : TyId) → IsCoreAt m → Has m.table a
      → IsWritten m ty t2 (Ok w) → Has t2 w → state t2 ≡ state m.table → KeepsTypes m.table t2
      → IsJoined m.graph t2 at a w new (Err e) → IsConstrained m at a ty (moment m.graph new m.scope) (Err e)
  constraint_second w core has i there s k l = constraint_on w core has i there s k (rule_stops at l)

  pub constraint_done : {t2 new : Table} {y : TyId} {r : Result TyId Fault} (w : TyId) → IsCoreAt m → Has m.table a
      → IsWritten m ty t2 (Ok w) → Has t2 w → state t2 ≡ state m.table → KeepsTypes m.table t2
      → IsJoined m.graph t2 at a w new (Ok y) → IsSized (moment m.graph new m.scope) at y r
      → IfOk r (λ same. same ≡ y) → IsConstrained m at a ty (moment m.graph new m.scope) r
  constraint_done w core has i there s k l z same =
      constraint_on w core has i there s k (rule_checked at l z same)

abbrev typed_rest : TyPhrase → At → Scope → Ty × Progress → Answer (Ty × Progress)
typed_rest ty at sc e = infer_constraint sc at e.0 ty e.1

module _ {m0 m1 : Moment} (p : ExpPhrase) (ty : TyPhrase) (at : At) where
  pub typed_first : {e : Fault} → IsExp m0 p m1 (Err e) → IsExp m0 (ExpPhrase.Typed p ty at) m1 (Err e)
  typed_first h = stops (typed_rest ty at) h

  pub typed_done : {m2 : Moment} {a : TyId} {r : Result TyId Fault} → IsCoreAt m0 → IsExp m0 p m1 (Ok a)
      → IsConstrained m1 at a ty m2 r → IsExp m0 (ExpPhrase.Typed p ty at) m2 r
  typed_done core h k = goes_on (typed_rest ty at) core h k

-- ---- handlers

abbrev handle_last : At → Ty → Scope → Ty × Progress → Answer (Ty × Progress)
handle_last at u sc q = ends_sized sc at (handled depth sc at u q.0 q.1)

abbrev handle_rest : Rules → At → Scope → Ty × Progress → Answer (Ty × Progress)
handle_rest rules at sc e = infer_match depth sc rules e.1 >>= handle_last at e.0 sc

module _ {m0 m1 : Moment} (p : ExpPhrase) (rules : Rules) (at : At) where
  pub handle_first : {e : Fault} → IsExp m0 p m1 (Err e) → IsExp m0 (ExpPhrase.Handle p rules at) m1 (Err e)
  handle_first h = stops (handle_rest rules at) h

  pub handle_second : {m2 : Moment} {a : TyId} {e : Fault} → IsCoreAt m0 → IsExp m0 p m1 (Ok a)
      → IsMatch m1 rules m2 (Err e) → IsExp m0 (ExpPhrase.Handle p rules at) m2 (Err e)
  handle_second {m2} {a} core h k =
      goes_on (handle_rest rules at) core h (stops (handle_last at (type_of m1.table a)) k)

  pub handle_done : {m2 : Moment} {new : Table} {a b : TyId} {r : Result TyId Fault} → IsCoreAt m0
      → IsExp m0 p m1 (Ok a) → IsMatch m1 rules m2 (Ok b)
      → IsRule m2.graph m2.table new (λ sc. handle_last at (type_of m2.table a) sc (typed_as m2 b)) r
      → IsExp m0 (ExpPhrase.Handle p rules at) (moment m2.graph new m2.scope) r
  handle_done {m2} {new} {a} {b} {r} core h k l =
      goes_on (handle_rest rules at) core h (goes_on (handle_last at (type_of m1.table a)) h.core k
      (ruled k.core (subst (λ u. IsRule m2.graph m2.table new (λ sc. handle_last at u sc (typed_as m2 b)) r)
      (k.goes.ids.types a h.has) l)))

-- ---- `raise`

abbrev raise_rest : At → Scope → Ty × Progress → Answer (Ty × Progress)
raise_rest at sc e = ends_sized sc at (raised depth sc at e.0 e.1)

module _ {m0 m1 : Moment} (p : ExpPhrase) (at : At) where
  pub raise_first : {e : Fault} → IsExp m0 p m1 (Err e) → IsExp m0 (ExpPhrase.Raise p at) m1 (Err e)
  raise_first h = stops (raise_rest at) h

  pub raise_done : {new : Table} {a : TyId} {r : Result TyId Fault} → IsCoreAt m0 → IsExp m0 p m1 (Ok a)
      → IsRule m1.graph m1.table new (λ sc. raise_rest at sc (typed_as m1 a)) r
      → IsExp m0 (ExpPhrase.Raise p at) (moment m1.graph new m1.scope) r
  raise_done core h l = goes_on (raise_rest at) core h (ruled {m = m1} h.core l)

-- ---- `fn`

abbrev fn_rest : At → Scope → Ty × Progress → Answer (Ty × Progress)
fn_rest at sc r = sized_exp sc at r

module _ {m0 m1 : Moment} (rules : Rules) (at : At) where
  pub fn_first : {e : Fault} → IsMatch m0 rules m1 (Err e) → IsExp m0 (ExpPhrase.Fn rules at) m1 (Err e)
  fn_first h = stops (fn_rest at) h

  pub fn_done : {a : TyId} {r : Result TyId Fault} → IsCoreAt m0 → IsMatch m0 rules m1 (Ok a) → IsSized m1 at a r
      → IfOk r (λ same. same ≡ a) → IsExp m0 (ExpPhrase.Fn rules at) m1 r
  fn_done {a} {r} core h z same = goes_on (fn_rest at) core h (checked at a h.core z same h.has)

-- ---- records

abbrev record_rest : At → Scope → Named Ty × Progress → Answer (Ty × Progress)
record_rest at sc r = sized_exp sc at (record_ty r.0, r.1)

-- the record's type, made of those of its fields
pub record_made : {g : Graph} {old new : Table} {r : Result TyId Fault} (at : At) (rows : Rows TyId) (a : TyId)
    → type_of new a ≡ record_ty (made_fields old rows) → state new ≡ state old → KeepsTypes old new → Has new a
    → Answers (sized (home_scope g) at (type_of new a) (progress new g)) (λ (same : TyId). tt) r
    → IfOk r (λ same. same ≡ a)
    → IsRule g old new (λ sc. sized_exp sc at (record_ty (made_fields old rows), progress old g)) r
record_made {g} {old} {new} {r} at rows a e s k has z same = record {
  infers = λ scope. made_sized g at old new a (record_ty (made_fields old rows)) r e s z same;
  has = has_same new a r has same;
  ids = k;
}

module _ {m0 m1 : Moment} (fields : ExpFields) (at : At) where
  pub record_first : {e : Fault} → AreExpFields m0 fields m1 (Err e)
      → IsExp m0 (ExpPhrase.Record fields at) m1 (Err e)
  record_first h = stops (record_rest at) h

  pub record_done : {new : Table} {rows : Rows TyId} {r : Result TyId Fault} → IsCoreAt m0
      → AreExpFields m0 fields m1 (Ok rows)
      → IsRule m1.graph m1.table new (λ sc. record_rest at sc (fields_at m1 rows)) r
      → IsExp m0 (ExpPhrase.Record fields at) (moment m1.graph new m1.scope) r
  record_done core h l = goes_on (record_rest at) core h (ruled {m = m1} h.core l)

-- ---- under the variables of a pattern

pub under_done : {m0 : Moment} {g : Graph} {t : Table} {s1 s2 s3 : Bindings OwnVariable} {r : Result TyId Fault}
    (bound : Rows OwnVariable) (p : ExpPhrase) → IsCoreAt m0 → IsEntered m0.graph bound m0.scope s1
    → IsExp (moment m0.graph m0.table s1) p (moment g t s2) r → s3 ≡ m0.scope
    → IsUnder m0 bound p (moment g t s3) r
under_done {m0} {g} {t} {s1} {s2} {s3} {r} bound p core h k left = record {
  infers = subst (λ sc. Inferred (infer_exp depth sc p (progress_at m0)) r t g) h.seen k.infers;
  has = k.has;
  goes = record { graph = k.goes.graph; home = k.goes.home; ids = k.goes.ids };
  left = left;
  core = core_kept {old = m0} {new = moment g t s3} core
      (record { graph = k.goes.graph; home = k.goes.home; ids = k.goes.ids }) left;
}
