-- The fields of a record, one after the other.
use Rattle.std.proofs.Common.{◌≡◌, ℕ, ◌+◌, ◌<◌, ◌≤◌, List, [], ◌∷◌, ◌++◌, length, map, drop, get_or, refl, sym, ap, ◌∙◌, subst, Some, None}
use Rattle.std.specs.Prelude.{Result, Ok, Err, IfOk}
use Rattle.cm_base.specs.declared.fault.Fault.{Fault}
use Rattle.sml_trees.specs.declared.name.Name.{Name}
use Rattle.sml_trees.specs.declared.exp.ExpField.{ExpField, out-ExpField}
use Rattle.semantic_objects.specs.declared.name.TyId.{TyId}
use Rattle.semantic_objects.specs.Tables.{Table as Named, with_entry, with_all}
use Rattle.semantic_objects.proofs.Promised.{sets_entries}
use Rattle.unification.specs.Types.{Ty}
use Rattle.unification.specs.Unification.{depth}
use Rattle.type_nodes.specs.Tables.{Table, type_of}
use Rattle.sml_modules.specs.Items.{map_rows}
use Rattle.sml_types.proofs.Frames.{drop_past}
use Rattle.name_trails.specs.Trails.{Rows, last_entry}
use Rattle.bare_phrases.specs.Phrases.{ExpPhrase, ExpFields}
use Rattle.bare_phrases.specs.PhraseOf.{exp_phrase, exp_fields, exp_field_phrase}
use Rattle.bare_phrases.proofs.Forms.{exp_field_phrase-kept}
use Rattle.static_semantics.specs.Inferring.{Progress, Scope, Answer, ◌>>=◌, gives}
use Rattle.static_semantics.specs.TypeInference.{new_label}
use Rattle.static_semantics.specs.CoreInference.{infer_exp, infer_exp_fields}
use Rattle.core_scopes.proofs.Scoping.{map_append}
use Rattle.type_phrases.specs.Inferred.{Answers, KeepsTypes, HaveRows, made_fields}
use Rattle.type_phrases.proofs.Keeping.{keeps_all, rows_later, rows_have, rows_more}
use Rattle.type_phrases.proofs.Records.{differ_more}
use Rattle.core_rules.specs.Moments.{Moment, scope_at, progress_at, IsCoreAt, typed_as, Passes, Elabs}
use Rattle.core_rules.specs.Expressions.{IsExp, AreExpFields, IsExpField, AreLabelled, fields_at, infer_exp_field}
use Rattle.core_rules.proofs.Entering.{left_row}
use Rattle.core_rules.proofs.Chains.{passes_table, passes_then, scope_kept, stops, goes_on, answers_stop}

made_more : (t : Table) (rows new : Rows TyId) (name : List ℕ) (a : TyId) → new ≡ rows ++ (name, a) ∷ []
    → made_fields t new ≡ with_entry name (type_of t a) (made_fields t rows)
made_more t rows new name a e =
    ap (made_fields t) e
    ∙ ap (λ z. with_all z []) (map_append (type_of t) rows ((name, a) ∷ []))
    ∙ (sets_entries Ty).later name (type_of t a) (map_rows (type_of t) rows) []

made_later : (a b : Table) (rows : Rows TyId) → KeepsTypes a b → HaveRows a rows
    → made_fields b rows ≡ made_fields a rows
made_later a b rows h k = ap (λ z. with_all z []) (rows_later a b rows h k)

-- ---- one field

abbrev field_end : Name → Named Ty → Scope → Ty × Progress → Answer (Named Ty × Progress)
field_end label made sc r = gives (with_entry label.text r.0 made, r.1)

abbrev field_rest : Name → ExpPhrase → Named Ty → Progress → Scope → Unit {0} → Answer (Named Ty × Progress)
field_rest label p made st sc u = infer_exp depth sc p st >>= field_end label made sc

abbrev IsNew : Moment → Name → Rows TyId → Result (Unit {0}) Fault → Type 0
IsNew m label rows r =
    Answers (new_label (scope_at m) label (made_fields m.table rows)) (λ (u : Unit {0}). tt) r

has_nothing : (r : Result (Unit {0}) Fault) → IfOk r (λ u. Unit {0})
has_nothing (Ok u) = tt
has_nothing (Err e) = tt

labelled : (m : Moment) (label : Name) (rows : Rows TyId) (r : Result (Unit {0}) Fault) → IsCoreAt m
    → IsNew m label rows r → Elabs m (λ sc. new_label sc label (made_fields m.table rows)) (λ n (u : Unit {0}). tt) (λ t u. Unit {0}) m r
labelled m label rows r core h = record {
  infers = h;
  has = has_nothing r;
  goes = passes_table m m.table m.scope (keeps_all m.table);
  left = refl;
  core = core;
}

as_field : {old new : Moment} {r : Result (Unit {0}) Fault} (x : ExpField) (rows more : Rows TyId)
    → IsExpField old ((out-ExpField x).label, exp_phrase (out-ExpField x).exp) rows more new r
    → IsExpField old (exp_field_phrase x) rows more new r
as_field {old} {new} {r} x rows more h =
    subst (λ (row : Name × ExpPhrase). IsExpField old row rows more new r) (sym (exp_field_phrase-kept x)) h

module _ {m0 : Moment} (x : ExpField) (rows : Rows TyId) where
  pub field_first : {e : Fault} → IsCoreAt m0 → IsNew m0 (out-ExpField x).label rows (Err e)
      → IsExpField m0 (exp_field_phrase x) rows rows m0 (Err e)
  field_first {e} core h =
      as_field x rows rows (stops (field_rest (out-ExpField x).label (exp_phrase (out-ExpField x).exp)
      (made_fields m0.table rows) (progress_at m0)) (labelled m0 (out-ExpField x).label rows (Err e) core h))

  pub field_second : {m1 : Moment} {e : Fault} → IsCoreAt m0 → IsNew m0 (out-ExpField x).label rows (Ok tt)
      → IsExp m0 (exp_phrase (out-ExpField x).exp) m1 (Err e)
      → IsExpField m0 (exp_field_phrase x) rows rows m1 (Err e)
  field_second {m1} {e} core h k =
      as_field x rows rows (goes_on (field_rest (out-ExpField x).label (exp_phrase (out-ExpField x).exp)
      (made_fields m0.table rows) (progress_at m0)) core (labelled m0 (out-ExpField x).label rows (Ok tt) core h)
      (stops (field_end (out-ExpField x).label (made_fields m0.table rows)) k))

  pub field_done : {m1 : Moment} {a : TyId} (more : Rows TyId) → IsCoreAt m0
      → IsNew m0 (out-ExpField x).label rows (Ok tt) → last_entry rows (out-ExpField x).label.text ≡ None
      → AreLabelled m0.table rows → IsExp m0 (exp_phrase (out-ExpField x).exp) m1 (Ok a)
      → more ≡ rows ++ ((out-ExpField x).label.text, a) ∷ []
      → IsExpField m0 (exp_field_phrase x) rows more m1 (Ok tt)
  field_done {m1} {a} more core h free have k e =
      let label : Name = (out-ExpField x).label in
      let is : with_entry label.text (type_of m1.table a) (made_fields m0.table rows) ≡ made_fields m1.table more =
      sym (made_more m1.table rows more label.text a e ∙ ap (with_entry label.text (type_of m1.table a))
      (made_later m0.table m1.table rows k.goes.ids have.0)) in
      let ends : Elabs m1 (λ sc. field_end label (made_fields m0.table rows) sc (typed_as m1 a))
      (λ m (u : Unit {0}). fields_at m more) (λ t u. AreLabelled t more) m1 (Ok tt) =
      record {
        infers = ap (λ (z : Named Ty). gives (z, progress_at m1)) is;
        has = (
          rows_more m1.table rows more label.text a (rows_have m0.table m1.table rows k.goes.ids have.0) k.has e,
          differ_more rows more label.text a have.1 free e,
        );
        goes = passes_table m1 m1.table m1.scope (keeps_all m1.table);
        left = refl;
        core = k.core;
      } in
      as_field x rows more (goes_on (field_rest label (exp_phrase (out-ExpField x).exp) (made_fields m0.table rows)
      (progress_at m0)) core (labelled m0 label rows (Ok tt) core h)
      (goes_on (field_end label (made_fields m0.table rows)) core k ends))

-- ---- all fields

abbrev pub listed : List ExpField → ExpFields
listed fields = exp_fields (map exp_field_phrase fields)

joined : (m : Answer (Unit {0})) (n : Answer (Ty × Progress)) (f : Ty × Progress → Named Ty × Progress)
    (k : Named Ty × Progress → Answer (Named Ty × Progress))
    → (m >>= λ u. n >>= λ r. k (f r)) ≡ ((m >>= λ u. n >>= λ r. gives (f r)) >>= k)
joined None n f k = refl
joined (Some (Err d)) n f k = refl
joined (Some (Ok u)) None f k = refl
joined (Some (Ok u)) (Some (Err d)) f k = refl
joined (Some (Ok u)) (Some (Ok r)) f k = refl

one_field : (sc : Scope) (row : Name × ExpPhrase) (rest : ExpFields) (made : Named Ty) (st : Progress)
    → infer_exp_fields depth sc (ExpFields.Field row.0 row.1 rest) made st
    ≡ (infer_exp_field sc row made st >>= λ q. infer_exp_fields depth sc rest q.0 q.1)
one_field sc row rest made st =
    joined (new_label sc row.0 made) (infer_exp depth sc row.1 st) (λ r. (with_entry row.0.text r.0 made, r.1))
    (λ q. infer_exp_fields depth sc rest q.0 q.1)

-- what holds before a field: what is left gives what the whole gives
pub record FieldsSoFar (begun now : Moment) (all : List ExpField) (i : ℕ) (rows : Rows TyId) : Type 0 where
  pub left : infer_exp_fields depth (scope_at begun) (listed all) [] (progress_at begun)
      ≡ infer_exp_fields depth (scope_at begun) (listed (drop i all)) (made_fields now.table rows) (progress_at now)
  pub have : AreLabelled now.table rows
  pub goes : Passes begun now
  pub same : now.scope ≡ begun.scope
  pub begins : IsCoreAt begun
  pub core : IsCoreAt now

pub fields_begin : (m : Moment) (all : List ExpField) (rows : Rows TyId) → IsCoreAt m → rows ≡ []
    → FieldsSoFar m m all 0 rows
fields_begin m all rows core e =
    subst (λ (z : Rows TyId). FieldsSoFar m m all 0 z) (sym e) (record {
      left = refl;
      have = (tt, tt);
      goes = passes_table m m.table m.scope (keeps_all m.table);
      same = refl;
      begins = core;
      core = core;
    })

fields_left : (begun now : Moment) (all : List ExpField) (i : ℕ) (rows : Rows TyId) (x : ExpField)
    → FieldsSoFar begun now all i rows → i < length all → x ≡ get_or all i x
    → infer_exp_fields depth (scope_at begun) (listed all) [] (progress_at begun)
    ≡ (infer_exp_field (scope_at begun) (exp_field_phrase x) (made_fields now.table rows) (progress_at now)
    >>= λ q. infer_exp_fields depth (scope_at begun) (listed (drop (i + 1) all)) q.0 q.1)
fields_left begun now all i rows x s h e =
    s.left
    ∙ ap (λ fields. infer_exp_fields depth (scope_at begun) (listed fields) (made_fields now.table rows)
    (progress_at now)) (left_row all i x h e)
    ∙ one_field (scope_at begun) (exp_field_phrase x) (listed (drop (i + 1) all)) (made_fields now.table rows)
    (progress_at now)

field_begun : {begun now new : Moment} {r : Result (Unit {0}) Fault} (row : Name × ExpPhrase) (rows more : Rows TyId)
    → IsCoreAt begun → Passes begun now → now.scope ≡ begun.scope → IsExpField now row rows more new r
    → Answers (infer_exp_field (scope_at begun) row (made_fields now.table rows) (progress_at now))
    (λ (u : Unit {0}). fields_at new more) r
field_begun {begun} {now} {new} {r} row rows more core p e k =
    subst (λ sc. Answers (infer_exp_field sc row (made_fields now.table rows) (progress_at now))
    (λ (u : Unit {0}). fields_at new more) r) (scope_kept core p e) k.infers

pub fields_next : {begun now new : Moment} {all : List ExpField} {i : ℕ} {rows : Rows TyId} {x : ExpField}
    (more : Rows TyId) → FieldsSoFar begun now all i rows → i < length all → x ≡ get_or all i x
    → IsExpField now (exp_field_phrase x) rows more new (Ok tt) → FieldsSoFar begun new all (i + 1) more
fields_next {begun} {now} {new} {all} {i} {rows} {x} more s h e k = record {
  left = fields_left begun now all i rows x s h e
      ∙ ap (λ (m : Answer (Named Ty × Progress)). m >>= λ q. infer_exp_fields depth (scope_at begun)
      (listed (drop (i + 1) all)) q.0 q.1) (field_begun (exp_field_phrase x) rows more s.begins s.goes s.same k);
  have = k.has;
  goes = passes_then s.goes k.goes;
  same = k.left ∙ s.same;
  begins = s.begins;
  core = k.core;
}

pub fields_fail : {begun now new : Moment} {all : List ExpField} {i : ℕ} {rows : Rows TyId} {x : ExpField}
    {e : Fault} (more : Rows TyId) → FieldsSoFar begun now all i rows → i < length all → x ≡ get_or all i x
    → IsExpField now (exp_field_phrase x) rows more new (Err e) → AreExpFields begun (listed all) new (Err e)
fields_fail {begun} {now} {new} {all} {i} {rows} {x} {e} more s h q k =
    let on : Named Ty × Progress → Answer (Named Ty × Progress) =
    λ w. infer_exp_fields depth (scope_at begun) (listed (drop (i + 1) all)) w.0 w.1 in
    record {
      infers = subst (λ m. Answers m (fields_at new) (Err e)) (sym (fields_left begun now all i rows x s h q))
          (answers_stop (infer_exp_field (scope_at begun) (exp_field_phrase x) (made_fields now.table rows)
          (progress_at now)) on (λ (u : Unit {0}). fields_at new more) (fields_at new) e
          (field_begun (exp_field_phrase x) rows more s.begins s.goes s.same k));
      has = tt;
      goes = passes_then s.goes k.goes;
      left = k.left ∙ s.same;
      core = k.core;
    }

pub fields_end : {begun now : Moment} {all : List ExpField} {i : ℕ} {rows : Rows TyId}
    → FieldsSoFar begun now all i rows → length all ≤ i → AreExpFields begun (listed all) now (Ok rows)
fields_end {begun} {now} {all} {i} {rows} s h = record {
  infers = s.left
      ∙ ap (λ fields. infer_exp_fields depth (scope_at begun) (listed fields) (made_fields now.table rows)
      (progress_at now)) (drop_past all i h);
  has = s.have;
  goes = s.goes;
  left = s.same;
  core = s.core;
}
