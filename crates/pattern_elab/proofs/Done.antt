-- Patterns with parts: what a call answers of each, from what it answers of its parts.
use Rattle.std.proofs.Common.{◌≡◌, ℕ, ◌<◌, ◌≤◌, List, [], ◌∷◌, ◌++◌, length, map, get_or, refl, sym, ap, ◌∙◌, subst, Option, Some, None}
use Rattle.std.specs.Prelude.{Result, Ok, Err, IfOk}
use Rattle.cm_base.specs.declared.fault.Fault.{Fault}
use Rattle.cm_base.specs.declared.fault.Fault.TheVariants as fault
use Rattle.sml_trees.specs.declared.name.At.{At}
use Rattle.sml_trees.specs.declared.name.Name.{Name}
use Rattle.sml_trees.specs.declared.name.LongName.{LongName}
use Rattle.sml_trees.specs.declared.pat.PatField.{PatField, out-PatField}
use Rattle.semantic_objects.specs.declared.name.TyId.{TyId}
use Rattle.semantic_objects.specs.declared.entry.ValueEntry.{ValueEntry}
use Rattle.semantic_objects.specs.Symbols.{AreDiffering}
use Rattle.semantic_objects.specs.Tables.{entry, names_of}
use Rattle.semantic_objects.specs.Environments.{values}
use Rattle.unification.specs.Types.{Ty, State}
use Rattle.unification.specs.Unification.{unify_in, depth}
use Rattle.unification.specs.Instances.{instance}
use Rattle.type_nodes.specs.Tables.{Table, Has, state, type_of}
use Rattle.sml_modules.specs.Graphs.{Graph}
use Rattle.name_trails.specs.Trails.{Rows, last_entry}
use Rattle.bare_phrases.specs.Phrases.{TyPhrase, PatPhrase, PatFields}
use Rattle.bare_phrases.specs.PhraseOf.{pat_phrase, pat_fields, pat_field_phrase}
use Rattle.static_semantics.specs.BasicTypes.{record_ty}
use Rattle.static_semantics.specs.Inferring.{with_types, known, found_at, gives, sized, refuses_where, stands_for_con, name_at}
use Rattle.static_semantics.specs.TypeInference.{infer_ty, new_label}
use Rattle.static_semantics.specs.PatternInference.{infer_pat, as_con, arrow_in, bind_variable, typed_variable}
use Rattle.core_scopes.specs.Scopes.{Bindings}
use Rattle.type_phrases.specs.Inferred.{Answers, KeepsTypes, HaveRows, progress, home_scope, made_fields}
use Rattle.type_phrases.proofs.Keeping.{keeps_all, rows_have, rows_more}
use Rattle.type_phrases.proofs.Records.{differ_more}
use Rattle.pattern_elab.specs.declared.own.OwnVariable.{OwnVariable}
use Rattle.pattern_elab.specs.Scopes.{bound_of, scope_of}
use Rattle.pattern_elab.specs.Steps.{Unified, FindsSides, InferredPat, InferredPlain, BindsOn, IsPat, AreFields, IsField}
use Rattle.pattern_elab.proofs.Binding.{binds_only, binds_then, binds_after}
use Rattle.pattern_elab.proofs.Forms.{made_sized}
use Rattle.pattern_elab.proofs.Joins.{joins, joined_sized, joined_failed, typed_is, typed_first, typed_second, con_is, con_first, con_second, con_third, con_fourth, as_is, as_first, as_second, as_third, as_fourth, record_is, record_failed, as_phrase}
use Rattle.pattern_elab.proofs.Fields.{FieldsSoFar, field_done, field_first, field_second, fields_failed, fields_end}

has_same : (t : Table) (a : TyId) (r : Result TyId Fault) → Has t a → IfOk r (λ same. same ≡ a) → IfOk r (Has t)
has_same t a (Ok same) h k = subst (Has t) (sym k) h
has_same t a (Err e) h k = tt

-- ---- patterns without parts, and phrases

pub plain_done : (g : Graph) (old : Table) (scope : Bindings OwnVariable) (p q : PatPhrase) (new : Table)
    (rows : Rows OwnVariable) (r : Result TyId Fault) → p ≡ q
    → InferredPlain (λ b. infer_pat depth (scope_of g scope) q b (progress old g)) r new g → IfOk r (Has new)
    → KeepsTypes old new → IsPat g old scope p new rows rows r
plain_done g old scope p q new rows r e h has ids = record {
  infers = as_phrase g (scope_of g scope) p q (bound_of rows) (progress old g) new rows r e (h (bound_of rows));
  has = has;
  goes = binds_only old new rows ids;
}

pub phrase_done : (g : Graph) (old : Table) (scope : Bindings OwnVariable) (p q : PatPhrase) (new : Table)
    (before after : Rows OwnVariable) (r : Result TyId Fault) → p ≡ q → IsPat g old scope q new before after r
    → IsPat g old scope p new before after r
phrase_done g old scope p q new before after r e h = subst (λ z. IsPat g old scope z new before after r) (sym e) h

-- ---- `p : ty`

pub typed_done : (g : Graph) (scope : Bindings OwnVariable) (p : PatPhrase) (ty : TyPhrase) (at : At) (t0 t1 t2 t3 :
    Table)
    (b0 b1 : Rows OwnVariable) (a w : TyId) (r : Result TyId Fault)
    → IsPat g t0 scope p t1 b0 b1 (Ok a) → infer_ty (scope_of g scope) ty ≡ gives (type_of t2 w) → state t2 ≡ state t1
    → KeepsTypes t1 t2 → Unified g at (unify_in depth (type_of t2 a) (type_of t2 w) (state t2)) (Ok tt) (state t3)
    → KeepsTypes t2 t3 → Answers (sized (home_scope g) at (type_of t3 a) (progress t3 g)) (λ (same : TyId). tt) r
    → IfOk r (λ same. same ≡ a) → IsPat g t0 scope (PatPhrase.Typed p ty at) t3 b0 b1 r
typed_done g scope p ty at t0 t1 t2 t3 b0 b1 a w r h i s k u l m same =
    let e = typed_is g scope p ty at (bound_of b0) (bound_of b1) (progress t0 g) (progress t1 g) (progress t2 g)
    (type_of t1 a) (type_of t2 a) (type_of t2 w) h.infers i (k.types a h.has)
    (ap (λ (z : State). with_types z (progress t1 g)) s) in
    record {
      infers = subst (λ m. InferredPat m r t3 b1 g) (sym e)
          (joined_sized g scope at (type_of t2 a) (type_of t2 w) (type_of t2 a) b1 t2 t3 a r u
          (l.types a (k.ids a h.has)) m same);
      has = has_same t3 a r (l.ids a (k.ids a h.has)) same;
      goes = binds_after t0 t2 t3 b0 b1 (binds_after t0 t1 t2 b0 b1 h.goes k) l;
    }

pub typed_stops_first : (g : Graph) (scope : Bindings OwnVariable) (p : PatPhrase) (ty : TyPhrase) (at : At) (t0 t1 :
    Table)
    (b0 b1 : Rows OwnVariable) (e : Fault) → IsPat g t0 scope p t1 b0 b1 (Err e)
    → IsPat g t0 scope (PatPhrase.Typed p ty at) t1 b0 b1 (Err e)
typed_stops_first g scope p ty at t0 t1 b0 b1 e h = record {
  infers = typed_first g (scope_of g scope) p ty at (bound_of b0) (progress t0 g) t1 t1 b1 b1 e h.infers;
  has = tt;
  goes = h.goes;
}

pub typed_stops_second : (g : Graph) (scope : Bindings OwnVariable) (p : PatPhrase) (ty : TyPhrase) (at : At)
    (t0 t1 t2 : Table) (b0 b1 : Rows OwnVariable) (a : TyId) (read : TyId → Ty) (e : Fault)
    → IsPat g t0 scope p t1 b0 b1 (Ok a) → Answers (infer_ty (scope_of g scope) ty) read (Err e) → KeepsTypes t1 t2
    → IsPat g t0 scope (PatPhrase.Typed p ty at) t2 b0 b1 (Err e)
typed_stops_second g scope p ty at t0 t1 t2 b0 b1 a read e h i k = record {
  infers = typed_second g (scope_of g scope) p ty at (bound_of b0) (bound_of b1) (progress t0 g) (progress t1 g)
      (type_of t1 a) read t2 b1 e h.infers i;
  has = tt;
  goes = binds_after t0 t1 t2 b0 b1 h.goes k;
}

pub typed_stops_third : (g : Graph) (scope : Bindings OwnVariable) (p : PatPhrase) (ty : TyPhrase) (at : At)
    (t0 t1 t2 t3 : Table) (b0 b1 : Rows OwnVariable) (a w : TyId) (e : Fault)
    → IsPat g t0 scope p t1 b0 b1 (Ok a) → infer_ty (scope_of g scope) ty ≡ gives (type_of t2 w) → state t2 ≡ state t1
    → KeepsTypes t1 t2 → Unified g at (unify_in depth (type_of t2 a) (type_of t2 w) (state t2)) (Err e) (state t3)
    → KeepsTypes t2 t3 → IsPat g t0 scope (PatPhrase.Typed p ty at) t3 b0 b1 (Err e)
typed_stops_third g scope p ty at t0 t1 t2 t3 b0 b1 a w e h i s k u l =
    let q = typed_is g scope p ty at (bound_of b0) (bound_of b1) (progress t0 g) (progress t1 g) (progress t2 g)
    (type_of t1 a) (type_of t2 a) (type_of t2 w) h.infers i (k.types a h.has)
    (ap (λ (z : State). with_types z (progress t1 g)) s) in
    record {
      infers = subst (λ m. InferredPat m (Err e) t3 b1 g) (sym q)
          (joined_failed g scope at (type_of t2 a) (type_of t2 w) (type_of t2 a) (bound_of b1) t2 t3 b1 (state t3) e u);
      has = tt;
      goes = binds_after t0 t2 t3 b0 b1 (binds_after t0 t1 t2 b0 b1 h.goes k) l;
    }

-- ---- a constructor with its argument

con_joins : (g : Graph) (scope : Bindings OwnVariable) (long : LongName) (p : PatPhrase) (at : At) (t0 t1 t2 : Table)
    (b0 b1 : Rows OwnVariable) (value : ValueEntry) (a from to : TyId)
    → known (scope_of g scope) long (found_at values long.parts (scope_of g scope).env) ≡ gives value
    → IsPat g t0 scope p t1 b0 b1 (Ok a) → as_con (scope_of g scope) at value ≡ gives tt
    → arrow_in value.scheme.body (instance value.scheme (state t1)).0 ≡ Some (type_of t2 from, type_of t2 to)
    → state t2 ≡ (instance value.scheme (state t1)).1 → KeepsTypes t1 t2
    → infer_pat depth (scope_of g scope) (PatPhrase.Con long p at) (bound_of b0) (progress t0 g)
    ≡ joins g scope at (type_of t2 from) (type_of t2 a) (progress t2 g) (type_of t2 to)
    (bound_of b1)
con_joins g scope long p at t0 t1 t2 b0 b1 value a from to h i j k s l =
    con_is g scope long p at (bound_of b0) (bound_of b1) (progress t0 g) (progress t1 g) (progress t2 g) value
    (type_of t1 a) (type_of t2 a) (type_of t2 from) (type_of t2 to) h i.infers j k (l.types a i.has)
    (ap (λ (z : State). with_types z (progress t1 g)) s)

pub con_stops_fourth : (g : Graph) (scope : Bindings OwnVariable) (long : LongName) (p : PatPhrase) (at : At)
    (t0 t1 t2 : Table) (b0 b1 : Rows OwnVariable) (value : ValueEntry) (a : TyId) (e : Fault)
    → known (scope_of g scope) long (found_at values long.parts (scope_of g scope).env) ≡ gives value
    → IsPat g t0 scope p t1 b0 b1 (Ok a) → as_con (scope_of g scope) at value ≡ gives tt
    → FindsSides g at (arrow_in value.scheme.body (instance value.scheme (state t1)).0) (Err e) t2 → KeepsTypes t1 t2
    → IsPat g t0 scope (PatPhrase.Con long p at) t2 b0 b1 (Err e)
con_stops_fourth g scope long p at t0 t1 t2 b0 b1 value a e h i j k l = record {
  infers = con_fourth g scope long p at (bound_of b0) (bound_of b1) (progress t0 g) (progress t1 g) value (type_of t1 a)
      t2 t2 b1 e h i.infers j k;
  has = tt;
  goes = binds_after t0 t1 t2 b0 b1 i.goes l;
}

pub con_stops_first : (g : Graph) (scope : Bindings OwnVariable) (long : LongName) (p : PatPhrase) (at : At) (t0 :
    Table)
    (b0 : Rows OwnVariable) {R : Type 0} (read : R → ValueEntry) (e : Fault)
    → Answers (known (scope_of g scope) long (found_at values long.parts (scope_of g scope).env)) read (Err e)
    → IsPat g t0 scope (PatPhrase.Con long p at) t0 b0 b0 (Err e)
con_stops_first g scope long p at t0 b0 read e h = record {
  infers = con_first g (scope_of g scope) long p at (bound_of b0) (progress t0 g) read t0 b0 e h;
  has = tt;
  goes = binds_only t0 t0 b0 (keeps_all t0);
}

pub con_stops_second : (g : Graph) (scope : Bindings OwnVariable) (long : LongName) (p : PatPhrase) (at : At) (t0 t1
    : Table)
    (b0 b1 : Rows OwnVariable) (value : ValueEntry) (e : Fault)
    → known (scope_of g scope) long (found_at values long.parts (scope_of g scope).env) ≡ gives value
    → IsPat g t0 scope p t1 b0 b1 (Err e) → IsPat g t0 scope (PatPhrase.Con long p at) t1 b0 b1 (Err e)
con_stops_second g scope long p at t0 t1 b0 b1 value e h i = record {
  infers = con_second g (scope_of g scope) long p at (bound_of b0) (progress t0 g) value t1 t1 b1 b1 e h i.infers;
  has = tt;
  goes = i.goes;
}

pub con_stops_third : (g : Graph) (scope : Bindings OwnVariable) (long : LongName) (p : PatPhrase) (at : At) (t0 t1 :
    Table)
    (b0 b1 : Rows OwnVariable) (value : ValueEntry) (a : TyId) (e : Fault)
    → known (scope_of g scope) long (found_at values long.parts (scope_of g scope).env) ≡ gives value
    → IsPat g t0 scope p t1 b0 b1 (Ok a) → Answers (as_con (home_scope g) at value) (λ (u : Unit {0}). tt) (Err e)
    → IsPat g t0 scope (PatPhrase.Con long p at) t1 b0 b1 (Err e)
con_stops_third g scope long p at t0 t1 b0 b1 value a e h i j = record {
  infers = con_third g (scope_of g scope) long p at (bound_of b0) (bound_of b1) (progress t0 g) (progress t1 g) value
      (type_of t1 a) (λ u. tt) t1 b1 e h i.infers j;
  has = tt;
  goes = i.goes;
}

pub con_stops_fifth : (g : Graph) (scope : Bindings OwnVariable) (long : LongName) (p : PatPhrase) (at : At)
    (t0 t1 t2 t3 : Table) (b0 b1 : Rows OwnVariable) (value : ValueEntry) (a from to : TyId) (e : Fault)
    → known (scope_of g scope) long (found_at values long.parts (scope_of g scope).env) ≡ gives value
    → IsPat g t0 scope p t1 b0 b1 (Ok a) → as_con (home_scope g) at value ≡ gives tt
    → arrow_in value.scheme.body (instance value.scheme (state t1)).0 ≡ Some (type_of t2 from, type_of t2 to)
    → state t2 ≡ (instance value.scheme (state t1)).1 → KeepsTypes t1 t2
    → Unified g at (unify_in depth (type_of t2 from) (type_of t2 a) (state t2)) (Err e) (state t3) → KeepsTypes t2 t3
    → IsPat g t0 scope (PatPhrase.Con long p at) t3 b0 b1 (Err e)
con_stops_fifth g scope long p at t0 t1 t2 t3 b0 b1 value a from to e h i j k s l u m = record {
  infers = subst (λ m. InferredPat m (Err e) t3 b1 g)
      (sym (con_joins g scope long p at t0 t1 t2 b0 b1 value a from to h i j k s l))
      (joined_failed g scope at (type_of t2 from) (type_of t2 a) (type_of t2 to) (bound_of b1) t2 t3 b1 (state t3) e u);
  has = tt;
  goes = binds_after t0 t2 t3 b0 b1 (binds_after t0 t1 t2 b0 b1 i.goes l) m;
}

pub con_finds : (g : Graph) (scope : Bindings OwnVariable) (long : LongName) (p : PatPhrase) (at : At)
    (t0 t1 t2 t3 : Table) (b0 b1 : Rows OwnVariable) (value : ValueEntry) (a from to : TyId) (r : Result TyId Fault)
    → known (scope_of g scope) long (found_at values long.parts (scope_of g scope).env) ≡ gives value
    → IsPat g t0 scope p t1 b0 b1 (Ok a) → as_con (home_scope g) at value ≡ gives tt
    → arrow_in value.scheme.body (instance value.scheme (state t1)).0 ≡ Some (type_of t2 from, type_of t2 to)
    → state t2 ≡ (instance value.scheme (state t1)).1 → KeepsTypes t1 t2
    → Unified g at (unify_in depth (type_of t2 from) (type_of t2 a) (state t2)) (Ok tt) (state t3) → KeepsTypes t2 t3
    → Has t2 to → Answers (sized (home_scope g) at (type_of t3 to) (progress t3 g)) (λ (same : TyId). tt) r
    → IfOk r (λ same. same ≡ to) → IsPat g t0 scope (PatPhrase.Con long p at) t3 b0 b1 r
con_finds g scope long p at t0 t1 t2 t3 b0 b1 value a from to r h i j k s l u m there z same = record {
  infers = subst (λ m. InferredPat m r t3 b1 g)
      (sym (con_joins g scope long p at t0 t1 t2 b0 b1 value a from to h i j k s l))
      (joined_sized g scope at (type_of t2 from) (type_of t2 a) (type_of t2 to) b1 t2 t3 to r u (m.types to there) z
      same);
  has = has_same t3 to r (m.ids to there) same;
  goes = binds_after t0 t2 t3 b0 b1 (binds_after t0 t1 t2 b0 b1 i.goes l) m;
}

-- ---- `x : ty as p`

-- the steps before the inner pattern
pub record AsBegins (g : Graph) (scope : Bindings OwnVariable) (name : Name) (ty : Option TyPhrase) (at : At)
    (t0 t1 t2 : Table) (b0 b1 : Rows OwnVariable) (x : TyId) : Type 0 where
  pub free : refuses_where (stands_for_con (entry name.text (values (scope_of g scope).env))) 34 (home_scope g) at ≡
      gives tt
  pub binds : bind_variable (home_scope g) (name_at name) name.text (bound_of b0) (progress t0 g)
      ≡ gives (type_of t1 x, bound_of b1, progress t1 g)
  pub there : Has t1 x
  pub goes : BindsOn t0 t1 b0 b1
  pub typed : typed_variable depth (scope_of g scope) at (type_of t1 x) ty (progress t1 g) ≡ gives (progress t2 g)
  pub ids : KeepsTypes t1 t2

as_joins : (g : Graph) (scope : Bindings OwnVariable) (name : Name) (ty : Option TyPhrase) (p : PatPhrase) (at : At)
    (t0 t1 t2 t3 : Table) (b0 b1 b2 : Rows OwnVariable) (x a : TyId) → AsBegins g scope name ty at t0 t1 t2 b0 b1 x
    → IsPat g t2 scope p t3 b1 b2 (Ok a)
    → infer_pat depth (scope_of g scope) (PatPhrase.As name ty p at) (bound_of b0) (progress t0 g)
    ≡ joins g scope at (type_of t3 x) (type_of t3 a) (progress t3 g) (type_of t3 x) (bound_of b2)
as_joins g scope name ty p at t0 t1 t2 t3 b0 b1 b2 x a h i =
    as_is g scope name ty p at (bound_of b0) (bound_of b1) (bound_of b2) (progress t0 g) (progress t1 g) (progress t2 g)
    (progress t3 g) (type_of t1 x) (type_of t3 x) (type_of t3 a) h.free h.binds h.typed i.infers
    (i.goes.ids.types x (h.ids.ids x h.there) ∙ h.ids.types x h.there)

as_goes : (g : Graph) (scope : Bindings OwnVariable) (name : Name) (ty : Option TyPhrase) (p : PatPhrase) (at : At)
    (t0 t1 t2 t3 : Table) (b0 b1 b2 : Rows OwnVariable) (x : TyId) (r : Result TyId Fault)
    → AsBegins g scope name ty at t0 t1 t2 b0 b1 x → IsPat g t2 scope p t3 b1 b2 r → BindsOn t0 t3 b0 b2
as_goes g scope name ty p at t0 t1 t2 t3 b0 b1 b2 x r h i =
    binds_then t0 t2 t3 b0 b1 b2 (binds_after t0 t1 t2 b0 b1 h.goes h.ids) i.goes

pub as_done : (g : Graph) (scope : Bindings OwnVariable) (name : Name) (ty : Option TyPhrase) (p : PatPhrase) (at : At)
    (t0 t1 t2 t3 t4 : Table) (b0 b1 b2 : Rows OwnVariable) (x a : TyId) (r : Result TyId Fault)
    → AsBegins g scope name ty at t0 t1 t2 b0 b1 x → IsPat g t2 scope p t3 b1 b2 (Ok a)
    → Unified g at (unify_in depth (type_of t3 x) (type_of t3 a) (state t3)) (Ok tt) (state t4) → KeepsTypes t3 t4
    → Answers (sized (home_scope g) at (type_of t4 x) (progress t4 g)) (λ (same : TyId). tt) r
    → IfOk r (λ same. same ≡ x) → IsPat g t0 scope (PatPhrase.As name ty p at) t4 b0 b2 r
as_done g scope name ty p at t0 t1 t2 t3 t4 b0 b1 b2 x a r h i u k z same =
    let there : Has t3 x = i.goes.ids.ids x (h.ids.ids x h.there) in
    record {
      infers = subst (λ m. InferredPat m r t4 b2 g) (sym (as_joins g scope name ty p at t0 t1 t2 t3 b0 b1 b2 x a h i))
          (joined_sized g scope at (type_of t3 x) (type_of t3 a) (type_of t3 x) b2 t3 t4 x r u (k.types x there) z
          same);
      has = has_same t4 x r (k.ids x there) same;
      goes = binds_after t0 t3 t4 b0 b2 (as_goes g scope name ty p at t0 t1 t2 t3 b0 b1 b2 x (Ok a) h i) k;
    }

pub as_stops_first : (g : Graph) (scope : Bindings OwnVariable) (name : Name) (ty : Option TyPhrase) (p : PatPhrase)
    (at : At) (t0 : Table) (b0 : Rows OwnVariable) (e : Fault)
    → Answers (refuses_where (stands_for_con (entry name.text (values (scope_of g scope).env))) 34 (home_scope g) at)
    (λ (u : Unit {0}). tt) (Err e) → IsPat g t0 scope (PatPhrase.As name ty p at) t0 b0 b0 (Err e)
as_stops_first g scope name ty p at t0 b0 e h = record {
  infers = as_first g (scope_of g scope) name ty p at (bound_of b0) (progress t0 g) (λ u. tt) t0 b0 e h;
  has = tt;
  goes = binds_only t0 t0 b0 (keeps_all t0);
}

pub as_stops_second : (g : Graph) (scope : Bindings OwnVariable) (name : Name) (ty : Option TyPhrase) (p : PatPhrase)
    (at : At) (t0 t1 : Table) (b0 b1 : Rows OwnVariable) (e : Fault)
    → refuses_where (stands_for_con (entry name.text (values (scope_of g scope).env))) 34 (home_scope g) at ≡ gives tt
    → InferredPat (bind_variable (home_scope g) (name_at name) name.text (bound_of b0) (progress t0 g)) (Err e) t1 b1 g
    → BindsOn t0 t1 b0 b1 → IsPat g t0 scope (PatPhrase.As name ty p at) t1 b0 b1 (Err e)
as_stops_second g scope name ty p at t0 t1 b0 b1 e h i k = record {
  infers = as_second g (scope_of g scope) name ty p at (bound_of b0) (progress t0 g) t1 t1 b1 b1 e h i;
  has = tt;
  goes = k;
}

pub as_stops_third : (g : Graph) (scope : Bindings OwnVariable) (name : Name) (ty : Option TyPhrase) (p : PatPhrase)
    (at : At) (t0 t1 t2 : Table) (b0 b1 : Rows OwnVariable) (x : TyId) (e : Fault)
    → refuses_where (stands_for_con (entry name.text (values (scope_of g scope).env))) 34 (home_scope g) at ≡ gives tt
    → bind_variable (home_scope g) (name_at name) name.text (bound_of b0) (progress t0 g)
    ≡ gives (type_of t1 x, bound_of b1, progress t1 g) → BindsOn t0 t1 b0 b1
    → Answers (typed_variable depth (scope_of g scope) at (type_of t1 x) ty (progress t1 g))
    (λ (u : Unit {0}). progress t2 g) (Err e) → KeepsTypes t1 t2
    → IsPat g t0 scope (PatPhrase.As name ty p at) t2 b0 b1 (Err e)
as_stops_third g scope name ty p at t0 t1 t2 b0 b1 x e h i k l m = record {
  infers = as_third g (scope_of g scope) name ty p at (bound_of b0) (bound_of b1) (progress t0 g) (progress t1 g)
      (type_of t1 x) (λ u. progress t2 g) t2 b1 e h i l;
  has = tt;
  goes = binds_after t0 t1 t2 b0 b1 k m;
}

pub as_stops_fourth : (g : Graph) (scope : Bindings OwnVariable) (name : Name) (ty : Option TyPhrase) (p : PatPhrase)
    (at : At) (t0 t1 t2 t3 : Table) (b0 b1 b2 : Rows OwnVariable) (x : TyId) (e : Fault)
    → AsBegins g scope name ty at t0 t1 t2 b0 b1 x → IsPat g t2 scope p t3 b1 b2 (Err e)
    → IsPat g t0 scope (PatPhrase.As name ty p at) t3 b0 b2 (Err e)
as_stops_fourth g scope name ty p at t0 t1 t2 t3 b0 b1 b2 x e h i = record {
  infers = as_fourth g (scope_of g scope) name ty p at (bound_of b0) (bound_of b1) (progress t0 g) (progress t1 g)
      (progress t2 g) (type_of t1 x) t3 t3 b2 b2 e h.free h.binds h.typed i.infers;
  has = tt;
  goes = as_goes g scope name ty p at t0 t1 t2 t3 b0 b1 b2 x (Err e) h i;
}

pub as_stops_fifth : (g : Graph) (scope : Bindings OwnVariable) (name : Name) (ty : Option TyPhrase) (p : PatPhrase)
    (at : At) (t0 t1 t2 t3 t4 : Table) (b0 b1 b2 : Rows OwnVariable) (x a : TyId) (e : Fault)
    → AsBegins g scope name ty at t0 t1 t2 b0 b1 x → IsPat g t2 scope p t3 b1 b2 (Ok a)
    → Unified g at (unify_in depth (type_of t3 x) (type_of t3 a) (state t3)) (Err e) (state t4) → KeepsTypes t3 t4
    → IsPat g t0 scope (PatPhrase.As name ty p at) t4 b0 b2 (Err e)
as_stops_fifth g scope name ty p at t0 t1 t2 t3 t4 b0 b1 b2 x a e h i u k = record {
  infers = subst (λ m. InferredPat m (Err e) t4 b2 g) (sym (as_joins g scope name ty p at t0 t1 t2 t3 b0 b1 b2 x a h i))
      (joined_failed g scope at (type_of t3 x) (type_of t3 a) (type_of t3 x) (bound_of b2) t3 t4 b2 (state t4) e u);
  has = tt;
  goes = binds_after t0 t3 t4 b0 b2 (as_goes g scope name ty p at t0 t1 t2 t3 b0 b1 b2 x (Ok a) h i) k;
}

-- ---- records

pub record_done : (g : Graph) (scope : Bindings OwnVariable) (fields : PatFields) (at : At) (t0 t1 t2 : Table)
    (b0 b1 : Rows OwnVariable) (rows : Rows TyId) (a : TyId) (r : Result TyId Fault)
    → AreFields g t0 scope fields t1 b0 b1 (Ok rows) → type_of t2 a ≡ record_ty (made_fields t1 rows)
    → state t2 ≡ state t1 → KeepsTypes t1 t2 → Has t2 a
    → Answers (sized (home_scope g) at (type_of t2 a) (progress t2 g)) (λ (same : TyId). tt) r
    → IfOk r (λ same. same ≡ a) → IsPat g t0 scope (PatPhrase.Record fields at) t2 b0 b1 r
record_done g scope fields at t0 t1 t2 b0 b1 rows a r h e s k there z same = record {
  infers = subst (λ m. InferredPat m r t2 b1 g)
      (sym (record_is (scope_of g scope) fields at (bound_of b0) (bound_of b1) (progress t0 g) (progress t1 g)
      (made_fields t1 rows) (record_ty (made_fields t1 rows)) h.infers refl))
      (made_sized g at t1 t2 a (record_ty (made_fields t1 rows)) (bound_of b1) r e s z same);
  has = has_same t2 a r there same;
  goes = binds_after t0 t1 t2 b0 b1 h.goes k;
}

pub record_stops : (g : Graph) (scope : Bindings OwnVariable) (fields : PatFields) (at : At) (t0 t1 : Table)
    (b0 b1 : Rows OwnVariable) (e : Fault) → AreFields g t0 scope fields t1 b0 b1 (Err e)
    → IsPat g t0 scope (PatPhrase.Record fields at) t1 b0 b1 (Err e)
record_stops g scope fields at t0 t1 b0 b1 e h = record {
  infers = record_failed g (scope_of g scope) fields at (bound_of b0) (progress t0 g)
      (λ rows. (made_fields t1 rows, bound_of b1, progress t1 g)) t1 b1 e h.infers;
  has = tt;
  goes = h.goes;
}

-- want of memory, after what went well
pub no_memory : (g : Graph) (scope : Bindings OwnVariable) (p : PatPhrase) (t0 t1 : Table) (b0 b1 : Rows OwnVariable)
    → BindsOn t0 t1 b0 b1 → IsPat g t0 scope p t1 b0 b1 (Err fault.NoMemory)
no_memory g scope p t0 t1 b0 b1 h = record { infers = tt; has = tt; goes = h }

-- ---- one field

pub field_is : (g : Graph) (scope : Bindings OwnVariable) (label : Name) (p : PatPhrase) (t0 t1 : Table)
    (rows more : Rows TyId) (b0 b1 : Rows OwnVariable) (a : TyId)
    → new_label (scope_of g scope) label (made_fields t0 rows) ≡ gives tt → last_entry rows label.text ≡ None
    → HaveRows t0 rows → AreDiffering (names_of rows) → IsPat g t0 scope p t1 b0 b1 (Ok a)
    → more ≡ rows ++ (label.text, a) ∷ [] → IsField g t0 scope label p t1 rows more b0 b1 (Ok tt)
field_is g scope label p t0 t1 rows more b0 b1 a h free have differing i e = record {
  infers = field_done g (scope_of g scope) label p rows more (bound_of b0) (progress t0 g) t0 t1 a b1 h i.infers
      i.goes.ids have e;
  have = rows_more t1 rows more label.text a (rows_have t0 t1 rows i.goes.ids have) i.has e;
  differing = differ_more rows more label.text a differing free e;
  goes = i.goes;
}

pub field_stops_first : (g : Graph) (scope : Bindings OwnVariable) (label : Name) (p : PatPhrase) (t0 : Table)
    (rows : Rows TyId) (b0 : Rows OwnVariable) (e : Fault)
    → Answers (new_label (scope_of g scope) label (made_fields t0 rows)) (λ (u : Unit {0}). tt) (Err e)
    → IsField g t0 scope label p t0 rows rows b0 b0 (Err e)
field_stops_first g scope label p t0 rows b0 e h = record {
  infers = field_first g (scope_of g scope) label p (made_fields t0 rows) (bound_of b0) (progress t0 g) t0 b0 (λ u. tt)
      (λ u. rows) e h;
  have = tt;
  differing = tt;
  goes = binds_only t0 t0 b0 (keeps_all t0);
}

pub field_stops_second : (g : Graph) (scope : Bindings OwnVariable) (label : Name) (p : PatPhrase) (t0 t1 : Table)
    (rows : Rows TyId) (b0 b1 : Rows OwnVariable) (e : Fault)
    → new_label (scope_of g scope) label (made_fields t0 rows) ≡ gives tt → IsPat g t0 scope p t1 b0 b1 (Err e)
    → IsField g t0 scope label p t1 rows rows b0 b1 (Err e)
field_stops_second g scope label p t0 t1 rows b0 b1 e h i = record {
  infers = field_second g (scope_of g scope) label p (made_fields t0 rows) (bound_of b0) (progress t0 g) t1 b1
      (λ id. (type_of t1 id, bound_of b1, progress t1 g)) (λ u. rows) e h i.infers;
  have = tt;
  differing = tt;
  goes = i.goes;
}

pub field_no_memory : (g : Graph) (scope : Bindings OwnVariable) (label : Name) (p : PatPhrase) (t0 t1 : Table)
    (rows more : Rows TyId) (b0 b1 : Rows OwnVariable) → BindsOn t0 t1 b0 b1
    → IsField g t0 scope label p t1 rows more b0 b1 (Err fault.NoMemory)
field_no_memory g scope label p t0 t1 rows more b0 b1 h = record { infers = tt; have = tt; differing = tt; goes = h }

-- ---- all fields

pub fields_done : (g : Graph) (scope : Bindings OwnVariable) (first t : Table) (all : List PatField) (i : ℕ)
    (rows : Rows TyId) (before bound : Rows OwnVariable) → FieldsSoFar g scope first t all i rows before bound
    → length all ≤ i → AreFields g first scope (pat_fields (map pat_field_phrase all)) t before bound (Ok rows)
fields_done g scope first t all i rows before bound s h = record {
  infers = fields_end g scope first t all i rows before bound s h;
  have = s.have;
  differing = s.differing;
  goes = s.goes;
}

pub fields_stop : (g : Graph) (scope : Bindings OwnVariable) (first t new : Table) (all : List PatField) (i : ℕ)
    (x : PatField) (rows more : Rows TyId) (before bound after : Rows OwnVariable) (e : Fault)
    → FieldsSoFar g scope first t all i rows before bound → i < length all → x ≡ get_or all i x
    → IsField g t scope (out-PatField x).label (pat_phrase (out-PatField x).pat) new rows more bound after (Err e)
    → AreFields g first scope (pat_fields (map pat_field_phrase all)) new before after (Err e)
fields_stop g scope first t new all i x rows more before bound after e s h k l = record {
  infers = fields_failed g scope first t new all i x rows before bound after (λ u. more) (λ rows. rows) e s h k
      l.infers;
  have = tt;
  differing = tt;
  goes = binds_then first t new before bound after s.goes l.goes;
}
