-- The fields of record patterns, one after the other.
use Rattle.std.proofs.Common.{◌≡◌, ℕ, ◌+◌, ◌<◌, ◌≤◌, List, [], ◌∷◌, ◌++◌, length, map, drop, get_or, refl, sym, ap, ap₂, ◌∙◌, subst, Some, None, add-one, drop-cons}
use Rattle.std.specs.Prelude.{Ok, Err}
use Rattle.cm_base.specs.declared.fault.Fault.{Fault}
use Rattle.cm_base.specs.declared.fault.Fault.TheVariants as fault
use Rattle.sml_trees.specs.declared.name.Name.{Name}
use Rattle.sml_trees.specs.declared.pat.PatField.{PatField, out-PatField}
use Rattle.semantic_objects.specs.declared.name.TyId.{TyId}
use Rattle.semantic_objects.specs.Symbols.{AreDiffering}
use Rattle.semantic_objects.specs.Tables.{Table as Named, names_of, with_entry, with_all}
use Rattle.semantic_objects.proofs.Promised.{sets_entries}
use Rattle.unification.specs.Types.{Ty}
use Rattle.unification.specs.Unification.{depth}
use Rattle.type_nodes.specs.Tables.{Table, type_of}
use Rattle.sml_modules.specs.Items.{map_rows}
use Rattle.sml_modules.specs.Graphs.{Graph}
use Rattle.sml_types.proofs.Frames.{drop_past}
use Rattle.name_trails.specs.Trails.{Rows}
use Rattle.bare_phrases.specs.Phrases.{PatPhrase, PatFields}
use Rattle.bare_phrases.specs.PhraseOf.{pat_phrase, pat_fields, pat_field_phrase}
use Rattle.bare_phrases.proofs.Forms.{pat_field_phrase-kept}
use Rattle.static_semantics.specs.Inferring.{Progress, Scope, Answer, ◌>>=◌, gives, Bound}
use Rattle.static_semantics.specs.TypeInference.{new_label}
use Rattle.static_semantics.specs.PatternInference.{infer_pat, infer_pat_fields}
use Rattle.core_scopes.specs.Scopes.{Bindings}
use Rattle.core_scopes.proofs.Scoping.{map_append}
use Rattle.type_phrases.specs.Inferred.{Answers, KeepsTypes, HaveRows, progress, made_fields}
use Rattle.type_phrases.proofs.Keeping.{rows_later, keeps_all}
use Rattle.pattern_elab.specs.declared.own.OwnVariable.{OwnVariable}
use Rattle.pattern_elab.specs.Scopes.{bound_of, scope_of, IsCoreScope}
use Rattle.pattern_elab.specs.Steps.{BindsOn, InferredFields, infer_field}
use Rattle.pattern_elab.proofs.Binding.{binds_only, binds_then}
use Rattle.pattern_elab.proofs.Scoping.{core_later}

made_more : (t : Table) (rows new : Rows TyId) (name : List ℕ) (a : TyId) → new ≡ rows ++ (name, a) ∷ []
    → made_fields t new ≡ with_entry name (type_of t a) (made_fields t rows)
made_more t rows new name a e =
    ap (made_fields t) e
    ∙ ap (λ z. with_all z []) (map_append (type_of t) rows ((name, a) ∷ []))
    ∙ (sets_entries Ty).later name (type_of t a) (map_rows (type_of t) rows) []

made_later : (a b : Table) (rows : Rows TyId) → KeepsTypes a b → HaveRows a rows
    → made_fields b rows ≡ made_fields a rows
made_later a b rows h k = ap (λ z. with_all z []) (rows_later a b rows h k)

-- ---- one field

pub field_done : (g : Graph) (sc : Scope) (label : Name) (p : PatPhrase) (rows more : Rows TyId) (b : Bound) (st :
    Progress)
    (t new : Table) (a : TyId) (bound : Rows OwnVariable)
    → new_label sc label (made_fields t rows) ≡ gives tt
    → infer_pat depth sc p b st ≡ gives (type_of new a, bound_of bound, progress new g)
    → KeepsTypes t new → HaveRows t rows → more ≡ rows ++ (label.text, a) ∷ []
    → infer_field sc label p (made_fields t rows) b st ≡ gives (made_fields new more, bound_of bound, progress new g)
field_done g sc label p rows more b st t new a bound h k l m e =
    let w : with_entry label.text (type_of new a) (made_fields t rows) ≡ made_fields new more =
    sym (made_more new rows more label.text a e ∙ ap (with_entry label.text (type_of new a)) (made_later t new rows l
    m)) in
    rw (h, k) (ap (λ (z : Named Ty). gives (z, bound_of bound, progress new g)) w)

pub field_first : (g : Graph) (sc : Scope) (label : Name) (p : PatPhrase) (made : Named Ty) (b : Bound) (st : Progress)
    (t : Table) (rows : Rows OwnVariable) (read : Unit {0} → Unit {0}) (told : Unit {0} → Rows TyId) (e : Fault)
    → Answers (new_label sc label made) read (Err e)
    → InferredFields (infer_field sc label p made b st) told (Err e) t rows g
field_first g sc label p made b st t rows read told (fault.Diag d) h = rw h
field_first g sc label p made b st t rows read told fault.NoMemory h = tt

pub field_second : (g : Graph) (sc : Scope) (label : Name) (p : PatPhrase) (made : Named Ty) (b : Bound) (st : Progress)
    (t : Table) (rows : Rows OwnVariable) (read : TyId → Ty × Bound × Progress) (told : Unit {0} → Rows TyId) (e :
    Fault)
    → new_label sc label made ≡ gives tt → Answers (infer_pat depth sc p b st) read (Err e)
    → InferredFields (infer_field sc label p made b st) told (Err e) t rows g
field_second g sc label p made b st t rows read told (fault.Diag d) h k = rw (h, k)
field_second g sc label p made b st t rows read told fault.NoMemory h k = tt

-- ---- all fields

abbrev pub fields_left : Scope → List PatField → Named Ty → Bound → Progress → Answer (Named Ty × Bound × Progress)
fields_left sc fields made b st = infer_pat_fields depth sc (pat_fields (map pat_field_phrase fields)) made b st

joined : (m : Answer (Unit {0})) (n : Answer (Ty × Bound × Progress))
    (f : Ty × Bound × Progress → Named Ty × Bound × Progress)
    (k : Named Ty × Bound × Progress → Answer (Named Ty × Bound × Progress))
    → (m >>= λ u. n >>= λ r. k (f r)) ≡ ((m >>= λ u. n >>= λ r. gives (f r)) >>= k)
joined None n f k = refl
joined (Some (Err d)) n f k = refl
joined (Some (Ok u)) None f k = refl
joined (Some (Ok u)) (Some (Err d)) f k = refl
joined (Some (Ok u)) (Some (Ok r)) f k = refl

one_field : (sc : Scope) (x : PatField) (rest : List PatField) (made : Named Ty) (b : Bound) (st : Progress)
    → fields_left sc (x ∷ rest) made b st
    ≡ (infer_field sc (out-PatField x).label (pat_phrase (out-PatField x).pat) made b st
    >>= λ q. fields_left sc rest q.0 q.1 q.2)
one_field sc x rest made b st =
    ap (λ (row : Name × PatPhrase). infer_pat_fields depth sc
    (PatFields.Field row.0 row.1 (pat_fields (map pat_field_phrase rest))) made b st) (pat_field_phrase-kept x)
    ∙ joined (new_label sc (out-PatField x).label made) (infer_pat depth sc (pat_phrase (out-PatField x).pat) b st)
    (λ r. (with_entry (out-PatField x).label.text r.0 made, r.1, r.2)) (λ q. fields_left sc rest q.0 q.1 q.2)

next_field : {A : Type 0} (xs : List A) (i : ℕ) (x : A) → i < length xs → x ≡ get_or xs i x
    → drop i xs ≡ x ∷ drop (i + 1) xs
next_field {A} xs i x h e =
    drop-cons xs i x h ∙ ap₂ (λ (y : A) n. y ∷ drop n xs) (sym e) (sym (add-one i))

-- what holds before a field: what is left gives what the whole gives
pub record FieldsSoFar (g : Graph) (scope : Bindings OwnVariable) (first t : Table) (all : List PatField) (i : ℕ)
    (rows : Rows TyId) (before bound : Rows OwnVariable) : Type 0 where
  pub left : fields_left (scope_of g scope) all [] (bound_of before) (progress first g)
      ≡ fields_left (scope_of g scope) (drop i all) (made_fields t rows) (bound_of bound) (progress t g)
  pub have : HaveRows t rows
  pub differing : AreDiffering (names_of rows)
  pub goes : BindsOn first t before bound
  pub core : IsCoreScope g t scope

pub fields_begin : (g : Graph) (scope : Bindings OwnVariable) (t : Table) (all : List PatField) (rows : Rows TyId)
    (bound : Rows OwnVariable) → IsCoreScope g t scope → rows ≡ [] → FieldsSoFar g scope t t all 0 rows bound bound
fields_begin g scope t all rows bound h e =
    subst (λ (z : Rows TyId). FieldsSoFar g scope t t all 0 z bound bound) (sym e) (record {
      left = refl;
      have = tt;
      differing = tt;
      goes = binds_only t t bound (keeps_all t);
      core = h;
    })

pub fields_next : (g : Graph) (scope : Bindings OwnVariable) (first t new : Table) (all : List PatField) (i : ℕ)
    (x : PatField) (rows more : Rows TyId) (before bound after : Rows OwnVariable)
    → FieldsSoFar g scope first t all i rows before bound → i < length all → x ≡ get_or all i x
    → infer_field (scope_of g scope) (out-PatField x).label (pat_phrase (out-PatField x).pat) (made_fields t rows)
    (bound_of bound) (progress t g) ≡ gives (made_fields new more, bound_of after, progress new g)
    → HaveRows new more → AreDiffering (names_of more) → BindsOn t new bound after
    → FieldsSoFar g scope first new all (i + 1) more before after
fields_next g scope first t new all i x rows more before bound after s h e k have differing goes = record {
  left = s.left
      ∙ ap (λ fields. fields_left (scope_of g scope) fields (made_fields t rows) (bound_of bound) (progress t g))
      (next_field all i x h e)
      ∙ one_field (scope_of g scope) x (drop (i + 1) all) (made_fields t rows) (bound_of bound) (progress t g)
      ∙ ap (λ (m : Answer (Named Ty × Bound × Progress)). m >>= λ q. fields_left (scope_of g scope) (drop (i + 1)
      all) q.0 q.1 q.2) k;
  have = have;
  differing = differing;
  goes = binds_then first t new before bound after s.goes goes;
  core = core_later g t new scope goes.ids s.core;
}

pub fields_failed : (g : Graph) (scope : Bindings OwnVariable) (first t new : Table) (all : List PatField) (i : ℕ)
    (x : PatField) (rows : Rows TyId) (before bound after : Rows OwnVariable) (told : Unit {0} → Rows TyId)
    {R : Type 0} (read : R → Rows TyId) (e : Fault)
    → FieldsSoFar g scope first t all i rows before bound → i < length all → x ≡ get_or all i x
    → InferredFields (infer_field (scope_of g scope) (out-PatField x).label (pat_phrase (out-PatField x).pat)
    (made_fields t rows) (bound_of bound) (progress t g)) told (Err e) new after g
    → InferredFields (fields_left (scope_of g scope) all [] (bound_of before) (progress first g)) read (Err e) new
    after g
fields_failed g scope first t new all i x rows before bound after told read (fault.Diag d) s h e k =
    s.left
    ∙ ap (λ fields. fields_left (scope_of g scope) fields (made_fields t rows) (bound_of bound) (progress t g))
    (next_field all i x h e)
    ∙ one_field (scope_of g scope) x (drop (i + 1) all) (made_fields t rows) (bound_of bound) (progress t g)
    ∙ ap (λ (m : Answer (Named Ty × Bound × Progress)). m >>= λ q. fields_left (scope_of g scope) (drop (i + 1) all)
    q.0 q.1 q.2) k
fields_failed g scope first t new all i x rows before bound after told read fault.NoMemory s h e k = tt

pub fields_end : (g : Graph) (scope : Bindings OwnVariable) (first t : Table) (all : List PatField) (i : ℕ)
    (rows : Rows TyId) (before bound : Rows OwnVariable) → FieldsSoFar g scope first t all i rows before bound
    → length all ≤ i
    → fields_left (scope_of g scope) all [] (bound_of before) (progress first g)
    ≡ gives (made_fields t rows, bound_of bound, progress t g)
fields_end g scope first t all i rows before bound s h =
    s.left ∙ ap (λ fields. fields_left (scope_of g scope) fields (made_fields t rows) (bound_of bound) (progress t g))
    (drop_past all i h)
