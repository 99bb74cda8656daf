-- Type phrases that are read, step by step.
use Rattle.std.proofs.Common.{◌≡◌, ℕ, List, [], ◌∷◌, ◌++◌, length, map, refl, sym, ap, ◌∙◌, subst, Option, Some, None, Bool, true, false, cond, eqb, not}
use Rattle.std.specs.Prelude.{Ok, Err}
use Rattle.std.specs.Option.{option_map, is_some}
use Rattle.std.specs.Cmp.Lexicographic.{nat_list_eq_equiv, same_text as same_bytes}
use Rattle.std.proofs.lemmas.List.{append_assoc, append-nil}
use Rattle.cm_base.specs.declared.diag.Diag.{Diag}
use Rattle.cm_base.specs.declared.fault.Fault.{Fault}
use Rattle.cm_base.specs.declared.fault.Fault.TheVariants as fault
use Rattle.sml_trees.specs.declared.name.At.{At}
use Rattle.sml_trees.specs.declared.name.Name.{Name}
use Rattle.sml_trees.specs.declared.name.LongName.{LongName}
use Rattle.sml_trees.specs.declared.ty.Ty.{Ty as Phrase}
use Rattle.sml_trees.specs.declared.ty.TyField.{TyField, out-TyField}
use Rattle.semantic_objects.specs.declared.name.TyId.{TyId}
use Rattle.semantic_objects.specs.declared.entry.TypeStr.{TypeStr}
use Rattle.semantic_objects.specs.declared.entry.ValueEntry.{ValueEntry}
use Rattle.semantic_objects.specs.Symbols.{same_text}
use Rattle.semantic_objects.specs.Tables.{Table as Named, with_entry, with_all}
use Rattle.semantic_objects.specs.Environments.{types}
use Rattle.semantic_objects.proofs.Same.{text_is, text_same}
use Rattle.semantic_objects.proofs.Promised.{sets_entries}
use Rattle.unification.specs.Types.{Ty}
use Rattle.type_nodes.specs.Tables.{Table, Has, type_of}
use Rattle.sml_modules.specs.Items.{map_rows}
use Rattle.sml_modules.specs.Graphs.{Graph}
use Rattle.name_trails.specs.Trails.{Rows, same, last_entry}
use Rattle.bare_phrases.specs.PhraseOf.{ty_phrase, ty_phrases, ty_field_phrase, ty_fields}
use Rattle.bare_phrases.proofs.Forms.{ty_field_phrase-kept}
use Rattle.static_semantics.specs.Inferring.{Scope, Answer, ◌>>=◌, gives, refuses, refuses_where, diag_at, name_at, known, found_at, named}
use Rattle.static_semantics.specs.TypeInference.{variable_ty, applied_to, new_label, infer_ty, infer_tys, infer_ty_fields}
use Rattle.core_scopes.specs.Scopes.{Bindings, seen, written_of, first_entry}
use Rattle.core_scopes.proofs.Scoping.{map_append}
use Rattle.type_phrases.specs.Inferred.{Answers, Refuses, KeepsTypes, HaveRows, made_fields}
use Rattle.type_phrases.specs.Steps.{IsReadAs, applied_ty}
use Rattle.type_phrases.proofs.Keeping.{rows_later}
use Rattle.type_phrases.proofs.Records.{label_found}

-- ---- answers

-- a step that failed, and whatever comes behind it
pub failed : {A B R S : Type 0} (m : Answer A) (f : A → Answer B) (r : R → A) (s : S → B) (e : Fault)
    → Answers m r (Err e) → Answers (m >>= f) s (Err e)
failed m f r s (fault.Diag d) h = ap (λ z. z >>= f) h
failed m f r s fault.NoMemory h = tt

abbrev some_refused : {A : Type 0} → Diag → Answer A
some_refused d = Some (Err d)

pub refused : {A R : Type 0} (g : Graph) (inner : Scope) (number : ℕ) (at : At) (names : List (List ℕ)) (r : R → A)
    (e : Fault) → inner.home ≡ g.home → Refuses g number at names e
    → Answers (Some (Err (diag_at number inner at names))) r (Err e)
refused g inner number at names r (fault.Diag d) h k =
    ap (λ file. some_refused (record {
      number = number;
      at = record { file = file; line = at.line; col = at.col };
      names = names;
    })) h
    ∙ ap some_refused (sym k)
refused g inner number at names r fault.NoMemory h k = tt

-- ---- type variables

texts_alike : (a b : List ℕ) → same_text a b ≡ same b a
texts_alike a b = by_tests (same_text a b) (same b a) refl refl
  where
    by_tests : (c d : Bool) → same_text a b ≡ c → same b a ≡ d → c ≡ d
    by_tests true true e f = refl
    by_tests false false e f = refl
    by_tests true false e f =
        let k : same a a ≡ true = nat_list_eq_equiv.refl a in
        let l : same a a ≡ false = subst (λ z. same z a ≡ false) (sym (text_is a b e)) f in
        absurd (cc)
    by_tests false true e f =
        let k : same_text a a ≡ true = text_same a in
        let l : same_text a a ≡ false = subst (λ z. same_text a z ≡ false) (same_bytes b a (sym f)) e in
        absurd (cc)

named_is : {A B : Type 0} (f : A → B) (name : List ℕ) (rows : Rows A)
    → named name (map_rows f rows) ≡ option_map f (first_entry rows name)
named_is f name [] = refl
named_is {A} {B} f name (row ∷ rows) =
    ap (λ b. cond b (Some (f row.1)) (named name (map_rows f rows))) (texts_alike name row.0)
    ∙ ap (λ (o : Option B). cond (same row.0 name) (Some (f row.1)) o) (named_is f name rows)
    ∙ by_test (same row.0 name)
  where
    by_test : (b : Bool) → cond b (Some (f row.1)) (option_map f (first_entry rows name))
        ≡ option_map f (cond b (Some row.1) (first_entry rows name))
    by_test true = refl
    by_test false = refl

pub variable_is : {V : Type 0} (g : Graph) (t : Table) (sc : Bindings V) (inner : Scope) (name : Name) (o : Option TyId)
    → IsReadAs g t sc inner → first_entry (written_of sc) name.text ≡ o
    → variable_ty inner name ≡ known inner (record { parts = name.text ∷ []; line = name.line; col = name.col })
    (option_map (type_of t) o)
variable_is g t sc inner name o r e =
    let long : LongName = record { parts = name.text ∷ []; line = name.line; col = name.col } in
    ap (λ rows. known inner long (named name.text rows)) r.written
    ∙ ap (known inner long) (named_is (type_of t) name.text (written_of sc))
    ∙ ap (λ (w : Option TyId). known inner long (option_map (type_of t) w)) e

found_by : (t : Table) (x a : TyId) (b : Bool) (o : Option TyId) → Has t x → cond b (Some x) o ≡ Some a
    → (o ≡ Some a → Has t a) → Has t a
found_by t x a true o h e rest = let k : x ≡ a = cc in subst (Has t) k h
found_by t x a false o h e rest = rest e

pub have_found : (t : Table) (rows : Rows TyId) (name : List ℕ) (a : TyId) → HaveRows t rows
    → first_entry rows name ≡ Some a → Has t a
have_found t [] name a h e = absurd (cc)
have_found t (row ∷ rows) name a h e = found_by t row.1 a (same row.0 name) (first_entry rows name) h.0 e
    (λ k. have_found t rows name a h.1 k)

-- ---- type constructors

pub type_is : {V : Type 0} (g : Graph) (t : Table) (sc : Bindings V) (inner : Scope) (parts : List (List ℕ))
    (o : Option TypeStr) → IsReadAs g t sc inner
    → ((read : V → ValueEntry) → o ≡ found_at types parts (seen g read sc)) → found_at types parts inner.env ≡ o
type_is g t sc inner parts o r h = ap (found_at types parts) r.env ∙ sym (h r.read)

applied_known : (inner : Scope) (made : List Ty) (long : LongName) (at : At) (found : TypeStr) (b : Bool)
    → known inner long (found_at types long.parts inner.env) ≡ gives found
    → eqb (length made) found.function.arity ≡ b
    → applied_ty inner made long at
    ≡ refuses_where (not b) 35 inner at >>= λ u. gives (applied_to found.function made)
applied_known inner made long at found b h e =
    ap (λ (m : Answer TypeStr). m
    >>= λ found. refuses_where (not (eqb (length made) found.function.arity)) 35 inner at
    >>= λ u. gives (applied_to found.function made)) h
    ∙ ap (λ b. refuses_where (not b) 35 inner at >>= λ u. gives (applied_to found.function made)) e

pub applied_fits : (inner : Scope) (made : List Ty) (long : LongName) (at : At) (found : TypeStr)
    → known inner long (found_at types long.parts inner.env) ≡ gives found
    → eqb (length made) found.function.arity ≡ true
    → applied_ty inner made long at ≡ gives (applied_to found.function made)
applied_fits inner made long at found h e = applied_known inner made long at found true h e

pub applied_differs : (inner : Scope) (made : List Ty) (long : LongName) (at : At) (found : TypeStr)
    → known inner long (found_at types long.parts inner.env) ≡ gives found
    → eqb (length made) found.function.arity ≡ false
    → applied_ty inner made long at ≡ refuses 35 inner at
applied_differs inner made long at found h e = applied_known inner made long at found false h e

-- ---- arguments

first_then : (u : Ty) (front : List Ty) (m : Answer (List Ty))
    → ((m >>= λ ts. gives (u ∷ ts)) >>= λ ts. gives (front ++ ts)) ≡ (m >>= λ ts. gives ((front ++ u ∷ []) ++ ts))
first_then u front None = refl
first_then u front (Some (Err d)) = refl
first_then u front (Some (Ok ts)) = ap gives (sym (append_assoc front (u ∷ []) ts))

pub args_begin : (m : Answer (List Ty)) → m ≡ (m >>= λ ts. gives ([] ++ ts))
args_begin None = refl
args_begin (Some (Err d)) = refl
args_begin (Some (Ok ts)) = refl

abbrev pub rest_of : Scope → List Phrase → List Ty → Answer (List Ty)
rest_of inner args front = infer_tys inner (ty_phrases (map ty_phrase args)) >>= λ ts. gives (front ++ ts)

pub args_next : (inner : Scope) (args rest : List Phrase) (x : Phrase) (front new : List Ty) (u : Ty)
    → args ≡ x ∷ rest → infer_ty inner (ty_phrase x) ≡ gives u → new ≡ front ++ u ∷ []
    → rest_of inner args front ≡ rest_of inner rest new
args_next inner args rest x front new u e h k =
    ap (λ xs. rest_of inner xs front) e
    ∙ ap (λ (m : Answer Ty). (m
    >>= λ t. infer_tys inner (ty_phrases (map ty_phrase rest))
    >>= λ ts. gives (t ∷ ts))
    >>= λ ts. gives (front ++ ts)) h
    ∙ first_then u front (infer_tys inner (ty_phrases (map ty_phrase rest)))
    ∙ ap (rest_of inner rest) (sym k)

pub args_failed : {R S : Type 0} (inner : Scope) (args rest : List Phrase) (x : Phrase) (front : List Ty) (r : R → Ty)
    (s : S → List Ty) (e : Fault) → args ≡ x ∷ rest → Answers (infer_ty inner (ty_phrase x)) r (Err e)
    → Answers (rest_of inner args front) s (Err e)
args_failed {R} {S} inner args rest x front r s e is h =
    subst (λ xs. Answers (rest_of inner xs front) s (Err e)) (sym is)
    (failed (infer_tys inner (ty_phrases (map ty_phrase (x ∷ rest)))) (λ ts. gives (front ++ ts)) s s e
    (failed (infer_ty inner (ty_phrase x))
    (λ t. infer_tys inner (ty_phrases (map ty_phrase rest)) >>= λ ts. gives (t ∷ ts)) r s e h))

pub args_end : (inner : Scope) (args : List Phrase) (front : List Ty) → args ≡ [] → rest_of inner args front ≡ gives front
args_end inner args front e = ap (λ xs. rest_of inner xs front) e ∙ ap gives (append-nil front)

-- ---- fields

pub label_is : (inner : Scope) (label : Name) (t : Table) (rows : Rows TyId) (o : Option TyId)
    → last_entry rows label.text ≡ o
    → new_label inner label (made_fields t rows) ≡ refuses_where (is_some o) 40 inner (name_at label)
label_is inner label t rows o e =
    ap (λ b. refuses_where b 40 inner (name_at label)) (label_found t rows label.text ∙ ap is_some e)

abbrev pub fields_left : Scope → List TyField → Named Ty → Answer (Named Ty)
fields_left inner fields made = infer_ty_fields inner (ty_fields (map ty_field_phrase fields)) made

pub fields_first : (inner : Scope) (fields rest : List TyField) (x : TyField) (made : Named Ty) → fields ≡ x ∷ rest
    → fields_left inner fields made
    ≡ (new_label inner (out-TyField x).label made
    >>= λ u. infer_ty inner (ty_phrase (out-TyField x).ty)
    >>= λ t. fields_left inner rest (with_entry (out-TyField x).label.text t made))
fields_first inner fields rest x made e =
    ap (λ xs. fields_left inner xs made) e
    ∙ ap (λ (row : Name × _). new_label inner row.0 made
    >>= λ u. infer_ty inner row.1
    >>= λ t. fields_left inner rest (with_entry row.0.text t made)) (ty_field_phrase-kept x)

pub made_more : (t : Table) (rows new : Rows TyId) (name : List ℕ) (a : TyId) → new ≡ rows ++ (name, a) ∷ []
    → made_fields t new ≡ with_entry name (type_of t a) (made_fields t rows)
made_more t rows new name a e =
    ap (made_fields t) e
    ∙ ap (λ z. with_all z []) (map_append (type_of t) rows ((name, a) ∷ []))
    ∙ (sets_entries Ty).later name (type_of t a) (map_rows (type_of t) rows) []

pub made_later : (a b : Table) (rows : Rows TyId) → KeepsTypes a b → HaveRows a rows
    → made_fields b rows ≡ made_fields a rows
made_later a b rows h k = ap (λ z. with_all z []) (rows_later a b rows h k)

-- ---- refusals at a place that is the same

pub refuses_at : (g : Graph) (number : ℕ) (at place : At) (names none : List (List ℕ)) (e : Fault) → at ≡ place
    → names ≡ none → Refuses g number at names e → Refuses g number place none e
refuses_at g number at place names none e h k r =
    subst (λ ns. Refuses g number place ns e) k (subst (λ p. Refuses g number p names e) h r)

pub still_refused : {A R S : Type 0} (w : Answer A) (r : R → A) (s : S → A) (e : Fault) → Answers w r (Err e)
    → Answers w s (Err e)
still_refused w r s (fault.Diag d) h = h
still_refused w r s fault.NoMemory h = tt
