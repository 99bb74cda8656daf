-- What is known when parts of a phrase were read.
use Rattle.std.proofs.Common.{◌≡◌, ℕ, ◌+◌, ◌<◌, ◌≤◌, List, [], ◌∷◌, ◌++◌, length, map, drop, get_or, refl, sym, ap, ◌∙◌, subst, Some, None, Bool, true, false, ◌≢◌, eqb, eq-eqb, not}
use Rattle.std.specs.Prelude.{Result, Ok, Err, IsErrAnd}
use Rattle.std.proofs.lemmas.Bool.{eqb-true}
use Rattle.std.proofs.lemmas.List.{length-map}
use Rattle.cm_base.specs.declared.fault.Fault.{Fault}
use Rattle.cm_base.specs.declared.fault.Fault.TheVariants as fault
use Rattle.sml_trees.specs.declared.name.At.{At}
use Rattle.sml_trees.specs.declared.name.Name.{Name}
use Rattle.sml_trees.specs.declared.name.LongName.{LongName}
use Rattle.sml_trees.specs.declared.ty.Ty.{Ty as Phrase}
use Rattle.sml_trees.specs.declared.ty.TyField.{TyField, out-TyField}
use Rattle.semantic_objects.specs.declared.name.TyId.{TyId}
use Rattle.semantic_objects.specs.declared.symbol.Symbol.TheVariants as symbol
use Rattle.semantic_objects.specs.declared.entry.TypeStr.{TypeStr}
use Rattle.semantic_objects.specs.Symbols.{AreDiffering}
use Rattle.semantic_objects.specs.Tables.{Table as Named, names_of, with_entry}
use Rattle.semantic_objects.specs.Environments.{types}
use Rattle.unification.specs.Types.{Ty}
use Rattle.type_nodes.specs.Tables.{Table, Has, state, type_of, types_of}
use Rattle.type_schemes.specs.Instances.{Extends}
use Rattle.type_schemes.specs.Schemes.{HaveAll}
use Rattle.type_functions.specs.Applied.{with_types}
use Rattle.sml_modules.specs.Graphs.{Graph}
use Rattle.name_trails.specs.Trails.{Rows, last_entry}
use Rattle.env_parts.proofs.Tabling.{drop_next, drop_past}
use Rattle.bare_phrases.specs.Phrases.{TyPhrase, TyFields, TyPhrases}
use Rattle.bare_phrases.specs.PhraseOf.{ty_phrase, ty_phrases, ty_field_phrase, ty_fields}
use Rattle.static_semantics.specs.BasicTypes.{unit_ty, arrow_ty, record_ty}
use Rattle.static_semantics.specs.Inferring.{Scope, Answer, ◌>>=◌, gives, name_at, refuses_where, known, found_at}
use Rattle.static_semantics.specs.TypeInference.{applied_to, new_label, infer_ty, infer_tys, infer_ty_fields}
use Rattle.core_scopes.specs.Scopes.{Bindings, written_of, first_entry}
use Rattle.type_phrases.specs.Inferred.{Answers, Refuses, IsScopeOver, HaveRows, made_fields}
use Rattle.type_phrases.specs.Steps.{IsReadAs, OnlyMakes, IsRead, AreArgs, AreFields, IsApplied, applied_ty}
use Rattle.type_phrases.proofs.Keeping.{keeps_extended, makes_nothing, makes_later, makes_by, over_later, read_later, types_later, all_later, all_nothing, all_more, rows_have, rows_more}
use Rattle.type_phrases.proofs.Records.{differ_more}
use Rattle.type_phrases.proofs.Steps.{failed, refused, variable_is, have_found, rest_of, fields_left, args_begin, args_next, args_failed, args_end, fields_first, made_more, made_later, applied_fits, applied_differs}

-- ---- any phrase

-- what a failed step hands on
pub passed_on : {R : Type 0} (P : Result R Fault → Type 0) (r : Result R Fault) (e : Fault) → IsErrAnd r (λ f. f ≡ e)
    → P (Err e) → P r
passed_on P (Ok x) e h k = absurd h
passed_on P (Err f) e h k = subst (λ (z : Fault). P (Err z)) (sym h) k

pub read_stopped : {V : Type 0} (g : Graph) (old mid new : Table) (sc : Bindings V) (p : TyPhrase)
    → IsScopeOver g mid sc → OnlyMakes old mid → new ≡ mid → IsRead g old sc p new (Err fault.NoMemory)
read_stopped g old mid new sc p o h e = subst (λ z. IsRead g old sc p z (Err fault.NoMemory)) (sym e) (record {
  infers = λ inner r. tt;
  has = tt;
  over = o;
  makes = h;
})

pub read_phrase : {V : Type 0} (g : Graph) (old new : Table) (sc : Bindings V) (p q : TyPhrase) (r : Result TyId Fault)
    → p ≡ q → IsRead g old sc q new r → IsRead g old sc p new r
read_phrase g old new sc p q r e h = subst (λ z. IsRead g old sc z new r) (sym e) h

-- ---- type variables

pub read_found : {V : Type 0} (g : Graph) (t : Table) (sc : Bindings V) (name : Name) (at : At) (a : TyId)
    → IsScopeOver g t sc → first_entry (written_of sc) name.text ≡ Some a
    → IsRead g t sc (TyPhrase.Var name at) t (Ok a)
read_found g t sc name at a o e = record {
  infers = λ inner r. variable_is g t sc inner name (Some a) r e;
  has = have_found t (written_of sc) name.text a o.written e;
  over = o;
  makes = makes_nothing t;
}

pub read_missing : {V : Type 0} (g : Graph) (t : Table) (sc : Bindings V) (name : Name) (at : At) (e : Fault)
    → IsScopeOver g t sc → first_entry (written_of sc) name.text ≡ None → Refuses g 30 (name_at name) (name.text ∷ []) e
    → IsRead g t sc (TyPhrase.Var name at) t (Err e)
read_missing g t sc name at e o none h = record {
  infers = λ inner r.
      subst (λ (w : Answer Ty). Answers w (type_of t) (Err e)) (sym (variable_is g t sc inner name None r none))
      (refused g inner 30 (name_at name) (name.text ∷ []) (type_of t) e r.home h);
  has = tt;
  over = o;
  makes = makes_nothing t;
}

-- ---- function types

pub read_arrow : {V : Type 0} (g : Graph) (old mid later new : Table) (sc : Bindings V) (p q : TyPhrase) (at : At)
    (from to id : TyId) → IsScopeOver g old sc → IsRead g old sc p mid (Ok from) → IsRead g mid sc q later (Ok to)
    → type_of new id ≡ Ty.Made symbol.Arrow (types_of later (from ∷ to ∷ [])) → Has new id → Extends later new
    → state new ≡ state later → IsRead g old sc (TyPhrase.Arrow p q at) new (Ok id)
read_arrow g old mid later new sc p q at from to id o a b made has extends same = record {
  infers = λ inner r.
      ap (λ (m : Answer Ty). m >>= λ x. infer_ty inner q >>= λ y. gives (arrow_ty x y)) (a.infers inner r)
      ∙ ap (λ (m : Answer Ty). m >>= λ y. gives (arrow_ty (type_of mid from) y))
      (b.infers inner (read_later g old mid sc inner a.makes.keeps o r))
      ∙ ap gives (sym (made ∙ ap (λ x. arrow_ty x (type_of later to)) (b.makes.keeps.types from a.has)));
  has = has;
  over = over_later g later new sc (keeps_extended later new extends) b.over;
  makes = makes_later old mid new a.makes (makes_later mid later new b.makes (makes_by later new extends same));
}

pub from_fails : {V : Type 0} (g : Graph) (old mid : Table) (sc : Bindings V) (p q : TyPhrase) (at : At) (e : Fault)
    → IsRead g old sc p mid (Err e) → IsRead g old sc (TyPhrase.Arrow p q at) mid (Err e)
from_fails g old mid sc p q at e a = record {
  infers = λ inner r.
      failed (infer_ty inner p) (λ x. infer_ty inner q >>= λ y. gives (arrow_ty x y)) (type_of mid) (type_of mid) e
      (a.infers inner r);
  has = tt;
  over = a.over;
  makes = a.makes;
}

pub to_fails : {V : Type 0} (g : Graph) (old mid later : Table) (sc : Bindings V) (p q : TyPhrase) (at : At)
    (from : TyId) (e : Fault) → IsScopeOver g old sc → IsRead g old sc p mid (Ok from)
    → IsRead g mid sc q later (Err e) → IsRead g old sc (TyPhrase.Arrow p q at) later (Err e)
to_fails g old mid later sc p q at from e o a b = record {
  infers = λ inner r.
      subst (λ (w : Answer Ty). Answers w (type_of later) (Err e))
      (sym (ap (λ (m : Answer Ty). m >>= λ x. infer_ty inner q >>= λ y. gives (arrow_ty x y)) (a.infers inner r)))
      (failed (infer_ty inner q) (λ y. gives (arrow_ty (type_of mid from) y)) (type_of later) (type_of later) e
      (b.infers inner (read_later g old mid sc inner a.makes.keeps o r)));
  has = tt;
  over = b.over;
  makes = makes_later old mid later a.makes b.makes;
}

-- ---- type constructors

pub read_named : {V : Type 0} (g : Graph) (old mid new : Table) (sc : Bindings V) (args : TyPhrases) (long : LongName)
    (at : At) (ids : List TyId) (result : Result TyId Fault) → IsScopeOver g old sc
    → AreArgs g old sc args mid (Ok ids) → IsApplied g mid sc ids long at new result
    → IsRead g old sc (TyPhrase.Named args long at) new result
read_named g old mid new sc args long at ids result o a b = record {
  infers = λ inner r.
      subst (λ (w : Answer Ty). Answers w (type_of new) result)
      (sym (ap (λ (m : Answer (List Ty)). m >>= λ made. applied_ty inner made long at) (a.infers inner r)))
      (b.infers inner (read_later g old mid sc inner a.makes.keeps o r));
  has = b.has;
  over = over_later g mid new sc b.makes.keeps a.over;
  makes = makes_later old mid new a.makes b.makes;
}

pub args_fail : {V : Type 0} (g : Graph) (old mid : Table) (sc : Bindings V) (args : TyPhrases) (long : LongName)
    (at : At) (e : Fault) → AreArgs g old sc args mid (Err e) → IsRead g old sc (TyPhrase.Named args long at) mid (Err e)
args_fail g old mid sc args long at e a = record {
  infers = λ inner r.
      failed (infer_tys inner args) (λ made. applied_ty inner made long at) (map (type_of mid)) (type_of mid) e
      (a.infers inner r);
  has = tt;
  over = a.over;
  makes = a.makes;
}

-- ---- records

pub read_record : {V : Type 0} (g : Graph) (old mid new : Table) (sc : Bindings V) (fields : TyFields) (at : At)
    (rows : Rows TyId) (id : TyId) → AreFields g old sc fields mid (Ok rows)
    → type_of new id ≡ record_ty (made_fields mid rows) → Has new id → Extends mid new → state new ≡ state mid
    → IsRead g old sc (TyPhrase.Record fields at) new (Ok id)
read_record g old mid new sc fields at rows id a made has extends same = record {
  infers = λ inner r.
      ap (λ (m : Answer (Named Ty)). m >>= λ made. gives (record_ty made)) (a.infers inner r) ∙ ap gives (sym made);
  has = has;
  over = over_later g mid new sc (keeps_extended mid new extends) a.over;
  makes = makes_later old mid new a.makes (makes_by mid new extends same);
}

pub fields_fail : {V : Type 0} (g : Graph) (old mid : Table) (sc : Bindings V) (fields : TyFields) (at : At) (e : Fault)
    → AreFields g old sc fields mid (Err e) → IsRead g old sc (TyPhrase.Record fields at) mid (Err e)
fields_fail g old mid sc fields at e a = record {
  infers = λ inner r.
      failed (infer_ty_fields inner fields []) (λ made. gives (record_ty made)) (made_fields mid) (type_of mid) e
      (a.infers inner r);
  has = tt;
  over = a.over;
  makes = a.makes;
}

-- ---- one item after another

pub drop_item : {A : Type 0} (xs : List A) (k : ℕ) (x : A) → k < length xs → x ≡ get_or xs k x
    → drop k xs ≡ x ∷ drop (k + 1) xs
drop_item xs k x h e = drop_next k xs x h ∙ ap (λ y. y ∷ drop (k + 1) xs) (sym e)

pub drop_end : {A : Type 0} (xs : List A) (k : ℕ) → length xs ≤ k → drop k xs ≡ []
drop_end xs k h = drop_past k xs h

-- ---- arguments

-- the ids of the first arguments
pub record ArgsSoFar {V : Type 0} (g : Graph) (first : Table) (sc : Bindings V) (args left : List Phrase) (now : Table)
    (ids : List TyId) : Type 0 where
  pub over : IsScopeOver g now sc
  pub makes : OnlyMakes first now
  pub have : HaveAll now ids
  pub left_is : (inner : Scope) → IsReadAs g first sc inner
      → infer_tys inner (ty_phrases (map ty_phrase args)) ≡ rest_of inner left (map (type_of now) ids)

pub args_none : {V : Type 0} (g : Graph) (t : Table) (sc : Bindings V) (args : List Phrase) (ids : List TyId)
    → IsScopeOver g t sc → ids ≡ [] → ArgsSoFar g t sc args args t ids
args_none g t sc args ids o e = subst (ArgsSoFar g t sc args args t) (sym e) (record {
  over = o;
  makes = makes_nothing t;
  have = all_nothing t;
  left_is = λ inner r. args_begin (infer_tys inner (ty_phrases (map ty_phrase args)));
})

ids_snoc : (t : Table) (ids : List TyId) (a : TyId) → map (type_of t) (ids ++ a ∷ []) ≡ map (type_of t) ids ++ type_of t a ∷ []
ids_snoc t [] a = refl
ids_snoc t (x ∷ ids) a = ap (λ ts. type_of t x ∷ ts) (ids_snoc t ids a)

pub args_more : {V : Type 0} (g : Graph) (first now new : Table) (sc : Bindings V) (args left rest : List Phrase)
    (x : Phrase) (ids more : List TyId) (a : TyId) → IsScopeOver g first sc → ArgsSoFar g first sc args left now ids
    → left ≡ x ∷ rest → IsRead g now sc (ty_phrase x) new (Ok a) → more ≡ ids ++ a ∷ []
    → ArgsSoFar g first sc args rest new more
args_more g first now new sc args left rest x ids more a o inv e read k = record {
  over = read.over;
  makes = makes_later first now new inv.makes read.makes;
  have = all_more new ids more a (all_later now new ids read.makes.keeps inv.have) read.has k;
  left_is = λ inner r.
      inv.left_is inner r
      ∙ args_next inner left rest x (map (type_of now) ids) (map (type_of new) more) (type_of new a) e
      (read.infers inner (read_later g first now sc inner inv.makes.keeps o r))
      (ap (map (type_of new)) k ∙ ids_snoc new ids a
      ∙ ap (λ ts. ts ++ type_of new a ∷ []) (types_later now new ids read.makes.keeps inv.have));
}

pub args_refused : {V : Type 0} (g : Graph) (first now new : Table) (sc : Bindings V) (args left rest : List Phrase)
    (x : Phrase) (ids : List TyId) (e : Fault) → IsScopeOver g first sc → ArgsSoFar g first sc args left now ids
    → left ≡ x ∷ rest → IsRead g now sc (ty_phrase x) new (Err e)
    → AreArgs g first sc (ty_phrases (map ty_phrase args)) new (Err e)
args_refused g first now new sc args left rest x ids e o inv is read = record {
  infers = λ inner r.
      subst (λ (w : Answer (List Ty)). Answers w (map (type_of new)) (Err e)) (sym (inv.left_is inner r))
      (args_failed inner left rest x (map (type_of now) ids) (type_of new) (map (type_of new)) e is
      (read.infers inner (read_later g first now sc inner inv.makes.keeps o r)));
  have = tt;
  over = read.over;
  makes = makes_later first now new inv.makes read.makes;
}

pub args_no_memory : {V : Type 0} (g : Graph) (old new : Table) (sc : Bindings V) (args : TyPhrases) (e : Fault)
    → IsScopeOver g new sc → OnlyMakes old new → e ≡ fault.NoMemory → AreArgs g old sc args new (Err e)
args_no_memory g old new sc args e o h k = record {
  over = o;
  infers = λ inner r. subst (λ (f : Fault). Answers (infer_tys inner args) (map (type_of new)) (Err f)) (sym k) tt;
  have = tt;
  makes = h;
}

pub args_all : {V : Type 0} (g : Graph) (first now : Table) (sc : Bindings V) (args left : List Phrase) (ids : List TyId)
    → ArgsSoFar g first sc args left now ids → left ≡ []
    → AreArgs g first sc (ty_phrases (map ty_phrase args)) now (Ok ids)
args_all g first now sc args left ids inv e = record {
  infers = λ inner r. inv.left_is inner r ∙ args_end inner left (map (type_of now) ids) e;
  have = inv.have;
  over = inv.over;
  makes = inv.makes;
}

-- ---- fields

-- the ids of the first fields
pub record FieldsSoFar {V : Type 0} (g : Graph) (first : Table) (sc : Bindings V) (fields left : List TyField)
    (now : Table) (rows : Rows TyId) : Type 0 where
  pub over : IsScopeOver g now sc
  pub makes : OnlyMakes first now
  pub have : HaveRows now rows
  pub differing : AreDiffering (names_of rows)
  pub left_is : (inner : Scope) → IsReadAs g first sc inner
      → fields_left inner fields [] ≡ fields_left inner left (made_fields now rows)

pub fields_none : {V : Type 0} (g : Graph) (t : Table) (sc : Bindings V) (fields : List TyField) (rows : Rows TyId)
    → IsScopeOver g t sc → rows ≡ [] → FieldsSoFar g t sc fields fields t rows
fields_none g t sc fields rows o e = subst (FieldsSoFar g t sc fields fields t) (sym e) (record {
  over = o;
  makes = makes_nothing t;
  have = tt;
  differing = tt;
  left_is = λ inner r. refl;
})

abbrev pub Checked : Graph → Table → Rows TyId → Name → Result (Unit {0}) Fault → Type 0
Checked g t rows label result = (inner : Scope) → inner.home ≡ g.home
    → Answers (new_label inner label (made_fields t rows)) (λ u. tt) result

pub fields_more : {V : Type 0} (g : Graph) (first now new : Table) (sc : Bindings V) (fields left rest : List TyField)
    (x : TyField) (rows more : Rows TyId) (name : List ℕ) (a : TyId) → IsScopeOver g first sc
    → FieldsSoFar g first sc fields left now rows → left ≡ x ∷ rest
    → Checked g now rows (out-TyField x).label (Ok tt) → last_entry rows (out-TyField x).label.text ≡ None
    → IsRead g now sc (ty_phrase (out-TyField x).ty) new (Ok a) → name ≡ (out-TyField x).label.text
    → more ≡ rows ++ (name, a) ∷ [] → FieldsSoFar g first sc fields rest new more
fields_more g first now new sc fields left rest x rows more name a o inv e checked free read same k =
    let label = (out-TyField x).label in
    let k2 : more ≡ rows ++ (label.text, a) ∷ [] = k ∙ ap (λ n. rows ++ (n, a) ∷ []) same in
    record {
      over = read.over;
      makes = makes_later first now new inv.makes read.makes;
      have = rows_more new rows more label.text a (rows_have now new rows read.makes.keeps inv.have) read.has k2;
      differing = differ_more rows more label.text a inv.differing free k2;
      left_is = λ inner r.
          inv.left_is inner r
          ∙ fields_first inner left rest x (made_fields now rows) e
          ∙ ap (λ (m : Answer (Unit {0})). m
          >>= λ u. infer_ty inner (ty_phrase (out-TyField x).ty)
          >>= λ t. fields_left inner rest (with_entry label.text t (made_fields now rows))) (checked inner r.home)
          ∙ ap (λ (m : Answer Ty). m
          >>= λ t. fields_left inner rest (with_entry label.text t (made_fields now rows)))
          (read.infers inner (read_later g first now sc inner inv.makes.keeps o r))
          ∙ ap (fields_left inner rest)
          (sym (made_more new rows more label.text a k2
          ∙ ap (with_entry label.text (type_of new a)) (made_later now new rows read.makes.keeps inv.have)));
    }

pub label_refused : {V : Type 0} (g : Graph) (first now : Table) (sc : Bindings V) (fields left rest : List TyField)
    (x : TyField) (rows : Rows TyId) (e : Fault) → FieldsSoFar g first sc fields left now rows → left ≡ x ∷ rest
    → Checked g now rows (out-TyField x).label (Err e)
    → AreFields g first sc (ty_fields (map ty_field_phrase fields)) now (Err e)
label_refused g first now sc fields left rest x rows e inv is checked = record {
  infers = λ inner r.
      subst (λ (w : Answer (Named Ty)). Answers w (made_fields now) (Err e))
      (sym (inv.left_is inner r ∙ fields_first inner left rest x (made_fields now rows) is))
      (failed {R = Unit {0}} (new_label inner (out-TyField x).label (made_fields now rows))
      (λ u. infer_ty inner (ty_phrase (out-TyField x).ty)
      >>= λ t. fields_left inner rest (with_entry (out-TyField x).label.text t (made_fields now rows)))
      (λ u. tt) (made_fields now) e (checked inner r.home));
  have = tt;
  differing = tt;
  over = inv.over;
  makes = inv.makes;
}

pub field_refused : {V : Type 0} (g : Graph) (first now new : Table) (sc : Bindings V) (fields left rest : List TyField)
    (x : TyField) (rows : Rows TyId) (e : Fault) → IsScopeOver g first sc → FieldsSoFar g first sc fields left now rows
    → left ≡ x ∷ rest → Checked g now rows (out-TyField x).label (Ok tt)
    → IsRead g now sc (ty_phrase (out-TyField x).ty) new (Err e)
    → AreFields g first sc (ty_fields (map ty_field_phrase fields)) new (Err e)
field_refused g first now new sc fields left rest x rows e o inv is checked read = record {
  infers = λ inner r.
      subst (λ (w : Answer (Named Ty)). Answers w (made_fields new) (Err e))
      (sym (inv.left_is inner r ∙ fields_first inner left rest x (made_fields now rows) is
      ∙ ap (λ (m : Answer (Unit {0})). m
      >>= λ u. infer_ty inner (ty_phrase (out-TyField x).ty)
      >>= λ t. fields_left inner rest (with_entry (out-TyField x).label.text t (made_fields now rows)))
      (checked inner r.home)))
      (failed (infer_ty inner (ty_phrase (out-TyField x).ty))
      (λ t. fields_left inner rest (with_entry (out-TyField x).label.text t (made_fields now rows)))
      (type_of new) (made_fields new) e
      (read.infers inner (read_later g first now sc inner inv.makes.keeps o r)));
  have = tt;
  differing = tt;
  over = read.over;
  makes = makes_later first now new inv.makes read.makes;
}

pub fields_no_memory : {V : Type 0} (g : Graph) (old new : Table) (sc : Bindings V) (fields : TyFields) (e : Fault)
    → IsScopeOver g new sc → OnlyMakes old new → e ≡ fault.NoMemory → AreFields g old sc fields new (Err e)
fields_no_memory g old new sc fields e o h k = record {
  over = o;
  infers = λ inner r.
      subst (λ (f : Fault). Answers (infer_ty_fields inner fields []) (made_fields new) (Err f)) (sym k) tt;
  have = tt;
  differing = tt;
  makes = h;
}

pub fields_all : {V : Type 0} (g : Graph) (first now : Table) (sc : Bindings V) (fields left : List TyField)
    (rows : Rows TyId) → FieldsSoFar g first sc fields left now rows → left ≡ []
    → AreFields g first sc (ty_fields (map ty_field_phrase fields)) now (Ok rows)
fields_all g first now sc fields left rows inv e = record {
  infers = λ inner r. inv.left_is inner r ∙ ap (λ xs. fields_left inner xs (made_fields now rows)) e;
  have = inv.have;
  differing = inv.differing;
  over = inv.over;
  makes = inv.makes;
}

-- ---- type constructors with arguments that were read

pub applied_unknown : {V : Type 0} (g : Graph) (t : Table) (sc : Bindings V) (ids : List TyId) (long : LongName) (at : At)
    (e : Fault)
    → ((inner : Scope) → IsReadAs g t sc inner
    → Answers (known inner long (found_at types long.parts inner.env)) (λ (found : TypeStr). found) (Err e))
    → IsApplied g t sc ids long at t (Err e)
applied_unknown g t sc ids long at e h = record {
  infers = λ inner r.
      failed (known inner long (found_at types long.parts inner.env))
      (λ found. refuses_where (not (eqb (length (map (type_of t) ids)) found.function.arity)) 35 inner at
      >>= λ u. gives (applied_to found.function (map (type_of t) ids)))
      (λ (found : TypeStr). found) (type_of t) e (h inner r);
  has = tt;
  makes = makes_nothing t;
}

differ : (m n k : ℕ) → m ≡ k → (k ≢ n) → eqb m n ≡ false
differ m n k e h = by_test (eqb m n) refl
  where
    by_test : (b : Bool) → eqb m n ≡ b → b ≡ false
    by_test true f = absurd (h (sym e ∙ eqb-true m n f))
    by_test false f = refl

pub applied_refused : {V : Type 0} (g : Graph) (t : Table) (sc : Bindings V) (ids : List TyId) (long : LongName) (at : At)
    (found : TypeStr) (e : Fault) (len : ℕ) (names : List (List ℕ))
    → ((inner : Scope) → IsReadAs g t sc inner
    → known inner long (found_at types long.parts inner.env) ≡ gives found)
    → len ≡ length ids → (len ≢ found.function.arity) → names ≡ [] → Refuses g 35 at names e
    → IsApplied g t sc ids long at t (Err e)
applied_refused g t sc ids long at found e len names h l d none k = record {
  infers = λ inner r.
      subst (λ (w : Answer Ty). Answers w (type_of t) (Err e))
      (sym (applied_differs inner (map (type_of t) ids) long at found (h inner r)
      (differ (length (map (type_of t) ids)) found.function.arity len (length-map ids (type_of t) ∙ sym l) d)))
      (refused g inner 35 at [] (type_of t) e r.home (subst (λ ns. Refuses g 35 at ns e) none k));
  has = tt;
  makes = makes_nothing t;
}

pub applied_made : {V : Type 0} (g : Graph) (t new : Table) (sc : Bindings V) (ids : List TyId) (long : LongName)
    (at : At) (found : TypeStr) (id : TyId) (len : ℕ)
    → ((inner : Scope) → IsReadAs g t sc inner
    → known inner long (found_at types long.parts inner.env) ≡ gives found)
    → len ≡ length ids → len ≡ found.function.arity
    → ((other : Ty) → type_of new id ≡ with_types other (map (type_of t) ids) found.function.body)
    → Has new id → Extends t new → state new ≡ state t → IsApplied g t sc ids long at new (Ok id)
applied_made g t new sc ids long at found id len h l s made has extends same = record {
  infers = λ inner r.
      applied_fits inner (map (type_of t) ids) long at found (h inner r)
      (eq-eqb (length (map (type_of t) ids)) found.function.arity (length-map ids (type_of t) ∙ sym l ∙ s))
      ∙ ap gives (sym (made unit_ty));
  has = has;
  makes = makes_by t new extends same;
}
