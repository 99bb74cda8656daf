-- The bindings of a `type` declaration, one after another.
use Rattle.std.proofs.Common.{◌≡◌, ℕ, List, [], ◌∷◌, ◌++◌, map, refl, sym, ap, ap₂, ◌∙◌, subst, Option, Some, None, Bool, true, false, cond}
use Rattle.std.specs.Prelude.{Result, Ok, Err, IsErrAnd}
use Rattle.std.specs.Option.{is_some}
use Rattle.cm_base.specs.declared.fault.Fault.{Fault}
use Rattle.cm_base.specs.declared.fault.Fault.TheVariants as fault
use Rattle.sml_trees.specs.declared.name.At.{At}
use Rattle.sml_trees.specs.declared.name.Name.{Name}
use Rattle.sml_trees.specs.declared.ty.TypBind.{TypBind}
use Rattle.semantic_objects.specs.declared.entry.TypeFn.{TypeFn}
use Rattle.semantic_objects.specs.declared.entry.TypeStr.{TypeStr}
use Rattle.semantic_objects.specs.declared.entry.ValueEntry.{ValueEntry}
use Rattle.semantic_objects.specs.Tables.{entry, with_all}
use Rattle.semantic_objects.specs.Environments.{Env, env_of, empty_env, types, with_type}
use Rattle.unification.specs.Types.{Ty}
use Rattle.type_nodes.specs.Tables.{Table}
use Rattle.bare_phrases.specs.Phrases.{TypPhrase}
use Rattle.bare_phrases.specs.PhraseOf.{typ_phrase}
use Rattle.sml_modules.specs.declared.parts.NamedEnv.{NamedEnv}
use Rattle.sml_modules.specs.declared.parts.NamedType.{NamedType}
use Rattle.sml_modules.specs.Graphs.{Graph, structure_rows, type_rows}
use Rattle.name_trails.specs.Trails.{Rows, same, entry_after, last_entry}
use Rattle.static_semantics.specs.Inferring.{Progress, Scope, with_written_alone, Answer, ◌>>=◌, gives, refuses_where, name_at}
use Rattle.static_semantics.specs.TypeInference.{infer_ty, infer_types, new_label, listed, numbers, as_written, type_function, plain_type}
use Rattle.core_scopes.specs.declared.made.Made.{Made}
use Rattle.core_scopes.specs.declared.made.NamedInScope.{NamedInScope}
use Rattle.core_scopes.specs.Scopes.{Bindings}
use Rattle.core_scopes.specs.Marks.{env_of_made}
use Rattle.core_scopes.specs.Marks as marks
use Rattle.core_scopes.proofs.Tables.{or_held, entry_under, all_append}
use Rattle.type_phrases.specs.Inferred.{Answers, KeepsTypes, Refuses, progress, scope_in}
use Rattle.type_phrases.proofs.Keeping.{keeps_all, keeps_later}
use Rattle.type_phrases.proofs.PartsRead.{passed_on}
use Rattle.type_phrases.proofs.Steps.{failed, refused}
use Rattle.type_declarations.specs.Binding.{infer_function, infer_bind, env_of_types, IsNamed, IsBindStep, AreBindsStep}

-- ---- names

after_append : {A : Type 0} (held : Option A) (front back : Rows A) (name : List ℕ)
    → entry_after held (front ++ back) name ≡ entry_after (entry_after held front name) back name
after_append held [] back name = refl
after_append {A} held (row ∷ front) back name =
    after_append (cond (same row.0 name) (Some row.1) held) front back name

last_next : {A : Type 0} (rows : Rows A) (other : List ℕ) (x : A) (name : List ℕ)
    → last_entry (rows ++ (other, x) ∷ []) name ≡ cond (same other name) (Some x) (last_entry rows name)
unfolding last_entry
last_next rows other x name = after_append None rows ((other, x) ∷ []) name

some_either : {A B : Type 0} (b : Bool) (x : A) (y : B) (o : Option A) (p : Option B) → is_some o ≡ is_some p
    → is_some (cond b (Some x) o) ≡ is_some (cond b (Some y) p)
some_either true x y o p h = refl
some_either false x y o p h = h

alone : {A : Type 0} (o : Option A) → is_some (or_held o None) ≡ is_some o
alone None = refl
alone (Some x) = refl

-- whether a type of a name was made
name_is : (names : Rows (Unit {0})) (made : List NamedType) (name : List ℕ) (o : Option (Unit {0}))
    → IsNamed names made → o ≡ last_entry names name
    → is_some (entry name (types (env_of_types made))) ≡ is_some o
name_is names made name o h e =
    ap is_some (entry_under (type_rows made) [] name) ∙ alone (last_entry (type_rows made) name) ∙ h name
    ∙ ap is_some (sym e)

pub name_free : (sc : Scope) (name : Name) (names : Rows (Unit {0})) (made : List NamedType) (o : Option (Unit {0}))
    → IsNamed names made → o ≡ last_entry names name.text → o ≡ None
    → new_label sc name (types (env_of_types made)) ≡ gives tt
name_free sc name names made o h e none =
    ap (λ c. refuses_where c 40 sc (name_at name)) (name_is names made name.text o h e ∙ ap is_some none)

pub name_taken : (g : Graph) (sc : Scope) (name : Name) (names : Rows (Unit {0})) (made : List NamedType)
    (o : Option (Unit {0})) (x : Unit {0}) (e : Fault) (at : At) (none : List (List ℕ)) → sc.home ≡ g.home
    → IsNamed names made → o ≡ last_entry names name.text → o ≡ Some x → at ≡ name_at name → none ≡ []
    → Refuses g 40 at none e
    → Answers {R = Unit {0}} (new_label sc name (types (env_of_types made))) (λ u. tt) (Err e)
name_taken g sc name names made o x e at none home h k some p n r =
    subst (λ (w : Answer (Unit {0})). Answers {R = Unit {0}} w (λ u. tt) (Err e))
    (sym (ap (λ c. refuses_where c 40 sc (name_at name)) (name_is names made name.text o h k ∙ ap is_some some)))
    (refused {R = Unit {0}} g sc 40 (name_at name) [] (λ u. tt) e home
    (subst (λ ns. Refuses g 40 (name_at name) ns e) n (subst (λ q. Refuses g 40 q none e) p r)))

-- ---- a binding

abbrev pub ListedAs : Graph → Table → Table → List Name → Result (Rows ℕ) Fault → Type 0
ListedAs g old new names r = (inner : Scope) → inner.home ≡ g.home
    → Answers (listed inner names [] (progress old g)) (λ rows. (rows, progress new g)) r

pub listed_by : (g : Graph) (old new : Table) (names tyvars : List Name) (r : Result (Rows ℕ) Fault) → names ≡ tyvars
    → ListedAs g old new names r → ListedAs g old new tyvars r
listed_by g old new names tyvars r e h = subst (λ ns. ListedAs g old new ns r) e h

abbrev CheckedAs : Graph → Rows (Unit {0}) → Name → Result (Unit {0}) Fault → Type 0
CheckedAs g names name r = (inner : Scope) (made : List NamedType) → inner.home ≡ g.home → IsNamed names made
    → Answers (new_label inner name (types (env_of_types made))) (λ u. tt) r

abbrev after_list : Scope → TypPhrase → Env → Rows ℕ → Progress → Answer (TypeFn × Progress)
after_list sc bind made rows st =
    new_label sc bind.name (types made) >>= λ u. infer_function sc rows bind.ty >>= λ f. gives (f, st)

pub bind_unlisted : {V : Type 0} (g : Graph) (old new : Table) (sc : Bindings V) (names : Rows (Unit {0}))
    (bind : TypPhrase) (e : Fault) (r : Result TypeFn Fault) → IsErrAnd r (λ f. f ≡ e)
    → ListedAs g old new bind.tyvars (Err e) → KeepsTypes old new → IsBindStep g old sc names bind new r
bind_unlisted g old new sc names bind e r k h keeps =
    passed_on (IsBindStep g old sc names bind new) r e k (record {
      infers = λ u read made named.
          failed (listed (scope_in g u read sc) bind.tyvars [] (progress old g))
          (λ z. after_list (scope_in g u read sc) bind (env_of_types made) z.0 z.1)
          (λ rows. (rows, progress new g)) (λ function. (function, progress new g)) e (h (scope_in g u read sc) refl);
      keeps = keeps;
    })

-- .. once its list is known
bind_listed : {V : Type 0} (g : Graph) (old new u : Table) (sc : Bindings V) (bind : TypPhrase) (rows : Rows ℕ)
    (read : V → ValueEntry) (made : List NamedType) → ListedAs g old new bind.tyvars (Ok rows)
    → infer_bind (scope_in g u read sc) bind (env_of_types made) (progress old g)
    ≡ after_list (scope_in g u read sc) bind (env_of_types made) rows (progress new g)
bind_listed g old new u sc bind rows read made h =
    ap (λ (w : Answer (Rows ℕ × Progress)). w
    >>= λ z. after_list (scope_in g u read sc) bind (env_of_types made) z.0 z.1) (h (scope_in g u read sc) refl)

pub bind_taken : {V : Type 0} (g : Graph) (old new : Table) (sc : Bindings V) (names : Rows (Unit {0}))
    (bind : TypPhrase) (rows : Rows ℕ) (e : Fault) (r : Result TypeFn Fault) → IsErrAnd r (λ f. f ≡ e)
    → ListedAs g old new bind.tyvars (Ok rows) → CheckedAs g names bind.name (Err e) → KeepsTypes old new
    → IsBindStep g old sc names bind new r
bind_taken g old new sc names bind rows e r k h check keeps =
    passed_on (IsBindStep g old sc names bind new) r e k (record {
      infers = λ u read made named.
          subst (λ (w : Answer (TypeFn × Progress)). Answers w (λ function. (function, progress new g)) (Err e))
          (sym (bind_listed g old new u sc bind rows read made h))
          (failed {R = Unit {0}} (new_label (scope_in g u read sc) bind.name (types (env_of_types made)))
          (λ v. infer_function (scope_in g u read sc) rows bind.ty >>= λ f. gives (f, progress new g))
          (λ v. tt) (λ function. (function, progress new g)) e (check (scope_in g u read sc) made refl named));
      keeps = keeps;
    })

paired : {A B : Type 0} (m : Answer A) (b : B) (r : Result A Fault) → Answers m (λ x. x) r
    → Answers {A = A × B} (m >>= λ x. gives (x, b)) (λ x. (x, b)) r
paired {A} {B} m b (Ok x) h = ap (λ (z : Answer A). z >>= λ y. gives (y, b)) h
paired {A} {B} m b (Err e) h =
    failed {A = A} {B = A × B} {R = A} {S = A} m (λ x. gives (x, b)) (λ x. x) (λ x. (x, b)) e h

pub bind_read : {V : Type 0} (g : Graph) (old mid new : Table) (sc : Bindings V) (names : Rows (Unit {0}))
    (bind : TypPhrase) (rows : Rows ℕ) (r : Result TypeFn Fault) → ListedAs g old mid bind.tyvars (Ok rows)
    → CheckedAs g names bind.name (Ok tt) → KeepsTypes old mid
    → ((u : Table) (read : V → ValueEntry)
    → Answers (infer_function (scope_in g u read sc) rows bind.ty) (λ function. function) r)
    → new ≡ mid → IsBindStep g old sc names bind new r
bind_read g old mid new sc names bind rows r h check keeps infers e =
    subst (λ z. IsBindStep g old sc names bind z r) (sym e) (record {
      infers = λ u read made named.
          subst (λ (w : Answer (TypeFn × Progress)). Answers w (λ function. (function, progress mid g)) r)
          (sym (bind_listed g old mid u sc bind rows read made h
          ∙ ap (λ (w : Answer (Unit {0})). w >>= λ v. infer_function (scope_in g u read sc) rows bind.ty
          >>= λ f. gives (f, progress mid g)) (check (scope_in g u read sc) made refl named)))
          (paired (infer_function (scope_in g u read sc) rows bind.ty) (progress mid g) r (infers u read));
      keeps = keeps;
    })

-- ---- one after another

rows_append : (front back : List NamedType) → type_rows (front ++ back) ≡ type_rows front ++ type_rows back
rows_append [] back = refl
rows_append (e ∷ front) back = ap (λ (rows : Rows TypeStr). (e.name, e.entry) ∷ rows) (rows_append front back)

abbrev one_type : List ℕ → TypeStr → NamedType
one_type name x = record { name = name; entry = x }

set_next : (made new : List NamedType) (name : List ℕ) (x : TypeStr) → new ≡ made ++ one_type name x ∷ []
    → env_of_types new ≡ with_type name x (env_of_types made)
set_next made new name x e =
    ap env_of_types e
    ∙ ap (λ (rows : Rows TypeStr). env_of [] (with_all rows []) []) (rows_append made (one_type name x ∷ []))
    ∙ ap (λ (rows : Rows TypeStr). env_of [] rows []) (all_append (type_rows made) ((name, x) ∷ []) [])

named_next : (names more : Rows (Unit {0})) (made new : List NamedType) (name other : List ℕ) (x : TypeStr)
    → IsNamed names made → more ≡ names ++ (name, tt) ∷ [] → new ≡ made ++ one_type other x ∷ [] → other ≡ name
    → IsNamed more new
named_next names more made new name other x h e k alike = λ n.
    ap (λ es. is_some (last_entry (type_rows es) n)) k
    ∙ ap (λ (rows : Rows TypeStr). is_some (last_entry rows n)) (rows_append made (one_type other x ∷ []))
    ∙ ap is_some (last_next (type_rows made) other x n)
    ∙ ap (λ z. is_some (cond (same z n) (Some x) (last_entry (type_rows made) n))) alike
    ∙ some_either (same name n) x tt (last_entry (type_rows made) n) (last_entry names n) (h n)
    ∙ ap is_some (sym (last_next names name tt n))
    ∙ ap (λ (rows : Rows (Unit {0})). is_some (last_entry rows n)) (sym e)

then_function : {B X : Type 0} (w : Answer Ty) (f : Ty → TypeFn) (p : B) (k : TypeFn × B → Answer X)
    → (w >>= λ ty. k (f ty, p)) ≡ (((w >>= λ ty. gives (f ty)) >>= λ z. gives (z, p)) >>= k)
then_function None f p k = refl
then_function (Some (Err d)) f p k = refl
then_function (Some (Ok ty)) f p k = refl

then_label : {B X : Type 0} (c : Answer (Unit {0})) (w : Answer Ty) (f : Ty → TypeFn) (p : B)
    (k : TypeFn × B → Answer X)
    → (c >>= λ u. w >>= λ ty. k (f ty, p))
    ≡ ((c >>= λ u. (w >>= λ ty. gives (f ty)) >>= λ z. gives (z, p)) >>= k)
then_label None w f p k = refl
then_label (Some (Err d)) w f p k = refl
then_label (Some (Ok u)) w f p k = then_function w f p k

then_list : {A B X : Type 0} (m : Answer (A × B)) (c : Answer (Unit {0})) (w : A → Answer Ty) (f : A → Ty → TypeFn)
    (k : TypeFn × B → Answer X)
    → (m >>= λ r. c >>= λ u. w r.0 >>= λ ty. k (f r.0 ty, r.1))
    ≡ ((m >>= λ r. c >>= λ u. (w r.0 >>= λ ty. gives (f r.0 ty)) >>= λ z. gives (z, r.1)) >>= k)
then_list None c w f k = refl
then_list (Some (Err d)) c w f k = refl
then_list (Some (Ok r)) c w f k = then_label c (w r.0) (f r.0) r.1 k

abbrev rest_after : Scope → TypPhrase → List TypPhrase → Env → TypeFn × Progress → Answer (Env × Progress)
rest_after sc bind rest made d = infer_types sc rest (with_type bind.name.text (plain_type d.0) made) d.1

types_first : (sc : Scope) (left rest : List TypPhrase) (bind : TypPhrase) (made : Env) (st : Progress)
    → left ≡ bind ∷ rest
    → infer_types sc left made st ≡ (infer_bind sc bind made st >>= rest_after sc bind rest made)
types_first sc left rest bind made st e =
    ap (λ xs. infer_types sc xs made st) e
    ∙ then_list (listed sc bind.tyvars [] st) (new_label sc bind.name (types made))
    (λ rows. infer_ty (with_written_alone (as_written rows) sc) bind.ty)
    (λ rows ty. type_function (numbers rows) ty) (rest_after sc bind rest made)

none_named : IsNamed [] []
unfolding last_entry
none_named name = refl

-- the first bindings of a declaration
pub record TypesSoFar {V : Type 0} (g : Graph) (first : Table) (sc : Bindings V) (binds left : List TypPhrase)
    (now : Table) (names : Rows (Unit {0})) (made : List NamedType) : Type 0 where
  pub named : IsNamed names made
  pub left_is : (u : Table) (read : V → ValueEntry)
      → infer_types (scope_in g u read sc) binds empty_env (progress first g)
      ≡ infer_types (scope_in g u read sc) left (env_of_types made) (progress now g)
  pub keeps : KeepsTypes first now

pub types_none : {V : Type 0} (g : Graph) (t : Table) (sc : Bindings V) (binds : List TypPhrase)
    (names : Rows (Unit {0})) (made : List NamedType) → names ≡ [] → made ≡ []
    → TypesSoFar g t sc binds binds t names made
types_none g t sc binds names made e f =
    subst (λ ns. TypesSoFar g t sc binds binds t ns made) (sym e)
    (subst (TypesSoFar g t sc binds binds t []) (sym f)
    (record { named = none_named; left_is = λ u read. refl; keeps = keeps_all t }))

pub types_more : {V : Type 0} (g : Graph) (first now new : Table) (sc : Bindings V) (binds left rest : List TypPhrase)
    (bind : TypPhrase) (names more : Rows (Unit {0})) (made longer : List NamedType) (function : TypeFn)
    (name other : List ℕ) (x : TypeStr) → TypesSoFar g first sc binds left now names made → left ≡ bind ∷ rest
    → IsBindStep g now sc names bind new (Ok function) → x ≡ plain_type function → name ≡ bind.name.text
    → more ≡ names ++ (name, tt) ∷ [] → other ≡ bind.name.text → longer ≡ made ++ one_type other x ∷ []
    → TypesSoFar g first sc binds rest new more longer
types_more g first now new sc binds left rest bind names more made longer function name other x inv is step p n e o k =
    record {
      named = named_next names more made longer name other x inv.named e k (o ∙ sym n);
      left_is = λ u read.
          inv.left_is u read
          ∙ types_first (scope_in g u read sc) left rest bind (env_of_types made) (progress now g) is
          ∙ ap (λ (w : Answer (TypeFn × Progress)). w >>= rest_after (scope_in g u read sc) bind rest (env_of_types made))
          (step.infers u read made inv.named)
          ∙ ap (λ (env : Env). infer_types (scope_in g u read sc) rest env (progress new g))
          (ap₂ (λ (text : List ℕ) (str : TypeStr). with_type text str (env_of_types made)) (sym o) (sym p)
          ∙ sym (set_next made longer other x k));
      keeps = keeps_later first now new inv.keeps step.keeps;
    }

pub types_refused : {V : Type 0} (g : Graph) (first now new : Table) (sc : Bindings V)
    (binds left rest : List TypPhrase) (bind : TypPhrase) (names : Rows (Unit {0})) (made : List NamedType) (e : Fault)
    (r : Result (List NamedType) Fault) → TypesSoFar g first sc binds left now names made → IsErrAnd r (λ f. f ≡ e)
    → left ≡ bind ∷ rest → IsBindStep g now sc names bind new (Err e) → AreBindsStep g first sc binds new r
types_refused g first now new sc binds left rest bind names made e r inv k is step =
    passed_on (AreBindsStep g first sc binds new) r e k (record {
      infers = λ u read.
          subst (λ (w : Answer (Env × Progress)). Answers w (λ made. (env_of_types made, progress new g)) (Err e))
          (sym (inv.left_is u read
          ∙ types_first (scope_in g u read sc) left rest bind (env_of_types made) (progress now g) is))
          (failed (infer_bind (scope_in g u read sc) bind (env_of_types made) (progress now g))
          (rest_after (scope_in g u read sc) bind rest (env_of_types made))
          (λ function. (function, progress new g)) (λ made. (env_of_types made, progress new g)) e
          (step.infers u read made inv.named));
      keeps = keeps_later first now new inv.keeps step.keeps;
    })

pub types_no_memory : {V : Type 0} (g : Graph) (first new : Table) (sc : Bindings V) (binds : List TypPhrase)
    (r : Result (List NamedType) Fault) → IsErrAnd r (λ f. f ≡ fault.NoMemory) → KeepsTypes first new
    → AreBindsStep g first sc binds new r
types_no_memory g first new sc binds r k keeps =
    passed_on (AreBindsStep g first sc binds new) r fault.NoMemory k
    (record { infers = λ u read. tt; keeps = keeps })

pub types_all : {V : Type 0} (g : Graph) (first now : Table) (sc : Bindings V) (binds left : List TypPhrase)
    (names : Rows (Unit {0})) (made : List NamedType) → TypesSoFar g first sc binds left now names made → left ≡ []
    → AreBindsStep g first sc binds now (Ok made)
types_all g first now sc binds left names made inv e = record {
  infers = λ u read.
      inv.left_is u read
      ∙ ap (λ xs. infer_types (scope_in g u read sc) xs (env_of_types made) (progress now g)) e;
  keeps = inv.keeps;
}

-- the phrases of bindings
pub phrase_next : (left rest : List TypBind) (x : TypBind) → left ≡ x ∷ rest
    → map typ_phrase left ≡ typ_phrase x ∷ map typ_phrase rest
phrase_next left rest x e = ap (map typ_phrase) e

pub phrases_end : (left : List TypBind) → left ≡ [] → map typ_phrase left ≡ []
phrases_end left e = ap (map typ_phrase) e

-- ---- what was made

pub made_is : {V : Type 0} (g : Graph) (read : V → ValueEntry) (made : Made V) → made.structures ≡ []
    → made.values ≡ [] → env_of_made g read made ≡ env_of_types made.types
made_is {V} g read made ss vs =
    ap (λ (es : List NamedEnv). env_of (with_all (structure_rows g es) []) (with_all (type_rows made.types) [])
    (with_all (marks.value_rows read made.values) [])) ss
    ∙ ap (λ (es : List (NamedInScope V)). env_of [] (with_all (type_rows made.types) [])
    (with_all (marks.value_rows read es) [])) vs
