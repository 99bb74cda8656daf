-- Exceptions that are bound, one after another.
use Rattle.std.proofs.Common.{◌≡◌, ℕ, List, [], ◌∷◌, ◌++◌, length, map, refl, sym, ap, ap₂, ◌∙◌, subst, Option, Some, None, Bool, true, false, cond, not}
use Rattle.std.specs.Prelude.{Ok, Err}
use Rattle.std.specs.Option.{is_some}
use Rattle.std.proofs.lemmas.List.{append-nil}
use Rattle.cm_base.specs.declared.fault.Fault.{Fault}
use Rattle.sml_trees.specs.declared.name.At.{At}
use Rattle.sml_trees.specs.declared.name.Name.{Name}
use Rattle.sml_trees.specs.declared.name.LongName.{LongName}
use Rattle.semantic_objects.specs.declared.name.TyId.{TyId}
use Rattle.semantic_objects.specs.declared.symbol.Symbol.TheVariants as symbol
use Rattle.semantic_objects.specs.declared.entry.ValueEntry.{ValueEntry}
use Rattle.semantic_objects.specs.Tables.{names_of, entry, with_all}
use Rattle.semantic_objects.specs.Environments.{Env, env_of, empty_env, values, with_value}
use Rattle.semantic_objects.proofs.Promised.{sets_entries}
use Rattle.unification.specs.Types.{Ty, State, put}
use Rattle.type_nodes.specs.Tables.{Table, state, type_of, types_of, whole}
use Rattle.bare_phrases.specs.Phrases.{TyPhrase, ExPhrase, DecPhrase}
use Rattle.bare_phrases.specs.PhraseOf.{ex_phrase}
use Rattle.sml_trees.specs.declared.ty.ExBind.{ExBind}
use Rattle.sml_modules.specs.Items.{map_rows}
use Rattle.sml_modules.specs.declared.id.EnvId.{EnvId}
use Rattle.sml_modules.specs.declared.parts.NamedValue.{NamedValue}
use Rattle.sml_modules.specs.declared.parts.NamedEnv.{NamedEnv}
use Rattle.sml_modules.specs.declared.parts.NamedType.{NamedType}
use Rattle.sml_modules.specs.Graphs.{Graph, env_at, structure_rows, type_rows, value_rows, env_of_entries}
use Rattle.name_trails.specs.Trails.{Rows, same, entry_after, last_entry}
use Rattle.static_semantics.specs.BasicTypes.{exn_ty, arrow_ty, is_one_of, reserved_constructors}
use Rattle.static_semantics.specs.Inferring.{Progress, Scope, Answer, ◌>>=◌, gives, refuses_where, name_at, long_at, known, found_at}
use Rattle.static_semantics.specs.TypeInference.{infer_ty, new_label}
use Rattle.static_semantics.specs.DatatypeInference.{is_exception, exception_entry, exception_of, infer_exceptions, exceptions_of}
use Rattle.static_semantics.specs.Holding.{Given}
use Rattle.inference_laws.specs.Alike.{FirmEnv}
use Rattle.core_soundness.specs.Following.{DeclaresByRules}
use Rattle.core_soundness.proofs.Promised.{exceptions_follow}
use Rattle.core_scopes.specs.declared.made.Made.{Made}
use Rattle.core_scopes.specs.declared.made.NamedInScope.{NamedInScope}
use Rattle.core_scopes.specs.declared.written.InScope.{InScope}
use Rattle.core_scopes.specs.Scopes.{Bindings, entry_of, seen, written_of, written_rows, IsScopeOf}
use Rattle.core_scopes.specs.Listed.{scope_rows}
use Rattle.core_scopes.specs.Marks.{env_of_made, Becomes}
use Rattle.core_scopes.specs.Marks as marks
use Rattle.core_scopes.proofs.Tables.{or_held, entry_under}
use Rattle.type_phrases.specs.Inferred.{Answers, HaveRows, IsScopeOver, KeepsTypes, Refuses, scope_in, progress}
use Rattle.type_phrases.proofs.Keeping.{keeps_later}
use Rattle.type_phrases.proofs.Steps.{failed, refused}
use Rattle.firm_types.specs.Firm.{IsFirmTy, IsFirmPhrase}
use Rattle.exception_bindings.specs.Exceptions.{AreVariables, IsNamed, env_of_values, may_bind, exception_with, exception_copied, entry_rows, declared_in}

-- ---- exceptions with an argument

arrow_entry : (s : State) (u arg : Ty) (entry : ValueEntry) → entry ≡ exception_entry (put s.stands u)
    → u ≡ arrow_ty arg exn_ty → IsFirmTy s.stands arg → entry ≡ exception_entry (arrow_ty arg exn_ty)
arrow_entry s u arg entry e k h =
    e ∙ ap (λ z. exception_entry (put s.stands z)) k ∙ ap (λ z. exception_entry (arrow_ty z exn_ty)) h

pub with_made : (inner : Scope) (ty : TyPhrase) (before mid later new : Table) (a exn id : TyId) (entry : ValueEntry)
    → IsFirmPhrase (state before).stands inner ty → infer_ty inner ty ≡ gives (type_of mid a)
    → type_of later a ≡ type_of mid a → type_of later exn ≡ exn_ty
    → type_of new id ≡ Ty.Made symbol.Arrow (types_of later (a ∷ exn ∷ [])) → state new ≡ state before
    → entry ≡ exception_entry (whole new id) → exception_with inner ty ≡ gives entry
with_made inner ty before mid later new a exn id entry firm infers same is made st e =
    let h : IsFirmTy (state before).stands (type_of mid a) =
    subst (Given (IsFirmTy (state before).stands)) infers firm in
    let k : IsFirmTy (state new).stands (type_of mid a) =
    subst (λ (s : State). IsFirmTy s.stands (type_of mid a)) (sym st) h in
    ap (λ (m : Answer Ty). m >>= λ t. gives (exception_entry (arrow_ty t exn_ty))) infers
    ∙ ap gives (sym (arrow_entry (state new) (type_of new id) (type_of mid a) entry e
    (made ∙ ap₂ (λ (x y : Ty). arrow_ty x y) same is) k))

pub keeps_from : (a b c d : Table) → b ≡ a → KeepsTypes b c → KeepsTypes c d → KeepsTypes a d
keeps_from a b c d e h k = subst (λ x. KeepsTypes x d) e (keeps_later b c d h k)

-- ---- copies

copied_as : (sc : Scope) (long : LongName) (o : Option ValueEntry) → found_at values long.parts sc.env ≡ o
    → exception_copied sc long
    ≡ (known sc long o >>= λ value. refuses_where (not (is_exception value.status)) 34 sc (long_at long)
    >>= λ u. gives value)
copied_as sc long o e = ap (λ (w : Option ValueEntry). known sc long w
    >>= λ value. refuses_where (not (is_exception value.status)) 34 sc (long_at long) >>= λ u. gives value) e

pub copied_known : (sc : Scope) (long : LongName) (value : ValueEntry)
    → found_at values long.parts sc.env ≡ Some value → is_exception value.status ≡ true
    → exception_copied sc long ≡ gives value
copied_known sc long value e h =
    copied_as sc long (Some value) e
    ∙ ap (λ b. refuses_where (not b) 34 sc (long_at long) >>= λ u. gives value) h

pub copied_unknown : {R : Type 0} (sc : Scope) (long : LongName) (read : R → ValueEntry) (e : Fault)
    → found_at values long.parts sc.env ≡ None
    → Answers (known {A = ValueEntry} sc long None) (λ (x : ValueEntry). x) (Err e)
    → Answers (exception_copied sc long) read (Err e)
copied_unknown {R} sc long read e none h =
    subst (λ (w : Answer ValueEntry). Answers w read (Err e)) (sym (copied_as sc long None none))
    (failed (known {A = ValueEntry} sc long None)
    (λ value. refuses_where (not (is_exception value.status)) 34 sc (long_at long) >>= λ u. gives value)
    (λ (x : ValueEntry). x) read e h)

pub copied_other : (g : Graph) (sc : Scope) (long : LongName) (value : ValueEntry) (e : Fault) (at : At)
    (names : List (List ℕ)) → sc.home ≡ g.home → found_at values long.parts sc.env ≡ Some value
    → is_exception value.status ≡ false → at ≡ long_at long → names ≡ [] → Refuses g 34 at names e
    → Answers {R = ValueEntry} (exception_copied sc long) (λ x. x) (Err e)
copied_other g sc long value e at names home is h k none r =
    subst (λ (w : Answer ValueEntry). Answers {R = ValueEntry} w (λ x. x) (Err e))
    (sym (copied_as sc long (Some value) is
    ∙ ap (λ b. refuses_where (not b) 34 sc (long_at long) >>= λ u. gives value) h))
    (refused {R = ValueEntry} g sc 34 (long_at long) [] (λ x. x) e home
    (subst (λ ns. Refuses g 34 (long_at long) ns e) none (subst (λ p. Refuses g 34 p names e) k r)))

-- ---- names

held_alike : {A B : Type 0} (a : Option A) (b : Option B) (rows : Rows A) (others : Rows B) (name : List ℕ)
    → is_some a ≡ is_some b → names_of rows ≡ names_of others
    → is_some (entry_after a rows name) ≡ is_some (entry_after b others name)
held_alike a b [] [] name h e = h
held_alike a b [] (y ∷ others) name h e = absurd (cc)
held_alike a b (x ∷ rows) [] name h e = absurd (cc)
held_alike {A} {B} a b (x ∷ rows) (y ∷ others) name h e =
    let first : x.0 ≡ y.0 = cc in
    let rest : names_of rows ≡ names_of others = cc in
    held_alike (cond (same x.0 name) (Some x.1) a) (cond (same y.0 name) (Some y.1) b) rows others name
    (by_test (same x.0 name) (same y.0 name) (ap (λ n. same n name) first)) rest
  where
    by_test : (c d : Bool) → c ≡ d → is_some (cond c (Some x.1) a) ≡ is_some (cond d (Some y.1) b)
    by_test true true e = refl
    by_test true false e = absurd (cc)
    by_test false true e = absurd (cc)
    by_test false false e = h

last_alike : {A B : Type 0} (rows : Rows A) (others : Rows B) (name : List ℕ) → names_of rows ≡ names_of others
    → is_some (last_entry rows name) ≡ is_some (last_entry others name)
unfolding last_entry
last_alike rows others name e = held_alike None None rows others name refl e

alone : {A : Type 0} (o : Option A) → is_some (or_held o None) ≡ is_some o
alone None = refl
alone (Some x) = refl

-- whether a value of a name was made
pub named_is : (names : Rows (Unit {0})) (made : List NamedValue) (name : List ℕ) (o : Option (Unit {0}))
    → IsNamed names made → o ≡ last_entry names name
    → is_some (entry name (values (env_of_values made))) ≡ is_some o
named_is names made name o h e =
    ap is_some (entry_under (value_rows made) [] name)
    ∙ alone (last_entry (value_rows made) name)
    ∙ sym (last_alike names (value_rows made) name h)
    ∙ ap is_some (sym e)

pub name_free : (sc : Scope) (name : Name) (names : Rows (Unit {0})) (made : List NamedValue) (o : Option (Unit {0}))
    (b : Bool) → b ≡ is_one_of reserved_constructors name.text → b ≡ false → IsNamed names made
    → o ≡ last_entry names name.text → o ≡ None → may_bind sc name (env_of_values made) ≡ gives tt
name_free sc name names made o b h k i e none =
    ap (λ c. refuses_where c 34 sc (name_at name) >>= λ u. new_label sc name (values (env_of_values made)))
    (sym h ∙ k)
    ∙ ap (λ c. refuses_where c 40 sc (name_at name)) (named_is names made name.text o i e ∙ ap is_some none)

pub name_reserved : (g : Graph) (sc : Scope) (name : Name) (made : List NamedValue) (b : Bool) (e : Fault) (at : At)
    (none : List (List ℕ)) → sc.home ≡ g.home → b ≡ is_one_of reserved_constructors name.text → b ≡ true
    → at ≡ name_at name → none ≡ [] → Refuses g 34 at none e
    → Answers {R = Unit {0}} (may_bind sc name (env_of_values made)) (λ u. tt) (Err e)
name_reserved g sc name made b e at none home h k p n r =
    subst (λ (w : Answer (Unit {0})). Answers {R = Unit {0}} w (λ u. tt) (Err e))
    (sym (ap (λ c. refuses_where c 34 sc (name_at name) >>= λ u. new_label sc name (values (env_of_values made)))
    (sym h ∙ k)))
    (refused {R = Unit {0}} g sc 34 (name_at name) [] (λ u. tt) e home
    (subst (λ ns. Refuses g 34 (name_at name) ns e) n (subst (λ q. Refuses g 34 q none e) p r)))

pub name_taken : (g : Graph) (sc : Scope) (name : Name) (names : Rows (Unit {0})) (made : List NamedValue)
    (o : Option (Unit {0})) (x : Unit {0}) (b : Bool) (e : Fault) (at : At) (none : List (List ℕ))
    → sc.home ≡ g.home → b ≡ is_one_of reserved_constructors name.text → b ≡ false → IsNamed names made
    → o ≡ last_entry names name.text → o ≡ Some x → at ≡ name_at name → none ≡ [] → Refuses g 40 at none e
    → Answers {R = Unit {0}} (may_bind sc name (env_of_values made)) (λ u. tt) (Err e)
name_taken g sc name names made o x b e at none home h k i l some p n r =
    subst (λ (w : Answer (Unit {0})). Answers {R = Unit {0}} w (λ u. tt) (Err e))
    (sym (ap (λ c. refuses_where c 34 sc (name_at name) >>= λ u. new_label sc name (values (env_of_values made)))
    (sym h ∙ k)
    ∙ ap (λ c. refuses_where c 40 sc (name_at name)) (named_is names made name.text o i l ∙ ap is_some some)))
    (refused {R = Unit {0}} g sc 40 (name_at name) [] (λ u. tt) e home
    (subst (λ ns. Refuses g 40 (name_at name) ns e) n (subst (λ q. Refuses g 40 q none e) p r)))

-- ---- one after another

rows_append : (front back : List NamedValue) → value_rows (front ++ back) ≡ value_rows front ++ value_rows back
rows_append [] back = refl
rows_append (e ∷ front) back = ap (λ (rows : Rows ValueEntry). (e.name, e.entry) ∷ rows) (rows_append front back)

names_append : {A : Type 0} (front back : Rows A) → names_of (front ++ back) ≡ names_of front ++ names_of back
names_append [] back = refl
names_append (row ∷ front) back = ap (λ ns. row.0 ∷ ns) (names_append front back)

abbrev one_value : List ℕ → ValueEntry → NamedValue
one_value name x = record { name = name; entry = x }

set_next : (made new : List NamedValue) (name : List ℕ) (x : ValueEntry) → new ≡ made ++ one_value name x ∷ []
    → env_of_values new ≡ with_value name x (env_of_values made)
set_next made new name x e =
    ap env_of_values e
    ∙ ap (λ rows. env_of [] [] (with_all rows [])) (rows_append made (one_value name x ∷ []))
    ∙ ap (env_of [] []) ((sets_entries ValueEntry).later name x (value_rows made) [])

named_next : (names more : Rows (Unit {0})) (made new : List NamedValue) (name other : List ℕ) (x : ValueEntry)
    → IsNamed names made → more ≡ names ++ (name, tt) ∷ [] → new ≡ made ++ one_value other x ∷ [] → name ≡ other
    → IsNamed more new
named_next names more made new name other x h e k same =
    ap names_of e
    ∙ names_append names ((name, tt) ∷ [])
    ∙ ap₂ (λ (a b : List (List ℕ)). a ++ b) h (ap (λ n. n ∷ []) same)
    ∙ sym (names_append (value_rows made) ((other, x) ∷ []))
    ∙ ap names_of (sym (rows_append made (one_value other x ∷ [])))
    ∙ ap (λ es. names_of (value_rows es)) (sym k)

then_then : {A B C : Type 0} (m : Answer A) (f : A → Answer B) (h : B → Answer C)
    → (m >>= λ x. f x >>= h) ≡ ((m >>= f) >>= h)
then_then None f h = refl
then_then (Some (Err d)) f h = refl
then_then (Some (Ok x)) f h = refl

abbrev rest_after : Scope → ExPhrase → List ExPhrase → Env → Answer Env
rest_after sc bind binds made = may_bind sc bind.name made
    >>= λ v. exception_of sc bind.body
    >>= λ value. infer_exceptions sc binds (with_value bind.name.text value made)

exceptions_first : (sc : Scope) (left rest : List ExPhrase) (bind : ExPhrase) (made : Env) → left ≡ bind ∷ rest
    → infer_exceptions sc left made ≡ rest_after sc bind rest made
exceptions_first sc left rest bind made e =
    ap (λ xs. infer_exceptions sc xs made) e
    ∙ then_then (refuses_where (is_one_of reserved_constructors bind.name.text) 34 sc (name_at bind.name))
    (λ u. new_label sc bind.name (values made))
    (λ v. exception_of sc bind.body >>= λ value. infer_exceptions sc rest (with_value bind.name.text value made))

-- the first exceptions of a declaration
pub record ExceptionsSoFar (V : Type 0) (inner : (V → ValueEntry) → Scope) (binds left : List ExPhrase)
    (names : Rows (Unit {0})) (made : List NamedValue) : Type 0 where
  pub named : IsNamed names made
  pub left_is : (read : V → ValueEntry) → AreVariables read
      → infer_exceptions (inner read) binds empty_env ≡ infer_exceptions (inner read) left (env_of_values made)

pub exceptions_none : {V : Type 0} (inner : (V → ValueEntry) → Scope) (binds : List ExPhrase)
    (names : Rows (Unit {0})) (made : List NamedValue) → names ≡ [] → made ≡ []
    → ExceptionsSoFar V inner binds binds names made
exceptions_none inner binds names made h k = record {
  named = ap names_of h ∙ ap (λ es. names_of (value_rows es)) (sym k);
  left_is = λ read a. ap (λ es. infer_exceptions (inner read) binds (env_of_values es)) (sym k);
}

pub exceptions_more : {V : Type 0} (inner : (V → ValueEntry) → Scope) (binds left rest : List ExPhrase)
    (bind : ExPhrase) (names more : Rows (Unit {0})) (made new : List NamedValue) (name other : List ℕ) (x : ValueEntry)
    → ExceptionsSoFar V inner binds left names made → left ≡ bind ∷ rest
    → ((read : V → ValueEntry) → may_bind (inner read) bind.name (env_of_values made) ≡ gives tt)
    → ((read : V → ValueEntry) → AreVariables read → exception_of (inner read) bind.body ≡ gives x)
    → name ≡ bind.name.text → more ≡ names ++ (name, tt) ∷ [] → other ≡ bind.name.text
    → new ≡ made ++ one_value other x ∷ [] → ExceptionsSoFar V inner binds rest more new
exceptions_more inner binds left rest bind names more made new name other x inv is free body n grown o longer = record {
  named = named_next names more made new name other x inv.named grown longer (n ∙ sym o);
  left_is = λ read a.
      inv.left_is read a
      ∙ exceptions_first (inner read) left rest bind (env_of_values made) is
      ∙ ap (λ (m : Answer (Unit {0})). m >>= λ v. exception_of (inner read) bind.body
      >>= λ value. infer_exceptions (inner read) rest (with_value bind.name.text value (env_of_values made)))
      (free read)
      ∙ ap (λ (m : Answer ValueEntry). m >>= λ value. infer_exceptions (inner read) rest
      (with_value bind.name.text value (env_of_values made))) (body read a)
      ∙ ap (infer_exceptions (inner read) rest)
      (ap (λ t. with_value t x (env_of_values made)) (sym o) ∙ sym (set_next made new other x longer));
}

pub name_refused : {V : Type 0} (inner : (V → ValueEntry) → Scope) (binds left rest : List ExPhrase) (bind : ExPhrase)
    (names : Rows (Unit {0})) (made : List NamedValue) (e : Fault) → ExceptionsSoFar V inner binds left names made
    → left ≡ bind ∷ rest → (read : V → ValueEntry) → AreVariables read
    → Answers {R = Unit {0}} (may_bind (inner read) bind.name (env_of_values made)) (λ u. tt) (Err e)
    → Answers (exceptions_of (inner read) binds) env_of_values (Err e)
name_refused inner binds left rest bind names made e inv is read a h =
    subst (λ (w : Answer Env). Answers w env_of_values (Err e))
    (sym (inv.left_is read a ∙ exceptions_first (inner read) left rest bind (env_of_values made) is))
    (failed {R = Unit {0}} (may_bind (inner read) bind.name (env_of_values made))
    (λ v. exception_of (inner read) bind.body
    >>= λ value. infer_exceptions (inner read) rest (with_value bind.name.text value (env_of_values made)))
    (λ u. tt) env_of_values e h)

pub body_refused : {V : Type 0} (inner : (V → ValueEntry) → Scope) (binds left rest : List ExPhrase) (bind : ExPhrase)
    (names : Rows (Unit {0})) (made : List NamedValue) (e : Fault) → ExceptionsSoFar V inner binds left names made
    → left ≡ bind ∷ rest → (read : V → ValueEntry) → AreVariables read
    → may_bind (inner read) bind.name (env_of_values made) ≡ gives tt
    → Answers {R = ValueEntry} (exception_of (inner read) bind.body) (λ x. x) (Err e)
    → Answers (exceptions_of (inner read) binds) env_of_values (Err e)
body_refused inner binds left rest bind names made e inv is read a free h =
    subst (λ (w : Answer Env). Answers w env_of_values (Err e))
    (sym (inv.left_is read a ∙ exceptions_first (inner read) left rest bind (env_of_values made) is
    ∙ ap (λ (m : Answer (Unit {0})). m >>= λ v. exception_of (inner read) bind.body
    >>= λ value. infer_exceptions (inner read) rest (with_value bind.name.text value (env_of_values made))) free))
    (failed {R = ValueEntry} (exception_of (inner read) bind.body)
    (λ value. infer_exceptions (inner read) rest (with_value bind.name.text value (env_of_values made)))
    (λ x. x) env_of_values e h)

pub exceptions_all : {V : Type 0} (inner : (V → ValueEntry) → Scope) (binds left : List ExPhrase)
    (names : Rows (Unit {0})) (made : List NamedValue) → ExceptionsSoFar V inner binds left names made → left ≡ []
    → (read : V → ValueEntry) → AreVariables read
    → exceptions_of (inner read) binds ≡ gives (env_of_values made)
exceptions_all inner binds left names made inv is read a =
    inv.left_is read a ∙ ap (λ xs. infer_exceptions (inner read) xs (env_of_values made)) is

-- the phrases of bindings
pub phrase_next : (left rest : List ExBind) (x : ExBind) → left ≡ x ∷ rest
    → map ex_phrase left ≡ ex_phrase x ∷ map ex_phrase rest
phrase_next left rest x e = ap (map ex_phrase) e

pub phrases_end : (left : List ExBind) → left ≡ [] → map ex_phrase left ≡ []
phrases_end left e = ap (map ex_phrase) e

-- ---- entries in scope, and in an environment

read_rows : {V : Type 0} (read : V → ValueEntry) (entries : List (NamedInScope V))
    → marks.value_rows read entries ≡ map_rows (entry_of read) (scope_rows entries)
read_rows read [] = refl
read_rows {V} read (e ∷ entries) =
    ap (λ (rows : Rows ValueEntry). (e.name, entry_of read e.entry) ∷ rows) (read_rows read entries)

entries_read : {V : Type 0} (read : V → ValueEntry) (entries : List NamedValue)
    → map_rows (entry_of read) (entry_rows entries) ≡ value_rows entries
entries_read read [] = refl
entries_read read (e ∷ entries) = ap (λ (z : Rows ValueEntry). (e.name, e.entry) ∷ z) (entries_read read entries)

pub made_is : {V : Type 0} (g : Graph) (read : V → ValueEntry) (made : Made V) (entries : List NamedValue)
    → made.structures ≡ [] → made.types ≡ [] → scope_rows made.values ≡ entry_rows entries
    → env_of_made g read made ≡ env_of_values entries
made_is {V} g read made entries ss ts vs =
    ap (λ es. env_of (with_all (structure_rows g es) []) (with_all (type_rows made.types) [])
    (with_all (marks.value_rows read made.values) [])) ss
    ∙ ap (λ es. env_of [] (with_all (type_rows es) []) (with_all (marks.value_rows read made.values) [])) ts
    ∙ ap (λ (rows : Rows ValueEntry). env_of [] [] (with_all rows []))
    (read_rows read made.values ∙ ap (map_rows (entry_of read)) vs ∙ entries_read read entries)

pub entries_alone : (g : Graph) (structures : List NamedEnv) (types : List NamedType) (entries : List NamedValue)
    → structures ≡ [] → types ≡ [] → env_of_entries g structures types entries ≡ env_of_values entries
entries_alone g structures types entries ss ts =
    ap (λ es. env_of_entries g es types entries) ss ∙ ap (λ es. env_of_entries g [] es entries) ts

pub declared_is : {V : Type 0} (g : Graph) (t : Table) (env : EnvId) (vars : List InScope) (read : V → ValueEntry)
    (old new : Bindings V) → seen g read old ≡ env_at g env → written_of old ≡ []
    → Becomes g old new (λ r. seen g r old) (written_rows vars ++ written_of old)
    → scope_in g t read new ≡ declared_in g t env vars
declared_is g t env vars read old new h k b =
    ap₂ (λ (e : Env) (rows : Rows TyId). (let sc : Scope = record { env = e; written = map_rows (type_of t) rows; home = g.home } in sc))
    (b.seen read ∙ h)
    (b.written ∙ ap (λ (z : Rows TyId). written_rows vars ++ z) k ∙ append-nil (written_rows vars))

pub declared_over : {V : Type 0} (g : Graph) (t : Table) (vars : List InScope) (old new : Bindings V) → IsScopeOf g old
    → written_of old ≡ [] → HaveRows t (written_rows vars)
    → Becomes g old new (λ r. seen g r old) (written_rows vars ++ written_of old) → IsScopeOver g t new
declared_over g t vars old new there k have b = record {
  there = b.there there;
  written = subst (HaveRows t)
      (sym (b.written ∙ ap (λ (z : Rows TyId). written_rows vars ++ z) k ∙ append-nil (written_rows vars))) have;
}

-- the rules give what was made, where the table is as it was and no name was made
pub exceptions_there : (g new : Graph) (t u : Table) (sc : Scope) (binds : List ExPhrase) (at : At) (id : EnvId)
    → exceptions_of sc binds ≡ gives (env_at new id) → FirmEnv sc.env → u ≡ t → new.made ≡ g.made
    → DeclaresByRules sc (DecPhrase.Exceptions binds at) (progress t g) (env_at new id, progress u new)
exceptions_there g new t u sc binds at id h firm table made =
    subst (λ (st : Progress). DeclaresByRules sc (DecPhrase.Exceptions binds at) (progress t g) (env_at new id, st))
    (ap₂ (λ (z : Table) (n : ℕ). (let st : Progress = record { types = state z; names = n } in st)) (sym table)
    (ap length (sym made)))
    (exceptions_follow sc binds at (progress t g) (env_at new id) h firm)
