-- Tables that rows make over others.
use Rattle.std.proofs.Common.{◌≡◌, ℕ, refl, sym, ap, ◌∙◌, subst, ◌+◌, ◌<◌, suc, length, take, get_or, arith, List, [], ◌∷◌, ◌++◌, Option, Some, None, Bool, true, false, cond}
use Rattle.std.specs.Prelude.{Result, Ok, Err, OnOk}
use Rattle.std.proofs.Math.Seq.{take-suc}
use Rattle.std.specs.Option.{option_map, is_some}
use Rattle.cm_base.specs.declared.fault.Fault.{Fault}
use Rattle.sml_trees.specs.declared.name.Name.{Name}
use Rattle.semantic_objects.specs.Tables.{Table, entry, with_entry, with_all}
use Rattle.semantic_objects.specs.Environments.{Env, table_of, structures_of}
use Rattle.semantic_objects.proofs.Promised.{keeps_structures}
use Rattle.sml_modules.specs.Items.{map_rows}
use Rattle.name_trails.specs.Trails.{Rows, same, entry_after, last_entry}
use Rattle.static_semantics.specs.Inferring.{Scope, refuses_where, name_at}
use Rattle.static_semantics.specs.TypeInference.{new_label}
use Rattle.core_scopes.proofs.Tables.{or_held, entry_over, all_append, all_at_once}
use Rattle.core_scopes.proofs.Scoping.{map_append}
use Rattle.type_phrases.specs.Inferred.{Answers}
use Rattle.module_scopes.specs.Tops.{AllRows}

some_is : {A : Type 0} (x y : A) → Some x ≡ Some y → x ≡ y
some_is x y h = cc

-- ---- what stands under a name

pub found_over : {A B : Type 0} (f : A → B) (rows : Rows A) (t : Table B) (name : List ℕ) (x : A)
    → last_entry rows name ≡ Some x → entry name (with_all (map_rows f rows) t) ≡ Some (f x)
found_over {A} f rows t name x e =
    entry_over f rows t name ∙ ap (λ (o : Option A). or_held (option_map f o) (entry name t)) e

pub found_below : {A B : Type 0} (f : A → B) (rows : Rows A) (t : Table B) (name : List ℕ)
    → last_entry rows name ≡ None → entry name (with_all (map_rows f rows) t) ≡ entry name t
found_below {A} f rows t name e =
    entry_over f rows t name ∙ ap (λ (o : Option A). or_held (option_map f o) (entry name t)) e

held_after : {A : Type 0} (P : A → Type 0) (held : Option A) (rows : Rows A) (name : List ℕ) (x : A) → AllRows P rows
    → ((y : A) → held ≡ Some y → P y) → entry_after held rows name ≡ Some x → P x
held_after P held [] name x h k e = k x e
held_after {A} P held (row ∷ rows) name x h k e =
    held_after P (cond (same row.0 name) (Some row.1) held) rows name x h.1 (by_test (same row.0 name)) e
  where
    by_test : (b : Bool) (y : A) → cond b (Some row.1) held ≡ Some y → P y
    by_test true y d = subst P (some_is row.1 y d) h.0
    by_test false y d = k y d

none_held : {A : Type 0} (P : A → Type 0) (y : A) → None ≡ Some y → P y
none_held P y h = absurd (cc)

pub holds_last : {A : Type 0} (P : A → Type 0) (rows : Rows A) (name : List ℕ) (x : A) → AllRows P rows
    → last_entry rows name ≡ Some x → P x
unfolding last_entry
holds_last P rows name x h e = held_after P None rows name x h (none_held P) e

-- ---- names that rows have

is_over : {A B : Type 0} (f : A → B) (o : Option A) → is_some (or_held (option_map f o) None) ≡ is_some o
is_over f None = refl
is_over f (Some x) = refl

pub is_label : {A B : Type 0} (f : A → B) (rows : Rows A) (name : List ℕ)
    → is_some (last_entry rows name) ≡ is_some (entry name (with_all (map_rows f rows) []))
is_label f rows name = sym (ap is_some (entry_over f rows [] name) ∙ is_over f (last_entry rows name))

pub label_checked : {B : Type 0} (table : Table B) (b : Bool) (name : Name) (inner : Scope) (r : Result (Unit {0}) Fault)
    → b ≡ is_some (entry name.text table)
    → Answers {R = Unit {0}} (refuses_where b 40 inner (name_at name)) (λ u. tt) r
    → Answers {R = Unit {0}} (new_label inner name table) (λ u. tt) r
label_checked table b name inner r e h =
    subst (λ c. Answers {R = Unit {0}} (refuses_where c 40 inner (name_at name)) (λ u. tt) r) e h

-- ---- more rows

pub tables_back : (rows : Table Env) → table_of (structures_of rows) ≡ rows
tables_back = keeps_structures.table

pub one_more : {A B : Type 0} (f : A → B) (rows new : Rows A) (name text : List ℕ) (x : A) → text ≡ name
    → new ≡ rows ++ (text, x) ∷ [] → (t : Table B)
    → with_all (map_rows f new) t ≡ with_entry name (f x) (with_all (map_rows f rows) t)
one_more {A} {B} f rows new name text x t e table =
    ap (λ (z : Rows A). with_all (map_rows f z) table) (e ∙ ap (λ n. rows ++ (n, x) ∷ []) t)
    ∙ ap (λ (z : Table B). with_all z table) (map_append f rows ((name, x) ∷ []))
    ∙ all_append (map_rows f rows) ((name, f x) ∷ []) table

pub all_more : {A B : Type 0} (f : A → B) (rows more new : Rows A) (t : Table B) → new ≡ rows ++ more
    → with_all (map_rows f new) t ≡ with_all (with_all (map_rows f more) []) (with_all (map_rows f rows) t)
all_more {A} {B} f rows more new t e =
    ap (λ (z : Rows A). with_all (map_rows f z) t) e
    ∙ ap (λ (z : Table B). with_all z t) (map_append f rows more)
    ∙ all_append (map_rows f rows) (map_rows f more) t
    ∙ sym (all_at_once (map_rows f more) [] (with_all (map_rows f rows) t) refl)

pub rows_append : {A : Type 0} (P : A → Type 0) (front back : Rows A) → AllRows P front → AllRows P back
    → AllRows P (front ++ back)
rows_append P [] back h k = k
rows_append P (row ∷ rows) back h k = (h.0, rows_append P rows back h.1 k)

pub rows_more : {A : Type 0} (P : A → Type 0) (rows more new : Rows A) → new ≡ rows ++ more → AllRows P more
    → AllRows P rows → AllRows P new
rows_more P rows more new e h k = subst (AllRows P) (sym e) (rows_append P rows more k h)

-- rows that are read in two ways which agree on each
pub rows_read : {A B : Type 0} (P : A → Type 0) (f g : A → B) → ((x : A) → P x → f x ≡ g x) → (rows : Rows A)
    → AllRows P rows → map_rows f rows ≡ map_rows g rows
rows_read P f g h [] k = refl
rows_read {A} {B} P f g h (row ∷ rows) k =
    ap (λ x. (row.0, x) ∷ map_rows f rows) (h row.1 k.0)
    ∙ ap (λ (z : Rows B). (row.0, g row.1) ∷ z) (rows_read P f g h rows k.1)

pub rows_hold : {A : Type 0} (P Q : A → Type 0) → ((x : A) → P x → Q x) → (rows : Rows A) → AllRows P rows
    → AllRows Q rows
rows_hold P Q h [] k = tt
rows_hold P Q h (row ∷ rows) k = (h row.1 k.0, rows_hold P Q h rows k.1)

-- ---- rows of places

pub place_next : {A : Type 0} (place : A → ℕ) (made : Rows A) (i : ℕ) (row : List ℕ × A) (old new : Rows ℕ)
    (name : List ℕ) → i < length made → row ≡ get_or made i row → name ≡ row.0
    → old ≡ with_all (map_rows place (take i made)) [] → new ≡ with_entry name (place row.1) old
    → new ≡ with_all (map_rows place (take (i + 1) made)) []
place_next {A} place made i row old new name h r n o e =
    let next : i + 1 ≡ suc i = omega arith in
    let all : take (i + 1) made ≡ take i made ++ row ∷ [] =
    ap (λ k. take k made) next ∙ take-suc made i row h ∙ ap (λ (x : List ℕ × A). take i made ++ x ∷ []) (sym r) in
    e ∙ ap (λ (z : Rows ℕ). with_entry name (place row.1) z) o
    ∙ ap (λ m. with_entry m (place row.1) (with_all (map_rows place (take i made)) [])) n
    ∙ sym (one_more place (take i made) (take (i + 1) made) row.0 row.0 row.1 refl all [])

-- ---- results

pub on_ok : {A E P Q : Type 0} (r : Result A E) → OnOk r P → (P → Q) → OnOk r Q
on_ok (Ok x) h f = f h
on_ok (Err e) h f = tt

pub on_both : {A E P Q R : Type 0} (r : Result A E) → OnOk r P → OnOk r Q → (P → Q → R) → OnOk r R
on_both (Ok x) h k f = f h k
on_both (Err e) h k f = tt
