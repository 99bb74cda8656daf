-- Tables of paths: what is found in them, and what they have with one path more.
use Rattle.std.proofs.Common.{◌≡◌, ◌∙◌, ap, sym, refl, ℕ, ◌+◌, ◌<◌, ◌≤◌, ◌&&◌, ◌||◌, Bool, true, false, nat_eq, List, [], ◌∷◌, ◌++◌, length, take, drop, map}
use Rattle.std.specs.Prelude.{Result, Ok, Err, OnOk, if◌then◌else◌}
use Rattle.std.specs.List.{list_any}
use Rattle.std.specs.Cmp.Lexicographic.{same_text}
use Rattle.indexmap.specs.IndexSet.{insert_key}
use Rattle.path_anchors.specs.Names.{Bindings, parts_of, begins_with, is_claimed}
use Rattle.path_anchors.specs.Pathconfig.{touches, is_nested}
use Rattle.path_anchors.specs.Tables.{holds, slash_at, Adds, AddsBefore, AddsFronts, AreTables}
use Rattle.path_anchors.proofs.Fronts.{front_from, front_from-begins, front_from-holds, front_from-step, front_from-end, list_any-begins}
use lib.Pointwise.{pointwise}

or_false : (a : Bool) → (a || false) ≡ a
or_false true = refl
or_false false = refl

or_assoc : (a b c : Bool) → ((a || b) || c) ≡ (a || (b || c))
or_assoc true b c = refl
or_assoc false b c = refl

-- what follows where a call is well
pub on_ok : {A E P Q : Type 0} (r : Result A E) → (P → Q) → OnOk r P → OnOk r Q
on_ok (Ok value) leads is = leads is
on_ok (Err fault) leads is = is

-- ---- a table with one path more

pub holds-map : {A : Type 0} (path_at : A → List ℕ) (items : List A) (path : List ℕ)
    → list_any (λ item. pointwise nat_eq path (path_at item)) items ≡ holds (map path_at items) path
holds-map path_at [] path = refl
holds-map path_at (item ∷ items) path =
    ap (λ later. pointwise nat_eq path (path_at item) || later) (holds-map path_at items path)

list_any-push : {A : Type 0} (test : A → Bool) (items : List A) (last : A)
    → list_any test (items ++ last ∷ []) ≡ (list_any test items || test last)
list_any-push test [] last = or_false (test last)
list_any-push test (item ∷ items) last =
    ap (λ later. test item || later) (list_any-push test items last)
    ∙ sym (or_assoc (test item) (list_any test items) (test last))

-- a set of paths, where a new one goes last and one that is there stays
pub adds-key : {A : Type 0} (path_at : A → List ℕ) (items now : List A) (new : A)
    → now ≡ insert_key (λ a b. pointwise nat_eq (path_at a) (path_at b)) items new
    → Adds (map path_at items) (map path_at now) (path_at new)
adds-key path_at items now new is = λ found.
    ap (λ keys. holds (map path_at keys) found) is ∙ by_key found (list_any (λ item. pointwise nat_eq (path_at new) (path_at item)) items) refl
  where
    there : (found : List ℕ) (same : Bool) → list_any (λ item. pointwise nat_eq (path_at new) (path_at item)) items ≡ true
        → pointwise nat_eq found (path_at new) ≡ same
        → holds (map path_at items) found ≡ (holds (map path_at items) found || same)
    there found false has is = sym (or_false (holds (map path_at items) found))
    there found true has is =
        let name : found ≡ path_at new = same_text found (path_at new) (sym is) in
        let held : holds (map path_at items) found ≡ true =
        ap (holds (map path_at items)) name ∙ sym (holds-map path_at items (path_at new)) ∙ has in
        held ∙ sym (ap (λ b. b || true) held)

    by_key : (found : List ℕ) (has : Bool) → list_any (λ item. pointwise nat_eq (path_at new) (path_at item)) items ≡ has
        → holds (map path_at (if has then items else items ++ new ∷ [])) found
        ≡ (holds (map path_at items) found || pointwise nat_eq found (path_at new))
    by_key found true has = there found (pointwise nat_eq found (path_at new)) has refl
    by_key found false has =
        sym (holds-map path_at (items ++ new ∷ []) found)
        ∙ list_any-push (λ item. pointwise nat_eq found (path_at item)) items new
        ∙ ap (λ b. b || pointwise nat_eq found (path_at new)) (holds-map path_at items found)

-- what stands before a place of a path, if a slash stands there
pub adds-here : (old new : List (List ℕ)) (path : List ℕ) (at : ℕ) → slash_at path at ≡ true
    → Adds old new (take at path) → AddsBefore old new path at
adds-here old new path at is adds = λ found.
    adds found ∙ ap (λ b. holds old found || (b && pointwise nat_eq found (take at path))) (sym is)

pub adds-none : (old : List (List ℕ)) (path : List ℕ) (at : ℕ) → slash_at path at ≡ false → AddsBefore old old path at
adds-none old path at is = λ found.
    sym (or_false (holds old found)) ∙ ap (λ b. holds old found || (b && pointwise nat_eq found (take at path))) (sym is)

-- ---- loops over the places of a path

-- no front so far is in a table
abbrev pub Seeking : List (List ℕ) → List ℕ → ℕ → Type 0
Seeking table path at = front_from (holds table) (take at path) (drop at path) ≡ front_from (holds table) [] path

pub seeking-found : (table : List (List ℕ)) (path : List ℕ) (at : ℕ) (here : Bool) → at < length path → here ≡ true
    → here ≡ (slash_at path at && holds table (take at path)) → Seeking table path at
    → true ≡ list_any (λ front. begins_with (parts_of path) (parts_of front)) table
seeking-found table path at here lt is gives so =
    sym (front_from-step (holds table) path at lt
    ∙ ap (λ b. b || front_from (holds table) (take (at + 1) path) (drop (at + 1) path)) (sym gives ∙ is))
    ∙ so ∙ front_from-holds table path

pub seeking-on : (table : List (List ℕ)) (path : List ℕ) (at : ℕ) (here : Bool) → at < length path → here ≡ false
    → here ≡ (slash_at path at && holds table (take at path)) → Seeking table path at → Seeking table path (at + 1)
seeking-on table path at here lt is gives so =
    sym (front_from-step (holds table) path at lt
    ∙ ap (λ b. b || front_from (holds table) (take (at + 1) path) (drop (at + 1) path)) (sym gives ∙ is))
    ∙ so

pub seeking-end : (table : List (List ℕ)) (path : List ℕ) (at : ℕ) → length path ≤ at → Seeking table path at
    → holds table path ≡ list_any (λ front. begins_with (parts_of path) (parts_of front)) table
seeking-end table path at le so =
    sym (front_from-end (holds table) path at le) ∙ so ∙ front_from-holds table path

-- a table has the fronts so far
abbrev pub Adding : List (List ℕ) → List (List ℕ) → List ℕ → ℕ → Type 0
Adding old now path at =
    (found : List ℕ) → (holds now found || front_from (λ front. pointwise nat_eq found front) (take at path) (drop at path))
    ≡ (holds old found || front_from (λ front. pointwise nat_eq found front) [] path)

pub adding-on : (old now new : List (List ℕ)) (path : List ℕ) (at : ℕ) → at < length path → AddsBefore now new path at
    → Adding old now path at → Adding old new path (at + 1)
adding-on old now new path at lt adds so = λ found.
    let later = front_from (λ front. pointwise nat_eq found front) (take (at + 1) path) (drop (at + 1) path) in
    let here = slash_at path at && pointwise nat_eq found (take at path) in
    ap (λ b. b || later) (adds found) ∙ or_assoc (holds now found) here later
    ∙ ap (λ b. holds now found || b) (sym (front_from-step (λ front. pointwise nat_eq found front) path at lt)) ∙ so found

pub adding-end : (old now new : List (List ℕ)) (path : List ℕ) (at : ℕ) → length path ≤ at → Adds now new path
    → Adding old now path at → AddsFronts old new path
adding-end old now new path at le adds so = λ found.
    adds found
    ∙ ap (λ b. holds now found || b) (sym (front_from-end (λ front. pointwise nat_eq found front) path at le))
    ∙ so found ∙ ap (λ b. holds old found || b) (front_from-begins path found)

-- ---- the tables of the anchors

pub claimed : (anchors : Bindings) (directories fronts : List (List ℕ)) (path : List ℕ) → AreTables anchors directories fronts
    → list_any (λ front. begins_with (parts_of path) (parts_of front)) directories ≡ is_claimed anchors path
claimed anchors directories fronts path tables =
    list_any-begins {A = List ℕ × List ℕ} (λ bound. bound.1) anchors directories path tables.finds

shuffled : (a b p q : Bool) → ((a || b) || (p || q)) ≡ ((a || p) || (b || q))
shuffled true b p q = refl
shuffled false true true q = refl
shuffled false true false q = refl
shuffled false false p q = refl

either_way : (anchors : Bindings) (parts : List (List ℕ))
    → list_any (λ bound. touches parts (parts_of bound.1)) anchors
    ≡ (list_any (λ bound. begins_with parts (parts_of bound.1)) anchors
    || list_any (λ bound. begins_with (parts_of bound.1) parts) anchors)
either_way [] parts = refl
either_way (bound ∷ anchors) parts =
    ap (λ later. touches parts (parts_of bound.1) || later) (either_way anchors parts)
    ∙ shuffled (begins_with parts (parts_of bound.1)) (begins_with (parts_of bound.1) parts) _ _

pub nested : (anchors : Bindings) (directories fronts : List (List ℕ)) (path : List ℕ) → AreTables anchors directories fronts
    → (is_claimed anchors path || holds fronts path) ≡ is_nested anchors path
nested anchors directories fronts path tables =
    ap (λ b. is_claimed anchors path || b) (tables.leads path) ∙ sym (either_way anchors (parts_of path))

pub nested-then : (anchors : Bindings) (directories fronts : List (List ℕ)) (path : List ℕ) (inside : Bool)
    → AreTables anchors directories fronts → inside ≡ true → inside ≡ is_claimed anchors path
    → true ≡ is_nested anchors path
nested-then anchors directories fronts path inside tables is gives =
    sym (ap (λ b. b || holds fronts path) (sym gives ∙ is)) ∙ nested anchors directories fronts path tables

pub nested-else : (anchors : Bindings) (directories fronts : List (List ℕ)) (path : List ℕ) (inside : Bool)
    → AreTables anchors directories fronts → inside ≡ false → inside ≡ is_claimed anchors path
    → holds fronts path ≡ is_nested anchors path
nested-else anchors directories fronts path inside tables is gives =
    sym (ap (λ b. b || holds fronts path) (sym gives ∙ is)) ∙ nested anchors directories fronts path tables

pub tables-more : (anchors : Bindings) (directories fronts more_directories more_fronts : List (List ℕ))
    (bound : List ℕ × List ℕ) → AreTables anchors directories fronts → Adds directories more_directories bound.1
    → AddsFronts fronts more_fronts bound.1 → AreTables (anchors ++ bound ∷ []) more_directories more_fronts
tables-more anchors directories fronts more_directories more_fronts bound tables adds leads = record {
  finds = λ path. adds path
      ∙ ap (λ b. b || pointwise nat_eq path bound.1) (tables.finds path)
      ∙ sym (list_any-push (λ (other : List ℕ × List ℕ). pointwise nat_eq path other.1) anchors bound);
  leads = λ path. leads path
      ∙ ap (λ b. b || begins_with (parts_of bound.1) (parts_of path)) (tables.leads path)
      ∙ sym (list_any-push (λ (other : List ℕ × List ℕ). begins_with (parts_of other.1) (parts_of path)) anchors bound);
}

pub no_tables : AreTables [] [] []
no_tables = record { finds = λ path. refl; leads = λ path. refl }
