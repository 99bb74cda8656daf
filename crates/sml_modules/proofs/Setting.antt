-- Tables of places and the tables of what stands there: entries are found and set in both alike.
use Rattle.std.proofs.Common.{◌≡◌, ℕ, refl, sym, ap, ◌∙◌, subst, List, [], ◌∷◌, Some, Bool, true, false, cond}
use Rattle.std.specs.Prelude.{Option}
use Rattle.std.specs.Option.{option_map}
use Rattle.std.specs.Ordering.{eq_by_cmp}
use Rattle.std.specs.declared.cmp.Ordering.{Ordering}
use Rattle.std.specs.declared.cmp.Ordering.TheVariants.{Less, Equal, Greater}
use Rattle.std.specs.FinMap.Entries.{by_order}
use Rattle.semantic_objects.specs.Tables.{Table, by_bytes, entry, with_entry, with_all, names_of}
use Rattle.sml_modules.specs.Items.{Item, at, map_rows}
use Rattle.sml_modules.specs.Nodes.{AreAll}

some_is : {A : Type 0} (x y : A) → Some x ≡ Some y → x ≡ y
some_is x y h = cc

cond_map : {A B : Type 0} (f : A → B) (b : Bool) (x : A) (o : Option A) (p : Option B) → p ≡ option_map f o
    → cond b (Some (f x)) p ≡ option_map f (cond b (Some x) o)
cond_map f true x o p h = refl
cond_map f false x o p h = h

pub entry_map : {A B : Type 0} (f : A → B) (name : List ℕ) (rows : Table A)
    → entry name (map_rows f rows) ≡ option_map f (entry name rows)
entry_map f name [] = refl
entry_map f name (row ∷ rows) =
    cond_map f (eq_by_cmp by_bytes name row.0) row.1 (entry name rows) (entry name (map_rows f rows))
    (entry_map f name rows)

order_map : {A B : Type 0} (f : A → B) (o : Ordering) (a b c : Table B) (x y z : Table A) → a ≡ map_rows f x
    → b ≡ map_rows f y → c ≡ map_rows f z → by_order o a b c ≡ map_rows f (by_order o x y z)
order_map f Less a b c x y z h i j = h
order_map f Equal a b c x y z h i j = i
order_map f Greater a b c x y z h i j = j

pub with_map : {A B : Type 0} (f : A → B) (name : List ℕ) (x : A) (rows : Table A)
    → with_entry name (f x) (map_rows f rows) ≡ map_rows f (with_entry name x rows)
with_map f name x [] = refl
with_map f name x (row ∷ rows) = order_map f (by_bytes name row.0) _ _ _
    ((name, x) ∷ row ∷ rows) ((row.0, x) ∷ rows) (row ∷ with_entry name x rows) refl refl
    (ap (λ z. (row.0, f row.1) ∷ z) (with_map f name x rows))

pub all_map : {A B : Type 0} (f : A → B) (rows table : Table A)
    → with_all (map_rows f rows) (map_rows f table) ≡ map_rows f (with_all rows table)
all_map f [] table = refl
all_map f (row ∷ rows) table =
    ap (with_all (map_rows f rows)) (with_map f row.0 row.1 table) ∙ all_map f rows (with_entry row.0 row.1 table)

pub names_map : {A B : Type 0} (f : A → B) (rows : Table A) → names_of (map_rows f rows) ≡ names_of rows
names_map f [] = refl
names_map f (row ∷ rows) = ap (λ z. row.0 ∷ z) (names_map f rows)

order_all : (Is : Item → Type 0) (items : List Item) (o : Ordering) (x y z : Table ℕ) → AreAll Is items x
    → AreAll Is items y → AreAll Is items z → AreAll Is items (by_order o x y z)
order_all Is items Less x y z h i j = h
order_all Is items Equal x y z h i j = i
order_all Is items Greater x y z h i j = j

-- a place of the kind is set
pub all_set : (Is : Item → Type 0) (items : List Item) (name : List ℕ) (p : ℕ) (rows : Table ℕ) → Is (at items p)
    → AreAll Is items rows → AreAll Is items (with_entry name p rows)
all_set Is items name p [] h k = (h, tt)
all_set Is items name p (row ∷ rows) h k = order_all Is items (by_bytes name row.0)
    ((name, p) ∷ row ∷ rows) ((row.0, p) ∷ rows) (row ∷ with_entry name p rows)
    (h, k) (h, k.1) (k.0, all_set Is items name p rows h k.1)

pub all_with_all : (Is : Item → Type 0) (items : List Item) (rows table : Table ℕ) → AreAll Is items rows
    → AreAll Is items table → AreAll Is items (with_all rows table)
all_with_all Is items [] table h k = k
all_with_all Is items (row ∷ rows) table h k =
    all_with_all Is items rows (with_entry row.0 row.1 table) h.1 (all_set Is items row.0 row.1 table h.0 k)

found_in : (Is : Item → Type 0) (items : List Item) (name : List ℕ) (p q : ℕ) (o : Option ℕ) (b : Bool)
    → cond b (Some q) o ≡ Some p → Is (at items q) → (o ≡ Some p → Is (at items p)) → Is (at items p)
found_in Is items name p q o true h k l = subst (λ z. Is (at items z)) (some_is q p h) k
found_in Is items name p q o false h k l = l h

-- a place that is found is of the kind
pub all_found : (Is : Item → Type 0) (items : List Item) (name : List ℕ) (p : ℕ) (rows : Table ℕ)
    → AreAll Is items rows → entry name rows ≡ Some p → Is (at items p)
all_found Is items name p [] h k = absurd (cc)
all_found Is items name p (row ∷ rows) h k =
    found_in Is items name p row.1 (entry name rows) (eq_by_cmp by_bytes name row.0) k h.0
    (λ e. all_found Is items name p rows h.1 e)

-- what a table has under a name, where it is rows of places
pub entry_at : {A B : Type 0} (f : A → B) (name : List ℕ) (rows : Table A) (table : Table B) (found : Option A)
    → table ≡ map_rows f rows → found ≡ entry name rows → entry name table ≡ option_map f found
entry_at f name rows table found h k =
    ap (entry name) h ∙ entry_map f name rows ∙ ap (option_map f) (sym k)
