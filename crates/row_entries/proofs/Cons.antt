-- Tables whose rows are told one by one, and type structures over them.
use Rattle.std.proofs.Common.{◌≡◌, ◌≢◌, ℕ, zero, suc, ◌+◌, ◌<◌, refl, sym, ap, ap₂, subst, ◌∙◌, arith, List, [], ◌∷◌, ◌++◌, length, map, take, get_or, Option, Some, None}
use Rattle.std.specs.Prelude.{All}
use Rattle.std.specs.List.{AllByRecursion}
use Rattle.std.proofs.lemmas.List.{map-append, take_more}
use Rattle.std.proofs.lemmas.List.Elements.{All-nil, All-cons, All-head, All-tail}
use Rattle.node_bytes.specs.Nodes.{Node, Content}
use Rattle.node_bytes.specs.Shapes.{with_list}
use Rattle.node_bytes.specs.Tables.{content_of}
use Rattle.node_bytes.specs.declared.table.Item.{Item}
use Rattle.node_bytes.specs.declared.table.Row.{Row}
use Rattle.semantic_objects.specs.declared.entry.ConEntry.{ConEntry}
use Rattle.semantic_objects.specs.declared.entry.TypeFn.{TypeFn}
use Rattle.semantic_objects.specs.declared.entry.TypeStr.{TypeStr}
use Rattle.semantic_objects.specs.Tables.{Table}
use Rattle.semantic_objects.specs.Trees.{TypeScheme}
use Rattle.interface_format.specs.Tags.{with_named, type_structure_node}
use Rattle.interface_format.specs.Trees.{node_of_function, row_of_con}
use Rattle.interface_format.specs.Rules.{IsNumber, IsName, IsClosed, IsTypeStructure, AreNames}
use Rattle.interface_format.proofs.Told.{part_told, list_told, named_told}
use Rattle.interface_format.proofs.Entries.{rows_counted}
use Rattle.interface_nodes.specs.declared.fields.NamedPlace.{NamedPlace}
use Rattle.interface_nodes.specs.Fields.{node_at, row_at, rows_at}
use Rattle.row_types.specs.Told.{name_of}
use Rattle.row_fields.specs.Listing.{AreItems, HasName}
use Rattle.row_forms.specs.declared.entries.TypeForm.{TypeForm}
use Rattle.row_forms.specs.Forms.{IsForm, NeverForm, with_type, FitsType, type_at}
use Rattle.row_entries.specs.declared.rows.EntryRows.{EntryRows}
use Rattle.row_entries.specs.Told.{IsOrNone, IsFunctionOf, IsSchemeOf, IsStructureOf, IsRow, RowsAre, con_rows, AreAllTold, AreEntries, ToldAt, FindsCons, FindsStructure, TellsStructure}
use Rattle.row_entries.proofs.Found.{row_is}

content_same : (s t : ℕ) (c d : Content) → Node.node s c ≡ Node.node t d → c ≡ d
content_same s t c d e = cc

tag_same : (s t : ℕ) (c d : Content) → Node.node s c ≡ Node.node t d → s ≡ t
tag_same s t c d e = cc

-- ---- a row that is told

pub is_at : {A : Type 0} (Is : Node → A → Type 0) (made : List Node) (told : List (Option A)) (place : ℕ)
    (found : Option A) → AreAllTold Is made told → ToldAt told place found → IsOrNone (Is (node_at made place)) found
is_at Is made told place found h k =
    let count = h.counted in
    let within = k.within in
    subst (IsOrNone (Is (node_at made place))) k.is (h.each place (omega (arith, count, within)))

-- ---- tables

pub rows_push : {A : Type 0} (Is : Node → A → Type 0) (rows : Table Node) (xs : Table A) (row : List ℕ × Node)
    (x : List ℕ × A) → RowsAre Is rows xs → IsRow Is row x → RowsAre Is (rows ++ row ∷ []) (xs ++ x ∷ [])
rows_push Is [] [] row x h k = (k, tt)
rows_push Is [] (y ∷ xs) row x h k = absurd h
rows_push Is (r ∷ rows) [] row x h k = absurd h
rows_push Is (r ∷ rows) (y ∷ xs) row x h k = (h.0, rows_push Is rows xs row x h.1 k)

-- one row more of a table
pub rows_more : {A : Type 0} (Is : Node → A → Type 0) (made : List Node) (table : List NamedPlace) (i : ℕ)
    (row d : NamedPlace) (xs all : Table A) (x : List ℕ × A) → row ≡ get_or table i d → i < length table
    → RowsAre Is (rows_at made (take i table)) xs → IsRow Is (row_at made row) x → all ≡ xs ++ x ∷ []
    → RowsAre Is (rows_at made (take (i + 1) table)) all
rows_more Is made table i row d xs all x e lt h k a =
    subst (RowsAre Is (rows_at made (take (i + 1) table))) (sym a)
    (subst (λ (z : Table Node). RowsAre Is z (xs ++ x ∷ [])) (sym rows)
    (rows_push Is (rows_at made (take i table)) xs (row_at made row) x h k))
  where
    rows : rows_at made (take (i + 1) table) ≡ rows_at made (take i table) ++ row_at made row ∷ []
    rows = ap (rows_at made) (take_more table i d lt) ∙ map-append (row_at made) (take i table) (get_or table i d ∷ [])
        ∙ ap (λ (z : NamedPlace). rows_at made (take i table) ++ row_at made z ∷ []) (sym e)

-- a row of a table is none
pub rows_lack : {A : Type 0} (Is : Node → A → Type 0) (made : List Node) (table : List NamedPlace) (i : ℕ)
    (row d : NamedPlace) (xs : Table A) → row ≡ get_or table i d → i < length table
    → ((x : A) → Is (node_at made row.place) x → ⊥) → RowsAre Is (rows_at made table) xs → ⊥
rows_lack Is made [] i row d xs e lt h k = omega (arith, lt)
rows_lack Is made (r ∷ table) i row d [] e lt h k = k
rows_lack Is made (r ∷ table) zero row d (x ∷ xs) e lt h k =
    h x.1 (subst (λ (z : NamedPlace). Is (node_at made z.place) x.1) (sym e) k.0.is)
rows_lack Is made (r ∷ table) (suc i) row d (x ∷ xs) e lt h k =
    rows_lack Is made table i row d xs e (omega (arith, lt)) h k.1

-- the names of rows
pub rows_names : {A : Type 0} (Is : Node → A → Type 0) (rows : Table Node) (xs : Table A) → RowsAre Is rows xs
    → map (λ (r : List ℕ × Node). r.0) rows ≡ map (λ (x : List ℕ × A). x.0) xs
rows_names Is [] [] h = refl
rows_names Is [] (x ∷ xs) h = absurd h
rows_names Is (row ∷ rows) [] h = absurd h
rows_names Is (row ∷ rows) (x ∷ xs) h = ap₂ (λ z zs. z ∷ zs) h.0.name (rows_names Is rows xs h.1)

pub table_names : (made : List Node) (table : List NamedPlace)
    → map (λ (r : List ℕ × Node). r.0) (rows_at made table) ≡ map name_of table
table_names made [] = refl
table_names made (row ∷ table) = ap (λ z. row.name ∷ z) (table_names made table)

-- ---- constructors

abbrev row : List ℕ → Node → List ℕ × Node
row name x = (name, x)

pub con_nodes : (home : List ℕ) (rows : Table Node) (cons : List ConEntry)
    → RowsAre (IsSchemeOf home) rows (con_rows cons) → rows ≡ map (row_of_con home) cons
con_nodes home [] [] h = refl
con_nodes home [] (con ∷ cons) h = absurd h
con_nodes home (r ∷ rows) [] h = absurd h
con_nodes home (r ∷ rows) (con ∷ cons) h =
    ap₂ (λ z zs. z ∷ zs) (ap₂ row h.0.name h.0.is.node) (con_nodes home rows cons h.1)

pub con_closed : (home : List ℕ) (rows : Table Node) (cons : List ConEntry)
    → RowsAre (IsSchemeOf home) rows (con_rows cons) → All (λ (con : ConEntry). IsClosed con.scheme) cons
con_closed home [] [] h = All-nil (λ (con : ConEntry). IsClosed con.scheme)
con_closed home [] (con ∷ cons) h = absurd h
con_closed home (r ∷ rows) [] h = absurd h
con_closed home (r ∷ rows) (con ∷ cons) h =
    All-cons (λ (x : ConEntry). IsClosed x.scheme) con cons h.0.is.rules (con_closed home rows cons h.1)

pub closed_cons : (home : List ℕ) (cons : List ConEntry) → All (λ (con : ConEntry). IsClosed con.scheme) cons
    → RowsAre (IsSchemeOf home) (map (row_of_con home) cons) (con_rows cons)
closed_cons home [] h = tt
closed_cons home (con ∷ cons) h = (
  record {
    name = refl;
    is = record { node = refl; rules = All-head (λ (x : ConEntry). IsClosed x.scheme) con cons h };
  },
  closed_cons home cons (All-tail (λ (x : ConEntry). IsClosed x.scheme) con cons h),
)

con_names : (cons : List ConEntry)
    → map (λ (x : List ℕ × TypeScheme). x.0) (con_rows cons) ≡ map (λ (con : ConEntry). con.name) cons
con_names [] = refl
con_names (con ∷ cons) = ap (λ z. con.name ∷ z) (con_names cons)

-- ---- type structures

record SameStructure (home : List ℕ) (x : Node) (rows : Table Node) (str : TypeStr) : Type 0 where
  function : IsFunctionOf home x str.function
  cons : RowsAre (IsSchemeOf home) rows (con_rows str.cons)

same_structure : (home : List ℕ) (x : Node) (rows : Table Node) (str : TypeStr) → AreItems HasName rows
    → IsStructureOf home (type_structure_node x rows) str → SameStructure home x rows str
same_structure home x rows str f h =
    let all = map (row_of_con home) str.cons in
    let a = part_told x (node_of_function home str.function) (with_list with_named rows Content.nothing)
    (with_list with_named all Content.nothing)
    (content_same 7 7 (Content.part x (with_list with_named rows Content.nothing))
    (Content.part (node_of_function home str.function) (with_list with_named all Content.nothing)) h.node) in
    let b = list_told with_named named_told rows all Content.nothing Content.nothing f.counted
    (rows_counted (row_of_con home) (λ (con : ConEntry). con.name) str.cons h.rules.names) a.rest in
    record {
      function = record { node = a.item; rules = h.rules.function };
      cons = subst (λ (z : Table Node). RowsAre (IsSchemeOf home) z (con_rows str.cons)) (sym b.item)
          (closed_cons home str.cons h.rules.cons);
    }

pub structure_lacks : (rows : EntryRows) (form : TypeForm) → ToldAt rows.functions form.function None
    → FindsStructure rows form None
structure_lacks rows form k home made told f str is =
    is_at (IsFunctionOf home) made rows.functions form.function None told.functions k str.function
    (same_structure home (node_at made form.function) (rows_at made form.cons) str f is).function

all_names : (home : List ℕ) (made : List Node) (table : List NamedPlace) (cons : List ConEntry)
    → RowsAre (IsSchemeOf home) (rows_at made table) (con_rows cons)
    → map name_of table ≡ map (λ (con : ConEntry). con.name) cons
all_names home made table cons h =
    sym (table_names made table) ∙ rows_names (IsSchemeOf home) (rows_at made table) (con_rows cons) h
    ∙ con_names cons

pub structure_names : (rows : EntryRows) (form : TypeForm) → (AreNames (map name_of form.cons) → ⊥)
    → FindsStructure rows form None
structure_names rows form bad home made told f str is =
    bad (subst AreNames (sym (all_names home made form.cons str.cons
    (same_structure home (node_at made form.function) (rows_at made form.cons) str f is).cons)) is.rules.names)

pub structure_cons : (rows : EntryRows) (form : TypeForm) → FindsCons rows form.cons None → FindsStructure rows form None
structure_cons rows form k home made told f str is =
    k home made told str.cons
    (same_structure home (node_at made form.function) (rows_at made form.cons) str f is).cons

pub structure_found : (rows : EntryRows) (form : TypeForm) (function : TypeFn) (cons : List ConEntry)
    → ToldAt rows.functions form.function (Some function) → AreNames (map name_of form.cons)
    → FindsCons rows form.cons (Some cons)
    → FindsStructure rows form (Some (record { function = function; cons = cons }))
structure_found rows form function cons k good c home made told f =
    let fun = is_at (IsFunctionOf home) made rows.functions form.function (Some function) told.functions k in
    let are = c home made told in
    record {
      node = ap₂ type_structure_node fun.node (con_nodes home (rows_at made form.cons) cons are);
      rules = record {
        function = fun.rules;
        names = subst AreNames (all_names home made form.cons cons are) good;
        cons = con_closed home (rows_at made form.cons) cons are;
      };
    }

name_number : (name : List ℕ) → IsName name → IsNumber (length name)
name_number name h = let s = h.short in record { below = omega (arith, s) }

-- named rows have names whose lengths have four bytes
pub names_fit : {A : Type 0} (f : A → List ℕ × Node) (name : A → List ℕ) → ((x : A) → (f x).0 ≡ name x) → (xs : List A)
    → All IsName (map name xs) → AllByRecursion HasName (map f xs)
names_fit f name same [] h = tt
names_fit f name same (x ∷ xs) h = (
  subst (λ (z : List ℕ). IsNumber (length z)) (sym (same x))
      (name_number (name x) (All-head IsName (name x) (map name xs) h)),
  names_fit f name same xs (All-tail IsName (name x) (map name xs) h),
)

con_items : (home : List ℕ) (str : TypeStr) → IsTypeStructure str → AreItems HasName (map (row_of_con home) str.cons)
con_items home str h = record {
  counted = rows_counted (row_of_con home) (λ (con : ConEntry). con.name) str.cons h.names;
  each = names_fit (row_of_con home) (λ (con : ConEntry). con.name) (λ con. refl) str.cons h.names.each;
}

pub structure_tagged : (rows : EntryRows) (row : Row) → row.tag ≢ 7 → TellsStructure rows row None
structure_tagged rows row other home made told str is =
    other (tag_same row.tag 7 (content_of made row.items)
    (Content.part (node_of_function home str.function)
    (with_list with_named (map (row_of_con home) str.cons) Content.nothing)) is.node)

pub structure_never : (rows : EntryRows) (row : Row) (slice : List Item) → slice ≡ row.items
    → NeverForm FitsType with_type slice → TellsStructure rows row None
structure_never rows row slice e h home made told str is =
    h.never made (node_of_function home str.function, map (row_of_con home) str.cons)
    (record { first = tt; second = con_items home str is.rules })
    (ap (content_of made) e
    ∙ content_same row.tag 7 (content_of made row.items)
    (Content.part (node_of_function home str.function)
    (with_list with_named (map (row_of_con home) str.cons) Content.nothing)) is.node)

pub structure_formed : (rows : EntryRows) (row : Row) (slice : List Item) (form : TypeForm) (found : Option TypeStr)
    → row.tag ≡ 7 → slice ≡ row.items
    → ((made : List Node) → IsForm FitsType with_type made (type_at made form) slice)
    → FindsStructure rows form found → TellsStructure rows row found
structure_formed rows row slice form found t e h k home made told =
    subst (λ x. IsOrNone (IsStructureOf home x) found)
    (row_is made row 7 slice (with_type (type_at made form) Content.nothing) t e ((h made).is))
    (k home made told ((h made).fits.second))

-- ---- answers of calls

pub told_none : {A : Type 0} (told : List (Option A)) (p : ℕ) (found : Option A) → ToldAt told p found
    → ((x : A) → found ≡ Some x → ⊥) → ToldAt told p None
told_none told p (Some x) h never = absurd (never x refl)
told_none told p None h never = h

pub told_some : {A : Type 0} (told : List (Option A)) (p : ℕ) (found : Option A) (x y : A) → ToldAt told p found
    → found ≡ Some x → y ≡ x → ToldAt told p (Some y)
told_some told p found x y h e f = subst (λ z. ToldAt told p (Some z)) (sym f) (subst (ToldAt told p) e h)

pub cons_none : (rows : EntryRows) (slice table : List NamedPlace) (found : Option (List ConEntry))
    → FindsCons rows slice found → slice ≡ table → ((x : List ConEntry) → found ≡ Some x → ⊥)
    → FindsCons rows table None
cons_none rows slice table (Some cons) h e never = absurd (never cons refl)
cons_none rows slice table None h e never = subst (λ (z : List NamedPlace). FindsCons rows z None) e h

pub cons_some : (rows : EntryRows) (slice table : List NamedPlace) (found : Option (List ConEntry)) (cons : List ConEntry)
    → FindsCons rows slice found → slice ≡ table → found ≡ Some cons → FindsCons rows table (Some cons)
cons_some rows slice table found cons h e f =
    subst (λ (z : List NamedPlace). FindsCons rows z (Some cons)) e (subst (FindsCons rows slice) f h)

-- one constructor more
pub con_more : (home : List ℕ) (made : List Node) (rows : EntryRows) (table : List NamedPlace) (i : ℕ)
    (row d : NamedPlace) (cons all : List ConEntry) (con : ConEntry) → row ≡ get_or table i d → i < length table
    → AreEntries home made rows → ToldAt rows.schemes row.place (Some con.scheme) → con.name ≡ row.name
    → all ≡ cons ++ con ∷ [] → RowsAre (IsSchemeOf home) (rows_at made (take i table)) (con_rows cons)
    → RowsAre (IsSchemeOf home) (rows_at made (take (i + 1) table)) (con_rows all)
con_more home made rows table i row d cons all con e lt told k n a h =
    rows_more (IsSchemeOf home) made table i row d (con_rows cons) (con_rows all) (con.name, con.scheme) e lt h
    (record {
      name = sym n;
      is = is_at (IsSchemeOf home) made rows.schemes row.place (Some con.scheme) told.schemes k;
    })
    (ap con_rows a ∙ map-append (λ (x : ConEntry). (x.name, x.scheme)) cons (con ∷ []))

pub con_lacks : (rows : EntryRows) (table : List NamedPlace) (i : ℕ) (row d : NamedPlace) → row ≡ get_or table i d
    → i < length table → ToldAt rows.schemes row.place None → FindsCons rows table None
con_lacks rows table i row d e lt k home made told cons h =
    rows_lack (IsSchemeOf home) made table i row d (con_rows cons) e lt
    (is_at (IsSchemeOf home) made rows.schemes row.place None told.schemes k) h

pub cons_whole : (rows : EntryRows) (table front : List NamedPlace) (cons : List ConEntry) → front ≡ table
    → ((home : List ℕ) (made : List Node) → AreEntries home made rows
    → RowsAre (IsSchemeOf home) (rows_at made front) (con_rows cons))
    → FindsCons rows table (Some cons)
cons_whole rows table front cons e h home made told =
    subst (λ (z : List NamedPlace). RowsAre (IsSchemeOf home) (rows_at made z) (con_rows cons)) e (h home made told)
