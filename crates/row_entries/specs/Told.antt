-- Which rows are type functions, schemes and type structures, and which ones. The rows are those of a table whose nodes
-- are `made`.
use Rattle.std.specs.Prelude.{◌≡◌, ℕ, ◌<◌, List, [], ◌∷◌, ◌++◌, length, map, get_or, Option, Some, None}
use Rattle.node_bytes.specs.Nodes.{Node}
use Rattle.node_bytes.specs.Tables.{row_node}
use Rattle.node_bytes.specs.declared.table.Row.{Row}
use Rattle.semantic_objects.specs.declared.entry.ConEntry.{ConEntry}
use Rattle.semantic_objects.specs.declared.entry.TypeFn.{TypeFn}
use Rattle.semantic_objects.specs.declared.entry.TypeStr.{TypeStr}
use Rattle.semantic_objects.specs.Tables.{Table}
use Rattle.semantic_objects.specs.Trees.{TypeScheme}
use Rattle.interface_format.specs.Tags.{function_node, scheme_node, type_structure_node}
use Rattle.interface_format.specs.Trees.{node_of_function, node_of_scheme, node_of_type}
use Rattle.interface_format.specs.Rules.{IsNumber, IsFunction, IsClosed, IsTypeStructure}
use Rattle.interface_nodes.specs.Fields.{node_at, rows_at}
use Rattle.interface_nodes.specs.declared.fields.NamedPlace.{NamedPlace}
use Rattle.row_fields.specs.Listing.{AreItems, HasName}
use Rattle.row_types.specs.declared.rows.TypeRows.{TypeRows}
use Rattle.row_types.specs.Told.{AreTold}
use Rattle.row_forms.specs.declared.entries.CountedForm.{CountedForm}
use Rattle.row_forms.specs.declared.entries.SchemeForm.{SchemeForm}
use Rattle.row_forms.specs.declared.entries.TypeForm.{TypeForm}
use Rattle.row_forms.specs.Forms.{AreMarks}
use Rattle.row_entries.specs.declared.rows.EntryRows.{EntryRows}

-- ---- what a node is

-- what it is, or that it is nothing of the kind
abbrev pub IsOrNone : {A : Type 0} → (A → Type 0) → Option A → Type 0
IsOrNone Is (Some x) = Is x
IsOrNone {A} Is None = (x : A) → Is x → ⊥

-- a node is that of this type function, which meets the rules
pub record IsFunctionOf (home : List ℕ) (x : Node) (function : TypeFn) : Type 0 where
  pub node : x ≡ node_of_function home function
  pub rules : IsFunction function

pub record IsSchemeOf (home : List ℕ) (x : Node) (σ : TypeScheme) : Type 0 where
  pub node : x ≡ node_of_scheme home σ
  pub rules : IsClosed σ

pub record IsStructureOf (home : List ℕ) (x : Node) (str : TypeStr) : Type 0 where
  pub node : x ≡ node_of_type home str
  pub rules : IsTypeStructure str

-- a row of a table of nodes is this row: it has its name, and its node is that of its entry
pub record IsRow {A : Type 0} (Is : Node → A → Type 0) (row : List ℕ × Node) (x : List ℕ × A) : Type 0 where
  pub name : row.0 ≡ x.0
  pub is : Is row.1 x.1

-- .. and so are all of them, one by one
abbrev pub RowsAre : {A : Type 0} → (Node → A → Type 0) → Table Node → Table A → Type 0
RowsAre Is [] [] = Unit {0}
RowsAre Is [] (x ∷ xs) = ⊥
RowsAre Is (row ∷ rows) [] = ⊥
RowsAre Is (row ∷ rows) (x ∷ xs) = IsRow Is row x × RowsAre Is rows xs

-- constructors as rows
abbrev pub con_rows : List ConEntry → Table TypeScheme
con_rows cons = map (λ (con : ConEntry). (con.name, con.scheme)) cons

-- ---- rows

-- of each row it is told what it is
pub record AreAllTold {A : Type 0} (Is : Node → A → Type 0) (made : List Node) (told : List (Option A)) : Type 0 where
  pub counted : length told ≡ length made
  pub each : (p : ℕ) → p < length made → IsOrNone (Is (node_at made p)) (get_or told p None)

pub record AreEntries (home : List ℕ) (made : List Node) (rows : EntryRows) : Type 0 where
  pub types : AreTold home made rows.types
  pub functions : AreAllTold (IsFunctionOf home) made rows.functions
  pub schemes : AreAllTold (IsSchemeOf home) made rows.schemes

-- ---- what calls answer

abbrev pub FindsFunction : TypeRows → CountedForm → Option TypeFn → Type 0
FindsFunction types form found = (home : List ℕ) (made : List Node) → AreTold home made types → IsNumber form.count
    → IsOrNone (IsFunctionOf home (function_node form.count (node_at made form.place))) found

abbrev pub FindsScheme : TypeRows → SchemeForm → Option TypeScheme → Type 0
FindsScheme types form found = (home : List ℕ) (made : List Node) → AreTold home made types → AreMarks form.marks
    → IsOrNone (IsSchemeOf home (scheme_node form.marks (node_at made form.place))) found

abbrev pub FindsCons : EntryRows → List NamedPlace → Option (List ConEntry) → Type 0
FindsCons rows table found = (home : List ℕ) (made : List Node) → AreEntries home made rows
    → IsOrNone (λ cons. RowsAre (IsSchemeOf home) (rows_at made table) (con_rows cons)) found

abbrev pub FindsStructure : EntryRows → TypeForm → Option TypeStr → Type 0
FindsStructure rows form found = (home : List ℕ) (made : List Node) → AreEntries home made rows
    → AreItems HasName (rows_at made form.cons)
    → IsOrNone (IsStructureOf home (type_structure_node (node_at made form.function) (rows_at made form.cons))) found

-- what a row is that has these items
abbrev pub TellsFunction : TypeRows → Row → Option TypeFn → Type 0
TellsFunction types row found = (home : List ℕ) (made : List Node) → AreTold home made types
    → IsOrNone (IsFunctionOf home (row_node made row)) found

abbrev pub TellsScheme : TypeRows → Row → Option TypeScheme → Type 0
TellsScheme types row found = (home : List ℕ) (made : List Node) → AreTold home made types
    → IsOrNone (IsSchemeOf home (row_node made row)) found

abbrev pub TellsStructure : EntryRows → Row → Option TypeStr → Type 0
TellsStructure rows row found = (home : List ℕ) (made : List Node) → AreEntries home made rows
    → IsOrNone (IsStructureOf home (row_node made row)) found

-- one row more is told
abbrev pub TellsEntry : List ℕ → EntryRows → Row → EntryRows → Type 0
TellsEntry home old row new = (made : List Node) → AreEntries home made old
    → AreEntries home (made ++ row_node made row ∷ []) new

-- the place is one of a row, of which this is told
pub record ToldAt {A : Type 0} (told : List (Option A)) (place : ℕ) (found : Option A) : Type 0 where
  pub within : place < length told
  pub is : get_or told place None ≡ found
