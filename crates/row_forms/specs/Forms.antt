-- What whole rows are made of: each field behind the other, and nothing behind the last one.
use Rattle.std.specs.Prelude.{◌≡◌, ◌≢◌, ℕ, List, length, map, Bool, Option, Some, None, Result, Ok, Err}
use Rattle.cm_base.specs.declared.fault.NoMemory.{NoMemory}
use Rattle.node_bytes.specs.Nodes.{Node, Content}
use Rattle.node_bytes.specs.Shapes.{with_number, with_text, with_list}
use Rattle.node_bytes.specs.Tables.{content_of}
use Rattle.node_bytes.specs.declared.table.Item.{Item}
use Rattle.semantic_objects.specs.Tables.{Table}
use Rattle.interface_format.specs.Rules.{IsNumber}
use Rattle.interface_format.specs.Tags.{ValueRow, bool_byte, with_named, with_value}
use Rattle.interface_nodes.specs.Fields.{node_at, rows_at, values_at}
use Rattle.row_fields.specs.Taking.{IsAny}
use Rattle.row_fields.specs.Listing.{AreItems, HasName, IsValueName}
use Rattle.row_forms.specs.declared.entries.CountedForm.{CountedForm}
use Rattle.row_forms.specs.declared.entries.SchemeForm.{SchemeForm}
use Rattle.row_forms.specs.declared.entries.TypeForm.{TypeForm}
use Rattle.row_forms.specs.declared.modules.EnvForm.{EnvForm}
use Rattle.row_forms.specs.declared.modules.FunctorForm.{FunctorForm}
use Rattle.row_forms.specs.declared.modules.UnitForm.{UnitForm}

-- ---- fields

-- one field behind another
abbrev pub with_both : {A B : Type 0} → (A → Content → Content) → (B → Content → Content) → A × B → Content → Content
with_both first second p content = first p.0 (second p.1 content)

pub record AreBoth {A B : Type 0} (First : A → Type 0) (Second : B → Type 0) (p : A × B) : Type 0 where
  pub first : First p.0
  pub second : Second p.1

-- the items are these fields and nothing else
pub record IsForm {A : Type 0} (Fits : A → Type 0) (with_item : A → Content → Content) (made : List Node) (x : A)
    (items : List Item) : Type 0 where
  pub fits : Fits x
  pub is : content_of made items ≡ with_item x Content.nothing

-- the items are no such fields, whatever their parts are
pub record NeverForm {A : Type 0} (Fits : A → Type 0) (with_item : A → Content → Content) (items : List Item)
    : Type 0 where
  pub never : (made : List Node) (x : A) → Fits x → content_of made items ≢ with_item x Content.nothing

-- what the items are, or that they are none
abbrev pub HasForm : {X A : Type 0} → (List Node → X → A) → (A → Type 0) → (A → Content → Content) → Option X
    → List Item → Type 0
HasForm value Fits with_item (Some x) items = (made : List Node) → IsForm Fits with_item made (value made x) items
HasForm value Fits with_item None items = NeverForm Fits with_item items

-- .. where want of memory is free
abbrev pub HasFormOwned : {X A : Type 0} → (List Node → X → A) → (A → Type 0) → (A → Content → Content)
    → Result (Option X) NoMemory → List Item → Type 0
HasFormOwned value Fits with_item (Ok found) items = HasForm value Fits with_item found items
HasFormOwned value Fits with_item (Err e) items = Unit {0}

-- ---- marks

-- a list of bytes, 1 for each equality variable and 0 for each other one
abbrev pub with_marks : List Bool → Content → Content
with_marks marks content = with_text (map bool_byte marks) content

pub record AreMarks (marks : List Bool) : Type 0 where
  pub counted : IsNumber (length marks)

-- bytes that are marks, or aren't
abbrev pub SpellMarks : List ℕ → Option (List Bool) → Type 0
SpellMarks bytes (Some marks) = bytes ≡ map bool_byte marks
SpellMarks bytes None = (marks : List Bool) → bytes ≢ map bool_byte marks

-- ---- rows

-- a number and a part: a type function, or a signature
abbrev pub with_counted : ℕ × Node → Content → Content
with_counted = with_both with_number Content.part

abbrev pub FitsCounted : ℕ × Node → Type 0
FitsCounted = AreBoth IsNumber IsAny

abbrev pub counted_at : List Node → CountedForm → ℕ × Node
counted_at made form = (form.count, node_at made form.place)

-- marks and a type: a scheme
abbrev pub with_scheme : List Bool × Node → Content → Content
with_scheme = with_both with_marks Content.part

abbrev pub FitsScheme : List Bool × Node → Type 0
FitsScheme = AreBoth AreMarks IsAny

abbrev pub scheme_at : List Node → SchemeForm → List Bool × Node
scheme_at made form = (form.marks, node_at made form.place)

-- a type function and its constructors: a type structure
abbrev pub with_type : Node × Table Node → Content → Content
with_type = with_both Content.part (with_list with_named)

abbrev pub FitsType : Node × Table Node → Type 0
FitsType = AreBoth IsAny (AreItems HasName)

abbrev pub type_at : List Node → TypeForm → Node × Table Node
type_at made form = (node_at made form.function, rows_at made form.cons)

-- structures, types and values: an environment
abbrev pub with_env : Table Node × (Table Node × List ValueRow) → Content → Content
with_env = with_both (with_list with_named) (with_both (with_list with_named) (with_list with_value))

abbrev pub FitsEnv : Table Node × (Table Node × List ValueRow) → Type 0
FitsEnv = AreBoth (AreItems HasName) (AreBoth (AreItems HasName) (AreItems IsValueName))

abbrev pub env_at : List Node → EnvForm → Table Node × (Table Node × List ValueRow)
env_at made form = (rows_at made form.structures, (rows_at made form.types, values_at made form.values))

-- a number and a part, twice: a functor or a signature of functors
abbrev pub with_functor : ℕ × (Node × (ℕ × Node)) → Content → Content
with_functor = with_both with_number (with_both Content.part with_counted)

abbrev pub FitsFunctor : ℕ × (Node × (ℕ × Node)) → Type 0
FitsFunctor = AreBoth IsNumber (AreBoth IsAny FitsCounted)

abbrev pub functor_at : List Node → FunctorForm → ℕ × (Node × (ℕ × Node))
functor_at made form = (form.bound, (node_at made form.param, (form.further, node_at made form.body)))

-- structures, signatures, functors and signatures of functors: a unit
abbrev pub with_tables : Table Node × Table Node → Content → Content
with_tables = with_both (with_list with_named) (with_list with_named)

abbrev pub FitTables : Table Node × Table Node → Type 0
FitTables = AreBoth (AreItems HasName) (AreItems HasName)

abbrev pub with_unit : Table Node × (Table Node × (Table Node × Table Node)) → Content → Content
with_unit = with_both (with_list with_named) (with_both (with_list with_named) with_tables)

abbrev pub FitsUnit : Table Node × (Table Node × (Table Node × Table Node)) → Type 0
FitsUnit = AreBoth (AreItems HasName) (AreBoth (AreItems HasName) FitTables)

abbrev pub unit_at : List Node → UnitForm → Table Node × (Table Node × (Table Node × Table Node))
unit_at made form =
    (rows_at made form.structures, (rows_at made form.signatures, (rows_at made form.functors, rows_at made form.funsigs)))
