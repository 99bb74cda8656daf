-- The nodes of an interface: for each tag its pieces and its parts, in the order in which they stand.
--
-- A number has four bytes. A text is its length and its bytes, and a list its count and its items.
use Rattle.std.specs.Prelude.{ℕ, List, map, Bool, true, false, cond}
use Rattle.node_bytes.specs.Nodes.{Node, Content}
use Rattle.node_bytes.specs.Shapes.{with_byte, with_number, with_text, with_items, with_list}
use Rattle.semantic_objects.specs.declared.name.Owner.{Owner}
use Rattle.semantic_objects.specs.declared.name.Owner.TheVariants as owner
use Rattle.semantic_objects.specs.declared.name.TyName.{TyName}
use Rattle.semantic_objects.specs.declared.entry.VidStatus.{VidStatus}
use Rattle.semantic_objects.specs.declared.entry.VidStatus.TheVariants as status
use Rattle.semantic_objects.specs.Symbols.{same_text}
use Rattle.semantic_objects.specs.Tables.{Table}

-- ---- bytes

abbrev pub bool_byte : Bool → ℕ
bool_byte b = cond b 1 0

abbrev pub status_byte : VidStatus → ℕ
status_byte status.Variable = 0
status_byte status.Constructor = 1
status_byte status.Exception = 2

-- ---- type names

-- a name of a unit: of the unit whose interface it is, or of another one, which is named
abbrev pub with_unit : Bool → List ℕ → Content → Content
with_unit true u content = with_byte 1 content
with_unit false u content = with_byte 2 (with_text u content)

-- whose a name is: of the basis, of a unit, or of a binder
abbrev pub with_owner : List ℕ → Owner → Content → Content
with_owner home owner.Basis content = with_byte 0 content
with_owner home (owner.«Unit» u) content = with_unit (same_text home u) u content
with_owner home owner.Bound content = with_byte 3 content

-- a type name: its owner, its number, its arity, and a byte for equality
abbrev pub with_type_name : List ℕ → TyName → Content → Content
with_type_name home name content = with_owner home name.owner
    (with_number name.number (with_number name.arity (with_byte (bool_byte name.eq) content)))

-- ---- rows of lists

-- a name with a node, as a label with a type
abbrev pub with_named : List ℕ × Node → Content → Content
with_named row content = with_text row.0 (Content.part row.1 content)

-- a value: its name, its status, and its scheme
pub record ValueRow : Type 0 where
  pub name : List ℕ
  pub status : VidStatus
  pub scheme : Node

abbrev pub with_value : ValueRow → Content → Content
with_value row content =
    with_text row.name (with_byte (status_byte row.status) (Content.part row.scheme content))

-- ---- the nodes

-- 01: a variable by its index in its scheme or type function
abbrev pub variable_node : ℕ → Node
variable_node index = Node.node 1 (with_number index Content.nothing)

-- 02: a record type, as a list of labels and types
abbrev pub record_node : Table Node → Node
record_node fields = Node.node 2 (with_list with_named fields Content.nothing)

-- 03: a function type, as two types
abbrev pub arrow_node : List Node → Node
arrow_node parts = Node.node 3 (with_items Content.part parts Content.nothing)

-- 04: a type name, and a list of types
abbrev pub named_node : List ℕ → TyName → List Node → Node
named_node home name args = Node.node 4 (with_type_name home name (with_list Content.part args Content.nothing))

-- 05: a type function: its arity, and its type
abbrev pub function_node : ℕ → Node → Node
function_node arity type = Node.node 5 (with_number arity (Content.part type Content.nothing))

-- 06: a scheme: a list of bytes, 1 for each equality variable and 0 for each other one, and its type
abbrev pub scheme_node : List Bool → Node → Node
scheme_node marks type = Node.node 6 (with_text (map bool_byte marks) (Content.part type Content.nothing))

-- 07: a type structure: its type function, and a list of constructors and their schemes
abbrev pub type_structure_node : Node → Table Node → Node
type_structure_node function cons = Node.node 7 (Content.part function (with_list with_named cons Content.nothing))

-- 08: an environment: lists of structures, of type structures, and of values
abbrev pub environment_node : Table Node → Table Node → List ValueRow → Node
environment_node structures types values = Node.node 8
    (with_list with_named structures (with_list with_named types (with_list with_value values Content.nothing)))

-- 09: a signature: how many names it binds, and its environment
abbrev pub signature_node : ℕ → Node → Node
signature_node bound env = Node.node 9 (with_number bound (Content.part env Content.nothing))

-- 0A: a functor or a signature of functors: how many names it binds, and the environment of its parameter; how many
-- further ones its result binds, and the environment of that
abbrev pub functor_node : ℕ → Node → ℕ → Node → Node
functor_node bound param further result = Node.node 10
    (with_number bound (Content.part param (with_number further (Content.part result Content.nothing))))

-- 0B: a unit: lists of structures, of signatures, of functors, and of signatures of functors
abbrev pub unit_node : Table Node → Table Node → Table Node → Table Node → Node
unit_node structures signatures functors funsigs = Node.node 11
    (with_list with_named structures (with_list with_named signatures
    (with_list with_named functors (with_list with_named funsigs Content.nothing))))
