-- Realisations as lists, and what becomes of a type or an entry.
use Rattle.std.specs.Prelude.{◌≡◌, List, [], ◌∷◌, map, Option, Some, None}
use Rattle.semantic_objects.specs.declared.name.TyName.{TyName}
use Rattle.semantic_objects.specs.declared.entry.TypeFn.{TypeFn}
use Rattle.semantic_objects.specs.declared.node.TypeNode.{TypeNode}
use Rattle.semantic_objects.specs.declared.node.TypeNode.TheVariants as node
use Rattle.semantic_objects.specs.declared.symbol.Symbol.{Symbol}
use Rattle.semantic_objects.specs.declared.symbol.Symbol.TheVariants as symbol
use Rattle.realisation.specs.Realised.{Realisation, of_rows, realised_tree}
use Rattle.realisation.specs.Environments.{Change, by_types}
use Rattle.type_walks.specs.declared.names.NameTable.{NameTable}
use Rattle.type_walks.specs.declared.replacing.Replace.{Replace}
use Rattle.type_walks.specs.Tables.{AreTold}

-- the realisation of a list
abbrev pub rows_of : List Replace → List (TyName × TypeFn)
rows_of list = map (λ (r : Replace). (r.name, r.by)) list

abbrev pub put_by : List Replace → Realisation
put_by list = of_rows (rows_of list)

-- what becomes of types and schemes
abbrev pub replacing : List Replace → Change
replacing list = by_types (realised_tree (put_by list))

-- the table tells the places of the names of the list
pub record IsReady (table : NameTable) (list : List Replace) : Type 0 where
  pub told : AreTold table
  pub names : table.names ≡ map (λ (r : Replace). r.name) list

-- the type function that is put for a symbol
abbrev pub function_for : List Replace → Symbol → Option TypeFn
function_for list symbol.Arrow = None
function_for list (symbol.Record labels) = None
function_for list (symbol.Name name) = put_by list name

-- nothing is put for the names of some nodes
abbrev pub symbol_stays : List Replace → Symbol → Type 0
symbol_stays list c = function_for list c ≡ None

abbrev pub NodeStays : List Replace → TypeNode → Type 0
NodeStays list (node.Bound i) = Unit {0}
NodeStays list (node.Free n) = Unit {0}
NodeStays list (node.Made c places) = function_for list c ≡ None

abbrev pub AllStay : List Replace → List TypeNode → Type 0
AllStay list [] = Unit {0}
AllStay list (x ∷ xs) = NodeStays list x × AllStay list xs

-- what is made of something: nothing where it stays as it is, and else what it becomes
abbrev pub Becomes : {A : Type 0} → A → A → Option A → Type 0
Becomes old new None = new ≡ old
Becomes old new (Some made) = made ≡ new
