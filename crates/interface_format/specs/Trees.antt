-- The nodes that types, environments and tops are written as, in the interface of a unit `home`.
use Rattle.std.specs.Prelude.{ℕ, List, [], ◌∷◌, length, map}
use Rattle.std.specs.List.{zip}
use Rattle.node_bytes.specs.Nodes.{Node, Content}
use Rattle.semantic_objects.specs.declared.symbol.Symbol.{Symbol}
use Rattle.semantic_objects.specs.declared.symbol.Symbol.TheVariants as symbol
use Rattle.semantic_objects.specs.declared.entry.ConEntry.{ConEntry}
use Rattle.semantic_objects.specs.declared.entry.TypeFn.{TypeFn}
use Rattle.semantic_objects.specs.declared.entry.TypeStr.{TypeStr}
use Rattle.semantic_objects.specs.declared.entry.ValueEntry.{ValueEntry}
use Rattle.semantic_objects.specs.Tables.{Table}
use Rattle.semantic_objects.specs.Trees.{Tree, Trees, TypeScheme}
use Rattle.semantic_objects.specs.Environments.{Env, Structures, Signature, Functor, Top, structures}
use Rattle.interface_format.specs.Tags.{ValueRow, variable_node, record_node, arrow_node, named_node, function_node, scheme_node, type_structure_node, environment_node, signature_node, functor_node, unit_node}

-- what stands where no node can be written, as for a variable of a table; it is a node of no format
abbrev pub no_node : Node
no_node = Node.node 0 Content.nothing

-- ---- types

abbrev pub node_over : List ℕ → Symbol → List Node → Node
node_over home symbol.Arrow parts = arrow_node parts
node_over home (symbol.Record labels) parts = record_node (zip labels parts)
node_over home (symbol.Name name) parts = named_node home name parts

abbrev mutual
  pub type_node : List ℕ → Tree → Node
  type_node home (Tree.Bound i) = variable_node i
  type_node home (Tree.Free n) = no_node
  type_node home (Tree.Made c ts) = node_over home c (type_nodes home ts)

  pub type_nodes : List ℕ → Trees → List Node
  type_nodes home Trees.Nil = []
  type_nodes home (Trees.Cons t ts) = type_node home t ∷ type_nodes home ts

-- ---- entries

abbrev pub node_of_function : List ℕ → TypeFn → Node
node_of_function home function = function_node function.arity (type_node home function.body)

abbrev pub node_of_scheme : List ℕ → TypeScheme → Node
node_of_scheme home σ = scheme_node σ.marks (type_node home σ.body)

abbrev pub row_of_con : List ℕ → ConEntry → List ℕ × Node
row_of_con home con = (con.name, node_of_scheme home con.scheme)

abbrev pub node_of_type : List ℕ → TypeStr → Node
node_of_type home str = type_structure_node (node_of_function home str.function) (map (row_of_con home) str.cons)

abbrev pub row_of_value : List ℕ → List ℕ × ValueEntry → ValueRow
row_of_value home row =
    record { name = row.0; status = row.1.status; scheme = node_of_scheme home row.1.scheme }

-- ---- environments and tops

abbrev pub rows_by : {A : Type 0} → (A → Node) → Table A → Table Node
rows_by node rows = map (λ row. (row.0, node row.1)) rows

abbrev mutual
  pub env_node : List ℕ → Env → Node
  env_node home (Env.MakeEnv ss ts vs) =
      environment_node (structure_rows home ss) (rows_by (node_of_type home) ts) (map (row_of_value home) vs)

  pub structure_rows : List ℕ → Structures → Table Node
  structure_rows home Structures.Nil = []
  structure_rows home (Structures.Cons name env rest) = (name, env_node home env) ∷ structure_rows home rest

abbrev pub node_of_signature : List ℕ → Signature → Node
node_of_signature home sig = signature_node (length sig.bound) (env_node home sig.env)

abbrev pub node_of_functor : List ℕ → Functor → Node
node_of_functor home fun =
    functor_node (length fun.bound) (env_node home fun.param) (length fun.further) (env_node home fun.result)

-- a unit, whose environment has structures alone
abbrev pub top_node : List ℕ → Top → Node
top_node home top = unit_node
    (rows_by (env_node home) (structures top.env))
    (rows_by (node_of_signature home) top.signatures)
    (rows_by (node_of_functor home) top.functors)
    (rows_by (node_of_functor home) top.funsigs)
