-- The symbols that may stand in what is given. Only private functions cite this file.
use Rattle.std.specs.Prelude.{Bool}
use Rattle.semantic_objects.specs.declared.symbol.Symbol.{Symbol}
use Rattle.inference_laws.specs.Nodes.{Nodes, below_number}
use Rattle.given_tops.specs.declared.names.Limits.{Limits}

abbrev pub nodes_of : Limits → Nodes
nodes_of limits = below_number limits.home limits.number

-- whether a symbol may stand: that doesn't hang on how many parts it has
abbrev pub may_stand : Limits → Symbol → Bool
may_stand limits c = nodes_of limits c 0
