-- The top that bytes are an interface of.
use Rattle.std.specs.Prelude.{ℕ, List, drop, Bool, true, false, Option, Some, None}
use Rattle.node_bytes.specs.Nodes.{Node}
use Rattle.node_bytes.specs.Reading.{alone_at}
use Rattle.node_bytes.specs.Interfaces.{interfaces}
use Rattle.semantic_objects.specs.Environments.{Top}
use Rattle.interface_tops.specs.Contents.{top_of}
use Rattle.interface_tops.specs.Conditions.{is_interface}

abbrev pub top_if : Bool → Top → Option Top
top_if true top = Some top
top_if false top = None

-- what the node says, where the bytes are the interface of it
abbrev pub checked_top : List ℕ → List ℕ → Option (Node × List ℕ) → Option Top
checked_top home bytes None = None
checked_top home bytes (Some found) = top_if (is_interface home bytes (top_of home found.0)) (top_of home found.0)

-- what the bytes say that the unit `home` defines, where they are an interface: the node behind the mark is read
abbrev pub interface_top : List ℕ → List ℕ → Option Top
interface_top home bytes = checked_top home bytes (alone_at interfaces (drop 4 bytes))
