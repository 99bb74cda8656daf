-- Reading a node without a bound: no more nodes can be open at once than there are bytes.
use Rattle.std.specs.Prelude.{length}
use Rattle.node_bytes.specs.Formats.{Format}
use Rattle.node_bytes.specs.Reading.{NodeStep, node_at}

-- the node at the front of the bytes
abbrev pub any_node_at : Format → NodeStep
any_node_at f begun bytes = node_at (length bytes) f begun bytes
