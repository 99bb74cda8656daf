-- Bytes as a table of nodes.
use Rattle.std.specs.Prelude.{◌≡◌, ◌≢◌, ℕ, ◌<◌, List, [], length, Some, None, Result, Ok, Err}
use Rattle.indexmap.specs.IndexSet.{IndexSet}
use Rattle.node_bytes.specs.Nodes.{Node}
use Rattle.node_bytes.specs.Reading.{alone_at}
use Rattle.node_bytes.specs.Interfaces.{interfaces}
use Rattle.node_bytes.specs.Tables.{table_nodes, AreRows}
use Rattle.node_bytes.specs.declared.table.Row.{Row}
use Rattle.interface_reading.specs.Remaining.{last_node, left_of, Holds}
use Rattle.interface_reading.specs.declared.fault.RestoreFault.{RestoreFault}
use Rattle.interface_reading.specs.declared.fault.RestoreFault.TheVariants as fault
use Rattle.interface_reading.specs.declared.reading.Reading.{Reading}

-- reading is begun
pub record HasBegun (bytes rest : List ℕ) (state : Reading) : Type 0 where
  pub holds : Holds state
  pub goes : alone_at interfaces bytes ≡ left_of state rest

abbrev pub Begins : List ℕ → List ℕ → Result Reading RestoreFault → Type 0
Begins bytes rest (Ok state) = HasBegun bytes rest state
Begins bytes rest (Err fault.BadInterface) = alone_at interfaces bytes ≡ None
Begins bytes rest (Err fault.NoMemory) = Unit {0}

-- the bytes are one node, which stands last in a table, in which each part stands before what it is a part of
pub record SpellRows (bytes : List ℕ) (rows : List Row) : Type 0 where
  pub ordered : AreRows rows
  pub some : 0 < length rows
  pub read : alone_at interfaces bytes ≡ Some (last_node (table_nodes rows), [])

-- or they are none
abbrev pub SpellNone : List ℕ → Type 0
SpellNone bytes = (x : Node) → alone_at interfaces bytes ≢ Some (x, [])

abbrev pub ReadsRows : {S : Type 0} → List ℕ → Result (IndexSet Row S) RestoreFault → Type 0
ReadsRows bytes (Ok table) = SpellRows bytes table.keys
ReadsRows bytes (Err fault.BadInterface) = SpellNone bytes
ReadsRows bytes (Err fault.NoMemory) = Unit {0}
