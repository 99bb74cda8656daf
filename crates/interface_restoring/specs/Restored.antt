-- What is answered where bytes are read as the interface of a unit.
use Rattle.std.specs.Prelude.{◌≡◌, ◌≢◌, ℕ, List, ◌++◌, Option, Some, None, Result, Ok, Err}
use denote.Ref.{Bor}
use Rattle.node_bytes.specs.Tables.{table_nodes}
use Rattle.node_bytes.specs.declared.table.Row.{Row}
use Rattle.semantic_objects.specs.Environments.{Top}
use Rattle.interface_format.specs.Interfaces.{mark, IsInterface}
use Rattle.interface_reading.specs.Remaining.{last_node}
use Rattle.interface_reading.specs.declared.fault.RestoreFault.{RestoreFault}
use Rattle.interface_reading.specs.declared.fault.RestoreFault.TheVariants as fault
use Rattle.sml_modules.specs.declared.id.TopId.{TopId}
use Rattle.sml_modules.specs.Items.{Item, as_top, IsTop}
use Rattle.sml_modules.specs.Graphs.{Graph, top_at, HasTop, GivesTop}
use Rattle.row_environments.specs.Placed.{StandsFor, AreValues}
use Rattle.row_binders.specs.declared.rows.BinderRows.{BinderRows}
use Rattle.row_binders.specs.Binders.{AreBound}
use Rattle.interface_restoring.specs.Tops.{IsTopOf}

-- ---- the call

-- the top that the bytes are the interface of stands in the graph
pub record IsRestored (home bytes : List ℕ) (old new : Graph) (id : TopId) : Type 0 where
  pub top : Top
  pub gives : GivesTop old new top id
  pub is : IsInterface home bytes top

-- the top that bytes are the interface of, or they are that of none; a refusal leaves the graph as it was, and want of
-- memory is free
abbrev pub Restores : List ℕ → List ℕ → Graph → Graph → Result TopId RestoreFault → Type 0
Restores home bytes old new (Ok id) = IsRestored home bytes old new id
Restores home bytes old new (Err fault.BadInterface) =
    (new ≡ old) × ((top : Top) → IsInterface home bytes top → ⊥)
Restores home bytes old new (Err fault.NoMemory) = new ≡ old

-- ---- its steps

-- what stands behind the mark, or the mark doesn't stand there
abbrev pub HasRest : List ℕ → Option (Bor (List ℕ)) → Type 0
HasRest bytes (Some rest) = bytes ≡ mark ++ rest.now
HasRest bytes None = (rest : List ℕ) → bytes ≢ mark ++ rest

-- of each row of a table it is told what it is, and where it stands
pub record Notes (home : List ℕ) (table : List Row) (items : List Item) (rows : BinderRows) : Type 0 where
  pub bound : AreBound home items (table_nodes table) rows
  pub values : AreValues rows.envs.told.entries.schemes items rows.envs.values

-- the unit that the last row is
abbrev pub Builds : List ℕ → List Row → Graph → Option TopId → Type 0
Builds home table new (Some id) = StandsFor IsTop as_top (IsTopOf home (last_node (table_nodes table))) new.items id.place
Builds home table new None = (top : Top) → IsTopOf home (last_node (table_nodes table)) top → ⊥

-- the top that bytes are the interface of stands in the graph, or they are that of none
pub record IsRead (home bytes : List ℕ) (new : Graph) (id : TopId) : Type 0 where
  pub there : HasTop new id
  pub is : IsInterface home bytes (top_at new id)

abbrev pub Reads : List ℕ → List ℕ → Graph → Result TopId RestoreFault → Type 0
Reads home bytes new (Ok id) = IsRead home bytes new id
Reads home bytes new (Err fault.BadInterface) = (top : Top) → IsInterface home bytes top → ⊥
Reads home bytes new (Err fault.NoMemory) = Unit {0}
