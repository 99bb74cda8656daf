-- Type variables of a list in a table.
use Rattle.std.specs.Prelude.{ℕ, ◌<◌, [], ◌∷◌, length}
use Rattle.type_nodes.specs.Tables.{Table}
use Rattle.name_trails.specs.Trails.{Rows}

-- each number is that of a variable of the table
abbrev pub AreMade : Table → Rows ℕ → Type 0
AreMade t [] = Unit {0}
AreMade t (row ∷ rows) = (row.1 < length t.births) × AreMade t rows
