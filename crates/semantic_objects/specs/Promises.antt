-- The laws of symbols, tables and environments, as the public functions of this crate state them.
use Rattle.std.specs.Prelude.{◌≡◌, ◌≢◌, ◌↔◌, ℕ, List, [], ◌∷◌, ◌++◌, Some, true}
use Rattle.semantic_objects.specs.declared.symbol.Symbol.{Symbol}
use Rattle.semantic_objects.specs.Symbols.{same_symbol}
use Rattle.semantic_objects.specs.Tables.{Table, IsTable, entry, with_entry, with_all}
use Rattle.semantic_objects.specs.Environments.{Env, Structures, table_of, structures_of}

-- the plain function that compares symbols says whether they are one
abbrev pub ComparesSymbols : Type 0
ComparesSymbols = (c d : Symbol) → (same_symbol c d ≡ true) ↔ (c ≡ d)

-- an entry that is set is found, all others stay, and the table stays one
pub record SetsEntries (A : Type 0) : Type 0 where
  pub here : (name : List ℕ) (x : A) (table : Table A) → entry name (with_entry name x table) ≡ Some x
  pub others : (name m : List ℕ) (x : A) (table : Table A) → name ≢ m
      → entry m (with_entry name x table) ≡ entry m table
  pub kept : (name : List ℕ) (x : A) (table : Table A) → IsTable table → IsTable (with_entry name x table)
  pub later : (name : List ℕ) (x : A) (rows table : Table A)
      → with_all (rows ++ (name, x) ∷ []) table ≡ with_entry name x (with_all rows table)

-- structures are the same as parts and as a table
pub record KeepsStructures : Type 0 where
  pub table : (rows : Table Env) → table_of (structures_of rows) ≡ rows
  pub parts : (parts : Structures) → structures_of (table_of parts) ≡ parts
