use Rattle.std.proofs.Common.{◌≡◌, ◌++◌, map, drop}
use Rattle.row_types.specs.Told.{name_of, place_of}
use Rattle.row_types.proofs.symbols.columns_of.Given as goal

abbrev pub invariant-loop-row : goal.invariant-loop-row
invariant-loop-row l = record {
  names : l.names ++ map name_of (drop l.row-index l.fn.table) ≡ map name_of l.fn.table;
  places : l.places ++ map place_of (drop l.row-index l.fn.table) ≡ map place_of l.fn.table;
}
