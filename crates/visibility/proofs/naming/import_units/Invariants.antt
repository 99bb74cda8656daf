use Rattle.std.proofs.Common.{◌≡◌, drop}
use Rattle.visibility.specs.Naming.{with_imports}
use Rattle.visibility.specs.Tables.{imports_by_tables}
use Rattle.visibility.proofs.naming.import_units.Given as goal

-- the imports so far and those of the units that are left are those of all
abbrev pub invariant-loop-unit : goal.invariant-loop-unit
invariant-loop-unit l =
    with_imports (imports_by_tables l.project l.skeletons l.names) (drop l.unit-index l.units) l.wanted.items
    ≡ with_imports (imports_by_tables l.project l.skeletons l.names) l.units l.fn.wanted.items
