use Rattle.std.proofs.Common.{◌≡◌, ◌++◌, drop, map}
use Rattle.build_laws.specs.Inputs.{givens_of, imports_in}
use Rattle.cutoff_builder.specs.Planning.{wanted_name}
use Rattle.cutoff_builder.proofs.unit.imports_of.Given as goal

-- the imports so far and those of the other names are those of all names
abbrev pub invariant-loop-name : goal.invariant-loop-name
invariant-loop-name l =
    l.imports ++ imports_in (givens_of l.done.units (map (wanted_name l.units) (drop l.name-index l.wanted)))
    ≡ imports_in (givens_of l.done.units (map (wanted_name l.units) l.wanted))
