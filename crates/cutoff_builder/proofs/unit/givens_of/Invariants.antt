use Rattle.std.proofs.Common.{◌≡◌, ◌++◌, drop, map}
use Rattle.build_laws.specs.Inputs.{givens_of}
use Rattle.cutoff_builder.specs.Planning.{wanted_name}
use Rattle.cutoff_builder.proofs.unit.givens_of.Given as goal

-- what is given so far and for the other names is what is given for all names
abbrev pub invariant-loop-name : goal.invariant-loop-name
invariant-loop-name l =
    l.givens ++ givens_of l.done.units (map (wanted_name l.units) (drop l.name-index l.wanted))
    ≡ givens_of l.done.units (map (wanted_name l.units) l.wanted)
