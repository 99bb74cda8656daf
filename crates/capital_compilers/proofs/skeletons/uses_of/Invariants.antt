use Rattle.std.specs.Prelude.{◌≡◌, ◌++◌, map, drop}
use Rattle.capital_compilers.specs.CapitalSources.{use_of}
use Rattle.capital_compilers.proofs.skeletons.uses_of.Given as goal

-- the uses so far and those of the names that are left are the uses of all names
abbrev pub invariant-loop-name : goal.invariant-loop-name
invariant-loop-name l = l.needs ++ map use_of (drop l.name-index l.names) ≡ map use_of l.names
