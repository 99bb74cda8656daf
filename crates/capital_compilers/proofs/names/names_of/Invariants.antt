use Rattle.std.specs.Prelude.{◌≡◌, ◌++◌, length}
use Rattle.capital_compilers.specs.CapitalSources.{names_of}
use Rattle.capital_compilers.proofs.names.names_of.Given as goal

-- the names so far and those of the text that is left are those of the source
abbrev pub invariant-loop-byte : goal.invariant-loop-byte
invariant-loop-byte l = l.names ++ names_of l.rest ≡ names_of l.fn.source

abbrev pub decreases-loop-byte : goal.decreases-loop-byte
decreases-loop-byte l = length l.rest
