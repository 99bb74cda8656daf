use Rattle.std.proofs.Common.{drop}
use Rattle.type_phrases.specs.Inferred.{scope_in}
use Rattle.open_declarations.proofs.Opening.{FoundSoFar}
use Rattle.open_declarations.proofs.names.found_envs.Given as goal

-- what was found so far, and the names that are left
abbrev pub invariant-loop-long : goal.invariant-loop-long
invariant-loop-long g l = FoundSoFar g.row.V.Denot l.fn.g (λ t read. scope_in l.fn.g t read l.fn.scope) l.fn.longs
    (drop l.long-index l.fn.longs) l.envs
