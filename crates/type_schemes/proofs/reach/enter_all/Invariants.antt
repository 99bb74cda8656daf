use Rattle.std.proofs.Common.{◌≡◌, ◌++◌, List, length}
use Rattle.semantic_objects.specs.declared.name.TyId.{TyId}
use Rattle.type_schemes.specs.Reaching.{entered}
use Rattle.type_schemes.proofs.reach.enter_all.Given as goal

-- the steps for the parts behind those that are left were added
abbrev pub invariant-loop-last : goal.invariant-loop-last
invariant-loop-last l =
    (behind : List TyId) × (l.fn.parts ≡ l.rest ++ behind) × (l.steps ≡ l.fn.steps ++ entered behind)

abbrev pub decreases-loop-last : goal.decreases-loop-last
decreases-loop-last l = length l.rest
