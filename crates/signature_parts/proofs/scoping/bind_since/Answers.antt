use Rattle.std.proofs.Common.{subst}
use Rattle.signature_parts.proofs.Binding.{part_there, bound_since}
use Rattle.signature_parts.specs.Steps.{IsMadeSince}
use Rattle.signature_parts.proofs.scoping.bind_since.Goals as goal

pub returns-clause-ok : goal.returns-clause-ok
returns-clause-ok g c = λ graph past marked front envs there.
    let more = subst (λ m. IsMadeSince m c.args.made.now c.in_ok-part.part) marked c.in_ok-part.ensures in
    bound_since graph past c.args.made.now c.in_ok-part.part more front c.args.scope.now c.bind_made.new.self envs there
    (c.in_ok-bind_made.ensures.ok graph (part_there graph past c.args.made.now c.in_ok-part.part more front envs))
    c.mark.ensures.front
