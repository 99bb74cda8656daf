use Rattle.name_trails.proofs.Placing.{added}
use Rattle.name_trails.proofs.trail.NameTrail.bind.Goals as goal

pub invariant_of-self-in-Ok : goal.invariant_of-self-in-Ok
invariant_of-self-in-Ok g c =
    added c.self.inside.last c.put.new.last c.self.inside.rows.items c.put.new.rows.items c.self.inside.links.items
    c.push.new.self.items c.args.name c.in_ok-key.key c.args.entry c.place_of-before.result c.self.invariant
    c.in_ok-key.ensures c.place_of-before.ensures c.in_ok-push.ensures.items c.in-Ok.ensures.row c.in-Ok.ensures.place
