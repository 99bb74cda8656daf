use Rattle.infix_names.proofs.FixityTables.{added}
use Rattle.infix_names.proofs.fixity.Fixities.add.Goals as goal

pub invariant_of-self-in-Ok : goal.invariant_of-self-in-Ok
invariant_of-self-in-Ok c =
    added c.self.inside.last c.put.new.last c.self.inside.entries.items c.put.new.entries.items
    c.self.inside.links.items c.push.new.self.items c.args.status c.in_ok-name.name c.place_of-place.result c.self.invariant
    c.in_ok-name.ensures c.place_of-place.ensures c.in_ok-push.ensures.items c.in-Ok.ensures.entry c.in-Ok.ensures.place
