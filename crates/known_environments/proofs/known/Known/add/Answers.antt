use Rattle.known_environments.proofs.Becoming.{more_known}
use Rattle.known_environments.proofs.known.Known.add.Goals as goal

pub returns : goal.returns
returns c s h is = more_known s c.args.self.now (record { places = c.set.new.self; trees = c.add.new.self })
    c.args.number c.len-place.result c.args.tree c.in_ok-set.ensures c.len-place.ensures c.in_ok-add.ensures.ok h is
