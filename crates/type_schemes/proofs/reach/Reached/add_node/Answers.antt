use Rattle.std.proofs.Common.{refl}
use Rattle.type_schemes.proofs.Reaching.{reached_node, found_node}
use Rattle.type_schemes.proofs.reach.Reached.add_node.Goals as goal

pub returns-clause-reached : goal.returns-clause-reached
returns-clause-reached c = reached_node c.args.table.now c.args.self.now
    (record { ids = c.add.new.self; nodes = c.set.new.self; variables = c.args.self.now.variables; heads = c.args.self.now.heads }) c.args.at
    c.len-place.result c.requires.reached c.requires.has c.requires.passed c.len-place.ensures c.in_ok-add.ensures.ok refl
    c.in_ok-set.ensures refl

pub returns-clause-found : goal.returns-clause-found
returns-clause-found c = found_node c.args.self.now
    (record { ids = c.add.new.self; nodes = c.set.new.self; variables = c.args.self.now.variables; heads = c.args.self.now.heads }) c.args.at
    c.in_ok-add.ensures.ok
