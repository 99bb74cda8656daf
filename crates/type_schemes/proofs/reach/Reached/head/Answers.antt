use Rattle.type_schemes.proofs.Reaching.{reached_heads}
use Rattle.type_schemes.proofs.reach.Reached.head.Goals as goal

pub returns-clause-reached : goal.returns-clause-reached
returns-clause-reached c = reached_heads c.args.table.now c.args.self.now c.find.new.self c.requires.reached
    c.in_ok-find.ensures.heads
