use Rattle.type_schemes.proofs.Reaching.{place_variable}
use Rattle.type_schemes.proofs.reach.Reached.place_of.Goals as goal

pub returns-in-Variable : goal.returns-in-Variable
returns-in-Variable c = place_variable c.args.table.now c.args.self.now c.args.id c.in-Variable.number c.of.result
    c.requires.reached c.of.ensures c.in-Variable.ensures.whole c.in-Variable.ensures.end
