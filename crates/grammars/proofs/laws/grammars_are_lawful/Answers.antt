use Rattle.grammars.proofs.Lawful.{lawful}
use Rattle.grammars.proofs.laws.grammars_are_lawful.Goals as goal

pub returns : goal.returns
returns g c = lawful g.D.Described.grammar
