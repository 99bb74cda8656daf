use Rattle.grammars.proofs.Lawful.{keeps_limit}
use Rattle.grammars.proofs.laws.nesting_keeps_its_limit.Goals as goal

pub returns : goal.returns
returns g c = keeps_limit g.N.Nested.limit g.N.Nested.begins g.N.Nested.beside g.N.Nested.join
