use Rattle.joined_laws.proofs.Include.{includes_are}
use Rattle.joined_laws.proofs.laws.includes_are_of_the_forms.Goals as goal

pub returns : goal.returns
returns c = includes_are
