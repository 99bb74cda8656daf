use Rattle.joined_laws.proofs.Whole.{signatures_are}
use Rattle.joined_laws.proofs.laws.signatures_are_of_the_forms.Goals as goal

pub returns : goal.returns
returns c = signatures_are
