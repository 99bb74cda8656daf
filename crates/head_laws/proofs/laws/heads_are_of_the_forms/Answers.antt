use Rattle.head_laws.proofs.Heads.{heads_of_forms}
use Rattle.head_laws.proofs.laws.heads_are_of_the_forms.Goals as goal

pub returns : goal.returns
returns c = heads_of_forms
