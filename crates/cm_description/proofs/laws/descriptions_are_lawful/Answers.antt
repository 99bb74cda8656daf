use Rattle.cm_description.proofs.TextLaws.{descriptions_lawful}
use Rattle.cm_description.proofs.laws.descriptions_are_lawful.Goals as goal

pub returns : goal.returns
returns c = descriptions_lawful
