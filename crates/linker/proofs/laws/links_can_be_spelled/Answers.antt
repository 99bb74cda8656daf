use Rattle.linker.proofs.Spelled.{links_spelled}
use Rattle.linker.proofs.laws.links_can_be_spelled.Goals as goal

pub returns : goal.returns
returns c = links_spelled
