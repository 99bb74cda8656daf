use Rattle.cm_description.proofs.LastTwo.{last_two}
use Rattle.cm_description.proofs.read.last_two.Goals as goal

pub returns : goal.returns
returns c = last_two c.args.tokens.now _ c.requires
