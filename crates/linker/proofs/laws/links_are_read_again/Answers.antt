use Rattle.linker.proofs.Earlier.{link_is_earlier, link_is_read}
use Rattle.linker.proofs.laws.links_are_read_again.Goals as goal

pub returns-clause-earlier : goal.returns-clause-earlier
returns-clause-earlier c = link_is_earlier

pub returns-clause-read : goal.returns-clause-read
returns-clause-read c = link_is_read
