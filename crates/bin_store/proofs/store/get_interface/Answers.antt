use Rattle.std.proofs.Common.{◌∙◌}
use Rattle.bin_store.proofs.store.get_interface.Goals as goal

pub returns-clause-found : goal.returns-clause-found
returns-clause-found g c = λ files is. c.in_ok-taken.ensures ∙ c.in_ok-file.ensures.read files is
