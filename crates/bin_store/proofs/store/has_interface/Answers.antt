use Rattle.std.proofs.Common.{◌∙◌, ap}
use Rattle.std.specs.Prelude.{is_some}
use Rattle.bin_store.proofs.store.has_interface.Goals as goal

pub returns-clause-found : goal.returns-clause-found
returns-clause-found g c = λ files is. c.is_there.ensures ∙ ap is_some (c.in_ok-file.ensures.read files is)
