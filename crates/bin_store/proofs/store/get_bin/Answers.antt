use Rattle.std.proofs.Common.{◌∙◌}
use Rattle.bin_store.proofs.StoredBins.{stored_bin_read}
use Rattle.bin_store.proofs.store.get_bin.Goals as goal

pub returns-clause-found : goal.returns-clause-found
returns-clause-found g c = λ files is.
    c.in_ok-bin_of_file.ensures.is
    ∙ stored_bin_read files c.args.unit.now _ _ c.in_ok-path.ensures (c.in_ok-file.ensures.read files is)
