use Rattle.bin_store.proofs.StoredLaws.{stored_read}
use Rattle.bin_store.proofs.store.read_interface.Goals as goal

pub returns-clause-read : goal.returns-clause-read
returns-clause-read g c = λ files is. stored_read files c.args.pid.now _ _ c.in_ok-path.ensures
    (c.in_ok-file.ensures.read files is)
