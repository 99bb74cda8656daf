use Rattle.bin_store.proofs.StoreLaws.{good_more}
use Rattle.bin_store.proofs.laws.more_may_be_known.Goals as goal

pub returns : goal.returns
returns c = λ by texts more files within good. good_more within good
