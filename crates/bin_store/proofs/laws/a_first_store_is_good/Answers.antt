use Rattle.bin_store.proofs.Elsewhere.{no_store_good}
use Rattle.bin_store.proofs.StoreLaws.{good_empty}
use Rattle.bin_store.proofs.laws.a_first_store_is_good.Goals as goal

pub returns-clause-empty : goal.returns-clause-empty
returns-clause-empty c = good_empty

pub returns-clause-none : goal.returns-clause-none
returns-clause-none c = no_store_good
