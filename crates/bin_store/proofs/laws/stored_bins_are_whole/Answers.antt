use Rattle.bin_store.proofs.StoredBins.{bin_is_whole, bin_is_stored, bin_unit, good_bin_stored}
use Rattle.bin_store.proofs.laws.stored_bins_are_whole.Goals as goal

pub returns-clause-exact : goal.returns-clause-exact
returns-clause-exact c = record {
  exact = λ files unit bin. (bin_is_whole files unit bin, bin_is_stored files unit bin);
  unit = bin_unit;
}

pub returns-clause-good : goal.returns-clause-good
returns-clause-good c = good_bin_stored
