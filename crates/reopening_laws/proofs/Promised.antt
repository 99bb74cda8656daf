-- The law, as the public function of this crate states it.
use Rattle.reopening_laws.specs.Promises.{ClosedVariablesReopen}
use Rattle.reopening_laws.proofs.Reopening.{reopened}
use Rattle.reopening_laws.proofs.Closing.{open_inside}
use Rattle.reopening_laws.proofs.Keeping.{kept_put, new_apart}

pub closed_variables_reopen : ClosedVariablesReopen
closed_variables_reopen = record {
  reopened = reopened;
  types = open_inside;
  kept = kept_put;
  apart = new_apart;
}
