-- The laws, as the public functions of this crate state them.
use Rattle.realisation.specs.Promises.{RealisesTypes}
use Rattle.realisation.proofs.Realising.{realised_agrees, realised_untouched, realised_twice, instances_kept}

pub realises_types : RealisesTypes
realises_types = record {
  untouched = realised_untouched;
  agreeing = realised_agrees;
  twice = realised_twice;
  instances = instances_kept;
}
