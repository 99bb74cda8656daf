-- The law, as the public function of this crate states it.
use Rattle.elaboration_laws.specs.Promises.{ExpressionsHaveDerivations}
use Rattle.elaboration_laws.proofs.Core.{exp_derives, match_derives, dec_derives}

pub expressions_have_derivations : ExpressionsHaveDerivations
expressions_have_derivations = record { exp = exp_derives; rules = match_derives; dec = dec_derives }
