-- The law, as the public function of this crate states it.
use Rattle.module_laws.specs.Promises.{ModulesHaveDerivations}
use Rattle.module_laws.proofs.Matched.{result_is}
use Rattle.module_laws.proofs.Modules.{module_derives, dec_derives}

pub modules_have_derivations : ModulesHaveDerivations
modules_have_derivations = record {
  structure = λ good depth home. module_derives good depth home;
  dec = λ good depth home. dec_derives good depth home;
  application = result_is;
}
