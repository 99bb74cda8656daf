-- The law, as the public function of this crate states it.
use Rattle.module_growth.specs.Promises.{ModulesGrow}
use Rattle.module_growth.proofs.Signatures.{signature_grows}
use Rattle.module_growth.proofs.Modules.{module_grows, dec_grows}

pub modules_grow : ModulesGrow
modules_grow = record {
  signature = signature_grows;
  structure = λ good depth home. module_grows good depth home;
  dec = λ good depth home. dec_grows good depth home;
}
