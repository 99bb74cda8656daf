-- The signatures that inference gives, the rules give.
use Rattle.std.proofs.Common.{◌≡◌, ℕ, List, Bool, subst}
use Rattle.semantic_objects.specs.Tables.{Table as Named}
use Rattle.semantic_objects.specs.Environments.{Signature}
use Rattle.static_semantics.specs.Inferring.{Progress, Scope, gives}
use Rattle.static_semantics.specs.Holding.{Given}
use Rattle.module_semantics.specs.SigPhrases.{SigPhrase}
use Rattle.module_semantics.specs.SignatureInference.{signature_of}
use Rattle.unit_laws.specs.Spelling.{SigSpelt}
use Rattle.specification_laws.specs.Promises.{IsAround, SignatureDerived}
use Rattle.specification_laws.proofs.Promised.{signatures_have_derivations}

pub signature_follows : (good : List ℕ → Bool) (sigs : Named Signature) (sc : Scope) (sig : SigPhrase) (st : Progress)
    (r : Signature × Progress) → signature_of sigs sc sig st ≡ gives r → SigSpelt good sig → IsAround good sigs sc st
    → SignatureDerived sigs sc sig st r
signature_follows good sigs sc sig st r e spelt around =
    subst (Given (SignatureDerived sigs sc sig st)) e (signatures_have_derivations.all good sigs sc sig st spelt around)
