-- The law, as the public function of this crate states it.
use Rattle.std.specs.Prelude.{ℕ, List, Bool}
use Rattle.semantic_objects.specs.Tables.{Table}
use Rattle.semantic_objects.specs.Environments.{Signature}
use Rattle.unification.specs.Types.{Substitution}
use Rattle.unification.specs.Fitting.{IsFit}
use Rattle.static_semantics.specs.Inferring.{Progress, Scope}
use Rattle.static_semantics.specs.EnvironmentsPut.{put_scope}
use Rattle.static_semantics.specs.Holding.{Given, AllRows}
use Rattle.inference_laws.specs.Nodes.{IsOf, IsReadyFor}
use Rattle.inference_laws.specs.Alike.{FirmEnv}
use Rattle.module_semantics.specs.SigPhrases.{SigPhrase}
use Rattle.module_semantics.specs.SignatureInference.{signature_of}
use Rattle.module_semantics.specs.ElaboratesSignatures.{ElaboratesSignature}
use Rattle.unit_semantics.specs.Promises.{IsClosedEnv, IsClosedSignature}
use Rattle.unit_laws.specs.Parts.{SignatureOf}
use Rattle.unit_laws.specs.Spelling.{SigSpelt}
use Rattle.table_laws.specs.Rising.{RisingEnv, RisingSignature}
use Rattle.specification_laws.specs.Derived.{IsAfter}

-- a signature that is finished, in whose environment no variable stands
pub record SignatureDerived (sigs : Table Signature) (sc : Scope) (sig : SigPhrase) (st : Progress)
    (r : Signature × Progress) : Type 0 where
  pub after : IsAfter st r.1
  pub closed : IsClosedEnv r.0.env
  pub derives : (s : Substitution) → ElaboratesSignature sigs (put_scope s sc) st.names sig r.0 r.1.names

-- what is around a signature: earlier names of the unit; no variable of the table in types; tables that rise; and
-- signatures with names in which no variable stands
pub record IsAround (good : List ℕ → Bool) (sigs : Table Signature) (sc : Scope) (st : Progress) : Type 0 where
  pub ready : IsReadyFor sc.home (λ q. IsOf good sc st q × AllRows (SignatureOf q) sigs) st.names
  pub firm : FirmEnv sc.env
  pub rises : RisingEnv sc.env
  pub sigs_rise : AllRows RisingSignature sigs
  pub sigs_closed : AllRows IsClosedSignature sigs
  pub fit : IsFit st.types

-- what inference gives of a signature expression the rules give, in the scope with anything put in for its variables
pub record SignaturesHaveDerivations : Type 0 where
  pub all : (good : List ℕ → Bool) (sigs : Table Signature) (sc : Scope) (sig : SigPhrase) (st : Progress)
      → SigSpelt good sig → IsAround good sigs sc st
      → Given (SignatureDerived sigs sc sig st) (signature_of sigs sc sig st)
