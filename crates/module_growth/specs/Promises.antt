-- The law, as the public function of this crate states it.
use Rattle.std.specs.Prelude.{ℕ, List, Bool}
use Rattle.semantic_objects.specs.Tables.{Table}
use Rattle.semantic_objects.specs.Environments.{Signature, Top}
use Rattle.unification.specs.Fitting.{IsFit}
use Rattle.static_semantics.specs.Inferring.{Progress, Scope}
use Rattle.static_semantics.specs.Holding.{Given}
use Rattle.static_semantics.specs.Growing.{Grows}
use Rattle.inference_laws.specs.Promises.{Any}
use Rattle.module_semantics.specs.SigPhrases.{SigPhrase}
use Rattle.module_semantics.specs.SignatureInference.{signature_of}
use Rattle.unit_semantics.specs.UnitPhrases.{ModulePhrase, ModuleDec}
use Rattle.unit_semantics.specs.StructureInference.{infer_module, infer_module_dec}
use Rattle.unit_laws.specs.Spelling.{ModuleSpelt, ModuleDecSpelt}
use Rattle.module_growth.specs.Grown.{IsInside, IsGrown}

-- from the state before a signature, a structure expression or a declaration to the one after it types were put in for
-- variables of the state alone, the state is a fit one still, and numbers of type names only rise
pub record ModulesGrow : Type 0 where
  pub signature : (sigs : Table Signature) (sc : Scope) (sig : SigPhrase) (st : Progress) → IsFit st.types
      → Given (λ r. Grows Any st r.1) (signature_of sigs sc sig st)
  pub structure : (good : List ℕ → Bool) (depth : ℕ) (home : List ℕ) (top : Top) (str : ModulePhrase) (st : Progress)
      → ModuleSpelt good str → IsInside good home top st → Given (IsGrown st) (infer_module depth home top str st)
  pub dec : (good : List ℕ → Bool) (depth : ℕ) (home : List ℕ) (top : Top) (dec : ModuleDec) (st : Progress)
      → ModuleDecSpelt good dec → IsInside good home top st
      → Given (IsGrown st) (infer_module_dec depth home top dec st)
