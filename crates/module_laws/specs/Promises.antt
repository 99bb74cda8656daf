-- The law, as the public function of this crate states it.
use Rattle.std.specs.Prelude.{◌≡◌, ℕ, List, ◌++◌, Bool}
use Rattle.semantic_objects.specs.Environments.{Functor, Top}
use Rattle.realisation.specs.Realised.{of_rows, realised}
use Rattle.static_semantics.specs.Inferring.{Progress}
use Rattle.static_semantics.specs.Holding.{Given}
use Rattle.module_semantics.specs.SignatureNames.{rows_between, unit_names}
use Rattle.module_semantics.specs.Matching.{Rows}
use Rattle.unit_semantics.specs.UnitPhrases.{ModulePhrase, ModuleDec}
use Rattle.unit_semantics.specs.StructureInference.{infer_module, infer_module_dec}
use Rattle.unit_semantics.specs.ElaboratesUnits.{beside, further_by}
use Rattle.unit_laws.specs.Spelling.{ModuleSpelt, ModuleDecSpelt}
use Rattle.elaboration_laws.specs.Declaring.{BindsValues}
use Rattle.module_growth.specs.Grown.{IsInside}
use Rattle.module_laws.specs.Declaring.{ModuleHas, ModuleDecHas}
use Rattle.module_laws.specs.Derived.{ModuleDerived, ModuleDecDerived}

-- what inference gives of a structure expression, of any form, or of a declaration in one, the rules give under each
-- choice that solves the state afterwards. The `rec` bindings of each `val` have functions for their right sides
pub record ModulesHaveDerivations : Type 0 where
  pub structure : (good : List ℕ → Bool) (depth : ℕ) (home : List ℕ) (top : Top) (str : ModulePhrase) (st : Progress)
      → ModuleSpelt good str → ModuleHas BindsValues str → IsInside good home top st
      → Given (ModuleDerived home top str st) (infer_module depth home top str st)
  pub dec : (good : List ℕ → Bool) (depth : ℕ) (home : List ℕ) (top : Top) (dec : ModuleDec) (st : Progress)
      → ModuleDecSpelt good dec → ModuleDecHas BindsValues dec → IsInside good home top st
      → Given (ModuleDecDerived home top dec st) (infer_module_dec depth home top dec st)
  -- what a functor gives by the rows for its parameter's names and for its further ones is its result by the
  -- realisation of the parameter's names beside that of the further ones, for which there are new names
  pub application : (home : List ℕ) (number : ℕ) (fun : Functor) (rows : Rows)
      → realised (of_rows (rows ++ rows_between fun.further (unit_names home number fun.further))) fun.result
      ≡ realised (beside (of_rows rows) (further_by home number fun)) fun.result
