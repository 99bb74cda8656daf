-- What the laws say.
use Rattle.std.specs.Prelude.{ℕ, List, Bool}
use Rattle.sml_trees.specs.declared.full_unit.FullUnit.{FullUnit}
use Rattle.module_parser.specs.Units.{IsUnit}
use Rattle.bare_forms.specs.Units.{bare_of}
use Rattle.semantic_objects.specs.Environments.{Env, Top}
use Rattle.static_semantics.specs.Inferring.{Progress}
use Rattle.static_semantics.specs.Holding.{Given, AllItems}
use Rattle.unit_semantics.specs.UnitPhrases.{unit_phrases, read_unit}
use Rattle.unit_semantics.specs.UnitInference.{infer_unit}
use Rattle.unit_semantics.specs.ElaboratesUnits.{ElaboratesUnit}
use Rattle.elaboration_laws.specs.Declaring.{BindsValues}
use Rattle.unit_derivations.specs.Declaring.{TopHas}
use Rattle.unit_derivations.specs.Promises.{IsGiven}

-- a text that is a unit, read with the option that seals or without it: without derived forms the `rec` bindings of each
-- `val` in it have functions for their right sides, which are nonexpansive everywhere
abbrev pub SourcesBindFunctions : Type 0
SourcesBindFunctions =
    (file source : List ℕ) (unit : FullUnit) (sealing : Bool) → IsUnit file source unit
    → AllItems (TopHas BindsValues) (read_unit sealing (unit_phrases (bare_of unit)))

-- so what inference gives of a text that is a unit the rules give, from the number of type names at the start to the one
-- at the end, under what the state at the end puts for variables
abbrev pub SourcesHaveDerivations : Type 0
SourcesHaveDerivations =
    (file source : List ℕ) (unit : FullUnit) (sealing : Bool) → IsUnit file source unit
    → (depth : ℕ) (home : List ℕ) (basis : Env) (given : Top) (st : Progress) → IsGiven home basis given st
    → Given (λ r. ElaboratesUnit r.1.types home basis given st.names
    (read_unit sealing (unit_phrases (bare_of unit))) r.0 r.1.names)
    (infer_unit depth home basis given sealing (unit_phrases (bare_of unit)) st)
