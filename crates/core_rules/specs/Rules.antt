-- What a call answers for one rule of expressions, after the parts of the phrase.
use Rattle.std.specs.Prelude.{Result, IfOk}
use Rattle.cm_base.specs.declared.fault.Fault.{Fault}
use Rattle.semantic_objects.specs.declared.name.TyId.{TyId}
use Rattle.unification.specs.Types.{Ty}
use Rattle.type_nodes.specs.Tables.{Table, Has}
use Rattle.sml_modules.specs.Graphs.{Graph}
use Rattle.static_semantics.specs.Inferring.{Progress, Scope, Answer}
use Rattle.core_scopes.specs.Scopes.{Bindings}
use Rattle.type_phrases.specs.Inferred.{Inferred, KeepsTypes}
use Rattle.pattern_elab.specs.declared.own.OwnVariable.{OwnVariable}
use Rattle.pattern_elab.specs.Scopes.{scope_of}

-- the answer of a rule that asks nothing of what is in scope
pub record IsRule (g : Graph) (old new : Table) (want : Scope → Answer (Ty × Progress)) (result : Result TyId Fault)
    : Type 0 where
  pub infers : (scope : Bindings OwnVariable) → Inferred (want (scope_of g scope)) result new g
  pub has : IfOk result (Has new)
  pub ids : KeepsTypes old new
