-- What a call of elaboration reads and changes, and what it answers where inference gives this.
use Rattle.std.specs.Prelude.{◌≡◌, Result, IfOk}
use Rattle.cm_base.specs.declared.fault.Fault.{Fault}
use Rattle.semantic_objects.specs.declared.name.TyId.{TyId}
use Rattle.unification.specs.Types.{Ty}
use Rattle.type_nodes.specs.Tables.{Table, type_of}
use Rattle.sml_modules.specs.Graphs.{Graph, Keeps}
use Rattle.static_semantics.specs.Inferring.{Progress, Scope, Answer}
use Rattle.core_scopes.specs.Scopes.{Bindings}
use Rattle.type_phrases.specs.Inferred.{Answers, KeepsTypes, progress}
use Rattle.pattern_elab.specs.declared.own.OwnVariable.{OwnVariable}
use Rattle.pattern_elab.specs.Scopes.{scope_of, IsCoreScope}

-- a graph, a table of types and what is in scope, as they stand at one moment
pub record Moment : Type 0 where
  pub graph : Graph
  pub table : Table
  pub scope : Bindings OwnVariable

abbrev pub moment : Graph → Table → Bindings OwnVariable → Moment
moment g t sc = record { graph = g; table = t; scope = sc }

-- what is in scope then, and what is known, as inference reads it
abbrev pub scope_at : Moment → Scope
scope_at m = scope_of m.graph m.scope

abbrev pub progress_at : Moment → Progress
progress_at m = progress m.table m.graph

-- the scope is one of the graph and of the table
abbrev pub IsCoreAt : Moment → Type 0
IsCoreAt m = IsCoreScope m.graph m.table m.scope

-- a type that was made, and what is known
abbrev pub typed_as : Moment → TyId → Ty × Progress
typed_as m id = (type_of m.table id, progress_at m)

-- ids of the graph and of the table stay what they were, and the unit stays
pub record Passes (old new : Moment) : Type 0 where
  pub graph : Keeps old.graph new.graph
  pub home : new.graph.home ≡ old.graph.home
  pub ids : KeepsTypes old.table new.table

-- what a call answers where inference gives this in a scope: its result, as `reads` reads it then, of which `have` says
-- what the table has; or the first diagnostic. The scope is as it was, and one of the graph and of the table
pub record Elabs {W R : Type 0} (old : Moment) (want : Scope → Answer W) (reads : Moment → R → W)
    (have : Table → R → Type 0) (new : Moment) (result : Result R Fault) : Type 0 where
  pub infers : Answers (want (scope_at old)) (reads new) result
  pub has : IfOk result (have new.table)
  pub goes : Passes old new
  pub left : new.scope ≡ old.scope
  pub core : IsCoreAt new
