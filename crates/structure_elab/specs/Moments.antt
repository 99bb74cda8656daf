-- What a call that elaborates a phrase of modules reads and changes, and what it answers where inference gives this.
use Rattle.std.specs.Prelude.{◌≡◌, ℕ, List, Result, IfOk, OnOk}
use Rattle.cm_base.specs.declared.fault.Fault.{Fault}
use Rattle.semantic_objects.specs.Environments.{Env, Top}
use Rattle.type_nodes.specs.Tables.{Table}
use Rattle.sml_modules.specs.declared.id.EnvId.{EnvId}
use Rattle.sml_modules.specs.Graphs.{Graph, env_at, HasEnvs, Keeps}
use Rattle.static_semantics.specs.Inferring.{Progress, Answer}
use Rattle.core_scopes.specs.declared.made.Made.{Made}
use Rattle.core_scopes.specs.Scopes.{Bindings}
use Rattle.core_scopes.specs.Marks.{env_of_made, IsFrontOf, AddsBare}
use Rattle.type_phrases.specs.Inferred.{Answers, KeepsTypes, progress}
use Rattle.pattern_elab.specs.declared.own.OwnVariable.{OwnVariable}
use Rattle.pattern_elab.specs.Scopes.{own_entry}
use Rattle.unit_semantics.specs.StructureInference.{top_under}
use Rattle.module_scopes.specs.declared.top.TopScope.{TopScope}
use Rattle.module_scopes.specs.Tops.{top_seen, IsTopScope}

-- a graph, a table of types and what is in scope, as they stand at one moment
pub record Moment : Type 0 where
  pub graph : Graph
  pub table : Table
  pub top : TopScope

abbrev pub moment : Graph → Table → TopScope → Moment
moment g t top = record { graph = g; table = t; top = top }

-- what is in scope then, and what is known, as inference reads it
abbrev pub seen_at : Moment → Top
seen_at m = top_seen m.graph m.top

abbrev pub progress_at : Moment → Progress
progress_at m = progress m.table m.graph

-- an environment of the graph, or what a declaration made, and what is known
abbrev pub read_env : Moment → EnvId → Env × Progress
read_env m id = (env_at m.graph id, progress_at m)

abbrev pub made_at : Moment → Made OwnVariable → Env
made_at m made = env_of_made m.graph own_entry made

abbrev pub read_made : Moment → Made OwnVariable → Env × Progress
read_made m made = (made_at m made, progress_at m)

abbrev pub HasMade : Graph → Made OwnVariable → Type 0
HasMade g made = HasEnvs g made.structures

-- ids of the graph and of the table stay what they were, and the unit stays
pub record Passes (old new : Moment) : Type 0 where
  pub graph : Keeps old.graph new.graph
  pub home : new.graph.home ≡ old.graph.home
  pub ids : KeepsTypes old.table new.table

-- what a call answers where inference gives this of the unit and of what is in scope: its result, as `reads` reads it
-- then, of which `have` says what the graph has; or the first diagnostic, after which the scope is of no use
pub record Elabs {W R : Type 0} (old : Moment) (want : List ℕ → Top → Answer W) (reads : Moment → R → W)
    (have : Graph → R → Type 0) (new : Moment) (result : Result R Fault) : Type 0 where
  pub infers : Answers (want old.graph.home (seen_at old)) (reads new) result
  pub has : IfOk result (have new.graph)
  pub goes : Passes old new
  pub left : OnOk result (new.top ≡ old.top)

-- more is in scope of the core, and nothing else changed; a mark from before leaves it again
pub record IsOver (old new : TopScope) : Type 0 where
  pub front : IsFrontOf old.core new.core
  pub given : new.given ≡ old.given
  pub defined : new.defined ≡ old.defined

-- an environment went into scope, and a table has nothing of it
pub record GoesInto (g : Graph) (made : Env) (old new : TopScope) : Type 0 where
  pub seen : top_seen g new ≡ top_under made (top_seen g old)
  pub over : IsOver old new
  pub bare : AddsBare old.core new.core
  pub there : IsTopScope g old → IsTopScope g new
