-- What becomes of what is in scope where a graph grows, and where declarations define more.
use Rattle.std.specs.Prelude.{◌≡◌}
use Rattle.semantic_objects.specs.Environments.{Env, Top}
use Rattle.sml_modules.specs.Graphs.{Graph, Keeps}
use Rattle.core_scopes.specs.Scopes.{Bindings, written_of}
use Rattle.core_scopes.specs.Marks.{IsFrontOf, AddsBare}
use Rattle.core_scopes.specs.Scopes as scopes
use Rattle.static_semantics.specs.Inferring.{under}
use Rattle.pattern_elab.specs.declared.own.OwnVariable.{OwnVariable}
use Rattle.pattern_elab.specs.Scopes.{scope_of}
use Rattle.unit_semantics.specs.UnitInference.{top_with}
use Rattle.module_scopes.specs.declared.defined.Defined.{Defined}
use Rattle.module_scopes.specs.declared.top.TopScope.{TopScope}
use Rattle.module_scopes.specs.Tops.{defined_top, top_seen, IsDefinedIn, IsTopScope}

-- what is in scope is of a graph that grows, and stays what it was; and so does what was defined
pub record TopsStay : Type 0 where
  pub scope : (old new : Graph) (top : TopScope) → Keeps old new → IsTopScope old top → IsTopScope new top
  pub seen : (old new : Graph) (top : TopScope) → Keeps old new → IsTopScope old top
      → top_seen new top ≡ top_seen old top
  pub of : (old new : Graph) (defined : Defined) → Keeps old new → IsDefinedIn old defined
      → IsDefinedIn new defined
  pub defined : (old new : Graph) (defined : Defined) → Keeps old new → IsDefinedIn old defined
      → defined_top new defined ≡ defined_top old defined

-- a scope of the core went under an environment, and a table has nothing of what was bound; a mark from before leaves it
-- again
pub record GoesUnder (g : Graph) (made : Env) (old new : Bindings OwnVariable) : Type 0 where
  pub seen : scope_of g new ≡ under made (scope_of g old)
  pub written : written_of new ≡ written_of old
  pub front : IsFrontOf old new
  pub bare : AddsBare old new
  pub there : scopes.IsScopeOf g old → scopes.IsScopeOf g new

-- a declaration defined this: it is in scope behind what was, and stands behind what was defined before; a table has
-- nothing of it
pub record Defines (g : Graph) (made : Top) (old new : TopScope) : Type 0 where
  pub seen : top_seen g new ≡ top_with (top_seen g old) made
  pub defined : defined_top g new.defined ≡ top_with (defined_top g old.defined) made
  pub bare : AddsBare old.core new.core
  pub there : IsTopScope g old → IsTopScope g new
