-- The laws of scopes, as the public functions of this crate state them.
use Rattle.std.specs.Prelude.{◌≡◌}
use Rattle.semantic_objects.specs.declared.entry.ValueEntry.{ValueEntry}
use Rattle.sml_modules.specs.Graphs.{Graph, Keeps}
use Rattle.core_scopes.specs.Scopes.{Bindings, seen, IsScopeOf}
use Rattle.core_scopes.specs.Marks.{IsFrontOf}

-- a scope stays one of a graph that grows, and the environment in scope stays what it was
pub record StaysInScope (V : Type 0) : Type 0 where
  pub there : (old new : Graph) (sc : Bindings V) → Keeps old new → IsScopeOf old sc → IsScopeOf new sc
  pub seen : (old new : Graph) (read : V → ValueEntry) (sc : Bindings V) → Keeps old new → IsScopeOf old sc
      → seen new read sc ≡ seen old read sc

-- what is taken back to one scope after another was taken back to the first
abbrev pub FrontsGoOn : Type 0 → Type 0
FrontsGoOn V = (first next last : Bindings V) → IsFrontOf first next → IsFrontOf next last → IsFrontOf first last
