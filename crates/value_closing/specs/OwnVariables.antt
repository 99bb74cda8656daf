-- The written type variables that a `val` binds, in a table and a scope. The Definition of Standard ML (Revised),
-- section 4.6.
use Rattle.std.specs.Prelude.{◌≡◌, ℕ, List}
use Rattle.semantic_objects.specs.declared.name.TyId.{TyId}
use Rattle.semantic_objects.specs.declared.name.TyId.TheVariants as id
use Rattle.unification.specs.Types.{Ty}
use Rattle.type_nodes.specs.Tables.{Table}
use Rattle.sml_modules.specs.Items.{map_rows}
use Rattle.sml_modules.specs.Graphs.{Graph}
use Rattle.name_trails.specs.Trails.{Rows}
use Rattle.static_semantics.specs.Inferring.{with_written}
use Rattle.static_semantics.specs.TypeInference.{as_written}
use Rattle.static_semantics.specs.CoreInference.{implicit}
use Rattle.core_scopes.specs.Scopes.{Bindings, written_of}
use Rattle.core_scopes.specs.Marks.{IsFrontOf}
use Rattle.type_phrases.specs.Inferred.{progress}
use Rattle.type_bindings.specs.Listing.{AreMade}
use Rattle.pattern_elab.specs.declared.own.OwnVariable.{OwnVariable}
use Rattle.pattern_elab.specs.Scopes.{variable_of, scope_of, IsCoreScope}

-- the written type variables in scope, with what stands for each
abbrev pub written_in_scope : Bindings OwnVariable → List (List ℕ × Ty)
written_in_scope sc = map_rows variable_of (written_of sc)

abbrev pub id_rows : Rows ℕ → Rows TyId
id_rows rows = map_rows id.Variable rows

-- variables were made for texts that are neither in rows nor in scope
abbrev pub AddsImplicit : List (List ℕ × Ty) → List (List ℕ) → Table → Rows ℕ → Table → Rows ℕ → Type 0
AddsImplicit outer texts old before new after =
    (g : Graph) → implicit outer texts before (progress old g) ≡ (after, progress new g)

-- what is in scope is what was, with these variables in front; marks of the scope before stay good
pub record EntersOwn (g : Graph) (own : Rows ℕ) (old new : Bindings OwnVariable) : Type 0 where
  pub seen : scope_of g new ≡ with_written (as_written own) (scope_of g old)
  pub front : IsFrontOf old new
  pub there : (t : Table) → AreMade t own → IsCoreScope g t old → IsCoreScope g t new
