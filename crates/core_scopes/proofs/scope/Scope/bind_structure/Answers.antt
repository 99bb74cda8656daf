use Rattle.std.proofs.Common.{refl, subst}
use Rattle.semantic_objects.specs.Environments.{with_structure}
use Rattle.sml_modules.specs.Graphs.{Graph, env_at, HasEnv}
use Rattle.core_scopes.specs.Scopes.{Bindings, seen, written_of}
use Rattle.core_scopes.specs.Marks.{AddsBare, Becomes}
use Rattle.core_scopes.proofs.Scoping.{structure_bound, adds_nothing}
use Rattle.core_scopes.proofs.scope.Scope.bind_structure.Goals as goal

pub returns-clause-ok : goal.returns-clause-ok
returns-clause-ok g c =
    let old : Bindings g.row.V.Denot = record {
      below = c.self.inside.below;
      structures = c.self.inside.structures;
      types = c.self.inside.types;
      values = c.self.inside.values;
      written = c.self.inside.written;
      hidden = c.self.inside.hidden;
    } in
    let new : Bindings g.row.V.Denot = record {
      below = c.self.inside.below;
      structures = c.bind.new.self;
      types = c.self.inside.types;
      values = c.self.inside.values;
      written = c.self.inside.written;
      hidden = c.self.inside.hidden;
    } in
    subst (λ (sc : Bindings g.row.V.Denot). (graph : Graph) → HasEnv graph c.args.env → Becomes graph sc new
    (λ read. with_structure c.args.name (env_at graph c.args.env) (seen graph read sc)) (written_of sc)) c.self.view_is
    (structure_bound old new c.self.invariant refl refl refl c.args.name c.args.env c.in_ok-bind.ensures.ok refl refl)

pub returns-clause-bare : goal.returns-clause-bare
returns-clause-bare g c =
    let old : Bindings g.row.V.Denot = record {
      below = c.self.inside.below;
      structures = c.self.inside.structures;
      types = c.self.inside.types;
      values = c.self.inside.values;
      written = c.self.inside.written;
      hidden = c.self.inside.hidden;
    } in
    let new : Bindings g.row.V.Denot = record {
      below = c.self.inside.below;
      structures = c.bind.new.self;
      types = c.self.inside.types;
      values = c.self.inside.values;
      written = c.self.inside.written;
      hidden = c.self.inside.hidden;
    } in
    subst (λ (sc : Bindings g.row.V.Denot). AddsBare sc new) c.self.view_is (adds_nothing old new refl)
