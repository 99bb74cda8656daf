use Rattle.std.proofs.Common.{refl, subst}
use Rattle.semantic_objects.specs.Environments.{with_type}
use Rattle.sml_modules.specs.Graphs.{Graph}
use Rattle.core_scopes.specs.Scopes.{Bindings, seen, written_of}
use Rattle.core_scopes.specs.Marks.{AddsBare, Becomes}
use Rattle.core_scopes.proofs.Scoping.{type_bound, adds_nothing}
use Rattle.core_scopes.proofs.scope.Scope.bind_type.Goals as goal

pub returns-clause-ok : goal.returns-clause-ok
returns-clause-ok g c =
    let old : Bindings g.row.V.Denot = record {
      below = c.self.inside.below;
      structures = c.self.inside.structures;
      types = c.self.inside.types;
      values = c.self.inside.values;
      written = c.self.inside.written;
      hidden = c.self.inside.hidden;
    } in
    let new : Bindings g.row.V.Denot = record {
      below = c.self.inside.below;
      structures = c.self.inside.structures;
      types = c.bind.new.self;
      values = c.self.inside.values;
      written = c.self.inside.written;
      hidden = c.self.inside.hidden;
    } in
    subst (λ (sc : Bindings g.row.V.Denot). (graph : Graph) → Becomes graph sc new
    (λ read. with_type c.args.name c.args.entry (seen graph read sc)) (written_of sc)) c.self.view_is
    (type_bound old new c.self.invariant refl refl refl c.args.name c.args.entry refl c.in_ok-bind.ensures.ok refl)

pub returns-clause-bare : goal.returns-clause-bare
returns-clause-bare g c =
    let old : Bindings g.row.V.Denot = record {
      below = c.self.inside.below;
      structures = c.self.inside.structures;
      types = c.self.inside.types;
      values = c.self.inside.values;
      written = c.self.inside.written;
      hidden = c.self.inside.hidden;
    } in
    let new : Bindings g.row.V.Denot = record {
      below = c.self.inside.below;
      structures = c.self.inside.structures;
      types = c.bind.new.self;
      values = c.self.inside.values;
      written = c.self.inside.written;
      hidden = c.self.inside.hidden;
    } in
    subst (λ (sc : Bindings g.row.V.Denot). AddsBare sc new) c.self.view_is (adds_nothing old new refl)
