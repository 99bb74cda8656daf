use Rattle.std.proofs.Common.{[], ◌∷◌, refl, subst}
use Rattle.semantic_objects.specs.Environments.{with_value}
use Rattle.sml_modules.specs.Graphs.{Graph}
use Rattle.core_scopes.specs.Scopes.{Bindings, seen, written_of, entry_of}
use Rattle.core_scopes.specs.Marks.{AddsBare, Becomes}
use Rattle.core_scopes.proofs.Scoping.{value_bound}
use Rattle.core_scopes.proofs.scope.Scope.bind_value.Goals as goal

pub returns-clause-ok : goal.returns-clause-ok
returns-clause-ok g c =
    let old : Bindings g.row.V.Denot = record {
      below = c.self.inside.below;
      structures = c.self.inside.structures;
      types = c.self.inside.types;
      values = c.self.inside.values;
      written = c.self.inside.written;
      hidden = c.self.inside.hidden;
    } in
    let new : Bindings g.row.V.Denot = record {
      below = c.self.inside.below;
      structures = c.self.inside.structures;
      types = c.self.inside.types;
      values = c.bind.new.self;
      written = c.self.inside.written;
      hidden = c.self.inside.hidden;
    } in
    subst (λ (sc : Bindings g.row.V.Denot). (graph : Graph) → Becomes graph sc new
    (λ read. with_value c.args.name (entry_of read c.args.entry) (seen graph read sc)) (written_of sc)) c.self.view_is
    (value_bound old new c.self.invariant refl refl refl c.args.name c.args.entry refl refl c.in_ok-bind.ensures.ok)

pub returns-clause-bare : goal.returns-clause-bare
returns-clause-bare g c =
    let old : Bindings g.row.V.Denot = record {
      below = c.self.inside.below;
      structures = c.self.inside.structures;
      types = c.self.inside.types;
      values = c.self.inside.values;
      written = c.self.inside.written;
      hidden = c.self.inside.hidden;
    } in
    let new : Bindings g.row.V.Denot = record {
      below = c.self.inside.below;
      structures = c.self.inside.structures;
      types = c.self.inside.types;
      values = c.bind.new.self;
      written = c.self.inside.written;
      hidden = c.self.inside.hidden;
    } in
    subst (λ (sc : Bindings g.row.V.Denot). AddsBare sc new) c.self.view_is
    ((c.args.name, c.args.entry) ∷ [], c.in_ok-bind.ensures.ok)
