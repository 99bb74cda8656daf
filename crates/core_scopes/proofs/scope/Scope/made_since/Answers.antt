use Rattle.std.proofs.Common.{ap, ◌∙◌, drop, length}
use Rattle.name_trails.specs.Trails.{Rows}
use Rattle.semantic_objects.specs.declared.entry.TypeStr.{TypeStr}
use Rattle.sml_modules.specs.declared.id.EnvId.{EnvId}
use Rattle.sml_modules.specs.Items.{map_rows}
use Rattle.core_scopes.specs.declared.mark.ScopeMark.{ScopeMark}
use Rattle.core_scopes.specs.declared.value.BoundValue.{BoundValue}
use Rattle.core_scopes.specs.Scopes.{Bindings, value_of}
use Rattle.core_scopes.proofs.Scoping.{made_is}
use Rattle.core_scopes.proofs.scope.Scope.made_since.Goals as goal

pub returns : goal.returns
returns g c = λ past is front. made_is past c.args.self.now (record {
  structures = c.in_ok-list_structures.field-0;
  types = c.in_ok-list_types.field-0;
  values = c.in_ok-list_values.field-0;
}) front
    (c.in_ok-list_structures.ensures ∙ c.rows_since-structures.ensures
    ∙ ap (λ (rows : Rows EnvId). drop c.args.since.structures rows) c.rows.ensures
    ∙ ap (λ (mark : ScopeMark). drop mark.structures c.self.inside.structures) is
    ∙ ap (λ (sc : Bindings g.row.V.Denot). drop (length past.structures) sc.structures) c.self.view_is)
    (c.in_ok-list_types.ensures ∙ c.rows_since-types.ensures
    ∙ ap (λ (rows : Rows TypeStr). drop c.args.since.types rows) c.rows-2.ensures
    ∙ ap (λ (mark : ScopeMark). drop mark.types c.self.inside.types) is
    ∙ ap (λ (sc : Bindings g.row.V.Denot). drop (length past.types) sc.types) c.self.view_is)
    (c.in_ok-list_values.ensures
    ∙ ap (λ (rows : Rows (BoundValue g.row.V.Denot)). map_rows value_of rows) (c.rows_since-values.ensures
    ∙ ap (λ (rows : Rows (BoundValue g.row.V.Denot)). drop c.args.since.values rows) c.rows-3.ensures
    ∙ ap (λ (mark : ScopeMark). drop mark.values c.self.inside.values) is
    ∙ ap (λ (sc : Bindings g.row.V.Denot). drop (length past.values) sc.values) c.self.view_is))
