use Rattle.std.proofs.Common.{ap, ◌∙◌, ◌++◌}
use Rattle.std.proofs.Math.Seq.{take-length}
use Rattle.semantic_objects.specs.declared.entry.ValueEntry.{ValueEntry}
use Rattle.semantic_objects.specs.Environments.{values}
use Rattle.sml_modules.specs.Items.{map_rows}
use Rattle.sml_modules.specs.Graphs.{env_at}
use Rattle.core_scopes.specs.declared.value.BoundValue.{BoundValue}
use Rattle.core_scopes.specs.declared.value.ValueInScope.TheVariants as value
use Rattle.core_scopes.specs.Scopes.{bare}
use Rattle.core_scopes.proofs.Tables.{rows_of}
use Rattle.core_scopes.proofs.Opening.{first_rows}
use Rattle.core_scopes.proofs.opened.open_values.Goals as goal

pub loop-name-init : goal.loop-name-init
loop-name-init g c =
    let table = values (env_at c.args.g.now c.args.env) in
    let as_held : ValueEntry → BoundValue g.row.V.Denot = λ entry. bare (value.Entry entry) in
    record {
      bound = ap (λ names. c.args.trail.now ++ map_rows as_held (rows_of table names))
          (c.into_iter-name-iterator.ensures.into_iter_gives.0 ∙ c.into_vec-name-items.ensures)
          ∙ ap (λ rows. c.args.trail.now ++ map_rows as_held rows)
          (first_rows table c.in_ok-names.names c.in_ok-names.ensures.names c.in_ok-names.ensures.rising);
      kept = take-length c.args.trail.now;
    }
