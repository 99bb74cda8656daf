use Rattle.std.proofs.Common.{ap, ◌∙◌, ◌++◌}
use Rattle.core_scopes.specs.Marks.{value_rows}
use Rattle.datatype_specs.proofs.entries.add_values.Goals as goal

pub loop-named-init : goal.loop-named-init
loop-named-init g c = λ read.
    ap (λ rows. c.args.rows.now ++ value_rows read rows)
    (c.into_iter-named-iterator.ensures.into_iter_gives.0 ∙ c.into_vec-named-items.ensures)
