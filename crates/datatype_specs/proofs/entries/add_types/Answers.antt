use Rattle.std.proofs.Common.{ap, ◌∙◌, ◌++◌}
use Rattle.sml_modules.specs.Graphs.{type_rows}
use Rattle.datatype_specs.proofs.entries.add_types.Goals as goal

pub loop-named-init : goal.loop-named-init
loop-named-init c =
    ap (λ rows. c.args.rows.now ++ type_rows rows)
    (c.into_iter-named-iterator.ensures.into_iter_gives.0 ∙ c.into_vec-named-items.ensures)
