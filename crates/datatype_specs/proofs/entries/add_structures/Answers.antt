use Rattle.std.proofs.Common.{ap, ◌∙◌, ◌++◌}
use Rattle.core_scopes.specs.Listed.{env_rows}
use Rattle.datatype_specs.proofs.entries.add_structures.Goals as goal

pub loop-entry-init : goal.loop-entry-init
loop-entry-init c =
    ap (λ rows. c.args.rows.now ++ env_rows rows)
    (c.into_iter-entry-iterator.ensures.into_iter_gives.0 ∙ c.into_vec-entry-items.ensures)
