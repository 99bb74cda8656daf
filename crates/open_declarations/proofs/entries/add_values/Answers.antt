use Rattle.std.proofs.Common.{ap, ◌∙◌, ◌++◌}
use Rattle.semantic_objects.specs.Environments.{values}
use Rattle.sml_modules.specs.Items.{map_rows}
use Rattle.sml_modules.specs.Graphs.{env_at}
use Rattle.core_scopes.specs.Listed.{scope_rows}
use Rattle.core_scopes.proofs.Tables.{rows_of}
use Rattle.core_scopes.proofs.Opening.{first_rows}
use Rattle.open_declarations.specs.Opened.{as_held}
use Rattle.open_declarations.proofs.entries.add_values.Goals as goal

pub loop-name-init : goal.loop-name-init
loop-name-init g c =
    let table = values (env_at c.args.g.now c.args.env) in
    ap (λ names. scope_rows c.args.entries.now ++ map_rows as_held (rows_of table names))
    (c.into_iter-name-iterator.ensures.into_iter_gives.0 ∙ c.into_vec-name-items.ensures)
    ∙ ap (λ rows. scope_rows c.args.entries.now ++ map_rows as_held rows)
    (first_rows table c.in_ok-names.names c.in_ok-names.ensures.names c.in_ok-names.ensures.rising)
