use Rattle.std.proofs.Common.{ap, ◌∙◌, ◌++◌}
use Rattle.semantic_objects.specs.Environments.{types}
use Rattle.sml_modules.specs.Graphs.{env_at, type_rows}
use Rattle.core_scopes.proofs.Tables.{rows_of}
use Rattle.core_scopes.proofs.Opening.{first_rows}
use Rattle.open_declarations.proofs.entries.add_types.Goals as goal

pub loop-name-init : goal.loop-name-init
loop-name-init c =
    let table = types (env_at c.args.g.now c.args.env) in
    ap (λ names. type_rows c.args.entries.now ++ rows_of table names)
    (c.into_iter-name-iterator.ensures.into_iter_gives.0 ∙ c.into_vec-name-items.ensures)
    ∙ ap (λ rows. type_rows c.args.entries.now ++ rows)
    (first_rows table c.in_ok-names.names c.in_ok-names.ensures.names c.in_ok-names.ensures.rising)
