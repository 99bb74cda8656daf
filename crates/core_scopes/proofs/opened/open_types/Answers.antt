use Rattle.std.proofs.Common.{ap, ◌∙◌, ◌++◌}
use Rattle.std.proofs.Math.Seq.{take-length}
use Rattle.semantic_objects.specs.Environments.{types}
use Rattle.sml_modules.specs.Graphs.{env_at}
use Rattle.core_scopes.proofs.Tables.{rows_of}
use Rattle.core_scopes.proofs.Opening.{first_rows}
use Rattle.core_scopes.proofs.opened.open_types.Goals as goal

pub loop-name-init : goal.loop-name-init
loop-name-init c =
    let table = types (env_at c.args.g.now c.args.env) in
    record {
      bound = ap (λ names. c.args.trail.now ++ rows_of table names)
          (c.into_iter-name-iterator.ensures.into_iter_gives.0 ∙ c.into_vec-name-items.ensures)
          ∙ ap (λ rows. c.args.trail.now ++ rows)
          (first_rows table c.in_ok-names.names c.in_ok-names.ensures.names c.in_ok-names.ensures.rising);
      kept = take-length c.args.trail.now;
    }
