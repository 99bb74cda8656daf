use Rattle.environment_walks.proofs.Mapping.{rows_kept}
use Rattle.environment_walks.proofs.rows.are_rows_kept.Goals as goal

pub returns : goal.returns
returns c = rows_kept c.args.images.now c.args.rows.now c.in_ok-places.places c.are_all_kept.result
    c.in_ok-places.ensures c.are_all_kept.ensures
