use Rattle.row_environments.proofs.Valued.{values_none}
use Rattle.row_environments.proofs.rows.EnvRows.new.Goals as goal

pub returns-clause-values : goal.returns-clause-values
returns-clause-values c = λ items. values_none c.new.result.entries.schemes items c.new-2.result c.new-2.ensures
