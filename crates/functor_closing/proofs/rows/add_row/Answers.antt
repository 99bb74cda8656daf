use Rattle.functor_closing.proofs.Naming.{row_none}
use Rattle.functor_closing.proofs.rows.add_row.Goals as goal

pub returns-in-None : goal.returns-in-None
returns-in-None c = row_none c.args.at c.args.olds.now c.args.news.now c.args.list.now c.in-None.ensures.lookup.3
