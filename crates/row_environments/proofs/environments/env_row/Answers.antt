use Rattle.std.proofs.Common.{rules}
use Rattle.type_walks.proofs.Imaging.{if_ok}
use Rattle.row_environments.proofs.Formed.{env_formed, env_never, env_tagged}
use Rattle.row_environments.proofs.environments.env_row.Goals as goal

pub returns-in-Some-clause-is : goal.returns-in-Some-clause-is
returns-in-Some-clause-is c =
    if_ok c.env_over.result c.env_over.ensures.is
    (λ found h. env_formed c.args.told.now c.args.graph.now.items c.env_over.new.graph.items c.args.row.now
    c.as_slice.result.now c.in-Some.form found c.in-8.is c.as_slice.ensures
    (rw c.in-Some.is at c.in_ok-form-in-8.ensures) h)

pub returns-in-None-clause-is : goal.returns-in-None-clause-is
returns-in-None-clause-is c =
    env_never c.args.told.now c.args.graph.now.items c.args.graph.now.items c.args.row.now c.as_slice.result.now
    c.as_slice.ensures (rw c.in-None.is at c.in_ok-form-in-8.ensures)

pub returns-in_default-clause-is : goal.returns-in_default-clause-is
returns-in_default-clause-is c =
    env_tagged c.args.told.now c.args.graph.now.items c.args.graph.now.items c.args.row.now (search rules)
