use Rattle.std.proofs.Common.{rules}
use Rattle.type_walks.proofs.Imaging.{if_ok}
use Rattle.row_binders.proofs.Bound.{functor_placed, functor_never, functor_tagged}
use Rattle.row_binders.proofs.binders.functor_row.Goals as goal

pub returns-in-Some-clause-is : goal.returns-in-Some-clause-is
returns-in-Some-clause-is c =
    if_ok c.counted_functor.result c.counted_functor.ensures.is
    (λ found h. functor_placed c.args.envs.now c.args.graph.now.items c.counted_functor.new.graph.items
    c.args.row.now c.as_slice.result.now c.in-Some.form found c.in-10.is c.as_slice.ensures c.in-Some.ensures h)

pub returns-in-None-clause-is : goal.returns-in-None-clause-is
returns-in-None-clause-is c =
    functor_never c.args.envs.now c.args.graph.now.items c.args.graph.now.items c.args.row.now c.as_slice.result.now
    c.as_slice.ensures c.in-None.ensures

pub returns-in_default-clause-is : goal.returns-in_default-clause-is
returns-in_default-clause-is c =
    functor_tagged c.args.envs.now c.args.graph.now.items c.args.graph.now.items c.args.row.now (search rules)
