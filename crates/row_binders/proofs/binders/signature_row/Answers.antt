use Rattle.std.proofs.Common.{rules}
use Rattle.type_walks.proofs.Imaging.{if_ok}
use Rattle.row_binders.proofs.Bound.{signature_placed, signature_never, signature_tagged}
use Rattle.row_binders.proofs.binders.signature_row.Goals as goal

pub returns-in-Some-clause-is : goal.returns-in-Some-clause-is
returns-in-Some-clause-is c =
    if_ok c.counted_signature.result c.counted_signature.ensures.is
    (λ found h. signature_placed c.args.envs.now c.args.graph.now.items c.counted_signature.new.graph.items
    c.args.row.now c.as_slice.result.now c.in-Some.form found c.in-9.is c.as_slice.ensures c.in-Some.ensures h)

pub returns-in-None-clause-is : goal.returns-in-None-clause-is
returns-in-None-clause-is c =
    signature_never c.args.envs.now c.args.graph.now.items c.args.graph.now.items c.args.row.now c.as_slice.result.now
    c.as_slice.ensures c.in-None.ensures

pub returns-in_default-clause-is : goal.returns-in_default-clause-is
returns-in_default-clause-is c =
    signature_tagged c.args.envs.now c.args.graph.now.items c.args.graph.now.items c.args.row.now (search rules)
