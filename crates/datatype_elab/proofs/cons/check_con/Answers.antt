use Rattle.datatype_elab.proofs.Consing.{con_refused, con_checked}
use Rattle.datatype_elab.proofs.cons.check_con.Goals as goal

pub returns-in_err-refuse_where : goal.returns-in_err-refuse_where
returns-in_err-refuse_where c = λ inner others home same.
    con_refused inner c.args.refused.now c.args.name.now others c.is_one_of.result c.in_err-refuse_where.field-0.0
    c.from_residual.result c.from_residual.ensures.1 c.is_one_of.ensures (c.in_err-refuse_where.ensures inner home)

pub returns : goal.returns
returns c = λ inner others home same.
    con_checked inner c.args.refused.now c.args.name.now others c.is_one_of.result c.is_bound.result c.args.names.now
    c.refuse_where-2.result c.is_one_of.ensures (c.in_ok-refuse_where.ensures inner home) c.is_bound.ensures same
    (c.refuse_where-2.ensures inner home)
