use Rattle.std.proofs.Common.{length}
use Rattle.given_tops.proofs.Knowing.{knows_is}
use Rattle.given_tops.proofs.table.knows_names_below.Goals as goal

pub returns : goal.returns
returns c = knows_is c.args.t.now c.args.g.now.home c.in_ok-limits.limits.home (length c.args.g.now.made)
    c.in_ok-limits.limits.number c.variables_hold.result c.in_ok-limits.ensures.home c.in_ok-limits.ensures.number
    c.variables_hold.ensures
