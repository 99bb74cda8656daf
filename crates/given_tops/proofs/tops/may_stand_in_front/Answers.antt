use Rattle.std.proofs.Common.{length}
use Rattle.sml_modules.specs.Graphs.{top_at}
use Rattle.given_tops.proofs.Conditions.{front_is}
use Rattle.given_tops.proofs.tops.may_stand_in_front.Goals as goal

pub returns : goal.returns
returns c = front_is c.args.g.now.home (length c.args.g.now.made) c.in_ok-limits.limits.home c.in_ok-limits.limits.number
    (top_at c.args.g.now c.args.given) c.top_fits.result c.in_ok-limits.ensures.home c.in_ok-limits.ensures.number
    c.top_fits.ensures
