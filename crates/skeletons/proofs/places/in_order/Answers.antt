use Rattle.std.proofs.Common.{ap, ◌∙◌}
use Rattle.std.specs.FinMap.{empty}
use Rattle.skeletons.specs.Skeletons.{placed}
use Rattle.skeletons.proofs.Placing.{listed_so}
use Rattle.skeletons.proofs.places.in_order.Goals as goal

pub returns : goal.returns
returns c =
    listed_so c.listed.result c.in_ok-by_place.field-0.entries c.args.uses c.listed.ensures.listed
    c.listed.ensures.ordered
    (c.in_ok-by_place.ensures ∙ ap (placed empty 0) c.into_vec.ensures)
