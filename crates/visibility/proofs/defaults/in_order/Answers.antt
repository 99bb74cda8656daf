use Rattle.visibility.proofs.NameOrder.{listed_so}
use Rattle.visibility.proofs.defaults.in_order.Goals as goal

pub returns : goal.returns
returns c =
    listed_so c.listed.result c.in_ok-by_name.field-0.entries c.args.names c.listed.ensures.listed
    c.listed.ensures.ordered c.in_ok-by_name.ensures
