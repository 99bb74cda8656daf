use Rattle.listed_types.proofs.FirmPhrases.{name_is, none_is}
use Rattle.listed_types.proofs.firm.is_firm_name.Goals as goal

pub returns-in-Some : goal.returns-in-Some
returns-in-Some g c =
    name_is c.args.g.now c.args.scope.now c.args.long.now c.as_slice.result.now c.in_ok-function.field-0
    c.in-Some.function c.nodes.result.now c.has_no_free.result c.as_slice.ensures c.in_ok-function.ensures c.in-Some.is
    c.nodes.ensures.tree c.has_no_free.ensures

pub returns-in-None : goal.returns-in-None
returns-in-None g c =
    none_is c.args.g.now c.args.scope.now c.args.long.now c.as_slice.result.now c.in_ok-function.field-0
    c.as_slice.ensures c.in_ok-function.ensures c.in-None.is
