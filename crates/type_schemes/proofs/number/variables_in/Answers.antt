use Rattle.type_schemes.specs.Numbering.{keeps}
use Rattle.type_schemes.proofs.Numbering.{numbers_all}
use Rattle.type_schemes.proofs.number.variables_in.Goals as goal

pub returns : goal.returns
returns c = numbers_all c.args.table.now c.in_ok-reached.reached (keeps c.nothing-nothing.result) c.args.ids.now
    c.in_ok-numbers.numbers.variables c.nothing-nothing.ensures c.in_ok-reached.ensures.found c.in_ok-numbers.ensures.variables
