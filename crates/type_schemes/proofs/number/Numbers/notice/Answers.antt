use Rattle.std.proofs.Common.{sym, ◌∙◌}
use Rattle.type_schemes.proofs.Numbering.{numbers_more}
use Rattle.type_schemes.proofs.number.Numbers.notice.Goals as goal

pub returns-in_ok-set-in-None-clause-numbers : goal.returns-in_ok-set-in-None-clause-numbers
returns-in_ok-set-in-None-clause-numbers c = numbers_more c.args.self.now
    (record { variables = c.add.new.self; numbers = c.set.new.self }) c.args.variable c.len-number.result c.requires
    (sym c.in-None.is ∙ c.of.ensures) c.len-number.ensures c.in_ok-add-in-None.ensures.ok c.in_ok-set-in-None.ensures
