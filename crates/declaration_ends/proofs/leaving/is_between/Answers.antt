use Rattle.declaration_ends.proofs.Walking.{other_owner, number_before, number_from}
use Rattle.declaration_ends.proofs.leaving.is_between.Goals as goal

pub returns-then-not-own : goal.returns-then-not-own
returns-then-not-own c =
    other_owner c.args.home.now c.args.from c.args.to c.args.name.now c.is_own-own.result c.is_own-own.ensures
    c.if-not-own.true

pub returns-then-name-from : goal.returns-then-name-from
returns-then-name-from c =
    number_before c.args.home.now c.args.from c.args.to c.args.name.now c.is_own-own.result c.is_own-own.ensures
    c.if-not-own.false c.if-name-from.true

pub returns : goal.returns
returns c =
    number_from c.args.home.now c.args.from c.args.to c.args.name.now c.is_own-own.result c.is_own-own.ensures
    c.if-not-own.false c.if-name-from.false
