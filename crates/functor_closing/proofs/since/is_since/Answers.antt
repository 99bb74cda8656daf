use Rattle.functor_closing.proofs.Naming.{other_owner, number_before, number_from}
use Rattle.functor_closing.proofs.since.is_since.Goals as goal

pub returns-then-not-own : goal.returns-then-not-own
returns-then-not-own c =
    other_owner c.args.home.now c.args.number c.args.name.now c.is_own-own.result c.is_own-own.ensures
    c.if-not-own.true

pub returns-then-name-number : goal.returns-then-name-number
returns-then-name-number c =
    number_before c.args.home.now c.args.number c.args.name.now c.is_own-own.result c.is_own-own.ensures
    c.if-not-own.false c.if-name-number.true

pub returns : goal.returns
returns c =
    number_from c.args.home.now c.args.number c.args.name.now c.is_own-own.result c.is_own-own.ensures
    c.if-not-own.false c.if-name-number.false
