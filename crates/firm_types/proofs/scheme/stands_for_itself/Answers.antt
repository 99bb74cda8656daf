use Rattle.firm_types.proofs.Firm.{stands_is}
use Rattle.firm_types.proofs.scheme.stands_for_itself.Goals as goal

pub returns-in-Free-Variable-clause-itself : goal.returns-in-Free-Variable-clause-itself
returns-in-Free-Variable-clause-itself c =
    stands_is c.args.t.now c.args.number c.in-Free-Variable.other c.in_ok-other.field-0 c.in-Free-Variable.field-0
    c.body.result.now c.in_ok-scheme.scheme c.in_ok-scheme.ensures.scheme c.body.ensures c.in_ok-other.ensures.tree
    c.in-Free-Variable.is c.in-Free-Variable.field-0-is
