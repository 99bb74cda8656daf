use Rattle.structure_matching.proofs.Constructing.{form_closed}
use Rattle.structure_matching.proofs.constructors.is_same_con.Goals as goal

pub are_same-requires-clause-left : goal.are_same-requires-clause-left
are_same-requires-clause-left c =
    form_closed c.args.left.now.scheme c.in_ok-this.this c.requires.left c.in_ok-this.ensures.canonical

pub are_same-requires-clause-right : goal.are_same-requires-clause-right
are_same-requires-clause-right c =
    form_closed c.args.right.now.scheme c.in_ok-that.that c.requires.right c.in_ok-that.ensures.canonical
