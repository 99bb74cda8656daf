use Rattle.semantic_objects.proofs.Same.{records_decide}
use Rattle.semantic_objects.proofs.symbol.Symbol.is_same.Goals as goal

pub returns-in-Record-Record : goal.returns-in-Record-Record
returns-in-Record-Record c = records_decide c.args.self.now c.args.other.now c.in-Record-Record.these
    c.in-Record-Record.those c.as_slice.result.now c.as_slice-in-Record-Record.result.now c.eq.result
    c.in-Record-Record.is-0 c.in-Record-Record.is-1 c.as_slice.ensures c.as_slice-in-Record-Record.ensures c.eq.ensures
