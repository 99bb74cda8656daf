use Rattle.pattern_elab.proofs.Forms.{wild_sized}
use Rattle.pattern_elab.proofs.plain.elab_wild.Goals as goal

pub returns-clause-infers : goal.returns-clause-infers
returns-clause-infers c b =
    rw c.sized.ensures.table
    (wild_sized c.args.g.now c.args.at c.args.t.now c.fresh.new.self c.in_ok-id.id b
    c.sized.result
    c.in_ok-id.ensures.id c.is_kept.ensures.next c.in_ok-id.ensures.state c.sized.ensures.answer c.sized.ensures.same)
