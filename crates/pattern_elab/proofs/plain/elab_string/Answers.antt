use Rattle.static_semantics.specs.BasicTypes.{string_ty}
use Rattle.pattern_elab.proofs.Forms.{made_sized}
use Rattle.pattern_elab.proofs.plain.elab_string.Goals as goal

pub returns-clause-infers : goal.returns-clause-infers
returns-clause-infers c b =
    rw c.sized.ensures.table
    (made_sized c.args.g.now c.args.at c.args.t.now c.string_type.new.t c.in_ok-id.id string_ty b
    c.sized.result c.in_ok-id.ensures.made c.in_ok-id.ensures.state c.sized.ensures.answer c.sized.ensures.same)
