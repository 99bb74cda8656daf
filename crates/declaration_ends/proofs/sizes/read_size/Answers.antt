use Rattle.type_phrases.proofs.Keeping.{keeps_later, keeps_extended}
use Rattle.declaration_ends.proofs.Sizing.{read_is, all_have}
use Rattle.declaration_ends.proofs.sizes.read_size.Goals as goal

pub apply-requires : goal.apply-requires
apply-requires c =
    all_have c.int_type.new.t c.in_ok-filler.filler c.in_ok-args.args c.in_ok-filler.ensures.has c.in_ok-args.ensures

pub returns-clause-counted : goal.returns-clause-counted
returns-clause-counted c =
    read_is c.args.t.now c.int_type.new.t c.apply.new.self c.in_ok-filler.filler c.in_ok-id.id c.in_ok-args.args
    c.args.tree.now c.in_ok-body.body c.in_ok-counted.counted c.in_ok-counted.ensures c.in_ok-id.ensures.made
    c.in_ok-body.ensures c.in_ok-id.ensures.state c.in_ok-filler.ensures.state c.in_ok-filler.ensures.made
    c.in_ok-args.ensures

pub returns-clause-ids : goal.returns-clause-ids
returns-clause-ids c =
    keeps_later c.args.t.now c.int_type.new.t c.apply.new.self c.in_ok-filler.ensures.ids
    (keeps_extended c.int_type.new.t c.apply.new.self c.in_ok-id.ensures.extends)

pub returns-in_err-counted-clause-ids : goal.returns-in_err-counted-clause-ids
returns-in_err-counted-clause-ids c =
    keeps_later c.args.t.now c.int_type.new.t c.apply.new.self c.in_ok-filler.ensures.ids
    (keeps_extended c.int_type.new.t c.apply.new.self c.in_ok-id.ensures.extends)
