use Rattle.type_nodes.specs.Tables.{state, type_of}
use Rattle.std.proofs.Common.{subst, ap, ◌∙◌, ◌++◌, ◌∷◌, []}
use Rattle.sml_types.specs.Pairs.{no_exception, IsNextPair, Meeting, meeting_answer, AreThese}
use Rattle.sml_types.proofs.Pairing.{last_pair, pair_done, stepping_none, stepping_part}
use Rattle.sml_types.proofs.unify.meet_next.Goals as goal

pub parts-requires-clause-left : goal.parts-requires-clause-left
parts-requires-clause-left c = (last_pair c.args.table.now (state c.args.table.now) no_exception c.args.pairs.now c.args.pair c.requires.pairs).left

pub parts-requires-clause-right : goal.parts-requires-clause-right
parts-requires-clause-right c = (last_pair c.args.table.now (state c.args.table.now) no_exception c.args.pairs.now c.args.pair c.requires.pairs).right

pub join-requires-clause-left : goal.join-requires-clause-left
join-requires-clause-left c = (last_pair c.args.table.now (state c.args.table.now) no_exception c.args.pairs.now c.args.pair c.requires.pairs).left

pub join-requires-clause-right : goal.join-requires-clause-right
join-requires-clause-right c = (last_pair c.args.table.now (state c.args.table.now) no_exception c.args.pairs.now c.args.pair c.requires.pairs).right

pub join-requires-clause-made : goal.join-requires-clause-made
join-requires-clause-made c = pair_done c.args.table.now c.args.pair c.is_kept.ensures.kept
    (subst (IsNextPair c.args.table.now c.args.pair) c.in-None.is c.in_ok-parts.ensures)
    (last_pair c.args.table.now (state c.args.table.now) no_exception c.args.pairs.now c.args.pair c.requires.pairs)

pub returns-in_ok-join-in-None-clause-answer : goal.returns-in_ok-join-in-None-clause-answer
returns-in_ok-join-in-None-clause-answer c = stepping_none c.args.table.now c.args.pairs.now c.args.pair c.join.new.same
    c.is_kept.ensures.kept (subst (IsNextPair c.args.table.now c.args.pair) c.in-None.is c.in_ok-parts.ensures) c.requires.pairs
    c.in_ok-join-in-None.ensures

pub returns-in_ok-add-in-Some-clause-answer : goal.returns-in_ok-add-in-Some-clause-answer
returns-in_ok-add-in-Some-clause-answer c =
    let t = c.args.table.now in
    stepping_part t c.meet.new.table c.args.pairs.now c.meet.new.pairs c.args.pair c.in-Some.left c.in-Some.right
    c.args.same.now c.meet.result (subst (IsNextPair t c.args.pair) c.in-Some.is c.in_ok-parts.ensures) c.requires.pairs
    c.requires.one
    (subst (λ ps. Meeting t c.meet.new.table (meeting_answer t c.args.pair.depth c.in-Some.left c.in-Some.right ps)
    (AreThese (state t) (type_of t c.in-Some.left) (type_of t c.in-Some.right)) ps c.meet.new.pairs c.meet.result)
    (c.in_ok-add-in-Some.ensures.ok ∙ ap (λ p. c.args.pairs.now ++ p ∷ []) c.in_ok-after-in-Some.ensures)
    c.meet.ensures.answer)
