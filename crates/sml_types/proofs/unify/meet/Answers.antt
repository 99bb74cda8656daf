use Rattle.std.proofs.Common.{◌≡◌, sym, ◌∙◌, subst}
use Rattle.type_nodes.specs.Tables.{Has, state, type_of}
use Rattle.sml_types.specs.Unifying.{Grown, NamesOwn}
use Rattle.sml_types.specs.Pairs.{Meeting, meeting_answer, AreThese, AreOne}
use Rattle.sml_types.proofs.unify.meet.Goals as goal

pub shorten-requires-2 : goal.shorten-requires-2
shorten-requires-2 c = subst (λ t. Has t c.args.right) (sym c.shorten.ensures.same) c.requires.right

pub meet_ends-requires-clause-left : goal.meet_ends-requires-clause-left
meet_ends-requires-clause-left c =
    subst (λ t. Has t c.args.left) (sym (c.shorten-2.ensures.same ∙ c.shorten.ensures.same)) c.requires.left

pub meet_ends-requires-clause-right : goal.meet_ends-requires-clause-right
meet_ends-requires-clause-right c =
    subst (λ t. Has t c.args.right) (sym (c.shorten-2.ensures.same ∙ c.shorten.ensures.same)) c.requires.right

pub meet_ends-requires-clause-one : goal.meet_ends-requires-clause-one
meet_ends-requires-clause-one c =
    subst (λ t. AreOne t (state t) c.args.same.now) (sym (c.shorten-2.ensures.same ∙ c.shorten.ensures.same)) c.requires.one

pub returns-clause-answer : goal.returns-clause-answer
returns-clause-answer c = subst (λ t. Meeting t c.meet_ends.new.table (meeting_answer t c.args.depth c.args.left c.args.right c.args.pairs.now)
    (AreThese (state t) (type_of t c.args.left) (type_of t c.args.right)) c.args.pairs.now c.meet_ends.new.pairs c.meet_ends.result)
    (c.shorten-2.ensures.same ∙ c.shorten.ensures.same) c.meet_ends.ensures.answer

pub returns-clause-named : goal.returns-clause-named
returns-clause-named c = subst (λ t. NamesOwn t c.meet_ends.result) (c.shorten-2.ensures.same ∙ c.shorten.ensures.same)
    c.meet_ends.ensures.named

pub returns-clause-grown : goal.returns-clause-grown
returns-clause-grown c = subst (λ t. Grown t c.meet_ends.new.table) (c.shorten-2.ensures.same ∙ c.shorten.ensures.same)
    c.meet_ends.ensures.grown
