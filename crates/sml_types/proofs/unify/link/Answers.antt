use Rattle.std.proofs.Common.{ap, ◌∙◌}
use Rattle.type_nodes.specs.Tables.{state}
use Rattle.sml_types.proofs.Solving.{rigid_read, link_rigid, link_first, link_second, link_younger_first, link_younger_second, solved_as, older_of}
use Rattle.sml_types.proofs.unify.link.Goals as goal

pub returns-in-true-true-clause-answer : goal.returns-in-true-true-clause-answer
returns-in-true-true-clause-answer c = link_rigid c.args.first c.args.second (state c.args.table.now) c.if-first-second.false
    (ap (λ f. f c.args.first) c.is_kept.ensures.kept.rigid ∙ rigid_read c.args.table.now.births c.args.first c.birth.result c.birth.ensures ∙ c.in-true-true.is-0)
    (ap (λ f. f c.args.second) c.is_kept.ensures.kept.rigid ∙ rigid_read c.args.table.now.births c.args.second c.birth-2.result c.birth-2.ensures ∙ c.in-true-true.is-1)

pub returns-in-true-false-clause-answer : goal.returns-in-true-false-clause-answer
returns-in-true-false-clause-answer c = solved_as _ _ c.assign.result (state c.assign.new.table)
    (link_second c.args.table.now c.args.first c.args.second c.requires.first_end c.if-first-second.false
    (ap (λ f. f c.args.first) c.is_kept.ensures.kept.rigid ∙ rigid_read c.args.table.now.births c.args.first c.birth.result c.birth.ensures ∙ c.in-true-false.is-0)
    (ap (λ f. f c.args.second) c.is_kept.ensures.kept.rigid ∙ rigid_read c.args.table.now.births c.args.second c.birth-2.result c.birth-2.ensures ∙ c.in-true-false.is-1)) c.assign.ensures.answer

pub returns-in-false-true-clause-answer : goal.returns-in-false-true-clause-answer
returns-in-false-true-clause-answer c = solved_as _ _ c.assign-in-false-true.result (state c.assign-in-false-true.new.table)
    (link_first c.args.table.now c.args.first c.args.second c.requires.second_end c.if-first-second.false
    (ap (λ f. f c.args.first) c.is_kept.ensures.kept.rigid ∙ rigid_read c.args.table.now.births c.args.first c.birth.result c.birth.ensures ∙ c.in-false-true.is-0)
    (ap (λ f. f c.args.second) c.is_kept.ensures.kept.rigid ∙ rigid_read c.args.table.now.births c.args.second c.birth-2.result c.birth-2.ensures ∙ c.in-false-true.is-1)) c.assign-in-false-true.ensures.answer

pub returns-then-first-second-2-clause-answer : goal.returns-then-first-second-2-clause-answer
returns-then-first-second-2-clause-answer c = solved_as _ _ c.assign-then-first-second-2.result (state c.assign-then-first-second-2.new.table)
    (link_younger_second c.args.table.now c.args.first c.args.second c.requires.first_end c.if-first-second-2.true
    (ap (λ f. f c.args.first) c.is_kept.ensures.kept.rigid ∙ rigid_read c.args.table.now.births c.args.first c.birth.result c.birth.ensures ∙ c.in-false-false.is-0)
    (ap (λ f. f c.args.second) c.is_kept.ensures.kept.rigid ∙ rigid_read c.args.table.now.births c.args.second c.birth-2.result c.birth-2.ensures ∙ c.in-false-false.is-1)) c.assign-then-first-second-2.ensures.answer

pub returns-else-first-second-2-clause-answer : goal.returns-else-first-second-2-clause-answer
returns-else-first-second-2-clause-answer c = solved_as _ _ c.assign-else-first-second-2.result (state c.assign-else-first-second-2.new.table)
    (link_younger_first c.args.table.now c.args.first c.args.second c.requires.second_end (older_of c.args.first c.args.second c.if-first-second.false c.if-first-second-2.false)
    (ap (λ f. f c.args.first) c.is_kept.ensures.kept.rigid ∙ rigid_read c.args.table.now.births c.args.first c.birth.result c.birth.ensures ∙ c.in-false-false.is-0)
    (ap (λ f. f c.args.second) c.is_kept.ensures.kept.rigid ∙ rigid_read c.args.table.now.births c.args.second c.birth-2.result c.birth-2.ensures ∙ c.in-false-false.is-1)) c.assign-else-first-second-2.ensures.answer
