use Rattle.std.proofs.Common.{ap, sym, ◌∙◌}
use Rattle.semantic_objects.specs.declared.name.TyId.TheVariants as id
use Rattle.type_nodes.specs.Tables.{state, whole}
use Rattle.sml_types.proofs.Solving.{rigid_read, open_at, falls_made, solve_rigid, solve_circular, solve_assigns, solved_as}
use Rattle.sml_types.proofs.unify.solve.Goals as goal

pub returns-then-birth-clause-answer : goal.returns-then-birth-clause-answer
returns-then-birth-clause-answer c = solve_rigid c.args.variable (whole c.args.table.now (id.Made c.args.node)) (state c.args.table.now)
    (ap (λ f. f c.args.variable) c.is_kept.ensures.kept.rigid
    ∙ rigid_read c.args.table.now.births c.args.variable c.birth.result c.birth.ensures ∙ c.if-birth.true)

pub occurs-requires-clause-flexible : goal.occurs-requires-clause-flexible
occurs-requires-clause-flexible c = record { within = c.requires.variable; flexible = (rigid_read c.args.table.now.births c.args.variable c.birth.result c.birth.ensures ∙ c.if-birth.false) }

pub assign-requires-clause-at : goal.assign-requires-clause-at
assign-requires-clause-at c = open_at c.args.table.now c.args.variable c.requires.variable c.requires.end
    (rigid_read c.args.table.now.births c.args.variable c.birth.result c.birth.ensures ∙ c.if-birth.false)

pub assign-requires-clause-falls : goal.assign-requires-clause-falls
assign-requires-clause-falls c = falls_made c.args.table.now c.args.variable c.args.node (rigid_read c.args.table.now.births c.args.variable c.birth.result c.birth.ensures ∙ c.if-birth.false)

pub returns-then-branch-clause-answer : goal.returns-then-branch-clause-answer
returns-then-branch-clause-answer c = solve_circular c.args.variable (whole c.args.table.now (id.Made c.args.node))
    (state c.args.table.now) (ap (λ f. f c.args.variable) c.is_kept.ensures.kept.rigid ∙ rigid_read c.args.table.now.births c.args.variable c.birth.result c.birth.ensures ∙ c.if-birth.false)
    (sym c.in_ok-occurs.ensures ∙ c.if-branch.true)

pub returns-clause-answer : goal.returns-clause-answer
returns-clause-answer c = solved_as _ _ c.assign.result (state c.assign.new.table)
    (solve_assigns c.args.variable (whole c.args.table.now (id.Made c.args.node)) (state c.args.table.now)
    (ap (λ f. f c.args.variable) c.is_kept.ensures.kept.rigid ∙ rigid_read c.args.table.now.births c.args.variable c.birth.result c.birth.ensures ∙ c.if-birth.false)
    (sym c.in_ok-occurs.ensures ∙ c.if-branch.false)) c.assign.ensures.answer
