use Rattle.std.proofs.Common.{subst, sym}
use Rattle.std.specs.Prelude.{All, Ok, Err}
use Rattle.skeleton_asking.specs.Faults.{of_fault}
use Rattle.skeleton_asking.specs.Short.{IsShortSkeleton}
use Rattle.skeleton_asking.specs.Skeletons.{plain_over, skeletons_over}
use Rattle.project_planning.specs.Answers.{Plans}
use Rattle.project_planning.specs.Planning.{plain_plan, plan_over}
use Rattle.project_planning.proofs.Steps.{found_plain, passed, plan_short, planned, planned_lawful, refused, unplanned}
use Rattle.project_planning.proofs.planning.make_plan.Goals as goal

pub returns-in_err-skeletons-clause-plans : goal.returns-in_err-skeletons-clause-plans
returns-in_err-skeletons-clause-plans g c = λ files is.
    let skel = g.C.Compiler.defines.skel in
    let old = g.C.Compiler.asked_skeletons c.args.compiler.now in
    let new = g.C.Compiler.asked_skeletons c.find_skeletons.new.compiler in
    passed c.from_residual.result c.in_err-skeletons.field-0.0
    (λ r. Plans r (plan_over skel files c.args.project.now c.args.defs.now) old new) c.from_residual.ensures.1
    (refused c.args.project.now c.args.defs.now (skeletons_over skel files c.args.project.now)
    c.in_err-skeletons.field-0.0 old new (c.in_err-skeletons.ensures.finds files is))

pub returns-in_err-skeletons-clause-plain : goal.returns-in_err-skeletons-clause-plain
returns-in_err-skeletons-clause-plain g c = λ files is known good.
    let skel = g.C.Compiler.defines.skel in
    let old = g.C.Compiler.asked_skeletons c.args.compiler.now in
    let new = g.C.Compiler.asked_skeletons c.find_skeletons.new.compiler in
    passed c.from_residual.result c.in_err-skeletons.field-0.0
    (λ r. Plans r (plain_plan skel files c.args.project.now c.args.defs.now) old new) c.from_residual.ensures.1
    (refused c.args.project.now c.args.defs.now (plain_over skel files c.args.project.now)
    c.in_err-skeletons.field-0.0 old new
    (found_plain c.args.project.now (Err c.in_err-skeletons.field-0.0) old new good
    (c.in_err-skeletons.ensures.finds files is)))

pub returns-in_err-plan-clause-plans : goal.returns-in_err-plan-clause-plans
returns-in_err-plan-clause-plans g c = λ files is.
    let skel = g.C.Compiler.defines.skel in
    let old = g.C.Compiler.asked_skeletons c.args.compiler.now in
    let new = g.C.Compiler.asked_skeletons c.find_skeletons.new.compiler in
    passed c.from_residual-in_err-plan.result (of_fault c.in_err-plan.field-0.0)
    (λ r. Plans r (plan_over skel files c.args.project.now c.args.defs.now) old new)
    c.from_residual-in_err-plan.ensures.1
    (unplanned c.args.project.now c.args.defs.now (skeletons_over skel files c.args.project.now)
    c.in_ok-skeletons.skeletons c.in_err-plan.field-0.0 old new (c.in_ok-skeletons.ensures.finds files is)
    c.in_err-plan.ensures.gives)

pub returns-in_err-plan-clause-plain : goal.returns-in_err-plan-clause-plain
returns-in_err-plan-clause-plain g c = λ files is known good.
    let skel = g.C.Compiler.defines.skel in
    let old = g.C.Compiler.asked_skeletons c.args.compiler.now in
    let new = g.C.Compiler.asked_skeletons c.find_skeletons.new.compiler in
    passed c.from_residual-in_err-plan.result (of_fault c.in_err-plan.field-0.0)
    (λ r. Plans r (plain_plan skel files c.args.project.now c.args.defs.now) old new)
    c.from_residual-in_err-plan.ensures.1
    (unplanned c.args.project.now c.args.defs.now (plain_over skel files c.args.project.now)
    c.in_ok-skeletons.skeletons c.in_err-plan.field-0.0 old new
    (found_plain c.args.project.now (Ok c.in_ok-skeletons.skeletons) old new good
    (c.in_ok-skeletons.ensures.finds files is))
    c.in_err-plan.ensures.gives)

pub returns-clause-plans : goal.returns-clause-plans
returns-clause-plans g c = λ files is.
    planned c.args.project.now c.args.defs.now (skeletons_over g.C.Compiler.defines.skel files c.args.project.now)
    c.in_ok-skeletons.skeletons c.in_ok-plan.plan (g.C.Compiler.asked_skeletons c.args.compiler.now)
    (g.C.Compiler.asked_skeletons c.find_skeletons.new.compiler) (c.in_ok-skeletons.ensures.finds files is)
    c.in_ok-plan.ensures.gives

pub returns-clause-plain : goal.returns-clause-plain
returns-clause-plain g c = λ files is known good.
    let old = g.C.Compiler.asked_skeletons c.args.compiler.now in
    let new = g.C.Compiler.asked_skeletons c.find_skeletons.new.compiler in
    planned c.args.project.now c.args.defs.now (plain_over g.C.Compiler.defines.skel files c.args.project.now)
    c.in_ok-skeletons.skeletons c.in_ok-plan.plan old new
    (found_plain c.args.project.now (Ok c.in_ok-skeletons.skeletons) old new good
    (c.in_ok-skeletons.ensures.finds files is))
    c.in_ok-plan.ensures.gives

pub returns-clause-lawful : goal.returns-clause-lawful
returns-clause-lawful g c = λ files is known good.
    planned_lawful c.args.project.now c.in_ok-skeletons.skeletons c.in_ok-plan.plan
    (g.C.Compiler.asked_skeletons c.args.compiler.now) (g.C.Compiler.asked_skeletons c.find_skeletons.new.compiler) good
    (c.in_ok-skeletons.ensures.finds files is) c.in_ok-plan.ensures.skeletons

pub returns-clause-short : goal.returns-clause-short
returns-clause-short g c =
    subst (All IsShortSkeleton) (sym c.in_ok-plan.ensures.skeletons) c.in_ok-skeletons.ensures.short

pub returns-clause-names : goal.returns-clause-names
returns-clause-names g c =
    plan_short c.args.project.now c.in_ok-skeletons.skeletons c.args.defs.now c.in_ok-plan.plan
    c.in_ok-skeletons.ensures.short c.in_ok-plan.ensures.gives
