use Rattle.std.proofs.Common.{◌∙◌, sym, ap, subst, ℕ, List, Option}
use Rattle.std.specs.Prelude.{Ok, Err}
use Rattle.cm_base.specs.Definitions.{Definitions}
use Rattle.project_planning.specs.Buildable.{planned_units}
use Rattle.project_planning.specs.Planning.{plain_plan, plan_over}
use Rattle.command_parts.specs.Answers.{Does}
use Rattle.command_parts.specs.ProjectBuild.{units_of}
use Rattle.command_parts.specs.declared.work.WorkFault.TheVariants as fault
use Rattle.command_parts.proofs.Doing.{asks_all, does_nothing, does_refused, does_same, does_stopped_early}
use Rattle.command_parts.proofs.work.build_project.Goals as goal

pub returns-in-Ok-clause-does : goal.returns-in-Ok-clause-does
returns-in-Ok-clause-does g c = λ outside files is.
    let by : Definitions = g.C.Compiler.defines in
    let target : Option (List ℕ) = c.args.target.now in
    let units = units_of c.args.project.now in
    does_same by files target (units (plan_over g.C.Compiler.defines.skel files c.args.project.now c.args.defs.now).result)
    (units (plain_plan g.C.Compiler.defines.skel files c.args.project.now c.args.defs.now).result)
    (Ok (planned_units c.args.project.now c.in-Ok.plan)) c.build_plan.result (g.F.Folder.holds c.build_plan.new.folder)
    (g.C.Compiler.asked c.args.compiler.now) (g.C.Compiler.asked c.build_plan.new.compiler)
    (ap units (c.in-Ok.ensures.plans files is).gives)
    (λ known good. ap units (c.in-Ok.ensures.plain files is known good).gives)
    (subst (λ asked. Does by files target (Ok (planned_units c.args.project.now c.in-Ok.plan))
    (Ok (planned_units c.args.project.now c.in-Ok.plan)) c.build_plan.result
    (g.F.Folder.holds c.build_plan.new.folder) asked (g.C.Compiler.asked c.build_plan.new.compiler))
    c.make_plan.ensures.same
    (c.build_plan.ensures.does outside files (c.make_plan.ensures.holds ∙ is)
    (λ known good. c.in-Ok.ensures.lawful files is known good)))

pub returns-in_err-refused-in-Err-Diag-clause-does : goal.returns-in_err-refused-in-Err-Diag-clause-does
returns-in_err-refused-in-Err-Diag-clause-does g c = λ outside files is.
    let by : Definitions = g.C.Compiler.defines in
    let target : Option (List ℕ) = c.args.target.now in
    let units = units_of c.args.project.now in
    let over = units (plan_over g.C.Compiler.defines.skel files c.args.project.now c.args.defs.now).result in
    let plain = units (plain_plan g.C.Compiler.defines.skel files c.args.project.now c.args.defs.now).result in
    subst (λ after. Does by files target over plain c.from_residual.result (g.F.Folder.holds c.make_plan.new.folder)
    (g.C.Compiler.asked c.args.compiler.now) after) (sym c.make_plan.ensures.same)
    (does_stopped_early by files target over plain c.from_residual.result _ (g.F.Folder.holds c.make_plan.new.folder)
    (g.C.Compiler.asked c.args.compiler.now) c.from_residual.ensures.1 (c.make_plan.ensures.holds ∙ is))

pub returns-in_ok-refused-in-Err-Diag-clause-does : goal.returns-in_ok-refused-in-Err-Diag-clause-does
returns-in_ok-refused-in-Err-Diag-clause-does g c = λ outside files is.
    let by : Definitions = g.C.Compiler.defines in
    let target : Option (List ℕ) = c.args.target.now in
    let units = units_of c.args.project.now in
    let over = units (plan_over g.C.Compiler.defines.skel files c.args.project.now c.args.defs.now).result in
    let plain = units (plain_plan g.C.Compiler.defines.skel files c.args.project.now c.args.defs.now).result in
    let plans = rw c.in-Err-Diag.field-0-is at (c.in-Err-Diag.ensures.plans files is) in
    subst (λ after. Does by files target over plain (Ok c.in_ok-refused-in-Err-Diag.field-0)
    (g.F.Folder.holds c.make_plan.new.folder) (g.C.Compiler.asked c.args.compiler.now) after)
    (sym c.make_plan.ensures.same)
    (does_refused by files target over plain c.in-Err-Diag.diag c.in_ok-refused-in-Err-Diag.field-0
    (g.F.Folder.holds c.make_plan.new.folder) (g.C.Compiler.asked c.args.compiler.now) (ap units plans.gives)
    (λ known good. ap units (rw c.in-Err-Diag.field-0-is at (c.in-Err-Diag.ensures.plain files is known good)).gives)
    (c.make_plan.ensures.holds ∙ is)
    c.in_ok-refused-in-Err-Diag.ensures.status c.in_ok-refused-in-Err-Diag.ensures.text
    c.in_ok-refused-in-Err-Diag.ensures.last)

pub returns-in-Err-Folder-clause-does : goal.returns-in-Err-Folder-clause-does
returns-in-Err-Folder-clause-does g c = λ outside files is.
    let by : Definitions = g.C.Compiler.defines in
    let target : Option (List ℕ) = c.args.target.now in
    let units = units_of c.args.project.now in
    let over = units (plan_over g.C.Compiler.defines.skel files c.args.project.now c.args.defs.now).result in
    let plain = units (plain_plan g.C.Compiler.defines.skel files c.args.project.now c.args.defs.now).result in
    subst (λ after. Does by files target over plain (Err fault.Folder) (g.F.Folder.holds c.make_plan.new.folder)
    (g.C.Compiler.asked c.args.compiler.now) after) (sym c.make_plan.ensures.same)
    (does_nothing by files target over plain fault.Folder (g.F.Folder.holds c.make_plan.new.folder)
    (g.C.Compiler.asked c.args.compiler.now) (c.make_plan.ensures.holds ∙ is))

pub returns-in-Err-NoMemory-clause-does : goal.returns-in-Err-NoMemory-clause-does
returns-in-Err-NoMemory-clause-does g c = λ outside files is.
    let by : Definitions = g.C.Compiler.defines in
    let target : Option (List ℕ) = c.args.target.now in
    let units = units_of c.args.project.now in
    let over = units (plan_over g.C.Compiler.defines.skel files c.args.project.now c.args.defs.now).result in
    let plain = units (plain_plan g.C.Compiler.defines.skel files c.args.project.now c.args.defs.now).result in
    subst (λ after. Does by files target over plain (Err fault.NoMemory) (g.F.Folder.holds c.make_plan.new.folder)
    (g.C.Compiler.asked c.args.compiler.now) after) (sym c.make_plan.ensures.same)
    (does_nothing by files target over plain fault.NoMemory (g.F.Folder.holds c.make_plan.new.folder)
    (g.C.Compiler.asked c.args.compiler.now) (c.make_plan.ensures.holds ∙ is))

pub returns-in-Ok-clause-skeletons : goal.returns-in-Ok-clause-skeletons
returns-in-Ok-clause-skeletons g c = λ files is.
    asks_all c.build_plan.result (plan_over g.C.Compiler.defines.skel files c.args.project.now c.args.defs.now).asked
    (g.C.Compiler.asked_skeletons c.args.compiler.now) (g.C.Compiler.asked_skeletons c.build_plan.new.compiler)
    (c.build_plan.ensures.same ∙ (c.in-Ok.ensures.plans files is).asks)

pub returns-in-Ok-clause-unread : goal.returns-in-Ok-clause-unread
returns-in-Ok-clause-unread g c = λ files is known good.
    asks_all c.build_plan.result (plain_plan g.C.Compiler.defines.skel files c.args.project.now c.args.defs.now).asked
    (g.C.Compiler.asked_skeletons c.args.compiler.now) (g.C.Compiler.asked_skeletons c.build_plan.new.compiler)
    (c.build_plan.ensures.same ∙ (c.in-Ok.ensures.plain files is known good).asks)

pub returns-in-Err-Folder-clause-skeletons : goal.returns-in-Err-Folder-clause-skeletons
returns-in-Err-Folder-clause-skeletons g c = λ files is.
    (rw c.in-Err-Folder.field-0-is at (c.in-Err-Folder.ensures.plans files is)).asks

pub returns-in-Err-NoMemory-clause-skeletons : goal.returns-in-Err-NoMemory-clause-skeletons
returns-in-Err-NoMemory-clause-skeletons g c = λ files is.
    (rw c.in-Err-NoMemory.field-0-is at (c.in-Err-NoMemory.ensures.plans files is)).asks
