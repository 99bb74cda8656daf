use Rattle.cm_base.specs.Definitions.{Definitions}
use Rattle.project_planning.specs.Buildable.{planned_units}
use Rattle.command_parts.specs.declared.work.WorkFault.TheVariants as fault
use Rattle.command_parts.proofs.Doing.{does_built, does_stopped, does_failed, does_wanting}
use Rattle.command_parts.proofs.work.build_plan.Goals as goal

pub returns-in-Ok-clause-does : goal.returns-in-Ok-clause-does
returns-in-Ok-clause-does g c = λ outside files is lawful.
    let by : Definitions = g.C.Compiler.defines in
    does_built by files c.args.target.now outside (planned_units c.args.project.now c.args.plan.now) (g.C.Compiler.asked c.args.compiler.now)
    (g.C.Compiler.asked c.build.new.compiler) c.requires.apart lawful c.in-Ok.built
    (g.F.Folder.holds c.build.new.folder) (g.F.Folder.holds c.finish.new.folder) c.finish.result
    (c.in-Ok.ensures.cuts files is) (c.in-Ok.ensures.builds files is) (c.build.ensures.project files is)
    c.finish.ensures.ends c.finish.ensures.touches

pub returns-in-Err-Stop-clause-does : goal.returns-in-Err-Stop-clause-does
returns-in-Err-Stop-clause-does g c = λ outside files is lawful.
    let by : Definitions = g.C.Compiler.defines in
    let cuts = rw c.in-Err-Stop.field-0-is at (c.in-Err-Stop.ensures.cuts files is) in
    let builds = rw c.in-Err-Stop.field-0-is at (c.in-Err-Stop.ensures.builds files is) in
    does_stopped by files c.args.target.now outside (planned_units c.args.project.now c.args.plan.now) (g.C.Compiler.asked c.args.compiler.now)
    (g.C.Compiler.asked c.build.new.compiler) c.requires.apart lawful c.in-Err-Stop.diag c.in-Err-Stop.done
    (g.F.Folder.holds c.build.new.folder) (g.F.Folder.holds c.finish-in-Err-Stop.new.folder) c.finish-in-Err-Stop.result
    cuts builds (c.build.ensures.project files is) c.finish-in-Err-Stop.ensures.ends c.finish-in-Err-Stop.ensures.touches

pub returns-in-Err-Folder-clause-does : goal.returns-in-Err-Folder-clause-does
returns-in-Err-Folder-clause-does g c = λ outside files is lawful.
    let by : Definitions = g.C.Compiler.defines in
    let cuts = rw c.in-Err-Folder.field-0-is at (c.in-Err-Folder.ensures.cuts files is) in
    let builds = rw c.in-Err-Folder.field-0-is at (c.in-Err-Folder.ensures.builds files is) in
    does_failed by files c.args.target.now outside (planned_units c.args.project.now c.args.plan.now) (g.C.Compiler.asked c.args.compiler.now)
    (g.C.Compiler.asked c.build.new.compiler) c.requires.apart lawful (g.F.Folder.holds c.build.new.folder)
    fault.Folder cuts builds (c.build.ensures.project files is)

pub returns-in-Err-NoMemory-clause-does : goal.returns-in-Err-NoMemory-clause-does
returns-in-Err-NoMemory-clause-does g c = λ outside files is lawful.
    let by : Definitions = g.C.Compiler.defines in
    let cuts = rw c.in-Err-NoMemory.field-0-is at (c.in-Err-NoMemory.ensures.cuts files is) in
    let builds = rw c.in-Err-NoMemory.field-0-is at (c.in-Err-NoMemory.ensures.builds files is) in
    does_wanting by files c.args.target.now outside (planned_units c.args.project.now c.args.plan.now) (g.C.Compiler.asked c.args.compiler.now)
    (g.C.Compiler.asked c.build.new.compiler) c.requires.apart lawful (g.F.Folder.holds c.build.new.folder)
    fault.NoMemory cuts builds (c.build.ensures.project files is)
