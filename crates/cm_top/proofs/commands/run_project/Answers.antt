use Rattle.std.proofs.Common.{refl}
use Rattle.cm_base.specs.Definitions.{Definitions}
use Rattle.command_parts.specs.Performing.{state_of}
use Rattle.command_parts.specs.declared.work.WorkFault.TheVariants as fault
use Rattle.cm_top.proofs.Building.{built_failed, built_performs, built_wanting}
use Rattle.cm_top.proofs.commands.run_project.Goals as goal

pub returns-in-Ok-clause-performs : goal.returns-in-Ok-clause-performs
returns-in-Ok-clause-performs g c = λ outside.
    let by : Definitions = g.C.Compiler.defines in
    let s0 = state_of (g.S.Sink.written c.args.out.now) (g.F.Folder.holds c.args.folder.now)
    (g.C.Compiler.asked c.args.compiler.now) (g.C.Compiler.asked_skeletons c.args.compiler.now) in
    let s1 = state_of (g.S.Sink.written c.print_part.new.out) (g.F.Folder.holds c.build_project.new.folder)
    (g.C.Compiler.asked c.build_project.new.compiler) (g.C.Compiler.asked_skeletons c.build_project.new.compiler) in
    built_performs by c.args.part c.args.target.now c.args.defs.now c.args.project.now s0 s1 c.in-Ok.report
    c.print_part.result (c.in-Ok.ensures.does outside) c.in-Ok.ensures.skeletons c.in-Ok.ensures.unread
    c.print_part.ensures.prints

pub returns-in-Err-Folder-clause-performs : goal.returns-in-Err-Folder-clause-performs
returns-in-Err-Folder-clause-performs g c = λ outside.
    let by : Definitions = g.C.Compiler.defines in
    let s0 = state_of (g.S.Sink.written c.args.out.now) (g.F.Folder.holds c.args.folder.now)
    (g.C.Compiler.asked c.args.compiler.now) (g.C.Compiler.asked_skeletons c.args.compiler.now) in
    let s1 = state_of (g.S.Sink.written c.args.out.now) (g.F.Folder.holds c.build_project.new.folder)
    (g.C.Compiler.asked c.build_project.new.compiler) (g.C.Compiler.asked_skeletons c.build_project.new.compiler) in
    built_failed by c.args.part c.args.target.now c.args.defs.now c.args.project.now s0 s1 fault.Folder
    (λ files is. rw c.in-Err-Folder.field-0-is at (c.in-Err-Folder.ensures.does outside files is))
    c.in-Err-Folder.ensures.skeletons c.in-Err-Folder.ensures.unread refl

pub returns-in-Err-NoMemory-clause-performs : goal.returns-in-Err-NoMemory-clause-performs
returns-in-Err-NoMemory-clause-performs g c = λ outside.
    let by : Definitions = g.C.Compiler.defines in
    let s0 = state_of (g.S.Sink.written c.args.out.now) (g.F.Folder.holds c.args.folder.now)
    (g.C.Compiler.asked c.args.compiler.now) (g.C.Compiler.asked_skeletons c.args.compiler.now) in
    let s1 = state_of (g.S.Sink.written c.args.out.now) (g.F.Folder.holds c.build_project.new.folder)
    (g.C.Compiler.asked c.build_project.new.compiler) (g.C.Compiler.asked_skeletons c.build_project.new.compiler) in
    built_wanting by c.args.part c.args.target.now c.args.defs.now c.args.project.now s0 s1 fault.NoMemory
    (λ files is. rw c.in-Err-NoMemory.field-0-is at (c.in-Err-NoMemory.ensures.does outside files is))
    c.in-Err-NoMemory.ensures.skeletons c.in-Err-NoMemory.ensures.unread refl

pub returns-in-Ok-clause-others : goal.returns-in-Ok-clause-others
returns-in-Ok-clause-others g c = λ outside files is. (c.in-Ok.ensures.does outside files is).project

pub returns-in-Err-Folder-clause-others : goal.returns-in-Err-Folder-clause-others
returns-in-Err-Folder-clause-others g c = λ outside files is. (c.in-Err-Folder.ensures.does outside files is).project

pub returns-in-Err-NoMemory-clause-others : goal.returns-in-Err-NoMemory-clause-others
returns-in-Err-NoMemory-clause-others g c = λ outside files is. (c.in-Err-NoMemory.ensures.does outside files is).project
