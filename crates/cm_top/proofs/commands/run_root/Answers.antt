use Rattle.std.proofs.Common.{◌∙◌, ap, sym, subst}
use Rattle.std.specs.Prelude.{Result, Ok, Err}
use Rattle.cm_base.specs.Definitions.{Definitions}
use Rattle.cm_base.specs.Files.{Files}
use Rattle.cm_base.specs.declared.diag.Diag.{Diag}
use Rattle.cm_description.specs.declared.loaded.Project.{Project}
use Rattle.group_loader.specs.Loading.{states_by}
use Rattle.group_loader.specs.declared.fault.LoadFault.TheVariants as fault
use Rattle.group_loader.proofs.Ending.{tends_as}
use Rattle.command_parts.specs.Headline.{KeepsOthersOf}
use Rattle.command_parts.specs.Performing.{state_of}
use Rattle.command_parts.specs.ProjectBuild.{plain_way, store_way}
use Rattle.command_parts.specs.declared.status.Status.TheVariants as status
use Rattle.cm_top.specs.Meaning.{of_project}
use Rattle.cm_top.specs.Performing.{rules_among}
use Rattle.cm_top.proofs.InTurn.{lift_does, stage}
use Rattle.cm_top.proofs.Loading.{answered, answered_others, answered_same, blamed, cut_others, failed, others_then, wanting}
use Rattle.cm_top.proofs.Roots.{over, over_box, root_goes, root_stops}
use Rattle.cm_top.proofs.Steps.{refused_does, session_end, session_no_tool}
use Rattle.cm_top.proofs.commands.run_root.Goals as goal

pub returns-in-Ok-clause-performs : goal.returns-in-Ok-clause-performs
returns-in-Ok-clause-performs g c = λ outside.
    let by : Definitions = g.C.Compiler.defines in
    let t0 = states_by g.T.Tool.class g.T.Tool.rule g.T.Tool.ran g.T.Tool.faults c.args.tools.now in
    let t1 = states_by g.T.Tool.class g.T.Tool.rule g.T.Tool.ran g.T.Tool.faults c.load.new.tools in
    let rules = rules_among t0 in
    let works = λ (files : Files). (over by rules c.args.part c.args.target.now c.args.defs.now c.args.root.now files).work in
    let steps = over_box g.T.Tool.class g.T.Tool.rule g.T.Tool.ran g.T.Tool.faults c.args.tools.now c.args.defs.now
    c.args.root.now (Ok c.in-Ok.project) (g.F.Folder.holds c.args.folder.now) (g.F.Folder.holds c.load.new.folder) t1
    c.in-Ok.ensures.over in
    let s0 = state_of (g.S.Sink.written c.args.out.now) (g.F.Folder.holds c.args.folder.now)
    (g.C.Compiler.asked c.args.compiler.now) (g.C.Compiler.asked_skeletons c.args.compiler.now) in
    let m = state_of (g.S.Sink.written c.args.out.now) (g.F.Folder.holds c.load.new.folder)
    (g.C.Compiler.asked c.args.compiler.now) (g.C.Compiler.asked_skeletons c.args.compiler.now) in
    let s1 = state_of (g.S.Sink.written c.run_project.new.out) (g.F.Folder.holds c.run_project.new.folder)
    (g.C.Compiler.asked c.run_project.new.compiler) (g.C.Compiler.asked_skeletons c.run_project.new.compiler) in
    root_goes by rules c.args.part c.args.target.now c.args.defs.now c.args.root.now (stage s0 t0) (stage m t1) (stage s1 t1)
    c.run_project.result (Ok c.in-Ok.project) (λ files is. (steps files is).gives)
    (answered by works (g.S.Sink.written c.args.out.now)
    (g.C.Compiler.asked c.args.compiler.now) (g.C.Compiler.asked_skeletons c.args.compiler.now)
    (g.F.Folder.holds c.args.folder.now) (g.F.Folder.holds c.load.new.folder) t0 t1
    (λ files is. (steps files is).leads) c.load.ensures.tool (λ e. absurd cc))
    (lift_does by (of_project c.args.part (store_way by) c.args.target.now c.args.defs.now (Ok c.in-Ok.project))
    (of_project c.args.part (plain_way by) c.args.target.now c.args.defs.now (Ok c.in-Ok.project)) c.run_project.result m s1
    t1 c.run_project.ensures.tool (c.run_project.ensures.performs outside))

pub returns-in-Err-Diag-clause-performs : goal.returns-in-Err-Diag-clause-performs
returns-in-Err-Diag-clause-performs g c = λ outside.
    let by : Definitions = g.C.Compiler.defines in
    let t0 = states_by g.T.Tool.class g.T.Tool.rule g.T.Tool.ran g.T.Tool.faults c.args.tools.now in
    let t1 = states_by g.T.Tool.class g.T.Tool.rule g.T.Tool.ran g.T.Tool.faults c.load.new.tools in
    let rules = rules_among t0 in
    let works = λ (files : Files). (over by rules c.args.part c.args.target.now c.args.defs.now c.args.root.now files).work in
    let steps = over_box g.T.Tool.class g.T.Tool.rule g.T.Tool.ran g.T.Tool.faults c.args.tools.now c.args.defs.now
    c.args.root.now (Err (fault.Diag c.in-Err-Diag.diag)) (g.F.Folder.holds c.args.folder.now) (g.F.Folder.holds c.load.new.folder) t1
    (λ files is. rw c.in-Err-Diag.field-0-is at (c.in-Err-Diag.ensures.over files is)) in
    let s0 = state_of (g.S.Sink.written c.args.out.now) (g.F.Folder.holds c.args.folder.now)
    (g.C.Compiler.asked c.args.compiler.now) (g.C.Compiler.asked_skeletons c.args.compiler.now) in
    let m = state_of (g.S.Sink.written c.args.out.now) (g.F.Folder.holds c.load.new.folder)
    (g.C.Compiler.asked c.args.compiler.now) (g.C.Compiler.asked_skeletons c.args.compiler.now) in
    let s1 = state_of (g.S.Sink.written c.print_refusal.new.out) (g.F.Folder.holds c.load.new.folder)
    (g.C.Compiler.asked c.args.compiler.now) (g.C.Compiler.asked_skeletons c.args.compiler.now) in
    root_goes by rules c.args.part c.args.target.now c.args.defs.now c.args.root.now (stage s0 t0) (stage m t1) (stage s1 t1)
    c.print_refusal.result (Err c.in-Err-Diag.diag) (λ files is. (steps files is).gives)
    (answered by works (g.S.Sink.written c.args.out.now)
    (g.C.Compiler.asked c.args.compiler.now) (g.C.Compiler.asked_skeletons c.args.compiler.now)
    (g.F.Folder.holds c.args.folder.now) (g.F.Folder.holds c.load.new.folder) t0 t1
    (λ files is. (steps files is).leads) c.load.ensures.tool (λ e. absurd cc))
    (refused_does by c.in-Err-Diag.diag c.print_refusal.result m s1 t1 c.print_refusal.ensures.end
    (rw c.in-Err-Diag.field-0-is at c.print_refusal.ensures.performs))

pub returns-in-Err-Folder-clause-performs : goal.returns-in-Err-Folder-clause-performs
returns-in-Err-Folder-clause-performs g c = λ outside.
    let by : Definitions = g.C.Compiler.defines in
    let t0 = states_by g.T.Tool.class g.T.Tool.rule g.T.Tool.ran g.T.Tool.faults c.args.tools.now in
    let t1 = states_by g.T.Tool.class g.T.Tool.rule g.T.Tool.ran g.T.Tool.faults c.load.new.tools in
    let rules = rules_among t0 in
    let works = λ (files : Files). (over by rules c.args.part c.args.target.now c.args.defs.now c.args.root.now files).work in
    let steps = over_box g.T.Tool.class g.T.Tool.rule g.T.Tool.ran g.T.Tool.faults c.args.tools.now c.args.defs.now
    c.args.root.now (Err fault.Folder) (g.F.Folder.holds c.args.folder.now) (g.F.Folder.holds c.load.new.folder) t1
    (λ files is. rw c.in-Err-Folder.field-0-is at (c.in-Err-Folder.ensures.over files is)) in
    let s0 = state_of (g.S.Sink.written c.args.out.now) (g.F.Folder.holds c.args.folder.now)
    (g.C.Compiler.asked c.args.compiler.now) (g.C.Compiler.asked_skeletons c.args.compiler.now) in
    let s1 = state_of (g.S.Sink.written c.args.out.now) (g.F.Folder.holds c.load.new.folder)
    (g.C.Compiler.asked c.args.compiler.now) (g.C.Compiler.asked_skeletons c.args.compiler.now) in
    root_stops by rules c.args.part c.args.target.now c.args.defs.now c.args.root.now (stage s0 t0) (stage s1 t1)
    status.FolderFault (λ plain. plain)
    (failed by works (g.S.Sink.written c.args.out.now)
    (g.C.Compiler.asked c.args.compiler.now) (g.C.Compiler.asked_skeletons c.args.compiler.now)
    (g.F.Folder.holds c.args.folder.now) (g.F.Folder.holds c.load.new.folder) t0 t1
    (λ files is. (steps files is).cut) c.load.ensures.tool (λ e. absurd cc))

pub returns-in-Err-Tool-clause-performs : goal.returns-in-Err-Tool-clause-performs
returns-in-Err-Tool-clause-performs g c = λ outside.
    let by : Definitions = g.C.Compiler.defines in
    let t0 = states_by g.T.Tool.class g.T.Tool.rule g.T.Tool.ran g.T.Tool.faults c.args.tools.now in
    let t1 = states_by g.T.Tool.class g.T.Tool.rule g.T.Tool.ran g.T.Tool.faults c.load.new.tools in
    let rules = rules_among t0 in
    let works = λ (files : Files). (over by rules c.args.part c.args.target.now c.args.defs.now c.args.root.now files).work in
    let steps = over_box g.T.Tool.class g.T.Tool.rule g.T.Tool.ran g.T.Tool.faults c.args.tools.now c.args.defs.now
    c.args.root.now (Err fault.Tool) (g.F.Folder.holds c.args.folder.now) (g.F.Folder.holds c.load.new.folder) t1
    (λ files is. rw c.in-Err-Tool.field-0-is at (c.in-Err-Tool.ensures.over files is)) in
    let s0 = state_of (g.S.Sink.written c.args.out.now) (g.F.Folder.holds c.args.folder.now)
    (g.C.Compiler.asked c.args.compiler.now) (g.C.Compiler.asked_skeletons c.args.compiler.now) in
    let s1 = state_of (g.S.Sink.written c.args.out.now) (g.F.Folder.holds c.load.new.folder)
    (g.C.Compiler.asked c.args.compiler.now) (g.C.Compiler.asked_skeletons c.args.compiler.now) in
    root_stops by rules c.args.part c.args.target.now c.args.defs.now c.args.root.now (stage s0 t0) (stage s1 t1)
    status.ToolFault (λ plain. plain)
    (blamed by works (g.S.Sink.written c.args.out.now)
    (g.C.Compiler.asked c.args.compiler.now) (g.C.Compiler.asked_skeletons c.args.compiler.now)
    (g.F.Folder.holds c.args.folder.now) (g.F.Folder.holds c.load.new.folder) t0 t1
    (λ files is. (steps files is).cut) c.load.ensures.tool (λ e. c.in-Err-Tool.is ∙ ap (λ x. Err x) c.in-Err-Tool.field-0-is))

pub returns-in-Err-NoMemory-clause-performs : goal.returns-in-Err-NoMemory-clause-performs
returns-in-Err-NoMemory-clause-performs g c = λ outside.
    let by : Definitions = g.C.Compiler.defines in
    let t0 = states_by g.T.Tool.class g.T.Tool.rule g.T.Tool.ran g.T.Tool.faults c.args.tools.now in
    let t1 = states_by g.T.Tool.class g.T.Tool.rule g.T.Tool.ran g.T.Tool.faults c.load.new.tools in
    let rules = rules_among t0 in
    let works = λ (files : Files). (over by rules c.args.part c.args.target.now c.args.defs.now c.args.root.now files).work in
    let steps = over_box g.T.Tool.class g.T.Tool.rule g.T.Tool.ran g.T.Tool.faults c.args.tools.now c.args.defs.now
    c.args.root.now (Err fault.NoMemory) (g.F.Folder.holds c.args.folder.now) (g.F.Folder.holds c.load.new.folder) t1
    (λ files is. rw c.in-Err-NoMemory.field-0-is at (c.in-Err-NoMemory.ensures.over files is)) in
    let s0 = state_of (g.S.Sink.written c.args.out.now) (g.F.Folder.holds c.args.folder.now)
    (g.C.Compiler.asked c.args.compiler.now) (g.C.Compiler.asked_skeletons c.args.compiler.now) in
    let s1 = state_of (g.S.Sink.written c.args.out.now) (g.F.Folder.holds c.load.new.folder)
    (g.C.Compiler.asked c.args.compiler.now) (g.C.Compiler.asked_skeletons c.args.compiler.now) in
    root_stops by rules c.args.part c.args.target.now c.args.defs.now c.args.root.now (stage s0 t0) (stage s1 t1)
    status.NoMemory (λ plain. plain)
    (wanting by works (g.S.Sink.written c.args.out.now)
    (g.C.Compiler.asked c.args.compiler.now) (g.C.Compiler.asked_skeletons c.args.compiler.now)
    (g.F.Folder.holds c.args.folder.now) (g.F.Folder.holds c.load.new.folder) t0 t1
    (λ files is. (steps files is).cut) c.load.ensures.tool (λ e. absurd cc))

pub returns-in-Ok-clause-others : goal.returns-in-Ok-clause-others
returns-in-Ok-clause-others g c = λ outside files is.
    let by : Definitions = g.C.Compiler.defines in
    let t0 = states_by g.T.Tool.class g.T.Tool.rule g.T.Tool.ran g.T.Tool.faults c.args.tools.now in
    let t1 = states_by g.T.Tool.class g.T.Tool.rule g.T.Tool.ran g.T.Tool.faults c.load.new.tools in
    let rules = rules_among t0 in
    let works = λ (files : Files). (over by rules c.args.part c.args.target.now c.args.defs.now c.args.root.now files).work in
    let steps = over_box g.T.Tool.class g.T.Tool.rule g.T.Tool.ran g.T.Tool.faults c.args.tools.now c.args.defs.now
    c.args.root.now (Ok c.in-Ok.project) (g.F.Folder.holds c.args.folder.now) (g.F.Folder.holds c.load.new.folder) t1
    c.in-Ok.ensures.over in
    let here : Files = (works files).files in
    let now = (steps files is).leads.holds in
    let holds = g.F.Folder.holds c.run_project.new.folder in
    subst (λ (r : Result Project Diag). KeepsOthersOf (of_project c.args.part (store_way by) c.args.target.now c.args.defs.now
    r here) c.args.target.now files holds) (sym (steps files is).gives)
    (others_then _ c.args.target.now files here holds outside
    (answered_same by works (g.S.Sink.written c.args.out.now)
    (g.C.Compiler.asked c.args.compiler.now) (g.C.Compiler.asked_skeletons c.args.compiler.now)
    (g.F.Folder.holds c.args.folder.now) (g.F.Folder.holds c.load.new.folder) t0 t1
    (λ files is. (steps files is).leads) files is here now)
    (c.run_project.ensures.others outside here now))

pub returns-in-Err-Diag-clause-others : goal.returns-in-Err-Diag-clause-others
returns-in-Err-Diag-clause-others g c = λ outside files is.
    let by : Definitions = g.C.Compiler.defines in
    let t0 = states_by g.T.Tool.class g.T.Tool.rule g.T.Tool.ran g.T.Tool.faults c.args.tools.now in
    let t1 = states_by g.T.Tool.class g.T.Tool.rule g.T.Tool.ran g.T.Tool.faults c.load.new.tools in
    let rules = rules_among t0 in
    let works = λ (files : Files). (over by rules c.args.part c.args.target.now c.args.defs.now c.args.root.now files).work in
    let steps = over_box g.T.Tool.class g.T.Tool.rule g.T.Tool.ran g.T.Tool.faults c.args.tools.now c.args.defs.now
    c.args.root.now (Err (fault.Diag c.in-Err-Diag.diag)) (g.F.Folder.holds c.args.folder.now) (g.F.Folder.holds c.load.new.folder) t1
    (λ files is. rw c.in-Err-Diag.field-0-is at (c.in-Err-Diag.ensures.over files is)) in
    answered_others by works (g.S.Sink.written c.args.out.now)
    (g.C.Compiler.asked c.args.compiler.now) (g.C.Compiler.asked_skeletons c.args.compiler.now)
    (g.F.Folder.holds c.args.folder.now) (g.F.Folder.holds c.load.new.folder) t0 t1
    (λ files is. (steps files is).leads) _ c.args.target.now outside files is

pub returns-in-Err-Folder-clause-others : goal.returns-in-Err-Folder-clause-others
returns-in-Err-Folder-clause-others g c = λ outside files is.
    let by : Definitions = g.C.Compiler.defines in
    let t0 = states_by g.T.Tool.class g.T.Tool.rule g.T.Tool.ran g.T.Tool.faults c.args.tools.now in
    let t1 = states_by g.T.Tool.class g.T.Tool.rule g.T.Tool.ran g.T.Tool.faults c.load.new.tools in
    let rules = rules_among t0 in
    let works = λ (files : Files). (over by rules c.args.part c.args.target.now c.args.defs.now c.args.root.now files).work in
    let steps = over_box g.T.Tool.class g.T.Tool.rule g.T.Tool.ran g.T.Tool.faults c.args.tools.now c.args.defs.now
    c.args.root.now (Err fault.Folder) (g.F.Folder.holds c.args.folder.now) (g.F.Folder.holds c.load.new.folder) t1
    (λ files is. rw c.in-Err-Folder.field-0-is at (c.in-Err-Folder.ensures.over files is)) in
    cut_others by works (g.S.Sink.written c.args.out.now)
    (g.C.Compiler.asked c.args.compiler.now) (g.C.Compiler.asked_skeletons c.args.compiler.now)
    (g.F.Folder.holds c.args.folder.now) (g.F.Folder.holds c.load.new.folder) t0 t1
    (λ files is. (steps files is).cut) _ c.args.target.now outside files is

pub returns-in-Err-Tool-clause-others : goal.returns-in-Err-Tool-clause-others
returns-in-Err-Tool-clause-others g c = λ outside files is.
    let by : Definitions = g.C.Compiler.defines in
    let t0 = states_by g.T.Tool.class g.T.Tool.rule g.T.Tool.ran g.T.Tool.faults c.args.tools.now in
    let t1 = states_by g.T.Tool.class g.T.Tool.rule g.T.Tool.ran g.T.Tool.faults c.load.new.tools in
    let rules = rules_among t0 in
    let works = λ (files : Files). (over by rules c.args.part c.args.target.now c.args.defs.now c.args.root.now files).work in
    let steps = over_box g.T.Tool.class g.T.Tool.rule g.T.Tool.ran g.T.Tool.faults c.args.tools.now c.args.defs.now
    c.args.root.now (Err fault.Tool) (g.F.Folder.holds c.args.folder.now) (g.F.Folder.holds c.load.new.folder) t1
    (λ files is. rw c.in-Err-Tool.field-0-is at (c.in-Err-Tool.ensures.over files is)) in
    cut_others by works (g.S.Sink.written c.args.out.now)
    (g.C.Compiler.asked c.args.compiler.now) (g.C.Compiler.asked_skeletons c.args.compiler.now)
    (g.F.Folder.holds c.args.folder.now) (g.F.Folder.holds c.load.new.folder) t0 t1
    (λ files is. (steps files is).cut) _ c.args.target.now outside files is

pub returns-in-Err-NoMemory-clause-others : goal.returns-in-Err-NoMemory-clause-others
returns-in-Err-NoMemory-clause-others g c = λ outside files is.
    let by : Definitions = g.C.Compiler.defines in
    let t0 = states_by g.T.Tool.class g.T.Tool.rule g.T.Tool.ran g.T.Tool.faults c.args.tools.now in
    let t1 = states_by g.T.Tool.class g.T.Tool.rule g.T.Tool.ran g.T.Tool.faults c.load.new.tools in
    let rules = rules_among t0 in
    let works = λ (files : Files). (over by rules c.args.part c.args.target.now c.args.defs.now c.args.root.now files).work in
    let steps = over_box g.T.Tool.class g.T.Tool.rule g.T.Tool.ran g.T.Tool.faults c.args.tools.now c.args.defs.now
    c.args.root.now (Err fault.NoMemory) (g.F.Folder.holds c.args.folder.now) (g.F.Folder.holds c.load.new.folder) t1
    (λ files is. rw c.in-Err-NoMemory.field-0-is at (c.in-Err-NoMemory.ensures.over files is)) in
    cut_others by works (g.S.Sink.written c.args.out.now)
    (g.C.Compiler.asked c.args.compiler.now) (g.C.Compiler.asked_skeletons c.args.compiler.now)
    (g.F.Folder.holds c.args.folder.now) (g.F.Folder.holds c.load.new.folder) t0 t1
    (λ files is. (steps files is).cut) _ c.args.target.now outside files is

pub returns-in-Ok-clause-tools : goal.returns-in-Ok-clause-tools
returns-in-Ok-clause-tools g c =
    let t0 = states_by g.T.Tool.class g.T.Tool.rule g.T.Tool.ran g.T.Tool.faults c.args.tools.now in
    let t1 = states_by g.T.Tool.class g.T.Tool.rule g.T.Tool.ran g.T.Tool.faults c.load.new.tools in
    tends_as t0 t1 c.load.ensures.tool (λ e. absurd (c.run_project.ensures.tool e))

pub returns-in-Err-Diag-clause-tools : goal.returns-in-Err-Diag-clause-tools
returns-in-Err-Diag-clause-tools g c =
    let t0 = states_by g.T.Tool.class g.T.Tool.rule g.T.Tool.ran g.T.Tool.faults c.args.tools.now in
    let t1 = states_by g.T.Tool.class g.T.Tool.rule g.T.Tool.ran g.T.Tool.faults c.load.new.tools in
    tends_as t0 t1 c.load.ensures.tool (λ e. absurd (session_no_tool c.print_refusal.result c.print_refusal.ensures.end e))

pub returns-in-Err-Folder-clause-tools : goal.returns-in-Err-Folder-clause-tools
returns-in-Err-Folder-clause-tools g c =
    let t0 = states_by g.T.Tool.class g.T.Tool.rule g.T.Tool.ran g.T.Tool.faults c.args.tools.now in
    let t1 = states_by g.T.Tool.class g.T.Tool.rule g.T.Tool.ran g.T.Tool.faults c.load.new.tools in
    tends_as t0 t1 c.load.ensures.tool (λ e. absurd cc)

pub returns-in-Err-Tool-clause-tools : goal.returns-in-Err-Tool-clause-tools
returns-in-Err-Tool-clause-tools g c =
    let t0 = states_by g.T.Tool.class g.T.Tool.rule g.T.Tool.ran g.T.Tool.faults c.args.tools.now in
    let t1 = states_by g.T.Tool.class g.T.Tool.rule g.T.Tool.ran g.T.Tool.faults c.load.new.tools in
    tends_as t0 t1 c.load.ensures.tool (λ e. c.in-Err-Tool.is ∙ ap (λ x. Err x) c.in-Err-Tool.field-0-is)

pub returns-in-Err-NoMemory-clause-tools : goal.returns-in-Err-NoMemory-clause-tools
returns-in-Err-NoMemory-clause-tools g c =
    let t0 = states_by g.T.Tool.class g.T.Tool.rule g.T.Tool.ran g.T.Tool.faults c.args.tools.now in
    let t1 = states_by g.T.Tool.class g.T.Tool.rule g.T.Tool.ran g.T.Tool.faults c.load.new.tools in
    tends_as t0 t1 c.load.ensures.tool (λ e. absurd cc)

pub returns-in-Err-Diag-clause-end : goal.returns-in-Err-Diag-clause-end
returns-in-Err-Diag-clause-end g c = session_end c.print_refusal.result c.print_refusal.ensures.end
