use Rattle.std.proofs.Common.{map, subst}
use Rattle.std.specs.Prelude.{string_bytes}
use Rattle.cm_base.specs.Causes.{Rose}
use Rattle.cm_base.specs.Definitions.{Definitions}
use Rattle.cm_base.specs.Derived.{ToolRules}
use Rattle.command_words.specs.Words.{call_of}
use Rattle.tool_deriving.specs.Toolboxes.{rules_of}
use Rattle.group_loader.specs.Loading.{Failed, states_by}
use Rattle.command_parts.specs.Performing.{between, state_of}
use Rattle.command_parts.specs.Sessions.{KeepsTarget}
use Rattle.cm_top.specs.Sessions.{doing_of_call, meaning_of_call}
use Rattle.cm_top.proofs.Calls.{by_box, completes}
use Rattle.cm_top.proofs.Counts.{box_rules}
use Rattle.cm_top.proofs.InTurn.{stage}
use Rattle.cm_top.proofs.run.run_cm.Goals as goal

pub returns-clause-tool : goal.returns-clause-tool
returns-clause-tool g c = c.run_call.ensures.performs.tools

pub returns-clause-does : goal.returns-clause-does
returns-clause-does g c = λ files is text before.
    let by : Definitions = g.C.Compiler.defines in
    let words = map string_bytes c.args.words.now in
    let t0 = states_by g.T.Tool.class g.T.Tool.rule g.T.Tool.ran g.T.Tool.faults c.args.tools.now in
    let t1 = states_by g.T.Tool.class g.T.Tool.rule g.T.Tool.ran g.T.Tool.faults c.run_call.new.tools in
    let s0 = state_of (g.S.Sink.written c.args.out.now) (g.F.Folder.holds c.args.folder.now)
    (g.C.Compiler.asked c.args.compiler.now) (g.C.Compiler.asked_skeletons c.args.compiler.now) in
    let s1 = state_of (g.S.Sink.written c.run_call.new.out) (g.F.Folder.holds c.run_call.new.folder)
    (g.C.Compiler.asked c.run_call.new.compiler) (g.C.Compiler.asked_skeletons c.run_call.new.compiler) in
    let all = by_box by words c.run_call.result (stage s0 t0) (stage s1 t1)
    (rules_of g.T.Tool.class g.T.Tool.rule c.args.tools.now)
    (box_rules g.T.Tool.class g.T.Tool.rule g.T.Tool.ran g.T.Tool.faults c.args.tools.now) c.run_call.ensures.performs in
    all.effect.does files is text before

pub returns-clause-runs : goal.returns-clause-runs
returns-clause-runs g c = λ files is.
    let by : Definitions = g.C.Compiler.defines in
    let words = map string_bytes c.args.words.now in
    let t0 = states_by g.T.Tool.class g.T.Tool.rule g.T.Tool.ran g.T.Tool.faults c.args.tools.now in
    let t1 = states_by g.T.Tool.class g.T.Tool.rule g.T.Tool.ran g.T.Tool.faults c.run_call.new.tools in
    let s0 = state_of (g.S.Sink.written c.args.out.now) (g.F.Folder.holds c.args.folder.now)
    (g.C.Compiler.asked c.args.compiler.now) (g.C.Compiler.asked_skeletons c.args.compiler.now) in
    let s1 = state_of (g.S.Sink.written c.run_call.new.out) (g.F.Folder.holds c.run_call.new.folder)
    (g.C.Compiler.asked c.run_call.new.compiler) (g.C.Compiler.asked_skeletons c.run_call.new.compiler) in
    let all = by_box by words c.run_call.result (stage s0 t0) (stage s1 t1)
    (rules_of g.T.Tool.class g.T.Tool.rule c.args.tools.now)
    (box_rules g.T.Tool.class g.T.Tool.rule g.T.Tool.ran g.T.Tool.faults c.args.tools.now) c.run_call.ensures.performs in
    all.runs files is

pub returns-clause-frame : goal.returns-clause-frame
returns-clause-frame g c = λ files is.
    let by : Definitions = g.C.Compiler.defines in
    let words = map string_bytes c.args.words.now in
    let t0 = states_by g.T.Tool.class g.T.Tool.rule g.T.Tool.ran g.T.Tool.faults c.args.tools.now in
    let t1 = states_by g.T.Tool.class g.T.Tool.rule g.T.Tool.ran g.T.Tool.faults c.run_call.new.tools in
    let s0 = state_of (g.S.Sink.written c.args.out.now) (g.F.Folder.holds c.args.folder.now)
    (g.C.Compiler.asked c.args.compiler.now) (g.C.Compiler.asked_skeletons c.args.compiler.now) in
    let s1 = state_of (g.S.Sink.written c.run_call.new.out) (g.F.Folder.holds c.run_call.new.folder)
    (g.C.Compiler.asked c.run_call.new.compiler) (g.C.Compiler.asked_skeletons c.run_call.new.compiler) in
    let all = by_box by words c.run_call.result (stage s0 t0) (stage s1 t1)
    (rules_of g.T.Tool.class g.T.Tool.rule c.args.tools.now)
    (box_rules g.T.Tool.class g.T.Tool.rule g.T.Tool.ran g.T.Tool.faults c.args.tools.now) c.run_call.ensures.performs in
    all.effect.frame files is

pub returns-clause-outside : goal.returns-clause-outside
returns-clause-outside g c = λ files is.
    let by : Definitions = g.C.Compiler.defines in
    let words = map string_bytes c.args.words.now in
    let t0 = states_by g.T.Tool.class g.T.Tool.rule g.T.Tool.ran g.T.Tool.faults c.args.tools.now in
    let t1 = states_by g.T.Tool.class g.T.Tool.rule g.T.Tool.ran g.T.Tool.faults c.run_call.new.tools in
    let s0 = state_of (g.S.Sink.written c.args.out.now) (g.F.Folder.holds c.args.folder.now)
    (g.C.Compiler.asked c.args.compiler.now) (g.C.Compiler.asked_skeletons c.args.compiler.now) in
    let s1 = state_of (g.S.Sink.written c.run_call.new.out) (g.F.Folder.holds c.run_call.new.folder)
    (g.C.Compiler.asked c.run_call.new.compiler) (g.C.Compiler.asked_skeletons c.run_call.new.compiler) in
    let all = by_box by words c.run_call.result (stage s0 t0) (stage s1 t1)
    (rules_of g.T.Tool.class g.T.Tool.rule c.args.tools.now)
    (box_rules g.T.Tool.class g.T.Tool.rule g.T.Tool.ran g.T.Tool.faults c.args.tools.now) c.run_call.ensures.performs in
    all.effect.outside files is

pub returns-clause-project : goal.returns-clause-project
returns-clause-project g c = λ files is.
    let by : Definitions = g.C.Compiler.defines in
    let words = map string_bytes c.args.words.now in
    subst (λ (rules : ToolRules). KeepsTarget (call_of words) (doing_of_call by rules words files).effect files
    (g.F.Folder.holds c.run_call.new.folder))
    (box_rules g.T.Tool.class g.T.Tool.rule g.T.Tool.ran g.T.Tool.faults c.args.tools.now)
    (c.run_call.ensures.project files is)

pub returns-clause-stays : goal.returns-clause-stays
returns-clause-stays g c = λ files is.
    let by : Definitions = g.C.Compiler.defines in
    let words = map string_bytes c.args.words.now in
    let t0 = states_by g.T.Tool.class g.T.Tool.rule g.T.Tool.ran g.T.Tool.faults c.args.tools.now in
    let t1 = states_by g.T.Tool.class g.T.Tool.rule g.T.Tool.ran g.T.Tool.faults c.run_call.new.tools in
    let s0 = state_of (g.S.Sink.written c.args.out.now) (g.F.Folder.holds c.args.folder.now)
    (g.C.Compiler.asked c.args.compiler.now) (g.C.Compiler.asked_skeletons c.args.compiler.now) in
    let s1 = state_of (g.S.Sink.written c.run_call.new.out) (g.F.Folder.holds c.run_call.new.folder)
    (g.C.Compiler.asked c.run_call.new.compiler) (g.C.Compiler.asked_skeletons c.run_call.new.compiler) in
    let all = by_box by words c.run_call.result (stage s0 t0) (stage s1 t1)
    (rules_of g.T.Tool.class g.T.Tool.rule c.args.tools.now)
    (box_rules g.T.Tool.class g.T.Tool.rule g.T.Tool.ran g.T.Tool.faults c.args.tools.now) c.run_call.ensures.performs in
    all.effect.stays files is

pub returns-clause-leaves : goal.returns-clause-leaves
returns-clause-leaves g c = λ files is.
    let by : Definitions = g.C.Compiler.defines in
    let words = map string_bytes c.args.words.now in
    let t0 = states_by g.T.Tool.class g.T.Tool.rule g.T.Tool.ran g.T.Tool.faults c.args.tools.now in
    let t1 = states_by g.T.Tool.class g.T.Tool.rule g.T.Tool.ran g.T.Tool.faults c.run_call.new.tools in
    let s0 = state_of (g.S.Sink.written c.args.out.now) (g.F.Folder.holds c.args.folder.now)
    (g.C.Compiler.asked c.args.compiler.now) (g.C.Compiler.asked_skeletons c.args.compiler.now) in
    let s1 = state_of (g.S.Sink.written c.run_call.new.out) (g.F.Folder.holds c.run_call.new.folder)
    (g.C.Compiler.asked c.run_call.new.compiler) (g.C.Compiler.asked_skeletons c.run_call.new.compiler) in
    let all = by_box by words c.run_call.result (stage s0 t0) (stage s1 t1)
    (rules_of g.T.Tool.class g.T.Tool.rule c.args.tools.now)
    (box_rules g.T.Tool.class g.T.Tool.rule g.T.Tool.ran g.T.Tool.faults c.args.tools.now) c.run_call.ensures.performs in
    all.effect.leaves files is

pub returns-clause-promise : goal.returns-clause-promise
returns-clause-promise g c = λ files is text before.
    let by : Definitions = g.C.Compiler.defines in
    let words = map string_bytes c.args.words.now in
    let t0 = states_by g.T.Tool.class g.T.Tool.rule g.T.Tool.ran g.T.Tool.faults c.args.tools.now in
    let t1 = states_by g.T.Tool.class g.T.Tool.rule g.T.Tool.ran g.T.Tool.faults c.run_call.new.tools in
    let s0 = state_of (g.S.Sink.written c.args.out.now) (g.F.Folder.holds c.args.folder.now)
    (g.C.Compiler.asked c.args.compiler.now) (g.C.Compiler.asked_skeletons c.args.compiler.now) in
    let s1 = state_of (g.S.Sink.written c.run_call.new.out) (g.F.Folder.holds c.run_call.new.folder)
    (g.C.Compiler.asked c.run_call.new.compiler) (g.C.Compiler.asked_skeletons c.run_call.new.compiler) in
    let all = by_box by words c.run_call.result (stage s0 t0) (stage s1 t1)
    (rules_of g.T.Tool.class g.T.Tool.rule c.args.tools.now)
    (box_rules g.T.Tool.class g.T.Tool.rule g.T.Tool.ran g.T.Tool.faults c.args.tools.now) c.run_call.ensures.performs in
    record { ends = (all.effect.promise files is text before).ends; ran = all.promise files is }

pub returns-clause-complete : goal.returns-clause-complete
returns-clause-complete g c = λ files is text before.
    let by : Definitions = g.C.Compiler.defines in
    let words = map string_bytes c.args.words.now in
    let t0 = states_by g.T.Tool.class g.T.Tool.rule g.T.Tool.ran g.T.Tool.faults c.args.tools.now in
    let t1 = states_by g.T.Tool.class g.T.Tool.rule g.T.Tool.ran g.T.Tool.faults c.run_call.new.tools in
    let s0 = state_of (g.S.Sink.written c.args.out.now) (g.F.Folder.holds c.args.folder.now)
    (g.C.Compiler.asked c.args.compiler.now) (g.C.Compiler.asked_skeletons c.args.compiler.now) in
    let s1 = state_of (g.S.Sink.written c.run_call.new.out) (g.F.Folder.holds c.run_call.new.folder)
    (g.C.Compiler.asked c.run_call.new.compiler) (g.C.Compiler.asked_skeletons c.run_call.new.compiler) in
    let all = by_box by words c.run_call.result (stage s0 t0) (stage s1 t1)
    (rules_of g.T.Tool.class g.T.Tool.rule c.args.tools.now)
    (box_rules g.T.Tool.class g.T.Tool.rule g.T.Tool.ran g.T.Tool.faults c.args.tools.now) c.run_call.ensures.performs in
    completes by files
    (meaning_of_call by (rules_of g.T.Tool.class g.T.Tool.rule c.args.tools.now) words files) c.run_call.result
    (between text s0 s1) t0 t1
    (Rose (g.F.Folder.faults c.args.folder.now) (g.F.Folder.faults c.run_call.new.folder))
    (Rose (g.S.Sink.faults c.args.out.now) (g.S.Sink.faults c.run_call.new.out)) (Failed t0 t1)
    c.run_call.ensures.folder.rose c.run_call.ensures.sink.rose c.run_call.ensures.performs.tools.cause
    (record { ends = (all.effect.promise files is text before).ends; ran = all.promise files is })
