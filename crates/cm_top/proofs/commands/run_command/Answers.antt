use Rattle.std.proofs.Common.{sym, subst}
use Rattle.cm_base.specs.Definitions.{Definitions}
use Rattle.command_words.specs.declared.command.Command.{Command}
use Rattle.group_loader.specs.Loading.{states_by}
use Rattle.command_parts.specs.Headline.{KeepsOthersOf}
use Rattle.command_parts.specs.Performing.{state_of}
use Rattle.command_parts.specs.Targets.{target_of}
use Rattle.cm_top.specs.Meaning.{of_command}
use Rattle.cm_top.specs.Performing.{Performs, rules_among}
use Rattle.cm_top.specs.Ways.{plain_way, store_way}
use Rattle.cm_top.proofs.InTurn.{stage}
use Rattle.cm_top.proofs.commands.run_command.Goals as goal

pub returns-in-Build-clause-performs : goal.returns-in-Build-clause-performs
returns-in-Build-clause-performs g c =
    let by : Definitions = g.C.Compiler.defines in
    let t0 = states_by g.T.Tool.class g.T.Tool.rule g.T.Tool.ran g.T.Tool.faults c.args.tools.now in
    let t1 = states_by g.T.Tool.class g.T.Tool.rule g.T.Tool.ran g.T.Tool.faults c.run_root.new.tools in
    let s0 = state_of (g.S.Sink.written c.args.out.now) (g.F.Folder.holds c.args.folder.now)
    (g.C.Compiler.asked c.args.compiler.now) (g.C.Compiler.asked_skeletons c.args.compiler.now) in
    let s1 = state_of (g.S.Sink.written c.run_root.new.out) (g.F.Folder.holds c.run_root.new.folder)
    (g.C.Compiler.asked c.run_root.new.compiler) (g.C.Compiler.asked_skeletons c.run_root.new.compiler) in
    subst (λ (command : Command). Performs by
    (λ rules files. of_command c.args.part (store_way by rules) files command)
    (λ rules files. of_command c.args.part (plain_way by rules) files command) c.run_root.result (stage s0 t0) (stage s1 t1))
    (sym c.in-Build.is) (c.run_root.ensures.performs tt)

pub returns-in-Link-clause-performs : goal.returns-in-Link-clause-performs
returns-in-Link-clause-performs g c =
    let by : Definitions = g.C.Compiler.defines in
    let t0 = states_by g.T.Tool.class g.T.Tool.rule g.T.Tool.ran g.T.Tool.faults c.args.tools.now in
    let t1 = states_by g.T.Tool.class g.T.Tool.rule g.T.Tool.ran g.T.Tool.faults c.run_link.new.tools in
    let s0 = state_of (g.S.Sink.written c.args.out.now) (g.F.Folder.holds c.args.folder.now)
    (g.C.Compiler.asked c.args.compiler.now) (g.C.Compiler.asked_skeletons c.args.compiler.now) in
    let s1 = state_of (g.S.Sink.written c.run_link.new.out) (g.F.Folder.holds c.run_link.new.folder)
    (g.C.Compiler.asked c.run_link.new.compiler) (g.C.Compiler.asked_skeletons c.run_link.new.compiler) in
    subst (λ (command : Command). Performs by
    (λ rules files. of_command c.args.part (store_way by rules) files command)
    (λ rules files. of_command c.args.part (plain_way by rules) files command) c.run_link.result (stage s0 t0) (stage s1 t1))
    (sym c.in-Link.is) (c.run_link.ensures.performs)

pub returns-in-Build-clause-others : goal.returns-in-Build-clause-others
returns-in-Build-clause-others g c = λ files is.
    let by : Definitions = g.C.Compiler.defines in
    let rules = rules_among (states_by g.T.Tool.class g.T.Tool.rule g.T.Tool.ran g.T.Tool.faults c.args.tools.now) in
    subst (λ (command : Command). KeepsOthersOf (of_command c.args.part (store_way by rules) files command).effect
    (target_of files command) files (g.F.Folder.holds c.run_root.new.folder))
    (sym c.in-Build.is) (c.run_root.ensures.others tt files is)

pub returns-in-Link-clause-others : goal.returns-in-Link-clause-others
returns-in-Link-clause-others g c = λ files is.
    let by : Definitions = g.C.Compiler.defines in
    let rules = rules_among (states_by g.T.Tool.class g.T.Tool.rule g.T.Tool.ran g.T.Tool.faults c.args.tools.now) in
    subst (λ (command : Command). KeepsOthersOf (of_command c.args.part (store_way by rules) files command).effect
    (target_of files command) files (g.F.Folder.holds c.run_link.new.folder))
    (sym c.in-Link.is) (c.run_link.ensures.others files is)
