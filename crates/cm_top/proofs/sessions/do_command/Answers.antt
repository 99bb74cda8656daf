use Rattle.std.proofs.Common.{◌∙◌, sym}
use Rattle.cm_base.specs.Definitions.{Definitions}
use Rattle.cm_base.specs.Files.{Files}
use Rattle.command_words.specs.Words.{call_of}
use Rattle.group_loader.specs.Loading.{states_by}
use Rattle.command_parts.specs.Performing.{state_of}
use Rattle.cm_top.specs.Performing.{rules_among}
use Rattle.cm_top.specs.Sessions.{of_line}
use Rattle.cm_top.specs.Ways.{plain_way, store_way}
use Rattle.cm_top.proofs.InTurn.{fault_does, line_does, stage}
use Rattle.cm_top.proofs.sessions.do_command.Goals as goal

pub returns-then-not-is_plain-clause-performs : goal.returns-then-not-is_plain-clause-performs
returns-then-not-is_plain-clause-performs g c =
    let by : Definitions = g.C.Compiler.defines in
    let t0 = states_by g.T.Tool.class g.T.Tool.rule g.T.Tool.ran g.T.Tool.faults c.args.tools.now in
    let t1 = states_by g.T.Tool.class g.T.Tool.rule g.T.Tool.ran g.T.Tool.faults c.run_words-status.new.tools in
    let rules = rules_among t0 in
    let call = call_of c.args.words.now in
    let s0 = state_of (g.S.Sink.written c.args.out.now) (g.F.Folder.holds c.args.folder.now)
    (g.C.Compiler.asked c.args.compiler.now) (g.C.Compiler.asked_skeletons c.args.compiler.now) in
    let s1 = state_of (g.S.Sink.written c.run_words-status.new.out) (g.F.Folder.holds c.run_words-status.new.folder)
    (g.C.Compiler.asked c.run_words-status.new.compiler) (g.C.Compiler.asked_skeletons c.run_words-status.new.compiler) in
    fault_does by (λ (files : Files). of_line (store_way by rules) files call)
    (λ (files : Files). of_line (plain_way by rules) files call) c.run_words-status.result (stage s0 t0) (stage s1 t1)
    (sym c.is_plain.ensures ∙ c.if-not-is_plain.true) c.run_words-status.ensures.performs

pub returns-clause-performs : goal.returns-clause-performs
returns-clause-performs g c =
    let by : Definitions = g.C.Compiler.defines in
    let t0 = states_by g.T.Tool.class g.T.Tool.rule g.T.Tool.ran g.T.Tool.faults c.args.tools.now in
    let t1 = states_by g.T.Tool.class g.T.Tool.rule g.T.Tool.ran g.T.Tool.faults c.run_words-status.new.tools in
    let rules = rules_among t0 in
    let call = call_of c.args.words.now in
    let s0 = state_of (g.S.Sink.written c.args.out.now) (g.F.Folder.holds c.args.folder.now)
    (g.C.Compiler.asked c.args.compiler.now) (g.C.Compiler.asked_skeletons c.args.compiler.now) in
    let s1 = state_of (g.S.Sink.written c.run_words-status.new.out) (g.F.Folder.holds c.run_words-status.new.folder)
    (g.C.Compiler.asked c.run_words-status.new.compiler) (g.C.Compiler.asked_skeletons c.run_words-status.new.compiler) in
    line_does by (λ (files : Files). of_line (store_way by rules) files call)
    (λ (files : Files). of_line (plain_way by rules) files call) c.run_words-status.result c.print_status.result (stage s0 t0)
    (stage s1 t1) (g.S.Sink.written c.print_status.new.out) (sym c.is_plain.ensures ∙ c.if-not-is_plain.false)
    c.run_words-status.ensures.performs c.print_status.ensures.prints
