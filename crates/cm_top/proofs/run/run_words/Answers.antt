use Rattle.std.proofs.Common.{◌≡◌, ◌∙◌, ap, sym, subst, refl, Option, Some}
use Rattle.cm_base.specs.Definitions.{Definitions}
use Rattle.cm_base.specs.Files.{Files}
use Rattle.command_words.specs.Words.{call_of}
use Rattle.command_words.specs.declared.call.Call.{Call}
use Rattle.command_words.specs.declared.call.Call.TheVariants as call
use Rattle.group_loader.specs.Loading.{states_by}
use Rattle.command_parts.specs.Performing.{state_of}
use Rattle.command_parts.specs.declared.status.Status.TheVariants as status
use Rattle.command_parts.proofs.Steps.{still_wanting}
use Rattle.cm_top.specs.Performing.{Performs, rules_among}
use Rattle.cm_top.specs.Sessions.{of_line}
use Rattle.cm_top.specs.Ways.{plain_way, store_way}
use Rattle.cm_top.proofs.Cuts.{line_cut}
use Rattle.cm_top.proofs.InTurn.{effects, stage, still_does}
use Rattle.cm_top.proofs.Steps.{usage_does}
use Rattle.cm_top.proofs.run.run_words.Goals as goal

pub returns-in-Ok-Some-Single-clause-performs : goal.returns-in-Ok-Some-Single-clause-performs
returns-in-Ok-Some-Single-clause-performs g c =
    let by : Definitions = g.C.Compiler.defines in
    let call : Some (call.Single c.in-Ok-Some-Single.single) ≡ call_of c.args.words.now =
    cc (c.in-Ok-Some-Single.field-0-is, c.in-Ok-Some-Single.field-0-0-is, c.in-Ok-Some-Single.ensures.is) in
    let t0 = states_by g.T.Tool.class g.T.Tool.rule g.T.Tool.ran g.T.Tool.faults c.args.tools.now in
    let t1 = states_by g.T.Tool.class g.T.Tool.rule g.T.Tool.ran g.T.Tool.faults c.run_command.new.tools in
    let s0 = state_of (g.S.Sink.written c.args.out.now) (g.F.Folder.holds c.args.folder.now)
    (g.C.Compiler.asked c.args.compiler.now) (g.C.Compiler.asked_skeletons c.args.compiler.now) in
    let s1 = state_of (g.S.Sink.written c.run_command.new.out) (g.F.Folder.holds c.run_command.new.folder)
    (g.C.Compiler.asked c.run_command.new.compiler) (g.C.Compiler.asked_skeletons c.run_command.new.compiler) in
    subst (λ (o : Option Call). Performs by (λ rules files. of_line (store_way by rules) files o)
    (λ rules files. of_line (plain_way by rules) files o) c.run_command.result (stage s0 t0) (stage s1 t1)) call
    c.run_command.ensures.performs

pub returns-in-Ok-Some-Gen-clause-performs : goal.returns-in-Ok-Some-Gen-clause-performs
returns-in-Ok-Some-Gen-clause-performs g c =
    let by : Definitions = g.C.Compiler.defines in
    let call : Some (call.Gen c.in-Ok-Some-Gen.n) ≡ call_of c.args.words.now =
    cc (c.in-Ok-Some-Gen.field-0-is, c.in-Ok-Some-Gen.field-0-0-is, c.in-Ok-Some-Gen.ensures.is) in
    let t0 = states_by g.T.Tool.class g.T.Tool.rule g.T.Tool.ran g.T.Tool.faults c.args.tools.now in
    let t1 = states_by g.T.Tool.class g.T.Tool.rule g.T.Tool.ran g.T.Tool.faults c.generate.new.tools in
    let s0 = state_of (g.S.Sink.written c.args.out.now) (g.F.Folder.holds c.args.folder.now)
    (g.C.Compiler.asked c.args.compiler.now) (g.C.Compiler.asked_skeletons c.args.compiler.now) in
    let s1 = state_of (g.S.Sink.written c.generate.new.out) (g.F.Folder.holds c.generate.new.folder)
    (g.C.Compiler.asked c.generate.new.compiler) (g.C.Compiler.asked_skeletons c.generate.new.compiler) in
    subst (λ (o : Option Call). Performs by (λ rules files. of_line (store_way by rules) files o)
    (λ rules files. of_line (plain_way by rules) files o) c.generate.result (stage s0 t0) (stage s1 t1)) call
    c.generate.ensures.performs

pub returns-in-Ok-Some-Session-clause-performs : goal.returns-in-Ok-Some-Session-clause-performs
returns-in-Ok-Some-Session-clause-performs g c =
    let by : Definitions = g.C.Compiler.defines in
    let t0 = states_by g.T.Tool.class g.T.Tool.rule g.T.Tool.ran g.T.Tool.faults c.args.tools.now in
    let s0 = state_of (g.S.Sink.written c.args.out.now) (g.F.Folder.holds c.args.folder.now)
    (g.C.Compiler.asked c.args.compiler.now) (g.C.Compiler.asked_skeletons c.args.compiler.now) in
    let new = g.S.Sink.written c.run_usage.new.out in
    let s1 = state_of new s0.holds s0.asked s0.skeletons in
    subst (λ (o : Option Call). Performs by (λ rules files. of_line (store_way by rules) files o)
    (λ rules files. of_line (plain_way by rules) files o) c.run_usage.result (stage s0 t0) (stage s1 t0))
    (ap (λ (x : Call). Some x) (sym c.in-Ok-Some-Session.field-0-0-is) ∙ sym c.in-Ok-Some-Session.field-0-is
    ∙ c.in-Ok-Some-Session.ensures.is)
    (usage_does by c.run_usage.result s0 t0 new c.run_usage.ensures.nothing c.run_usage.ensures.tool c.run_usage.ensures.ends)

pub returns-in-Ok-None-clause-performs : goal.returns-in-Ok-None-clause-performs
returns-in-Ok-None-clause-performs g c =
    let by : Definitions = g.C.Compiler.defines in
    let t0 = states_by g.T.Tool.class g.T.Tool.rule g.T.Tool.ran g.T.Tool.faults c.args.tools.now in
    let s0 = state_of (g.S.Sink.written c.args.out.now) (g.F.Folder.holds c.args.folder.now)
    (g.C.Compiler.asked c.args.compiler.now) (g.C.Compiler.asked_skeletons c.args.compiler.now) in
    let new = g.S.Sink.written c.run_usage-in-Ok-None.new.out in
    let s1 = state_of new s0.holds s0.asked s0.skeletons in
    subst (λ (o : Option Call). Performs by (λ rules files. of_line (store_way by rules) files o)
    (λ rules files. of_line (plain_way by rules) files o) c.run_usage-in-Ok-None.result (stage s0 t0) (stage s1 t0))
    (sym c.in-Ok-None.field-0-is ∙ c.in-Ok-None.ensures.is)
    (usage_does by c.run_usage-in-Ok-None.result s0 t0 new c.run_usage-in-Ok-None.ensures.nothing c.run_usage-in-Ok-None.ensures.tool c.run_usage-in-Ok-None.ensures.ends)

pub returns-clause-performs : goal.returns-clause-performs
returns-clause-performs g c =
    let by : Definitions = g.C.Compiler.defines in
    let t0 = states_by g.T.Tool.class g.T.Tool.rule g.T.Tool.ran g.T.Tool.faults c.args.tools.now in
    let s0 = state_of (g.S.Sink.written c.args.out.now) (g.F.Folder.holds c.args.folder.now)
    (g.C.Compiler.asked c.args.compiler.now) (g.C.Compiler.asked_skeletons c.args.compiler.now) in
    let rules = rules_among t0 in
    let doing = λ (files : Files). of_line (store_way by rules) files (call_of c.args.words.now) in
    let meant = λ (files : Files). of_line (plain_way by rules) files (call_of c.args.words.now) in
    still_does by doing meant status.NoMemory s0 s0 t0 (λ e. cc) (λ plain. plain)
    (still_wanting by (effects doing) (effects meant) s0 s0 refl refl refl refl
    (λ files. line_cut (store_way by rules) files (call_of c.args.words.now))
    (λ files. line_cut (plain_way by rules) files (call_of c.args.words.now)))
