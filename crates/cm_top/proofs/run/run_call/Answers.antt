use Rattle.std.proofs.Common.{◌≡◌, ◌∙◌, sym, subst, refl, map, Option, Some}
use Rattle.std.specs.Prelude.{string_bytes}
use Rattle.cm_base.specs.Definitions.{Definitions}
use Rattle.cm_base.specs.Files.{Files}
use Rattle.command_words.specs.Words.{call_of}
use Rattle.command_words.specs.declared.call.Call.{Call}
use Rattle.command_words.specs.declared.call.Call.TheVariants as call
use Rattle.group_loader.specs.Loading.{states_by}
use Rattle.command_parts.specs.Performing.{state_of}
use Rattle.command_parts.specs.Sessions.{KeepsTarget}
use Rattle.command_parts.specs.declared.status.Status.TheVariants as status
use Rattle.command_parts.proofs.Steps.{still_wanting, target_still}
use Rattle.cm_top.specs.Performing.{Performs, rules_among}
use Rattle.cm_top.specs.Sessions.{of_call}
use Rattle.cm_top.specs.Ways.{plain_way, store_way}
use Rattle.cm_top.proofs.Cuts.{call_cut}
use Rattle.cm_top.proofs.InTurn.{effects, stage, still_does}
use Rattle.cm_top.proofs.Steps.{usage_does}
use Rattle.cm_top.proofs.run.run_call.Goals as goal

pub returns-in-Ok-Some-Single-clause-performs : goal.returns-in-Ok-Some-Single-clause-performs
returns-in-Ok-Some-Single-clause-performs g c =
    let by : Definitions = g.C.Compiler.defines in
    let call : Some (call.Single c.in-Ok-Some-Single.command) ≡ call_of (map string_bytes c.args.words.now) =
    cc (c.in-Ok-Some-Single.field-0-is, c.in-Ok-Some-Single.field-0-0-is, c.in-Ok-Some-Single.ensures.is) in
    let t0 = states_by g.T.Tool.class g.T.Tool.rule g.T.Tool.ran g.T.Tool.faults c.args.tools.now in
    let t1 = states_by g.T.Tool.class g.T.Tool.rule g.T.Tool.ran g.T.Tool.faults c.run_command.new.tools in
    let s0 = state_of (g.S.Sink.written c.args.out.now) (g.F.Folder.holds c.args.folder.now)
    (g.C.Compiler.asked c.args.compiler.now) (g.C.Compiler.asked_skeletons c.args.compiler.now) in
    let s1 = state_of (g.S.Sink.written c.run_command.new.out) (g.F.Folder.holds c.run_command.new.folder)
    (g.C.Compiler.asked c.run_command.new.compiler) (g.C.Compiler.asked_skeletons c.run_command.new.compiler) in
    subst (λ (o : Option Call). Performs by (λ rules files. of_call (store_way by rules) files o)
    (λ rules files. of_call (plain_way by rules) files o) c.run_command.result (stage s0 t0) (stage s1 t1)) call
    c.run_command.ensures.performs

pub returns-in-Ok-Some-Single-clause-project : goal.returns-in-Ok-Some-Single-clause-project
returns-in-Ok-Some-Single-clause-project g c = λ files is.
    let call : Some (call.Single c.in-Ok-Some-Single.command) ≡ call_of (map string_bytes c.args.words.now) =
    cc (c.in-Ok-Some-Single.field-0-is, c.in-Ok-Some-Single.field-0-0-is, c.in-Ok-Some-Single.ensures.is) in
    let by : Definitions = g.C.Compiler.defines in
    let rules = rules_among (states_by g.T.Tool.class g.T.Tool.rule g.T.Tool.ran g.T.Tool.faults c.args.tools.now) in
    subst (λ (o : Option Call). KeepsTarget o (of_call (store_way by rules) files o).effect files
    (g.F.Folder.holds c.run_command.new.folder)) call
    (c.run_command.ensures.others files is)

pub returns-in-Ok-Some-Gen-clause-performs : goal.returns-in-Ok-Some-Gen-clause-performs
returns-in-Ok-Some-Gen-clause-performs g c =
    let by : Definitions = g.C.Compiler.defines in
    let call : Some (call.Gen c.in-Ok-Some-Gen.n) ≡ call_of (map string_bytes c.args.words.now) =
    cc (c.in-Ok-Some-Gen.field-0-is, c.in-Ok-Some-Gen.field-0-0-is, c.in-Ok-Some-Gen.ensures.is) in
    let t0 = states_by g.T.Tool.class g.T.Tool.rule g.T.Tool.ran g.T.Tool.faults c.args.tools.now in
    let t1 = states_by g.T.Tool.class g.T.Tool.rule g.T.Tool.ran g.T.Tool.faults c.generate.new.tools in
    let s0 = state_of (g.S.Sink.written c.args.out.now) (g.F.Folder.holds c.args.folder.now)
    (g.C.Compiler.asked c.args.compiler.now) (g.C.Compiler.asked_skeletons c.args.compiler.now) in
    let s1 = state_of (g.S.Sink.written c.generate.new.out) (g.F.Folder.holds c.generate.new.folder)
    (g.C.Compiler.asked c.generate.new.compiler) (g.C.Compiler.asked_skeletons c.generate.new.compiler) in
    subst (λ (o : Option Call). Performs by (λ rules files. of_call (store_way by rules) files o)
    (λ rules files. of_call (plain_way by rules) files o) c.generate.result (stage s0 t0) (stage s1 t1)) call
    c.generate.ensures.performs

pub returns-in-Ok-Some-Gen-clause-project : goal.returns-in-Ok-Some-Gen-clause-project
returns-in-Ok-Some-Gen-clause-project g c = λ files is.
    let call : Some (call.Gen c.in-Ok-Some-Gen.n) ≡ call_of (map string_bytes c.args.words.now) =
    cc (c.in-Ok-Some-Gen.field-0-is, c.in-Ok-Some-Gen.field-0-0-is, c.in-Ok-Some-Gen.ensures.is) in
    let by : Definitions = g.C.Compiler.defines in
    let rules = rules_among (states_by g.T.Tool.class g.T.Tool.rule g.T.Tool.ran g.T.Tool.faults c.args.tools.now) in
    subst (λ (o : Option Call). KeepsTarget o (of_call (store_way by rules) files o).effect files
    (g.F.Folder.holds c.generate.new.folder)) call
    (c.generate.ensures.project files is)

pub returns-in-Ok-Some-Session-clause-performs : goal.returns-in-Ok-Some-Session-clause-performs
returns-in-Ok-Some-Session-clause-performs g c =
    let by : Definitions = g.C.Compiler.defines in
    let call : Some (call.Session c.in-Ok-Some-Session.file) ≡ call_of (map string_bytes c.args.words.now) =
    cc (c.in-Ok-Some-Session.field-0-is, c.in-Ok-Some-Session.field-0-0-is, c.in-Ok-Some-Session.ensures.is) in
    let t0 = states_by g.T.Tool.class g.T.Tool.rule g.T.Tool.ran g.T.Tool.faults c.args.tools.now in
    let t1 = states_by g.T.Tool.class g.T.Tool.rule g.T.Tool.ran g.T.Tool.faults c.session.new.tools in
    let s0 = state_of (g.S.Sink.written c.args.out.now) (g.F.Folder.holds c.args.folder.now)
    (g.C.Compiler.asked c.args.compiler.now) (g.C.Compiler.asked_skeletons c.args.compiler.now) in
    let s1 = state_of (g.S.Sink.written c.session.new.out) (g.F.Folder.holds c.session.new.folder)
    (g.C.Compiler.asked c.session.new.compiler) (g.C.Compiler.asked_skeletons c.session.new.compiler) in
    subst (λ (o : Option Call). Performs by (λ rules files. of_call (store_way by rules) files o)
    (λ rules files. of_call (plain_way by rules) files o) c.session.result (stage s0 t0) (stage s1 t1)) call
    c.session.ensures.performs

pub returns-in-Ok-None-clause-performs : goal.returns-in-Ok-None-clause-performs
returns-in-Ok-None-clause-performs g c =
    let by : Definitions = g.C.Compiler.defines in
    let t0 = states_by g.T.Tool.class g.T.Tool.rule g.T.Tool.ran g.T.Tool.faults c.args.tools.now in
    let s0 = state_of (g.S.Sink.written c.args.out.now) (g.F.Folder.holds c.args.folder.now)
    (g.C.Compiler.asked c.args.compiler.now) (g.C.Compiler.asked_skeletons c.args.compiler.now) in
    let new = g.S.Sink.written c.run_usage.new.out in
    let s1 = state_of new s0.holds s0.asked s0.skeletons in
    subst (λ (o : Option Call). Performs by (λ rules files. of_call (store_way by rules) files o)
    (λ rules files. of_call (plain_way by rules) files o) c.run_usage.result (stage s0 t0) (stage s1 t0))
    (sym c.in-Ok-None.field-0-is ∙ c.in-Ok-None.ensures.is)
    (usage_does by c.run_usage.result s0 t0 new c.run_usage.ensures.nothing c.run_usage.ensures.tool c.run_usage.ensures.ends)

pub returns-in-Err-clause-performs : goal.returns-in-Err-clause-performs
returns-in-Err-clause-performs g c =
    let by : Definitions = g.C.Compiler.defines in
    let t0 = states_by g.T.Tool.class g.T.Tool.rule g.T.Tool.ran g.T.Tool.faults c.args.tools.now in
    let s0 = state_of (g.S.Sink.written c.args.out.now) (g.F.Folder.holds c.args.folder.now)
    (g.C.Compiler.asked c.args.compiler.now) (g.C.Compiler.asked_skeletons c.args.compiler.now) in
    let rules = rules_among t0 in
    let doing = λ (files : Files). of_call (store_way by rules) files (call_of (map string_bytes c.args.words.now)) in
    let meant = λ (files : Files). of_call (plain_way by rules) files (call_of (map string_bytes c.args.words.now)) in
    still_does by doing meant status.NoMemory s0 s0 t0 (λ e. cc) (λ plain. plain)
    (still_wanting by (effects doing) (effects meant) s0 s0 refl refl refl refl
    (λ files. call_cut (store_way by rules) files (call_of (map string_bytes c.args.words.now)))
    (λ files. call_cut (plain_way by rules) files (call_of (map string_bytes c.args.words.now))))

pub returns-in-Ok-None-clause-project : goal.returns-in-Ok-None-clause-project
returns-in-Ok-None-clause-project g c = λ files is.
    target_still (call_of (map string_bytes c.args.words.now)) _ files (g.F.Folder.holds c.args.folder.now) is

pub returns-in-Err-clause-project : goal.returns-in-Err-clause-project
returns-in-Err-clause-project g c = λ files is.
    target_still (call_of (map string_bytes c.args.words.now)) _ files (g.F.Folder.holds c.args.folder.now) is
