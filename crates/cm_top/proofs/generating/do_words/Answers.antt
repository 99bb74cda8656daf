use Rattle.std.proofs.Common.{◌∙◌, sym, subst, refl, Option}
use Rattle.cm_base.specs.Definitions.{Definitions}
use Rattle.cm_base.specs.Files.{Files}
use Rattle.command_words.specs.Words.{command_of}
use Rattle.command_words.specs.declared.command.Command.{Command}
use Rattle.group_loader.specs.Loading.{states_by}
use Rattle.command_parts.specs.Performing.{state_of}
use Rattle.command_parts.specs.declared.status.Status.TheVariants as status
use Rattle.command_parts.proofs.Steps.{still_wanting}
use Rattle.cm_top.specs.Meaning.{of_words}
use Rattle.cm_top.specs.Performing.{Performs, rules_among}
use Rattle.cm_top.specs.Ways.{plain_way, store_way}
use Rattle.cm_top.specs.declared.printed.Printed.TheVariants as printed
use Rattle.cm_top.proofs.Cuts.{words_cut}
use Rattle.cm_top.proofs.InTurn.{effects, stage, still_does}
use Rattle.cm_top.proofs.generating.do_words.Goals as goal

pub returns-in-Ok-Some-clause-performs : goal.returns-in-Ok-Some-clause-performs
returns-in-Ok-Some-clause-performs g c =
    let by : Definitions = g.C.Compiler.defines in
    let t0 = states_by g.T.Tool.class g.T.Tool.rule g.T.Tool.ran g.T.Tool.faults c.args.tools.now in
    let t1 = states_by g.T.Tool.class g.T.Tool.rule g.T.Tool.ran g.T.Tool.faults c.run_command.new.tools in
    let s0 = state_of (g.S.Sink.written c.args.out.now) (g.F.Folder.holds c.args.folder.now)
    (g.C.Compiler.asked c.args.compiler.now) (g.C.Compiler.asked_skeletons c.args.compiler.now) in
    let s1 = state_of (g.S.Sink.written c.run_command.new.out) (g.F.Folder.holds c.run_command.new.folder)
    (g.C.Compiler.asked c.run_command.new.compiler) (g.C.Compiler.asked_skeletons c.run_command.new.compiler) in
    subst (λ (o : Option Command). Performs by (λ rules files. of_words printed.LastLine (store_way by rules) files o)
    (λ rules files. of_words printed.LastLine (plain_way by rules) files o) c.run_command.result (stage s0 t0) (stage s1 t1))
    (sym c.in-Ok-Some.field-0-is ∙ c.in-Ok-Some.ensures) c.run_command.ensures.performs

pub returns-in-Ok-None : goal.returns-in-Ok-None
returns-in-Ok-None g c = absurd (c.requires (sym (sym c.in-Ok-None.field-0-is ∙ c.in-Ok-None.ensures)))

pub returns-in-Err-clause-performs : goal.returns-in-Err-clause-performs
returns-in-Err-clause-performs g c =
    let by : Definitions = g.C.Compiler.defines in
    let t0 = states_by g.T.Tool.class g.T.Tool.rule g.T.Tool.ran g.T.Tool.faults c.args.tools.now in
    let s0 = state_of (g.S.Sink.written c.args.out.now) (g.F.Folder.holds c.args.folder.now)
    (g.C.Compiler.asked c.args.compiler.now) (g.C.Compiler.asked_skeletons c.args.compiler.now) in
    let rules = rules_among t0 in
    let doing = λ (files : Files). of_words printed.LastLine (store_way by rules) files (command_of c.args.words.now) in
    let meant = λ (files : Files). of_words printed.LastLine (plain_way by rules) files (command_of c.args.words.now) in
    still_does by doing meant status.NoMemory s0 s0 t0 (λ e. cc) (λ plain. plain)
    (still_wanting by (effects doing) (effects meant) s0 s0 refl refl refl refl
    (λ files. words_cut printed.LastLine (store_way by rules) files (command_of c.args.words.now))
    (λ files. words_cut printed.LastLine (plain_way by rules) files (command_of c.args.words.now)))
