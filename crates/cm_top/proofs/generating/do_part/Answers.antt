use Rattle.std.proofs.Common.{sym, refl, subst}
use Rattle.cm_base.specs.Calls.{WriteLeaves}
use Rattle.cm_base.specs.Definitions.{Definitions}
use Rattle.command_words.specs.Words.{command_of}
use Rattle.session_scripts.specs.declared.step.Step.{Step}
use Rattle.group_loader.specs.Loading.{states_by}
use Rattle.command_parts.specs.Generating.{IsPart}
use Rattle.command_parts.specs.Performing.{edit_end, state_of}
use Rattle.command_parts.specs.declared.status.Status.{Status}
use Rattle.cm_top.specs.Generating.{of_part}
use Rattle.cm_top.specs.Meaning.{of_words}
use Rattle.cm_top.specs.declared.printed.Printed.TheVariants as printed
use Rattle.cm_top.specs.Performing.{Performs}
use Rattle.cm_top.specs.Ways.{plain_way, store_way}
use Rattle.cm_top.proofs.InTurn.{stage}
use Rattle.cm_top.proofs.Steps.{remove_does, write_does}
use Rattle.cm_top.proofs.generating.do_part.Goals as goal

pub returns-in-Write-clause-performs : goal.returns-in-Write-clause-performs
returns-in-Write-clause-performs g c =
    let by : Definitions = g.C.Compiler.defines in
    let t0 = states_by g.T.Tool.class g.T.Tool.rule g.T.Tool.ran g.T.Tool.faults c.args.tools.now in
    let s0 = state_of (g.S.Sink.written c.args.out.now) (g.F.Folder.holds c.args.folder.now)
    (g.C.Compiler.asked c.args.compiler.now) (g.C.Compiler.asked_skeletons c.args.compiler.now) in
    let s1 = state_of (g.S.Sink.written c.args.out.now) (g.F.Folder.holds c.write.new.self)
    (g.C.Compiler.asked c.args.compiler.now) (g.C.Compiler.asked_skeletons c.args.compiler.now) in
    subst (λ (end : Status). Performs by (λ rules files. of_part (store_way by rules) files c.args.part.now)
    (λ rules files. of_part (plain_way by rules) files c.args.part.now) end (stage s0 t0) (stage s1 t0))
    (sym c.edit_end.ensures)
    (subst (λ (first : Step). Performs by (λ rules files. of_part (store_way by rules) files first)
    (λ rules files. of_part (plain_way by rules) files first) (edit_end c.write.result) (stage s0 t0) (stage s1 t0))
    (sym c.in-Write.is)
    (write_does by c.in-Write.path (subst IsPart c.in-Write.is c.requires) s0 s1 t0 refl refl refl c.in-Write.content
    c.write.result (subst (λ bytes. WriteLeaves c.write.result s0.holds s1.holds c.in-Write.path bytes)
    c.as_bytes.ensures c.write.ensures.leaves)))

pub returns-in-Remove-clause-performs : goal.returns-in-Remove-clause-performs
returns-in-Remove-clause-performs g c =
    let by : Definitions = g.C.Compiler.defines in
    let t0 = states_by g.T.Tool.class g.T.Tool.rule g.T.Tool.ran g.T.Tool.faults c.args.tools.now in
    let s0 = state_of (g.S.Sink.written c.args.out.now) (g.F.Folder.holds c.args.folder.now)
    (g.C.Compiler.asked c.args.compiler.now) (g.C.Compiler.asked_skeletons c.args.compiler.now) in
    let s1 = state_of (g.S.Sink.written c.args.out.now) (g.F.Folder.holds c.remove.new.self)
    (g.C.Compiler.asked c.args.compiler.now) (g.C.Compiler.asked_skeletons c.args.compiler.now) in
    subst (λ (end : Status). Performs by (λ rules files. of_part (store_way by rules) files c.args.part.now)
    (λ rules files. of_part (plain_way by rules) files c.args.part.now) end (stage s0 t0) (stage s1 t0))
    (sym c.edit_end-in-Remove.ensures)
    (subst (λ (first : Step). Performs by (λ rules files. of_part (store_way by rules) files first)
    (λ rules files. of_part (plain_way by rules) files first) (edit_end c.remove.result) (stage s0 t0) (stage s1 t0))
    (sym c.in-Remove.is)
    (remove_does by c.in-Remove.path (subst IsPart c.in-Remove.is c.requires) s0 s1 t0 refl refl refl c.remove.result
    c.remove.ensures.leaves))

pub returns-in-Command-clause-performs : goal.returns-in-Command-clause-performs
returns-in-Command-clause-performs g c =
    let by : Definitions = g.C.Compiler.defines in
    let t0 = states_by g.T.Tool.class g.T.Tool.rule g.T.Tool.ran g.T.Tool.faults c.args.tools.now in
    let t1 = states_by g.T.Tool.class g.T.Tool.rule g.T.Tool.ran g.T.Tool.faults c.do_words.new.tools in
    let s0 = state_of (g.S.Sink.written c.args.out.now) (g.F.Folder.holds c.args.folder.now)
    (g.C.Compiler.asked c.args.compiler.now) (g.C.Compiler.asked_skeletons c.args.compiler.now) in
    let s1 = state_of (g.S.Sink.written c.do_words.new.out) (g.F.Folder.holds c.do_words.new.folder)
    (g.C.Compiler.asked c.do_words.new.compiler) (g.C.Compiler.asked_skeletons c.do_words.new.compiler) in
    subst (λ (first : Step). Performs by (λ rules files. of_part (store_way by rules) files first)
    (λ rules files. of_part (plain_way by rules) files first) c.do_words.result (stage s0 t0) (stage s1 t1)) (sym c.in-Command.is)
    (subst (λ words. Performs by (λ rules files. of_words printed.LastLine (store_way by rules) files (command_of words))
    (λ rules files. of_words printed.LastLine (plain_way by rules) files (command_of words)) c.do_words.result (stage s0 t0) (stage s1 t1))
    c.as_slice.ensures c.do_words.ensures.performs)
