use Rattle.std.proofs.Common.{◌∙◌, sym, refl, append-nil}
use Rattle.command_parts.specs.Headline.{run_of}
use Rattle.command_parts.specs.Meaning.{usage}
use Rattle.command_parts.specs.declared.status.Status.TheVariants as status
use Rattle.command_parts.proofs.Ending.{after_print, nothing_done, nothing_printed}
use Rattle.command_parts.proofs.ends.run_usage.Goals as goal

pub returns-in-Ok-clause-ends : goal.returns-in-Ok-clause-ends
returns-in-Ok-clause-ends g c = λ files is text before.
    after_print (usage files)
    (run_of text (g.S.Sink.written c.print.new.out) (g.F.Folder.holds c.args.folder.now)
    (g.C.Compiler.asked c.args.compiler.now) (g.C.Compiler.asked c.args.compiler.now)
    (g.C.Compiler.asked_skeletons c.args.compiler.now) (g.C.Compiler.asked_skeletons c.args.compiler.now))
    (g.S.Sink.written c.args.out.now) c.print.result status.Usage c.as_slice.result.now refl
    (c.as_slice.ensures.value ∙ c.in-Ok.ensures) before is
    (sym (append-nil (g.C.Compiler.asked c.args.compiler.now)))
    (sym (append-nil (g.C.Compiler.asked_skeletons c.args.compiler.now)))
    nothing_printed c.print.ensures.prints

pub returns-in-Err-clause-ends : goal.returns-in-Err-clause-ends
returns-in-Err-clause-ends g c = λ files is text before.
    nothing_done (usage files)
    (run_of text (g.S.Sink.written c.args.out.now) (g.F.Folder.holds c.args.folder.now)
    (g.C.Compiler.asked c.args.compiler.now) (g.C.Compiler.asked c.args.compiler.now)
    (g.C.Compiler.asked_skeletons c.args.compiler.now) (g.C.Compiler.asked_skeletons c.args.compiler.now))
    (g.S.Sink.written c.args.out.now) refl before refl refl nothing_printed
