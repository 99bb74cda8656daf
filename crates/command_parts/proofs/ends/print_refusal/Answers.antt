use Rattle.std.proofs.Common.{◌∙◌, refl}
use Rattle.cm_base.specs.Definitions.{Definitions}
use Rattle.command_parts.specs.Performing.{state_of}
use Rattle.command_parts.specs.Sessions.{refused}
use Rattle.command_parts.proofs.Ending.{nothing_printed}
use Rattle.command_parts.proofs.Steps.{refused_performs, still_wanting}
use Rattle.command_parts.proofs.ends.print_refusal.Goals as goal

pub returns-in-Ok-clause-performs : goal.returns-in-Ok-clause-performs
returns-in-Ok-clause-performs g c =
    let by : Definitions = g.C.Compiler.defines in
    let s0 = state_of (g.S.Sink.written c.args.out.now) (g.F.Folder.holds c.args.folder.now)
    (g.C.Compiler.asked c.args.compiler.now) (g.C.Compiler.asked_skeletons c.args.compiler.now) in
    refused_performs by c.args.diag.now s0 (g.S.Sink.written c.print.new.out) c.print.result c.as_slice.result.now
    (c.as_slice.ensures.value ∙ c.in-Ok.ensures) c.print.ensures.prints

pub returns-in-Err-clause-performs : goal.returns-in-Err-clause-performs
returns-in-Err-clause-performs g c =
    let by : Definitions = g.C.Compiler.defines in
    let s0 = state_of (g.S.Sink.written c.args.out.now) (g.F.Folder.holds c.args.folder.now)
    (g.C.Compiler.asked c.args.compiler.now) (g.C.Compiler.asked_skeletons c.args.compiler.now) in
    still_wanting by (λ files. refused files c.args.diag.now) (λ files. refused files c.args.diag.now) s0 s0
    refl refl refl refl (λ files. nothing_printed) (λ files. nothing_printed)
