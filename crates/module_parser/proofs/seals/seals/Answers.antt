use Rattle.std.proofs.Common.{◌≡◌, ◌-◌, sym}
use Rattle.grammars.specs.Reading.{read}
use Rattle.signature_parser.specs.SigLevels.{sig_level}
use Rattle.module_parser.specs.Structures.{seals}
use Rattle.signature_parser.proofs.SigSteps.{as_result}
use Rattle.module_parser.proofs.StrSteps.{seals_kept, seals_stops}
use Rattle.module_parser.proofs.seals.seals.Goals as goal

pub returns-in_err-left : goal.returns-in_err-left
returns-in_err-left c =
    let n = c.args.levels in
    let sig = (sig_level (n - 1)).sig in
    let target = read (seals n sig c.args.place c.args.left) c.args.lexemes.now.rest.now in
    let why = c.in_err-left.field-0.0 in
    let left = c.seal_of.new.lexemes.rest.now in
    as_result target why c.from_residual.result left c.from_residual.ensures.1
    (seals_stops n sig c.args.place c.loop-mark.left c.in-Some.mark.now why c.loop-mark.lexemes.rest.now left target
    (sym c.in-Some.ensures) (rw c.take.ensures at c.in_err-left.ensures) c.loop-mark.invariant)

pub loop-mark-preserved : goal.loop-mark-preserved
loop-mark-preserved c =
    let n = c.args.levels in
    let sig = (sig_level (n - 1)).sig in
    let target = read (seals n sig c.args.place c.args.left) c.args.lexemes.now.rest.now in
    seals_kept n sig c.args.place c.loop-mark.left c.in_ok-left.left c.in-Some.mark.now c.loop-mark.lexemes.rest.now
    c.seal_of.new.lexemes.rest.now target (sym c.in-Some.ensures) (rw c.take.ensures at c.in_ok-left.ensures)
    c.loop-mark.invariant
