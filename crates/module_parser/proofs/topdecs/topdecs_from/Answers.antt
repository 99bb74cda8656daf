use Rattle.std.proofs.Common.{◌≡◌, sym}
use Rattle.grammars.specs.Reading.{read}
use Rattle.module_parser.specs.Units.{topdecs_from}
use Rattle.signature_parser.proofs.SigSteps.{as_result}
use Rattle.module_parser.proofs.TopSteps.{topdecs_kept, topdecs_stops}
use Rattle.module_parser.proofs.topdecs.topdecs_from.Goals as goal

pub returns-in_err-found : goal.returns-in_err-found
returns-in_err-found c =
    let n = c.args.levels in
    let target = read (topdecs_from n c.args.found) c.args.lexemes.now.rest.now in
    let why = c.in_err-found.field-0.0 in
    let left = c.top_round.new.lexemes.rest.now in
    as_result target why c.from_residual.result left c.from_residual.ensures.1
    (topdecs_stops n c.loop-first.found c.in-Some.first.now why c.loop-first.lexemes.rest.now left target
    (sym c.in-Some.ensures) (rw c.take.ensures at c.in_err-found.ensures) c.loop-first.invariant)

pub loop-first-preserved : goal.loop-first-preserved
loop-first-preserved c =
    let n = c.args.levels in
    let target = read (topdecs_from n c.args.found) c.args.lexemes.now.rest.now in
    topdecs_kept n c.loop-first.found c.in_ok-found.found c.in-Some.first.now c.loop-first.lexemes.rest.now
    c.top_round.new.lexemes.rest.now target (sym c.in-Some.ensures) (rw c.take.ensures at c.in_ok-found.ensures)
    c.loop-first.invariant
