use Rattle.std.proofs.Common.{◌≡◌, ◌∙◌, sym, Some, None, drop}
use Rattle.grammars.specs.Grammar.{head_or}
use Rattle.grammars.specs.Reading.{read}
use Rattle.signature_parser.specs.Joined.{bindings_from}
use Rattle.signature_parser.specs.Rounds.{next_begin}
use Rattle.signature_parser.specs.SigLevels.{sig_level, sig_below}
use Rattle.signature_parser.specs.Signatures.{sig_bind}
use Rattle.signature_parser.specs.Specifications.{is_spec_round, specs_from}
use Rattle.signature_parser.proofs.BoundSteps.{binding_kept, binding_stops}
use Rattle.signature_parser.proofs.SigSteps.{as_result, specs_kept, specs_stops}
use Rattle.signature_parser.proofs.sig_exps.+sigs.Goals as goal

pub sig_binds_from-returns-in_err-next : goal.sig_binds_from-returns-in_err-next
sig_binds_from-returns-in_err-next t c =
    let each = sig_bind (sig_level c.args.levels).sig c.args.mark in
    let target = read (bindings_from each c.args.found) c.args.lexemes.now.rest.now in
    let why = c.in_err-next.field-0.0 in
    let left = c.sig_bind.new.lexemes.rest.now in
    as_result target why c.from_residual-in_err-next.result left c.from_residual-in_err-next.ensures.1
    (binding_stops each c.loop-found.found c.in-Some.name why c.loop-found.lexemes.rest.now
    c.next_name.new.lexemes.rest.now left target (rw c.in-Some.is at c.in_ok-name.ensures) c.in_err-next.ensures
    c.loop-found.invariant)

pub sig_binds_from-loop-found-preserved : goal.sig_binds_from-loop-found-preserved
sig_binds_from-loop-found-preserved t c =
    let each = sig_bind (sig_level c.args.levels).sig c.args.mark in
    let target = read (bindings_from each c.args.found) c.args.lexemes.now.rest.now in
    rw c.in_ok-found.ensures
    (binding_kept each c.loop-found.found c.in-Some.name c.in_ok-next.next c.loop-found.lexemes.rest.now
    c.next_name.new.lexemes.rest.now c.sig_bind.new.lexemes.rest.now target (rw c.in-Some.is at c.in_ok-name.ensures)
    c.in_ok-next.ensures c.loop-found.invariant)

pub specs_from-returns-in_err-found : goal.specs_from-returns-in_err-found
specs_from-returns-in_err-found t c =
    let n = c.args.levels in
    let target = read (specs_from n (sig_below n) c.args.found) c.args.lexemes.now.rest.now in
    let why = c.in_err-found.field-0.0 in
    let left = c.spec_round.new.lexemes.rest.now in
    as_result target why c.from_residual.result left c.from_residual.ensures.1
    (specs_stops n (sig_below n) c.loop-first.found c.in-Some.first.now why c.loop-first.lexemes.rest.now left target
    (sym c.in-Some.ensures) (rw c.take.ensures at c.in_err-found.ensures) c.loop-first.invariant)

pub specs_from-loop-first-preserved : goal.specs_from-loop-first-preserved
specs_from-loop-first-preserved t c =
    let n = c.args.levels in
    let target = read (specs_from n (sig_below n) c.args.found) c.args.lexemes.now.rest.now in
    specs_kept n (sig_below n) c.loop-first.found c.in_ok-found.found c.in-Some.first.now c.loop-first.lexemes.rest.now
    c.spec_round.new.lexemes.rest.now target (sym c.in-Some.ensures) (rw c.take.ensures at c.in_ok-found.ensures)
    c.loop-first.invariant
