use Rattle.std.proofs.Common.{◌≡◌}
use Rattle.grammars.specs.Reading.{read}
use Rattle.module_parser.specs.Functors.{funsig_bind}
use Rattle.signature_parser.specs.Joined.{bindings_from}
use Rattle.signature_parser.proofs.BoundSteps.{binding_kept, binding_stops}
use Rattle.signature_parser.proofs.SigSteps.{as_result}
use Rattle.module_parser.proofs.functors.funsig_binds_from.Goals as goal

pub returns-in_err-next : goal.returns-in_err-next
returns-in_err-next c =
    let each = funsig_bind c.args.levels in
    let target = read (bindings_from each c.args.found) c.args.lexemes.now.rest.now in
    let why = c.in_err-next.field-0.0 in
    let left = c.funsig_bind.new.lexemes.rest.now in
    as_result target why c.from_residual-in_err-next.result left c.from_residual-in_err-next.ensures.1
    (binding_stops each c.loop-found.found c.in-Some.name why c.loop-found.lexemes.rest.now
    c.next_name.new.lexemes.rest.now left target (rw c.in-Some.is at c.in_ok-name.ensures) c.in_err-next.ensures
    c.loop-found.invariant)

pub loop-found-preserved : goal.loop-found-preserved
loop-found-preserved c =
    let each = funsig_bind c.args.levels in
    let target = read (bindings_from each c.args.found) c.args.lexemes.now.rest.now in
    rw c.in_ok-found.ensures
    (binding_kept each c.loop-found.found c.in-Some.name c.in_ok-next.next c.loop-found.lexemes.rest.now
    c.next_name.new.lexemes.rest.now c.funsig_bind.new.lexemes.rest.now target (rw c.in-Some.is at c.in_ok-name.ensures)
    c.in_ok-next.ensures c.loop-found.invariant)
