use Rattle.std.proofs.Common.{◌≡◌, sym, subst, take, length}
use Rattle.grammars.specs.Reading.{read}
use Rattle.core_bindings.specs.Decs.{declared}
use Rattle.infix_names.specs.Fixities.{Fixities}
use Rattle.infix_names.proofs.Kept.{kept_then}
use Rattle.signature_parser.specs.Joined.{bindings_from}
use Rattle.module_parser.specs.StrLevels.{str_level, str_below}
use Rattle.module_parser.specs.Structures.{str_bind, str_decs_from, argument, of_str}
use Rattle.signature_parser.proofs.BoundSteps.{binding_kept, binding_stops}
use Rattle.signature_parser.proofs.SigSteps.{as_result, reads_by}
use Rattle.module_parser.proofs.StrSteps.{as_decs, str_decs_kept, str_decs_stops, argument_go}
use Rattle.module_parser.proofs.+strs.Goals as goal

pub str_decs::str_binds_from-returns-in_err-next-clause-reads :
    goal.str_decs::str_binds_from-returns-in_err-next-clause-reads
str_decs::str_binds_from-returns-in_err-next-clause-reads t c =
    let each = str_bind c.args.levels (str_level c.args.levels) c.args.fixities.now in
    let target = read (bindings_from each c.args.found) c.args.lexemes.now.rest.now in
    let why = c.in_err-next.field-0.0 in
    let left = c.str_bind.new.lexemes.rest.now in
    as_result target why c.from_residual-in_err-next.result left c.from_residual-in_err-next.ensures.1
    (binding_stops each c.loop-found.found c.in-Some.name why c.loop-found.lexemes.rest.now
    c.next_name.new.lexemes.rest.now left target (rw c.in-Some.is at c.in_ok-name.ensures)
    (rw c.loop-found.invariant.same at c.in_err-next.ensures.reads) c.loop-found.invariant.reads)

pub str_decs::str_binds_from-loop-found-preserved : goal.str_decs::str_binds_from-loop-found-preserved
str_decs::str_binds_from-loop-found-preserved t c =
    let each = str_bind c.args.levels (str_level c.args.levels) c.args.fixities.now in
    let target = read (bindings_from each c.args.found) c.args.lexemes.now.rest.now in
    record {
      reads = rw c.in_ok-found.ensures
          (binding_kept each c.loop-found.found c.in-Some.name c.in_ok-next.next c.loop-found.lexemes.rest.now
          c.next_name.new.lexemes.rest.now c.str_bind.new.lexemes.rest.now target
          (rw c.in-Some.is at c.in_ok-name.ensures)
          (rw c.loop-found.invariant.same at c.in_ok-next.ensures.reads) c.loop-found.invariant.reads);
      same = rw c.loop-found.invariant.same at c.in_ok-next.ensures.same;
    }

pub str_decs::str_decs-returns-in_err-found-clause-reads : goal.str_decs::str_decs-returns-in_err-found-clause-reads
str_decs::str_decs-returns-in_err-found-clause-reads t c =
    let n = c.args.levels in
    let target = read ((str_level n).decs c.args.fixities.now) c.args.lexemes.now.rest.now in
    let why = c.in_err-found.field-0.0 in
    let left = c.str_round.new.lexemes.rest.now in
    as_decs target why c.from_residual.result c.str_round.new.fixities left c.from_residual.ensures.1
    (str_decs_stops n (str_below n) (declared c.loop-first.found c.loop-first.fixities) c.in-Some.first.now why
    c.loop-first.lexemes.rest.now left target (sym c.in-Some.ensures)
    (rw c.take.ensures at c.in_err-found.ensures.reads) c.loop-first.invariant.reads)

pub str_decs::str_decs-loop-first-preserved : goal.str_decs::str_decs-loop-first-preserved
str_decs::str_decs-loop-first-preserved t c =
    let n = c.args.levels in
    let target = read ((str_level n).decs c.args.fixities.now) c.args.lexemes.now.rest.now in
    record {
      kept = kept_then c.args.fixities.now c.loop-first.fixities c.str_round.new.fixities c.loop-first.invariant.kept
          c.in_ok-found.ensures.kept;
      reads = str_decs_kept n (str_below n) (declared c.loop-first.found c.loop-first.fixities)
          (declared c.in_ok-found.found c.str_round.new.fixities) c.in-Some.first.now c.loop-first.lexemes.rest.now
          c.str_round.new.lexemes.rest.now target (sym c.in-Some.ensures)
          (rw c.take.ensures at c.in_ok-found.ensures.reads) c.loop-first.invariant.reads;
    }

pub str_exps::argument-returns-in-Some-clause-reads : goal.str_exps::argument-returns-in-Some-clause-reads
str_exps::argument-returns-in-Some-clause-reads t c =
    let parts = str_level c.args.levels in
    let fs = c.args.fixities.now in
    let x = c.in-Some.first.now in
    let rest = c.args.lexemes.now.rest.now in
    reads_by (read (argument parts fs c.args.name c.args.place) rest)
    (read (of_str (parts.str_after fs x) c.args.name c.args.place) c.take.new.self.rest.now) c.of_str.result
    c.of_str.new.lexemes.rest.now
    (rw c.take.ensures (argument_go parts fs c.args.name c.args.place x rest (sym c.in-Some.ensures)))
    c.of_str.ensures.reads
