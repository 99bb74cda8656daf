use Rattle.std.proofs.Common.{◌≡◌, ◌∙◌, Some, None, option_and_then}
use Rattle.grammars.specs.Grammar.{head_or}
use Rattle.grammars.specs.Sums.{below, joined}
use Rattle.grammars.specs.Seen.{seen}
use Rattle.grammars.specs.Shape.{operator_of}
use Rattle.grammars.proofs.Rounds.{round_whole}
use Rattle.grammars.proofs.SumSteps.{joined_go, round_broken, passed_on}
use Rattle.grammars.proofs.toy.reader.+reading.Goals as goal

pub joined-returns-in_err-left-clause-reads : goal.joined-returns-in_err-left-clause-reads
joined-returns-in_err-left-clause-reads t c =
    let rest = c.loop-operator.cursor.rest.now in
    let found : option_and_then (operator_of c.args.strength) (head_or rest None) ≡ Some c.in-Some.operator = cc in
    let step = joined_go c.args.levels (below c.args.levels) c.args.strength c.in-Some.operator
    (seen c.loop-operator.left) rest found in
    let broken = rw c.take.ensures at c.in_err-left.ensures.reads in
    passed_on (joined c.args.levels (below c.args.levels) c.args.strength (seen c.args.first))
    c.args.cursor.now.rest.now c.from_residual.result c.in_err-left.field-0.0 c.beside.new.cursor.rest.now
    c.from_residual.ensures.1
    (round_broken _ _ _ c.in_err-left.field-0.0 c.beside.new.cursor.rest.now
    (step ∙ c.loop-operator.invariant.reads) broken)

pub joined-loop-operator-preserved : goal.joined-loop-operator-preserved
joined-loop-operator-preserved t c =
    let rest = c.loop-operator.cursor.rest.now in
    let found : option_and_then (operator_of c.args.strength) (head_or rest None) ≡ Some c.in-Some.operator = cc in
    let step = joined_go c.args.levels (below c.args.levels) c.args.strength c.in-Some.operator
    (seen c.loop-operator.left) rest found in
    let whole = rw c.take.ensures at c.in_ok-left.ensures.reads in
    record {
      reads = round_whole _ _ _ (seen c.in_ok-left.left) c.beside.new.cursor.rest.now step whole
          ∙ c.loop-operator.invariant.reads;
      low = c.in_ok-left.ensures.low;
    }
