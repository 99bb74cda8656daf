use Rattle.std.proofs.Common.{◌≡◌, ◌∙◌, Some, None, option_and_then, sym, ap}
use Rattle.grammars.specs.Grammar.{End, head_or}
use Rattle.grammars.specs.Reading.{Out, chain as then, read}
use Rattle.cm_conditions.specs.Grammar.{g, below, part, chain, rounds, compared, comparison_of, operator_of, joined}
use Rattle.cm_conditions.specs.declared.cond.Cond.{Cond}
use Rattle.cm_conditions.specs.declared.lexeme.Lexeme.{Lexeme}
use Rattle.cm_conditions.specs.declared.lexeme.Strength.TheVariants as s
use Rattle.cm_conditions.proofs.ReadingSteps.{compared_go, rounds_go, round_broken, passed_on}
use Rattle.cm_conditions.proofs.reader.+reading.Goals as goal

pub compared-returns-in_err-right : goal.compared-returns-in_err-right
compared-returns-in_err-right t c =
    let rest = c.args.cursor.now.rest.now in
    let sum : g = chain (part (below c.args.levels) s.Sum) s.Sum in
    let found : option_and_then comparison_of (head_or rest None) ≡ Some c.in-Some.operator = cc in
    let step = compared_go sum c.in-Some.operator c.args.left rest found in
    let broken = rw c.take.ensures at c.in_err-right.ensures in
    passed_on (compared sum c.args.left) rest c.from_residual.result c.in_err-right.field-0.0
    c.chain.new.cursor.rest.now c.from_residual.ensures.1
    (round_broken _ _ _ c.in_err-right.field-0.0 c.chain.new.cursor.rest.now step broken)

pub compared-returns : goal.compared-returns
compared-returns t c =
    let rest = c.args.cursor.now.rest.now in
    let sum : g = chain (part (below c.args.levels) s.Sum) s.Sum in
    let found : option_and_then comparison_of (head_or rest None) ≡ Some c.in-Some.operator = cc in
    let step = compared_go sum c.in-Some.operator c.args.left rest found in
    let whole = rw c.take.ensures at c.in_ok-right.ensures in
    step
    ∙ ap (λ (o : Out Lexeme Cond). then o (λ right rest. Out.out (End.whole (joined c.in-Some.operator c.args.left right)) rest)) whole
    ∙ ap (λ (cond : Cond). Out.out (End.whole cond) c.chain.new.cursor.rest.now) (sym c.in_ok-joined.ensures)

pub rounds-returns-in_err-right : goal.rounds-returns-in_err-right
rounds-returns-in_err-right t c =
    let rest = c.loop-operator.cursor.rest.now in
    let side : g = part (below c.args.levels) c.args.strength in
    let found : option_and_then (operator_of c.args.strength) (head_or rest None) ≡ Some c.in-Some.operator = cc in
    let step = rounds_go side c.args.strength c.in-Some.operator c.loop-operator.left rest found in
    let broken = rw c.take.ensures at c.in_err-right.ensures in
    passed_on (rounds side c.args.strength c.args.first) c.args.cursor.now.rest.now c.from_residual.result
    c.in_err-right.field-0.0 c.part.new.cursor.rest.now c.from_residual.ensures.1
    (round_broken _ _ _ c.in_err-right.field-0.0 c.part.new.cursor.rest.now (sym c.loop-operator.invariant ∙ step) broken)

pub rounds-loop-operator-preserved : goal.rounds-loop-operator-preserved
rounds-loop-operator-preserved t c =
    let rest = c.loop-operator.cursor.rest.now in
    let side : g = part (below c.args.levels) c.args.strength in
    let found : option_and_then (operator_of c.args.strength) (head_or rest None) ≡ Some c.in-Some.operator = cc in
    let step = rounds_go side c.args.strength c.in-Some.operator c.loop-operator.left rest found in
    let whole = rw c.take.ensures at c.in_ok-right.ensures in
    let next = c.part.new.cursor.rest.now in
    ap (λ (cond : Cond). read (rounds side c.args.strength cond) next) c.in_ok-left.ensures
    ∙ sym (step ∙ ap (λ (o : Out Lexeme Cond). then o (λ right rest.
    read (rounds side c.args.strength (joined c.in-Some.operator c.loop-operator.left right)) rest)) whole)
    ∙ c.loop-operator.invariant
