use Rattle.std.proofs.Common.{◌≡◌, ◌∙◌, true, None}
use Rattle.grammars.specs.Reading.{read}
use Rattle.grammars.specs.Grammar.{begins, head_or}
use Rattle.core_expressions.specs.Clauses.{clause, function}
use Rattle.core_expressions.specs.Expressions.{beside, field, rule, steps}
use Rattle.expression_parts.specs.ExpNodes.{chain_word}
use Rattle.expression_parts.specs.ExpStarts.{goes_on}
use Rattle.core_expressions.specs.Levels.{below, level}
use Rattle.phrase_reading.specs.Words.{is}
use Rattle.sml_lexer.specs.declared.words.Word.TheVariants as w
use Rattle.core_bindings.specs.Decs.{declared}
use Rattle.core_expressions.specs.Declarations.{starts_round}
use Rattle.core_expressions.specs.Values.{val_bind}
use Rattle.core_expressions.proofs.DecSteps.{one_round_less}
use Rattle.core_expressions.proofs.ExpSteps.{step_less, steps_kept, steps_stops, passed_on}
use Rattle.phrase_reading.proofs.Steps.{round_less}
use Rattle.core_expressions.proofs.+phrases.Goals as goal

pub exp::chained-loop-alloc-smaller : goal.exp::chained-loop-alloc-smaller
exp::chained-loop-alloc-smaller t c =
    let rest = c.loop-alloc.lexemes.rest.now in
    let sees : begins (is (chain_word c.args.chain)) (head_or rest None) ≡ true = cc in
    let whole = rw c.take.ensures at c.in_ok-left.ensures.reads in
    round_less (is (chain_word c.args.chain))
    (beside c.args.levels (below c.args.levels) c.loop-alloc.fixities c.args.at c.args.chain c.loop-alloc.left)
    c.in_ok-left.left rest c.beside.new.lexemes.rest.now sees whole

pub exp::more_rules-loop-alloc-smaller : goal.exp::more_rules-loop-alloc-smaller
exp::more_rules-loop-alloc-smaller t c =
    let rest = c.loop-alloc.lexemes.rest.now in
    let sees : begins (is w.Bar) (head_or rest None) ≡ true = cc in
    let whole = rw c.take.ensures at c.in_ok-next.ensures.reads in
    round_less (is w.Bar) (rule (level c.args.levels) c.loop-alloc.fixities) c.in_ok-next.next rest
    c.rule.new.lexemes.rest.now sees whole

pub atexp::fields-loop-alloc-smaller : goal.atexp::fields-loop-alloc-smaller
atexp::fields-loop-alloc-smaller t c =
    let rest = c.loop-alloc.lexemes.rest.now in
    let sees : begins (is w.Comma) (head_or rest None) ≡ true = cc in
    let whole = rw c.take.ensures at c.in_ok-next.ensures.reads in
    round_less (is w.Comma) (field (level c.args.levels) c.loop-alloc.fixities) c.in_ok-next.next rest
    c.field.new.lexemes.rest.now sees whole

pub atexp::exps-loop-alloc-smaller : goal.atexp::exps-loop-alloc-smaller
atexp::exps-loop-alloc-smaller t c =
    let rest = c.loop-alloc.lexemes.rest.now in
    let sees : begins (is c.args.mark) (head_or rest None) ≡ true = cc in
    let whole = rw c.take.ensures at c.in_ok-next.ensures.reads in
    round_less (is c.args.mark) ((level c.args.levels).exp c.loop-alloc.fixities) c.in_ok-next.next rest
    c.exp.new.lexemes.rest.now sees whole

pub run::steps-loop-alloc-smaller : goal.run::steps-loop-alloc-smaller
run::steps-loop-alloc-smaller t c =
    let rest = c.loop-alloc.lexemes.rest.now in
    let sees : begins (goes_on c.loop-alloc.fixities c.loop-alloc.run.ops) (head_or rest None) ≡ true = cc in
    step_less (level c.args.levels) c.loop-alloc.fixities c.loop-alloc.run c.in_ok-run.run' rest
    c.one_step.new.lexemes.rest.now sees c.in_ok-run.ensures.reads

pub run::steps-loop-alloc-preserved : goal.run::steps-loop-alloc-preserved
run::steps-loop-alloc-preserved t c =
    let rest = c.loop-alloc.lexemes.rest.now in
    let sees : begins (goes_on c.loop-alloc.fixities c.loop-alloc.run.ops) (head_or rest None) ≡ true = cc in
    let target = read (steps (level c.args.levels) c.args.fixities.now c.args.first) c.args.lexemes.now.rest.now in
    record {
      reads = steps_kept (level c.args.levels) c.args.fixities.now c.loop-alloc.fixities c.loop-alloc.run c.in_ok-run.run'
          rest c.one_step.new.lexemes.rest.now target c.loop-alloc.invariant.same sees c.in_ok-run.ensures.reads
          c.loop-alloc.invariant.reads;
      same = c.in_ok-run.ensures.same ∙ c.loop-alloc.invariant.same;
    }

pub run::steps-returns-in_err-run-clause-reads : goal.run::steps-returns-in_err-run-clause-reads
run::steps-returns-in_err-run-clause-reads t c =
    let rest = c.loop-alloc.lexemes.rest.now in
    let left = c.one_step.new.lexemes.rest.now in
    let why = c.in_err-run.field-0.0 in
    let sees : begins (goes_on c.loop-alloc.fixities c.loop-alloc.run.ops) (head_or rest None) ≡ true = cc in
    let target = read (steps (level c.args.levels) c.args.fixities.now c.args.first) c.args.lexemes.now.rest.now in
    passed_on (steps (level c.args.levels) c.args.fixities.now c.args.first) c.args.lexemes.now.rest.now why
    c.from_residual.result left c.from_residual.ensures.1
    (steps_stops (level c.args.levels) c.args.fixities.now c.loop-alloc.fixities c.loop-alloc.run why rest left target
    c.loop-alloc.invariant.same sees c.in_err-run.ensures.reads c.loop-alloc.invariant.reads)

pub val_decs::val_binds_from-loop-alloc-smaller : goal.val_decs::val_binds_from-loop-alloc-smaller
val_decs::val_binds_from-loop-alloc-smaller t c =
    let rest = c.loop-alloc.lexemes.rest.now in
    let sees : begins (is w.And) (head_or rest None) ≡ true = cc in
    let whole = rw c.take.ensures at c.in_ok-next.ensures.reads in
    round_less (is w.And) (val_bind (level c.args.levels) c.loop-alloc.fixities c.loop-alloc.binds.recs) c.in_ok-next.next
    rest c.val_bind.new.lexemes.rest.now sees whole

pub decs::decs-loop-alloc-smaller : goal.decs::decs-loop-alloc-smaller
decs::decs-loop-alloc-smaller t c =
    let rest = c.loop-alloc.lexemes.rest.now in
    let sees : begins starts_round (head_or rest None) ≡ true = cc in
    one_round_less c.args.levels (below c.args.levels) (declared c.loop-alloc.found c.loop-alloc.fixities)
    (declared c.in_ok-found.found c.one_round.new.fixities) rest c.one_round.new.lexemes.rest.now sees
    c.in_ok-found.ensures.reads

pub fun_decs::clauses-loop-alloc-smaller : goal.fun_decs::clauses-loop-alloc-smaller
fun_decs::clauses-loop-alloc-smaller t c =
    let rest = c.loop-alloc.lexemes.rest.now in
    let sees : begins (is w.Bar) (head_or rest None) ≡ true = cc in
    let whole = rw c.take.ensures at c.in_ok-next.ensures.reads in
    round_less (is w.Bar) (clause c.args.levels (level c.args.levels) c.loop-alloc.fixities c.args.wanted.now) c.in_ok-next.next rest c.clause.new.lexemes.rest.now sees whole

pub fun_decs::functions-loop-alloc-smaller : goal.fun_decs::functions-loop-alloc-smaller
fun_decs::functions-loop-alloc-smaller t c =
    let rest = c.loop-alloc.lexemes.rest.now in
    let sees : begins (is w.And) (head_or rest None) ≡ true = cc in
    let whole = rw c.take.ensures at c.in_ok-next.ensures.reads in
    round_less (is w.And) (function c.args.levels (level c.args.levels) c.loop-alloc.fixities) c.in_ok-next.next rest c.function.new.lexemes.rest.now sees whole
