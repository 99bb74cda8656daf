use Rattle.std.proofs.Common.{◌≡◌, ◌+◌, ◌*◌, length, take}
use Rattle.grammars.specs.Reading.{read}
use Rattle.core_expressions.specs.Clauses.{clause, function}
use Rattle.core_bindings.specs.Decs.{declared}
use Rattle.core_expressions.specs.Declarations.{decs_from}
use Rattle.core_expressions.specs.Expressions.{chained, exps, fields, more_rules, steps}
use Rattle.core_expressions.specs.Levels.{below, level}
use Rattle.phrase_reading.specs.Sized.{further}
use Rattle.core_expressions.specs.Values.{val_binds_from}
use Rattle.sml_lexer.specs.declared.words.Word.TheVariants as w
use Rattle.core_expressions.proofs.+phrases.Given as goal

-- Each function goes down a level, or to one that stands lower in the order of calls at one level.
abbrev pub decreases-exp::beside : goal.decreases-exp::beside
decreases-exp::beside l = 64 * l.levels + 0

abbrev pub decreases-exp::chained : goal.decreases-exp::chained
decreases-exp::chained l = 64 * l.levels + 1

abbrev pub decreases-exp::handle_exp : goal.decreases-exp::handle_exp
decreases-exp::handle_exp l = 64 * l.levels + 0

abbrev pub decreases-exp::handled : goal.decreases-exp::handled
decreases-exp::handled l = 64 * l.levels + 1

abbrev pub decreases-run::run_from : goal.decreases-run::run_from
decreases-run::run_from l = 64 * l.levels + 0

abbrev pub decreases-atexp::atexp : goal.decreases-atexp::atexp
decreases-atexp::atexp l = 64 * l.levels + 0

abbrev pub decreases-exp::typed : goal.decreases-exp::typed
decreases-exp::typed l = 64 * l.levels + 2

abbrev pub decreases-exp::operand_after : goal.decreases-exp::operand_after
decreases-exp::operand_after l = 64 * l.levels + 3

abbrev pub decreases-exp::conjunction_after : goal.decreases-exp::conjunction_after
decreases-exp::conjunction_after l = 64 * l.levels + 4

abbrev pub decreases-exp::disjunction_after : goal.decreases-exp::disjunction_after
decreases-exp::disjunction_after l = 64 * l.levels + 5

abbrev pub decreases-exp::operand : goal.decreases-exp::operand
decreases-exp::operand l = 64 * l.levels + 6

abbrev pub decreases-exp::conjunction : goal.decreases-exp::conjunction
decreases-exp::conjunction l = 64 * l.levels + 7

abbrev pub decreases-exp::exp : goal.decreases-exp::exp
decreases-exp::exp l = 64 * l.levels + 8

abbrev pub decreases-exp::side : goal.decreases-exp::side
decreases-exp::side l = 64 * l.levels + 9

abbrev pub decreases-run::atom : goal.decreases-run::atom
decreases-run::atom l = 64 * l.levels + 32

abbrev pub decreases-run::behind_operator : goal.decreases-run::behind_operator
decreases-run::behind_operator l = 64 * l.levels + 33

abbrev pub decreases-run::step : goal.decreases-run::step
decreases-run::step l = 64 * l.levels + 34

abbrev pub decreases-run::one_step : goal.decreases-run::one_step
decreases-run::one_step l = 64 * l.levels + 35

abbrev pub decreases-run::steps : goal.decreases-run::steps
decreases-run::steps l = 64 * l.levels + 36

abbrev pub decreases-run::whole_run : goal.decreases-run::whole_run
decreases-run::whole_run l = 64 * l.levels + 37

abbrev pub decreases-exp::rule : goal.decreases-exp::rule
decreases-exp::rule l = 64 * l.levels + 33

abbrev pub decreases-exp::more_rules : goal.decreases-exp::more_rules
decreases-exp::more_rules l = 64 * l.levels + 34

abbrev pub decreases-exp::rules : goal.decreases-exp::rules
decreases-exp::rules l = 64 * l.levels + 35

abbrev pub decreases-exp::fn_of : goal.decreases-exp::fn_of
decreases-exp::fn_of l = 64 * l.levels + 36

abbrev pub decreases-exp::case_exp : goal.decreases-exp::case_exp
decreases-exp::case_exp l = 64 * l.levels + 37

abbrev pub decreases-exp::exp_behind : goal.decreases-exp::exp_behind
decreases-exp::exp_behind l = 64 * l.levels + 32

abbrev pub decreases-exp::rules_behind : goal.decreases-exp::rules_behind
decreases-exp::rules_behind l = 64 * l.levels + 36

abbrev pub decreases-fun_decs::function_by : goal.decreases-fun_decs::function_by
decreases-fun_decs::function_by l = 64 * l.levels + 51

abbrev pub decreases-val_decs::bound_exp : goal.decreases-val_decs::bound_exp
decreases-val_decs::bound_exp l = 64 * l.levels + 48

abbrev pub decreases-exp::if_exp : goal.decreases-exp::if_exp
decreases-exp::if_exp l = 64 * l.levels + 35

abbrev pub decreases-exp::while_exp : goal.decreases-exp::while_exp
decreases-exp::while_exp l = 64 * l.levels + 33

abbrev pub decreases-exp::raise_exp : goal.decreases-exp::raise_exp
decreases-exp::raise_exp l = 64 * l.levels + 33

abbrev pub decreases-exp::prefix_form : goal.decreases-exp::prefix_form
decreases-exp::prefix_form l = 64 * l.levels + 38

abbrev pub decreases-atexp::field : goal.decreases-atexp::field
decreases-atexp::field l = 64 * l.levels + 33

abbrev pub decreases-atexp::fields : goal.decreases-atexp::fields
decreases-atexp::fields l = 64 * l.levels + 34

abbrev pub decreases-atexp::record_fields : goal.decreases-atexp::record_fields
decreases-atexp::record_fields l = 64 * l.levels + 35

abbrev pub decreases-atexp::record_exp : goal.decreases-atexp::record_exp
decreases-atexp::record_exp l = 64 * l.levels + 36

abbrev pub decreases-atexp::exps : goal.decreases-atexp::exps
decreases-atexp::exps l = 64 * l.levels + 33

abbrev pub decreases-atexp::several : goal.decreases-atexp::several
decreases-atexp::several l = 64 * l.levels + 34

abbrev pub decreases-atexp::exp_list : goal.decreases-atexp::exp_list
decreases-atexp::exp_list l = 64 * l.levels + 34

abbrev pub decreases-atexp::tuple_exp : goal.decreases-atexp::tuple_exp
decreases-atexp::tuple_exp l = 64 * l.levels + 35

abbrev pub decreases-atexp::sequence_exp : goal.decreases-atexp::sequence_exp
decreases-atexp::sequence_exp l = 64 * l.levels + 35

abbrev pub decreases-atexp::bracket_items : goal.decreases-atexp::bracket_items
decreases-atexp::bracket_items l = 64 * l.levels + 35

abbrev pub decreases-atexp::parens_from : goal.decreases-atexp::parens_from
decreases-atexp::parens_from l = 64 * l.levels + 36

abbrev pub decreases-atexp::parens : goal.decreases-atexp::parens
decreases-atexp::parens l = 64 * l.levels + 37

abbrev pub decreases-atexp::bracket : goal.decreases-atexp::bracket
decreases-atexp::bracket l = 64 * l.levels + 36

abbrev pub decreases-atexp::let_exp : goal.decreases-atexp::let_exp
decreases-atexp::let_exp l = 64 * l.levels + 40

abbrev pub decreases-atexp::atexp_word : goal.decreases-atexp::atexp_word
decreases-atexp::atexp_word l = 64 * l.levels + 41

abbrev pub decreases-atexp::atexp_after : goal.decreases-atexp::atexp_after
decreases-atexp::atexp_after l = 64 * l.levels + 42

-- What is left to read goes on from what was read so far, and the infix status is as before.
abbrev pub invariant-exp::chained-loop-alloc : goal.invariant-exp::chained-loop-alloc
invariant-exp::chained-loop-alloc l = record {
  reads : read (chained l.levels (below l.levels) l.fn.fixities l.at l.chain l.left) l.lexemes.rest.now
      ≡ read (chained l.levels (below l.levels) l.fn.fixities l.at l.chain l.fn.first) l.fn.lexemes.rest.now;
  same : l.fixities ≡ l.fn.fixities;
}

abbrev pub decreases-exp::chained-loop-alloc : goal.decreases-exp::chained-loop-alloc
decreases-exp::chained-loop-alloc l = length l.lexemes.rest.now

abbrev pub invariant-atexp::exps-loop-alloc : goal.invariant-atexp::exps-loop-alloc
invariant-atexp::exps-loop-alloc l = record {
  reads : read (exps (level l.levels) l.fn.fixities l.mark l.found) l.lexemes.rest.now
      ≡ read (exps (level l.levels) l.fn.fixities l.mark l.fn.first) l.fn.lexemes.rest.now;
  same : l.fixities ≡ l.fn.fixities;
}

abbrev pub decreases-atexp::exps-loop-alloc : goal.decreases-atexp::exps-loop-alloc
decreases-atexp::exps-loop-alloc l = length l.lexemes.rest.now

abbrev pub invariant-atexp::fields-loop-alloc : goal.invariant-atexp::fields-loop-alloc
invariant-atexp::fields-loop-alloc l = record {
  reads : read (fields (level l.levels) l.fn.fixities l.found) l.lexemes.rest.now
      ≡ read (fields (level l.levels) l.fn.fixities l.fn.first) l.fn.lexemes.rest.now;
  same : l.fixities ≡ l.fn.fixities;
}

abbrev pub decreases-atexp::fields-loop-alloc : goal.decreases-atexp::fields-loop-alloc
decreases-atexp::fields-loop-alloc l = length l.lexemes.rest.now

abbrev pub invariant-exp::more_rules-loop-alloc : goal.invariant-exp::more_rules-loop-alloc
invariant-exp::more_rules-loop-alloc l = record {
  reads : read (more_rules (level l.levels) l.fn.fixities l.found) l.lexemes.rest.now
      ≡ read (more_rules (level l.levels) l.fn.fixities l.fn.first) l.fn.lexemes.rest.now;
  same : l.fixities ≡ l.fn.fixities;
}

abbrev pub decreases-exp::more_rules-loop-alloc : goal.decreases-exp::more_rules-loop-alloc
decreases-exp::more_rules-loop-alloc l = length l.lexemes.rest.now

abbrev pub invariant-run::steps-loop-alloc : goal.invariant-run::steps-loop-alloc
invariant-run::steps-loop-alloc l = record {
  reads : read (steps (level l.levels) l.fn.fixities l.run) l.lexemes.rest.now
      ≡ read (steps (level l.levels) l.fn.fixities l.fn.first) l.fn.lexemes.rest.now;
  same : l.fixities ≡ l.fn.fixities;
}

abbrev pub decreases-run::steps-loop-alloc : goal.decreases-run::steps-loop-alloc
decreases-run::steps-loop-alloc l = length l.lexemes.rest.now

abbrev pub decreases-val_decs::fn_exp : goal.decreases-val_decs::fn_exp
decreases-val_decs::fn_exp l = 64 * l.levels + 20

abbrev pub decreases-val_decs::right_side : goal.decreases-val_decs::right_side
decreases-val_decs::right_side l = 64 * l.levels + 47

abbrev pub decreases-val_decs::val_bind_of : goal.decreases-val_decs::val_bind_of
decreases-val_decs::val_bind_of l = 64 * l.levels + 49

abbrev pub decreases-val_decs::val_bind : goal.decreases-val_decs::val_bind
decreases-val_decs::val_bind l = 64 * l.levels + 50

abbrev pub decreases-val_decs::val_binds_from : goal.decreases-val_decs::val_binds_from
decreases-val_decs::val_binds_from l = 64 * l.levels + 51

abbrev pub decreases-val_decs::val_from : goal.decreases-val_decs::val_from
decreases-val_decs::val_from l = 64 * l.levels + 52

abbrev pub decreases-val_decs::val_of : goal.decreases-val_decs::val_of
decreases-val_decs::val_of l = 64 * l.levels + 53

abbrev pub decreases-val_decs::val_pat : goal.decreases-val_decs::val_pat
decreases-val_decs::val_pat l = 64 * l.levels + 53

abbrev pub decreases-val_decs::val_parens : goal.decreases-val_decs::val_parens
decreases-val_decs::val_parens l = 64 * l.levels + 54

abbrev pub decreases-val_decs::val_dec : goal.decreases-val_decs::val_dec
decreases-val_decs::val_dec l = 64 * l.levels + 55

abbrev pub decreases-val_decs::fn_parens : goal.decreases-val_decs::fn_parens
decreases-val_decs::fn_parens l = 64 * l.levels + 19

abbrev pub decreases-fun_decs::clause_of : goal.decreases-fun_decs::clause_of
decreases-fun_decs::clause_of l = 64 * l.levels + 48

abbrev pub decreases-fun_decs::clause : goal.decreases-fun_decs::clause
decreases-fun_decs::clause l = 64 * l.levels + 49

abbrev pub decreases-fun_decs::clauses : goal.decreases-fun_decs::clauses
decreases-fun_decs::clauses l = 64 * l.levels + 50

abbrev pub decreases-fun_decs::function_from : goal.decreases-fun_decs::function_from
decreases-fun_decs::function_from l = 64 * l.levels + 52

abbrev pub decreases-fun_decs::function_of : goal.decreases-fun_decs::function_of
decreases-fun_decs::function_of l = 64 * l.levels + 53

abbrev pub decreases-fun_decs::function : goal.decreases-fun_decs::function
decreases-fun_decs::function l = 64 * l.levels + 54

abbrev pub decreases-fun_decs::functions : goal.decreases-fun_decs::functions
decreases-fun_decs::functions l = 64 * l.levels + 55

abbrev pub decreases-fun_decs::fun_from : goal.decreases-fun_decs::fun_from
decreases-fun_decs::fun_from l = 64 * l.levels + 56

abbrev pub decreases-fun_decs::fun_of : goal.decreases-fun_decs::fun_of
decreases-fun_decs::fun_of l = 64 * l.levels + 57

abbrev pub decreases-fun_decs::fun_head : goal.decreases-fun_decs::fun_head
decreases-fun_decs::fun_head l = 64 * l.levels + 57

abbrev pub decreases-fun_decs::fun_parens : goal.decreases-fun_decs::fun_parens
decreases-fun_decs::fun_parens l = 64 * l.levels + 58

abbrev pub decreases-fun_decs::fun_dec : goal.decreases-fun_decs::fun_dec
decreases-fun_decs::fun_dec l = 64 * l.levels + 59

abbrev pub decreases-decs::local_dec : goal.decreases-decs::local_dec
decreases-decs::local_dec l = 64 * l.levels + 48

abbrev pub decreases-decs::dec_word : goal.decreases-decs::dec_word
decreases-decs::dec_word l = 64 * l.levels + 60

abbrev pub decreases-decs::dec : goal.decreases-decs::dec
decreases-decs::dec l = 64 * l.levels + 20

abbrev pub decreases-decs::round : goal.decreases-decs::round
decreases-decs::round l = 64 * l.levels + 21

abbrev pub decreases-decs::decs : goal.decreases-decs::decs
decreases-decs::decs l = 64 * l.levels + 23

abbrev pub decreases-decs::one_round : goal.decreases-decs::one_round
decreases-decs::one_round l = 64 * l.levels + 22

abbrev pub decreases-val_decs::val_binds_from-loop-alloc : goal.decreases-val_decs::val_binds_from-loop-alloc
decreases-val_decs::val_binds_from-loop-alloc l = length l.lexemes.rest.now

-- What is left to read goes on from what was found so far.
abbrev pub invariant-val_decs::val_binds_from-loop-alloc : goal.invariant-val_decs::val_binds_from-loop-alloc
invariant-val_decs::val_binds_from-loop-alloc l = record {
  same : l.fixities ≡ l.fn.fixities;
  reads : read (val_binds_from (level l.levels) l.fn.fixities l.binds) l.lexemes.rest.now
      ≡ read (val_binds_from (level l.fn.levels) l.fn.fixities l.fn.found) l.fn.lexemes.rest.now;
}

abbrev pub decreases-fun_decs::clauses-loop-alloc : goal.decreases-fun_decs::clauses-loop-alloc
decreases-fun_decs::clauses-loop-alloc l = length l.lexemes.rest.now

-- What is left to read goes on from what was found so far.
abbrev pub invariant-fun_decs::clauses-loop-alloc : goal.invariant-fun_decs::clauses-loop-alloc
invariant-fun_decs::clauses-loop-alloc l = record {
  same : l.fixities ≡ l.fn.fixities;
  reads : read (further w.Bar (clause l.levels (level l.levels) l.fn.fixities l.wanted) l.found) l.lexemes.rest.now
      ≡ read (further w.Bar (clause l.fn.levels (level l.fn.levels) l.fn.fixities l.fn.wanted) l.fn.found) l.fn.lexemes.rest.now;
}

abbrev pub decreases-fun_decs::functions-loop-alloc : goal.decreases-fun_decs::functions-loop-alloc
decreases-fun_decs::functions-loop-alloc l = length l.lexemes.rest.now

-- What is left to read goes on from what was found so far.
abbrev pub invariant-fun_decs::functions-loop-alloc : goal.invariant-fun_decs::functions-loop-alloc
invariant-fun_decs::functions-loop-alloc l = record {
  same : l.fixities ≡ l.fn.fixities;
  reads : read (further w.And (function l.levels (level l.levels) l.fn.fixities) l.found) l.lexemes.rest.now
      ≡ read (further w.And (function l.fn.levels (level l.fn.levels) l.fn.fixities) l.fn.found) l.fn.lexemes.rest.now;
}

abbrev pub decreases-decs::decs-loop-alloc : goal.decreases-decs::decs-loop-alloc
decreases-decs::decs-loop-alloc l = length l.lexemes.rest.now

-- What is left to read goes on from what was found so far.
abbrev pub invariant-decs::decs-loop-alloc : goal.invariant-decs::decs-loop-alloc
invariant-decs::decs-loop-alloc l = record {
  same : take (length l.fn.fixities) l.fixities ≡ l.fn.fixities;
  reads : read (decs_from l.levels (below l.levels) (declared l.found l.fixities)) l.lexemes.rest.now
      ≡ read ((level l.fn.levels).decs l.fn.fixities) l.fn.lexemes.rest.now;
}
