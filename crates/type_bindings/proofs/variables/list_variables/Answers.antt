use Rattle.std.proofs.Common.{ℕ, ◌+◌, drop, []}
use Rattle.std.specs.Prelude.{Result}
use Rattle.cm_base.specs.declared.fault.Fault.{Fault}
use Rattle.name_trails.specs.Trails.{Rows}
use Rattle.static_semantics.specs.TypeInference.{listed}
use Rattle.type_phrases.specs.Inferred.{Answers, progress}
use Rattle.type_phrases.proofs.Keeping.{keeps_later, keeps_extended}
use Rattle.type_phrases.proofs.PartsRead.{drop_item, drop_end}
use Rattle.type_bindings.proofs.ListedSoFar.{listed_none, listed_more, listed_refused, listed_all, passed_on}
use Rattle.type_bindings.proofs.variables.list_variables.Goals as goal

pub loop-name-init : goal.loop-name-init
loop-name-init c =
    listed_none c.args.g.now c.args.t.now c.args.names.now c.new-rows.result c.new-rows.ensures

pub loop-name-preserved : goal.loop-name-preserved
loop-name-preserved c =
    let names = c.args.names.now in
    let i = c.loop-name.name-index in
    listed_more c.args.g.now c.args.t.now c.loop-name.t c.new_variable.new.t names (drop i names) (drop (i + 1) names)
    c.name-item.result c.loop-name.rows c.bind.new.self c.in_ok-copy.field-0 c.in_ok-number.number
    c.loop-name.invariant (drop_item names i c.name-item.result c.loop-name-test.true c.name-item.is)
    c.in_ok-check_new.ensures c.in_ok-number.ensures.number c.in_ok-number.ensures.births
    c.in_ok-number.ensures.state c.in_ok-number.ensures.extends c.in_ok-copy.ensures c.in_ok-bind.ensures.ok

pub returns-in_err-check_new-clause-listed : goal.returns-in_err-check_new-clause-listed
returns-in_err-check_new-clause-listed c = λ inner home.
    let names = c.args.names.now in
    let i = c.loop-name.name-index in
    passed_on (λ (r : Result (Rows ℕ) Fault). Answers (listed inner c.args.names.now [] (progress c.args.t.now c.args.g.now))
    (λ rows. (rows, progress c.loop-name.t c.args.g.now)) r) c.from_residual.result c.in_err-check_new.field-0.0
    c.from_residual.ensures.1
    (listed_refused c.args.g.now c.args.t.now c.loop-name.t names (drop i names) (drop (i + 1) names)
    c.name-item.result c.loop-name.rows c.in_err-check_new.field-0.0 c.loop-name.invariant
    (drop_item names i c.name-item.result c.loop-name-test.true c.name-item.is) c.in_err-check_new.ensures inner home)

pub returns-clause-listed : goal.returns-clause-listed
returns-clause-listed c = λ inner home.
    listed_all c.args.g.now c.args.t.now c.loop-name.t c.args.names.now
    (drop c.loop-name.name-index c.args.names.now) c.loop-name.rows c.loop-name.invariant
    (drop_end c.args.names.now c.loop-name.name-index c.loop-name-test.false) inner home

pub returns-in_err-copy-clause-ids : goal.returns-in_err-copy-clause-ids
returns-in_err-copy-clause-ids c =
    keeps_later c.args.t.now c.loop-name.t c.new_variable.new.t c.loop-name.invariant.keeps
    (keeps_extended c.loop-name.t c.new_variable.new.t c.in_ok-number.ensures.extends)

pub returns-in_err-bind-clause-ids : goal.returns-in_err-bind-clause-ids
returns-in_err-bind-clause-ids c =
    keeps_later c.args.t.now c.loop-name.t c.new_variable.new.t c.loop-name.invariant.keeps
    (keeps_extended c.loop-name.t c.new_variable.new.t c.in_ok-number.ensures.extends)
