use Rattle.std.proofs.Common.{◌≡◌, ◌∙◌, None, Some, ap, sym, map, to_z, of_z, w64}
use Rattle.std.proofs.lemmas.Int.{to_z-of_z}
use Rattle.cm_conditions.specs.Tables.{table_def, table_module}
use Rattle.cm_conditions.specs.Values.{step_by, value_by, steps_value}
use Rattle.cm_conditions.proofs.ValueSteps.{broken, chain_none, not_some}
use Rattle.cm_conditions.proofs.+value.Goals as goal

pub cond::Cond::value_in-returns-in_default : goal.cond::Cond::value_in-returns-in_default
cond::Cond::value_in-returns-in_default t c =
    let one = value_by (table_def c.args.names.now) (table_module c.args.names.now) in
    let none : c.value_in-in-Chain.result ≡ None = not_some c.value_in-in-Chain.result c.in_default.not-Some in
    rw c.in-Chain.is
    (chain_none (table_def c.args.names.now) (table_module c.args.names.now) c.in-Chain.first c.in-Chain.steps
    (ap one (sym c.get-in-Chain.ensures) ∙ (sym c.value_in-in-Chain.ensures ∙ none)))

pub evaluation::value_behind-returns-in_default : goal.evaluation::value_behind-returns-in_default
evaluation::value_behind-returns-in_default t c =
    let one = step_by (table_def c.args.names.now) (table_module c.args.names.now) in
    let none : c.value_in.result ≡ None = not_some c.value_in.result c.in_default.not-Some in
    broken one c.args.steps.now c.loop-step.step-index c.step-item.result (to_z w64 c.loop-step.left-bits)
    (steps_value (map one c.args.steps.now) (Some (to_z w64 (of_z w64 c.args.first)))) c.loop-step-test.true
    c.step-item.is c.loop-step.invariant (sym c.value_in.ensures ∙ none)
    ∙ ap (λ x. steps_value (map one c.args.steps.now) (Some x)) (to_z-of_z w64 c.args.first c.ranges.first)
