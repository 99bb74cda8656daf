use Rattle.std.proofs.Common.{refl}
use Rattle.core_scopes.specs.declared.made.MadeBound.{MadeBound}
use Rattle.core_scopes.specs.Listed.{bound_rows}
use Rattle.pattern_elab.specs.declared.own.OwnVariable.{OwnVariable}
use Rattle.value_closing.proofs.Entering.{entered_made}
use Rattle.value_closing.proofs.made.enter_made.Goals as goal

pub returns-clause-ok : goal.returns-clause-ok
returns-clause-ok c = λ g h.
    let more : MadeBound OwnVariable =
    record { structures = c.args.made.structures; types = c.args.made.types; values = c.in_ok-values.values } in
    entered_made g c.bound_values.new.t c.args.scope.now c.bind_entered.new.self c.args.made more refl refl
    c.in_ok-values.ensures.rows c.in_ok-values.ensures.entered c.in_ok-bind_entered.ensures.bound
    (c.in_ok-bind_entered.ensures.ok g h)

pub returns-clause-given : goal.returns-clause-given
returns-clause-given c = λ w. (
  bound_rows c.in_ok-values.values,
  c.in_ok-bind_entered.ensures.bound,
  c.in_ok-values.ensures.rows,
  c.in_ok-values.ensures.given w,
)
