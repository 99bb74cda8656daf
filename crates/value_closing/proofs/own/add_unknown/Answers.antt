use Rattle.std.proofs.Common.{sym, ap₂, ◌∙◌, ◌||◌, subst}
use Rattle.type_bindings.specs.Listing.{AreMade}
use Rattle.value_closing.specs.OwnVariables.{written_in_scope}
use Rattle.value_closing.proofs.Entering.{unknown_adds, one_made, one_more_made}
use Rattle.value_closing.proofs.own.add_unknown.Goals as goal

pub returns-clause-added : goal.returns-clause-added
returns-clause-added c =
    unknown_adds (written_in_scope c.args.scope.now) c.args.text.now c.in_ok-name.name c.args.t.now
    c.new_variable.new.t c.args.rows.now c.bind.new.self c.in_ok-number.number
    (ap₂ (λ a b. a || b) (sym c.is_listed.ensures ∙ c.if-is_listed.false)
    (sym c.is_in_scope.ensures ∙ c.if-is_in_scope.false))
    c.in_ok-name.ensures (c.in_ok-number.ensures.number ∙ sym c.is_kept.ensures.next) c.in_ok-number.ensures.state
    c.in_ok-bind.ensures.ok

pub returns-clause-made : goal.returns-clause-made
returns-clause-made c =
    one_more_made c.args.t.now c.new_variable.new.t c.args.rows.now c.bind.new.self c.in_ok-name.name
    c.in_ok-number.number c.in_ok-number.ensures.births c.in_ok-number.ensures.number c.in_ok-bind.ensures.ok
    c.requires

pub returns-in_err-bind-clause-made : goal.returns-in_err-bind-clause-made
returns-in_err-bind-clause-made c =
    subst (AreMade c.new_variable.new.t) (sym c.in_err-bind.ensures.err)
    (one_made c.args.t.now c.new_variable.new.t c.args.rows.now c.in_ok-number.ensures.births c.requires)
