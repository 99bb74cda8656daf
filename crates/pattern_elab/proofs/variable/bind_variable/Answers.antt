use Rattle.std.proofs.Common.{sym, ◌∙◌}
use Rattle.type_nodes.specs.Tables.{state, type_of}
use Rattle.type_phrases.specs.Inferred.{progress, home_scope}
use Rattle.pattern_elab.specs.Scopes.{bound_of}
use Rattle.pattern_elab.proofs.Binding.{variable_taken, variable_made}
use Rattle.pattern_elab.proofs.variable.bind_variable.Goals as goal

pub returns-then-is_bound-clause-infers : goal.returns-then-is_bound-clause-infers
returns-then-is_bound-clause-infers c =
    variable_taken c.args.g.now c.args.at c.args.name.now (bound_of c.args.bound.now) (progress c.args.t.now
    c.args.g.now)
    c.args.t.now c.args.bound.now c.refuse-then-is_bound.result
    (sym c.is_reserved.ensures ∙ c.if-is_reserved.false) (sym c.is_bound.ensures ∙ c.if-is_bound.true)
    c.refuse-then-is_bound.ensures

pub returns-clause-infers : goal.returns-clause-infers
returns-clause-infers c =
    variable_made (home_scope c.args.g.now) c.args.at c.args.name.now (bound_of c.args.bound.now)
    (bound_of c.bind_fresh.new.bound) (progress c.args.t.now c.args.g.now)
    (type_of c.bind_fresh.new.t c.in_ok-bind_fresh.field-0) (state c.bind_fresh.new.t)
    (sym c.is_reserved.ensures ∙ c.if-is_reserved.false) (sym c.is_bound.ensures ∙ c.if-is_bound.false)
    c.in_ok-bind_fresh.ensures.made c.in_ok-bind_fresh.ensures.bound c.in_ok-bind_fresh.ensures.state
