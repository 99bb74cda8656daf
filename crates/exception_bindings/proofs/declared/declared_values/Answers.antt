use Rattle.std.proofs.Common.{subst, map, refl}
use Rattle.bare_phrases.specs.PhraseOf.{ex_phrase}
use Rattle.static_semantics.specs.Inferring.{Scope}
use Rattle.static_semantics.specs.DatatypeInference.{exceptions_of}
use Rattle.type_phrases.specs.Inferred.{Answers}
use Rattle.pattern_elab.specs.Scopes.{own_entry}
use Rattle.exception_bindings.specs.Exceptions.{env_of_values, declared_in}
use Rattle.exception_bindings.proofs.Binding.{declared_is, declared_over}
use Rattle.exception_bindings.proofs.declared.declared_values.Goals as goal

pub exception_values-requires : goal.exception_values-requires
exception_values-requires c =
    declared_over c.args.g.now c.args.t.now c.args.vars.now c.new-scope.result c.bind_written.new.self
    (c.new-scope.ensures.there c.args.g.now c.requires.env) c.new-scope.ensures.written c.requires.vars
    (c.in_ok-bind_written.ensures.ok c.args.g.now)

pub returns-clause-infers : goal.returns-clause-infers
returns-clause-infers c =
    let g = c.args.g.now in
    subst (λ (binds : _). Answers (exceptions_of (declared_in g c.args.t.now c.args.env c.args.vars.now)
    (map ex_phrase binds)) env_of_values c.exception_values.result) c.as_slice.ensures
    (subst (λ (sc : Scope). Answers (exceptions_of sc (map ex_phrase c.as_slice.result.now)) env_of_values
    c.exception_values.result)
    (declared_is g c.args.t.now c.args.env c.args.vars.now own_entry c.new-scope.result c.bind_written.new.self
    (c.new-scope.ensures.seen g own_entry) c.new-scope.ensures.written (c.in_ok-bind_written.ensures.ok g))
    (c.exception_values.ensures.infers own_entry (λ own. refl)))
