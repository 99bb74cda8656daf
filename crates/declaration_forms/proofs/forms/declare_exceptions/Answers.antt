use Rattle.std.proofs.Common.{map}
use Rattle.std.specs.Prelude.{Ok, Err}
use Rattle.bare_phrases.specs.PhraseOf.{ex_phrase}
use Rattle.static_semantics.specs.DatatypeInference.{exceptions_of}
use Rattle.pattern_elab.specs.Scopes.{own_entry}
use Rattle.pattern_elab.proofs.Scoping.{over_core}
use Rattle.core_rules.specs.Moments.{moment}
use Rattle.core_rules.proofs.Declaring.{dec_passed}
use Rattle.declaration_forms.proofs.Declared.{in_scope, exception_read, plain_first, plain_done, no_envs}
use Rattle.declaration_forms.proofs.forms.declare_exceptions.Goals as goal

pub elab_exceptions-requires : goal.elab_exceptions-requires
elab_exceptions-requires c = over_core c.args.g.now c.args.t.now c.args.scope.now c.requires

pub check_made-requires : goal.check_made-requires
check_made-requires c = no_envs c.args.g.now c.in_ok-made.made c.in_ok-made.ensures.structures

pub returns-in_err-made : goal.returns-in_err-made
returns-in_err-made c =
    dec_passed c.from_residual.result c.in_err-made.field-0.0 c.from_residual.ensures.1
    (plain_first {m = moment c.args.g.now c.args.t.now c.args.scope.now}
    (λ sc. exceptions_of sc (map ex_phrase c.args.binds.now)) c.args.at c.elab_exceptions.new.t
    c.in_err-made.ensures.same c.requires
    (in_scope (moment c.args.g.now c.args.t.now c.args.scope.now)
    (λ sc. exceptions_of sc (map ex_phrase c.args.binds.now)) (Err c.in_err-made.field-0.0) c.requires
    (c.in_err-made.ensures.infers own_entry exception_read)))

pub returns : goal.returns
returns c =
    plain_done {m = moment c.args.g.now c.args.t.now c.args.scope.now}
    (λ sc. exceptions_of sc (map ex_phrase c.args.binds.now)) c.args.at c.in_ok-made.made c.elab_exceptions.new.t
    c.check_made.new.t c.in_ok-made.ensures.same c.check_made.ensures.same c.requires
    (in_scope (moment c.args.g.now c.args.t.now c.args.scope.now)
    (λ sc. exceptions_of sc (map ex_phrase c.args.binds.now)) (Ok c.in_ok-made.made) c.requires
    (c.in_ok-made.ensures.infers own_entry exception_read))
    (no_envs c.args.g.now c.in_ok-made.made c.in_ok-made.ensures.structures) c.check_made.ensures.answer
    c.check_made.ensures.it
