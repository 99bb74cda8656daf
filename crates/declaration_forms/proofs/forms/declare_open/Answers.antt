use Rattle.std.proofs.Common.{refl}
use Rattle.std.specs.Prelude.{Ok, Err}
use Rattle.semantic_objects.specs.Environments.{empty_env}
use Rattle.static_semantics.specs.CoreInference.{infer_open}
use Rattle.pattern_elab.specs.Scopes.{own_entry}
use Rattle.core_rules.specs.Moments.{moment}
use Rattle.core_rules.proofs.Declaring.{dec_passed}
use Rattle.declaration_forms.proofs.Declared.{in_scope, plain_first, plain_done}
use Rattle.declaration_forms.proofs.forms.declare_open.Goals as goal

pub returns-in_err-made : goal.returns-in_err-made
returns-in_err-made c =
    dec_passed c.from_residual.result c.in_err-made.field-0.0 c.from_residual.ensures.1
    (plain_first {m = moment c.args.g.now c.args.t.now c.args.scope.now}
    (λ sc. infer_open sc c.args.longs.now empty_env) c.args.at c.args.t.now refl c.requires
    (in_scope (moment c.args.g.now c.args.t.now c.args.scope.now)
    (λ sc. infer_open sc c.args.longs.now empty_env) (Err c.in_err-made.field-0.0) c.requires
    (c.in_err-made.ensures.infers c.args.t.now own_entry)))

pub returns : goal.returns
returns c =
    plain_done {m = moment c.args.g.now c.args.t.now c.args.scope.now}
    (λ sc. infer_open sc c.args.longs.now empty_env) c.args.at c.in_ok-made.made c.args.t.now c.check_made.new.t refl
    c.check_made.ensures.same c.requires
    (in_scope (moment c.args.g.now c.args.t.now c.args.scope.now)
    (λ sc. infer_open sc c.args.longs.now empty_env) (Ok c.in_ok-made.made) c.requires
    (c.in_ok-made.ensures.infers c.args.t.now own_entry))
    c.in_ok-made.ensures.there c.check_made.ensures.answer c.check_made.ensures.it
