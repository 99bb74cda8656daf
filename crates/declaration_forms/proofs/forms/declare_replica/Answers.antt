use Rattle.std.proofs.Common.{refl}
use Rattle.std.specs.Prelude.{Ok, Err}
use Rattle.static_semantics.specs.DatatypeInference.{infer_replication}
use Rattle.pattern_elab.specs.Scopes.{own_entry}
use Rattle.core_rules.specs.Moments.{moment}
use Rattle.core_rules.proofs.Declaring.{dec_passed}
use Rattle.declaration_forms.proofs.Declared.{in_scope, plain_first, plain_done, no_envs}
use Rattle.declaration_forms.proofs.forms.declare_replica.Goals as goal

pub check_made-requires : goal.check_made-requires
check_made-requires c = no_envs c.args.g.now c.in_ok-made.made c.in_ok-made.ensures.structures

pub returns-in_err-made : goal.returns-in_err-made
returns-in_err-made c =
    dec_passed c.from_residual.result c.in_err-made.field-0.0 c.from_residual.ensures.1
    (plain_first {m = moment c.args.g.now c.args.t.now c.args.scope.now}
    (λ sc. infer_replication sc c.args.name.now c.args.long.now) c.args.at c.args.t.now refl c.requires
    (in_scope (moment c.args.g.now c.args.t.now c.args.scope.now)
    (λ sc. infer_replication sc c.args.name.now c.args.long.now) (Err c.in_err-made.field-0.0) c.requires
    (c.in_err-made.ensures.infers c.args.t.now own_entry)))

pub returns : goal.returns
returns c =
    plain_done {m = moment c.args.g.now c.args.t.now c.args.scope.now}
    (λ sc. infer_replication sc c.args.name.now c.args.long.now) c.args.at c.in_ok-made.made c.args.t.now
    c.check_made.new.t refl c.check_made.ensures.same c.requires
    (in_scope (moment c.args.g.now c.args.t.now c.args.scope.now)
    (λ sc. infer_replication sc c.args.name.now c.args.long.now) (Ok c.in_ok-made.made) c.requires
    (c.in_ok-made.ensures.infers c.args.t.now own_entry))
    (no_envs c.args.g.now c.in_ok-made.made c.in_ok-made.ensures.structures) c.check_made.ensures.answer
    c.check_made.ensures.it
