use Rattle.std.proofs.Common.{◌≤◌, ◌∙◌, sym, ap, length, arith}
use Rattle.std.proofs.lemmas.List.{drop_all}
use Rattle.core_scopes.specs.Scopes.{seen}
use Rattle.nonexpansive.proofs.Fields.{are_all, one_fails, one_holds}
use Rattle.nonexpansive.proofs.expression.+is_nonexpansive.Goals as goal

pub are_nonexpansive-returns-then-not-branch : goal.are_nonexpansive-returns-then-not-branch
are_nonexpansive-returns-then-not-branch g t c = λ read own.
    let env = seen c.args.g.now read c.args.scope.now in
    one_fails env c.args.fields.now c.loop-field.field-index c.field-item.result (are_all env c.args.fields.now)
    c.loop-field-test.true c.field-item.is (sym c.if-not-branch.true ∙ c.in_ok-is_nonexpansive.ensures read own)
    (c.loop-field.invariant read own)

pub are_nonexpansive-loop-field-preserved : goal.are_nonexpansive-loop-field-preserved
are_nonexpansive-loop-field-preserved g t c = λ read own.
    let env = seen c.args.g.now read c.args.scope.now in
    one_holds env c.args.fields.now c.loop-field.field-index c.field-item.result (are_all env c.args.fields.now)
    c.loop-field-test.true c.field-item.is (sym c.if-not-branch.false ∙ c.in_ok-is_nonexpansive.ensures read own)
    (c.loop-field.invariant read own)

pub are_nonexpansive-returns : goal.are_nonexpansive-returns
are_nonexpansive-returns g t c = λ read own.
    let env = seen c.args.g.now read c.args.scope.now in
    let past : length c.args.fields.now ≤ c.loop-field.field-index = omega (arith, c.loop-field-test.false) in
    sym (ap (are_all env) (drop_all c.loop-field.field-index c.args.fields.now past)) ∙ c.loop-field.invariant read own
