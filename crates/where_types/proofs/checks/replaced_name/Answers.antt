use Rattle.std.specs.Option.{option_copied}
use Rattle.semantic_objects.specs.declared.name.TyName.{TyName}
use Rattle.module_semantics.specs.SignatureInference.{with_function}
use Rattle.where_types.proofs.Checking.{arity_refused, equality_refused, checked}
use Rattle.where_types.proofs.checks.replaced_name.Goals as goal

pub returns-in_err-check_arity : goal.returns-in_err-check_arity
returns-in_err-check_arity c = λ inner sig home same.
    arity_refused inner c.args.at c.args.long.now c.args.old.now c.args.by.now sig (λ (u : Unit {0}). tt)
    (λ (name : TyName). with_function name c.args.by.now sig) c.in_err-check_arity.field-0.0 c.from_residual.result
    c.from_residual.ensures.1 (c.in_err-check_arity.ensures inner home)

pub returns-in_err-check_equality : goal.returns-in_err-check_equality
returns-in_err-check_equality c = λ inner sig home same.
    equality_refused inner c.args.at c.args.long.now c.args.old.now c.args.by.now sig
    (c.in_ok-check_arity.ensures inner home) (option_copied c.in_ok-name.name) c.in_ok-name.ensures
    (λ (u : Unit {0}). tt) (λ (name : TyName). with_function name c.args.by.now sig)
    c.in_err-check_equality.field-0.0 c.from_residual-in_err-check_equality.result
    c.from_residual-in_err-check_equality.ensures.1 (c.in_err-check_equality.ensures inner home)

pub returns : goal.returns
returns c = λ inner sig home same.
    checked inner c.args.at c.args.long.now c.args.old.now c.args.by.now sig (c.in_ok-check_arity.ensures inner home)
    (option_copied c.in_ok-name.name) c.in_ok-name.ensures
    (λ (name : TyName). with_function name c.args.by.now sig) c.flexible.result
    (c.in_ok-check_equality.ensures inner home) (c.flexible.ensures inner c.args.by.now sig home same)
