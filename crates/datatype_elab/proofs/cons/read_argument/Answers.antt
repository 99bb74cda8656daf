use Rattle.std.proofs.Common.{ap, ◌∙◌, Some}
use Rattle.unification.specs.Types.{Ty}
use Rattle.static_semantics.specs.Inferring.{Answer, ◌>>=◌, gives}
use Rattle.type_phrases.specs.Inferred.{scope_in}
use Rattle.datatype_elab.proofs.Consing.{argument_is, argument_refused}
use Rattle.datatype_elab.proofs.cons.read_argument.Goals as goal

pub returns-in_err-arg-in-Some-clause-infers : goal.returns-in_err-arg-in-Some-clause-infers
returns-in_err-arg-in-Some-clause-infers g c = λ read.
    argument_refused (scope_in c.args.g.now c.args.t.now read c.args.scope.now) c.elab_listed.new.t c.args.con.now.arg
    c.in-Some.ty c.in_err-arg-in-Some.field-0.0 c.from_residual.result c.in-Some.is c.from_residual.ensures.1
    (c.in_err-arg-in-Some.ensures.infers read)

pub returns-in_ok-arg-in-Some-clause-infers : goal.returns-in_ok-arg-in-Some-clause-infers
returns-in_ok-arg-in-Some-clause-infers g c = λ read.
    argument_is (scope_in c.args.g.now c.args.t.now read c.args.scope.now) c.args.con.now.arg c.in-Some.ty c.in-Some.is
    ∙ ap (λ (w : Answer Ty). w >>= λ t. gives (Some t)) (c.in_ok-arg-in-Some.ensures.infers read)
