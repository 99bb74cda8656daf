use Rattle.std.proofs.Common.{sym, ap, ◌∙◌}
use Rattle.bare_phrases.specs.PhraseOf.{ty_phrase}
use Rattle.type_nodes.specs.Tables.{type_of}
use Rattle.static_semantics.specs.Inferring.{gives}
use Rattle.static_semantics.specs.TypeInference.{infer_ty}
use Rattle.type_phrases.specs.Inferred.{scope_in}
use Rattle.listed_types.specs.declared.listed.ListedType.{ListedType}
use Rattle.listed_types.proofs.Firmness.{refused_as}
use Rattle.listed_types.proofs.listed.elab_listed.Goals as goal

pub returns-in_err-id-clause-infers : goal.returns-in_err-id-clause-infers
returns-in_err-id-clause-infers g c = λ read.
    refused_as (infer_ty (scope_in c.args.g.now c.args.t.now read c.args.scope.now) (ty_phrase c.args.phrase.now))
    (type_of c.elab_firm.new.t) (λ (made : ListedType). type_of c.elab_firm.new.t made.id) c.from_residual.result
    c.in_err-id.field-0.0 c.from_residual.ensures.1 (c.in_err-id.ensures.infers read)

pub returns-in-Ok-clause-infers : goal.returns-in-Ok-clause-infers
returns-in-Ok-clause-infers g c = λ read.
    c.in_ok-id.ensures.infers read ∙ ap (λ t. gives (type_of t c.in_ok-id.id)) (sym c.in-Ok.ensures.same)
