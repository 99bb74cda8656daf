use Rattle.std.proofs.Common.{◌∙◌}
use Rattle.bare_phrases.specs.PhraseOf.{ty_phrase}
use Rattle.type_nodes.specs.Tables.{type_of}
use Rattle.static_semantics.specs.Inferring.{with_written_alone}
use Rattle.static_semantics.specs.TypeInference.{as_written}
use Rattle.type_phrases.specs.Inferred.{scope_in}
use Rattle.type_declarations.proofs.Listing.{function_refused}
use Rattle.where_types.proofs.TypeFunctions.{function_given}
use Rattle.where_types.proofs.functions.function_under.Goals as goal

pub returns-in_err-made-clause-infers : goal.returns-in_err-made-clause-infers
returns-in_err-made-clause-infers g c = λ u read.
    function_refused (with_written_alone (as_written c.args.list.now) (scope_in c.args.g.now u read c.args.scope.now))
    c.args.list.now (ty_phrase c.args.phrase.now) c.type_under.new.t c.in_err-made.field-0.0 c.from_residual.result
    c.from_residual.ensures.1 (c.in_err-made.ensures.infers u read)

pub returns-in-Ok-clause-infers : goal.returns-in-Ok-clause-infers
returns-in-Ok-clause-infers g c = λ u read.
    function_given (scope_in c.args.g.now u read c.args.scope.now) c.args.list.now (ty_phrase c.args.phrase.now)
    (type_of c.type_under.new.t c.in_ok-made.made.id) c.in_ok-made.made.tree c.in-Ok.arity
    (c.in_ok-made.ensures.infers u read) c.in_ok-made.ensures.tree (c.in-Ok.ensures.1 ∙ c.len.ensures)
