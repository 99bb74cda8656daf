use Rattle.std.proofs.Common.{◌∙◌}
use Rattle.bare_phrases.specs.PhraseOf.{ty_phrase}
use Rattle.type_nodes.specs.Tables.{type_of}
use Rattle.type_phrases.specs.Inferred.{scope_in}
use Rattle.type_declarations.proofs.Listing.{function_made, function_refused}
use Rattle.type_declarations.proofs.functions.closed_function.Goals as goal

pub returns-in_err-made-clause-infers : goal.returns-in_err-made-clause-infers
returns-in_err-made-clause-infers g c = λ read.
    function_refused (scope_in c.args.g.now c.args.t.now read c.args.scope.now) c.args.list.now
    (ty_phrase c.args.phrase.now) c.elab_listed.new.t c.in_err-made.field-0.0 c.from_residual.result
    c.from_residual.ensures.1 (c.in_err-made.ensures.infers read)

pub returns-clause-infers : goal.returns-clause-infers
returns-clause-infers g c = λ read.
    function_made (scope_in c.args.g.now c.args.t.now read c.args.scope.now) c.args.list.now
    (ty_phrase c.args.phrase.now) (type_of c.elab_listed.new.t c.in_ok-made.made.id) c.in_ok-made.made.tree
    c.in-Ok.arity c.len-2.result c.first_number-first.result (c.in_ok-made.ensures.infers read)
    c.in_ok-made.ensures.tree c.len-2.ensures (c.in-Ok.ensures.1 ∙ c.len.ensures)
    (c.first_number-first.ensures c.requires.list.first c.requires.list.numbered)
