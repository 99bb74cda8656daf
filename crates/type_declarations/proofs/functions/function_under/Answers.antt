use Rattle.bare_phrases.specs.PhraseOf.{ty_phrase}
use Rattle.core_scopes.specs.Scopes.{written_rows}
use Rattle.type_declarations.proofs.Listing.{under_over, under_alone, under_function}
use Rattle.type_declarations.proofs.functions.function_under.Goals as goal

pub closed_function-made-requires-clause-scope : goal.closed_function-made-requires-clause-scope
closed_function-made-requires-clause-scope g c =
    under_over c.args.g.now c.args.t.now c.args.scope.now c.bind_written_alone.new.self c.args.list.now
    (written_rows c.in_ok-written.written) c.in_ok-written.ensures
    (c.in_ok-bind_written_alone.ensures.ok c.args.g.now) c.requires.scope c.requires.list

pub closed_function-made-requires-clause-alone : goal.closed_function-made-requires-clause-alone
closed_function-made-requires-clause-alone g c =
    under_alone c.args.g.now c.args.t.now c.args.scope.now c.bind_written_alone.new.self c.args.list.now
    (written_rows c.in_ok-written.written) c.in_ok-written.ensures
    (c.in_ok-bind_written_alone.ensures.ok c.args.g.now) c.requires.list

pub returns-clause-infers : goal.returns-clause-infers
returns-clause-infers g c = λ u read.
    under_function c.args.g.now c.args.t.now c.args.scope.now c.bind_written_alone.new.self c.args.list.now
    (written_rows c.in_ok-written.written) c.in_ok-written.ensures
    (c.in_ok-bind_written_alone.ensures.ok c.args.g.now) u read (ty_phrase c.args.phrase.now)
    c.closed_function-made.result (c.closed_function-made.ensures.infers read)
