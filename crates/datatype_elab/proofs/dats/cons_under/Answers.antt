use Rattle.std.proofs.Common.{map}
use Rattle.bare_phrases.specs.PhraseOf.{con_phrase}
use Rattle.core_scopes.specs.Scopes.{written_rows}
use Rattle.datatype_elab.proofs.Dating.{under_over, under_alone, under_read}
use Rattle.datatype_elab.proofs.dats.cons_under.Goals as goal

pub read_cons-made-requires-clause-scope : goal.read_cons-made-requires-clause-scope
read_cons-made-requires-clause-scope g c =
    under_over c.args.g.now c.args.t.now c.args.scope.now c.bind_written_alone.new.self c.args.list.now
    (written_rows c.in_ok-written.written) c.in_ok-written.ensures
    (c.in_ok-bind_written_alone.ensures.ok c.args.g.now) c.requires.scope c.requires.list

pub read_cons-made-requires-clause-alone : goal.read_cons-made-requires-clause-alone
read_cons-made-requires-clause-alone g c =
    under_alone c.args.g.now c.args.t.now c.args.scope.now c.bind_written_alone.new.self c.args.list.now
    (written_rows c.in_ok-written.written) c.in_ok-written.ensures
    (c.in_ok-bind_written_alone.ensures.ok c.args.g.now) c.requires.list

pub returns-clause-cons : goal.returns-clause-cons
returns-clause-cons g c =
    under_read c.args.g.now c.args.t.now c.args.scope.now c.bind_written_alone.new.self c.args.list.now
    (written_rows c.in_ok-written.written) c.in_ok-written.ensures
    (c.in_ok-bind_written_alone.ensures.ok c.args.g.now) c.read_cons-made.new.t c.args.refused.now c.args.names.now
    c.read_cons-made.new.names c.args.variables (map con_phrase c.args.cons.now) c.read_cons-made.result
    c.read_cons-made.ensures
