use Rattle.std.proofs.Common.{map}
use Rattle.bare_phrases.specs.PhraseOf.{dat_phrase}
use Rattle.datatype_elab.proofs.Declaring.{no_envs, dats_under}
use Rattle.datatype_elab.proofs.reading.read_under.Goals as goal

pub returns-clause-dats : goal.returns-clause-dats
returns-clause-dats g c =
    dats_under c.args.g.now c.args.t.now c.read_dats-dats.new.t c.args.scope.now c.bind_made.new.self c.new.result
    c.args.types c.new-2.result c.args.refused.now (map dat_phrase c.args.binds.now) c.read_dats-dats.result
    c.new.ensures c.new-2.ensures
    (c.in_ok-bind_made.ensures.ok c.args.g.now (no_envs c.args.g.now c.new.result c.new.ensures))
    c.read_dats-dats.ensures.dats
