use Rattle.loader_parts.proofs.GoingOn.{source_goes}
use Rattle.loader_parts.proofs.members.load_source.Goals as goal

pub returns-clause-goes : goal.returns-clause-goes
returns-clause-goes g c =
    source_goes c.args.loader.now c.add_source.new.self c.args.holder c.args.found.name c.args.found.options
    c.in_ok-source.source c.requires.ready c.requires.going c.in_ok-add_source.ensures.tables
    c.in_ok-add_source.ensures.gives
