use Rattle.type_walks.proofs.Imaging.{if_ok}
use Rattle.structure_matching.proofs.Reclosing.{reclosed_is}
use Rattle.structure_matching.proofs.canonical.reclosed.Goals as goal

pub returns-clause-canonical : goal.returns-clause-canonical
returns-clause-canonical c = if_ok c.generalise.result c.generalise.ensures.scheme (λ made e.
    reclosed_is c.args.scheme.now made c.args.t.now c.instantiate.new.self c.new-kept.result c.in_ok-id.id
    c.is_kept.ensures.fit c.requires c.in_ok-id.ensures.made c.in_ok-id.ensures.state c.new-kept.ensures e)
