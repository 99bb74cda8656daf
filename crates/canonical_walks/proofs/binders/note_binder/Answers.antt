use Rattle.type_walks.proofs.Imaging.{on_ok}
use Rattle.canonical_walks.proofs.Canons.{canon_noted}
use Rattle.canonical_walks.proofs.binders.note_binder.Goals as goal

pub returns-clause-canon : goal.returns-clause-canon
returns-clause-canon c = on_ok c.set.result c.set.ensures
    (λ s. canon_noted c.args.own.now c.args.graph.now c.canon_binder.new.graph c.canon_binder.new.images
    c.args.made.now c.set.new.self c.args.place c.in_ok-image.image c.requires.canon c.canon_binder.ensures.extends
    c.in_ok-image.ensures.canon s)
