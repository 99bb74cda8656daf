use Rattle.sml_modules.specs.Graphs.{signature_of}
use Rattle.canonical_walks.proofs.Canons.{sig_canon}
use Rattle.canonical_walks.proofs.binders.canon_signature.Goals as goal

pub returns-clause-canon : goal.returns-clause-canon
returns-clause-canon c = sig_canon c.args.own.now c.args.graph.now c.change_env.new.graph
    c.numbered_signature.new.graph c.change_env.new.images c.args.sig.place
    (signature_of c.args.graph.now c.in_ok-parts.parts) c.in_ok-env.env c.numbered_signature.result c.requires.own
    c.requires.there c.in_ok-parts.ensures.parts c.in_ok-env.ensures.env.stands c.in_ok-env.ensures.changed
    c.numbered_signature.ensures.extends c.numbered_signature.ensures.is
