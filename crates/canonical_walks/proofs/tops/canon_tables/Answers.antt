use Rattle.canonical_walks.proofs.Topped.{top_made}
use Rattle.canonical_walks.proofs.tops.canon_tables.Goals as goal

pub returns-clause-made : goal.returns-clause-made
returns-clause-made c = top_made c.args.own.now c.args.tables.now c.in_ok-env.env c.in_ok-signatures.signatures
    c.in_ok-functors.functors c.in_ok-funsigs.funsigs c.args.graph.now c.change_env.new.graph c.canon_rows.new.graph
    c.canon_rows-2.new.graph c.canon_rows-3.new.graph c.requires.tables c.in_ok-env.ensures.extends
    c.in_ok-signatures.ensures.extends c.in_ok-functors.ensures.extends c.in_ok-funsigs.ensures.extends
    c.in_ok-env.ensures.env c.in_ok-signatures.ensures.rows c.in_ok-functors.ensures.rows c.in_ok-funsigs.ensures.rows
