use Rattle.graph_copies.proofs.Copying.{env_copied}
use Rattle.graph_copies.proofs.nodes.copied_env.Goals as goal

pub returns : goal.returns
returns c = env_copied c.args.graph.now.items c.args.images.now c.args.kept.now c.in_ok-tables.tables
    c.requires.tables c.requires.facts c.in_ok-tables.ensures.structures c.in_ok-tables.ensures.types
    c.in_ok-tables.ensures.values
