use Rattle.env_parts.specs.declared.tables.TopTables.{TopTables}
use Rattle.graph_copies.proofs.Copying.{top_copied}
use Rattle.graph_copies.proofs.nodes.copied_top.Goals as goal

pub returns : goal.returns
returns c =
    let made : TopTables = record {
      env = c.in_ok-env.env;
      signatures = c.in_ok-signatures.signatures;
      functors = c.in_ok-functors.functors;
      funsigs = c.in_ok-funsigs.funsigs;
    } in
    top_copied c.args.graph.now.items c.args.images.now c.args.tables.now made c.requires c.in_ok-env.ensures
    c.in_ok-signatures.ensures c.in_ok-functors.ensures c.in_ok-funsigs.ensures
