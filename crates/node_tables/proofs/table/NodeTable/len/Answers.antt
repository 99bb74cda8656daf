use Rattle.std.proofs.Common.{sym, ap, ◌∙◌, length}
use Rattle.node_tables.proofs.Adding.{length_nodes}
use Rattle.node_tables.proofs.table.NodeTable.len.Goals as goal

pub returns : goal.returns
returns c =
    ap length c.as_slice.ensures.keys ∙ sym (length_nodes c.self.inside.rows.keys) ∙ ap length c.self.view_is
