use Rattle.std.proofs.Common.{◌<◌, List, sym, ap, subst, ◌∙◌, length, get_or}
use Rattle.std.proofs.lemmas.Map.Made.{AllPairs-from_IsDistinct}
use Rattle.node_bytes.specs.Nodes.{Node}
use Rattle.node_bytes.specs.Rows.{row_decides}
use Rattle.node_bytes.specs.Spelling.{spelling}
use Rattle.node_bytes.specs.Tables.{nowhere, table_nodes, AreApart, Writes}
use Rattle.node_tables.proofs.Adding.{length_nodes}
use Rattle.node_tables.proofs.Apart.{rows_apart}
use Rattle.node_tables.proofs.table.NodeTable.write.Goals as goal

pub write_node-requires-clause-has : goal.write_node-requires-clause-has
write_node-requires-clause-has c =
    subst (λ n. c.args.root < n)
    (ap length (sym c.self.view_is) ∙ length_nodes c.self.inside.rows.keys ∙ ap length (sym c.as_slice.ensures.keys))
    c.requires

pub write_node-requires-clause-apart : goal.write_node-requires-clause-apart
write_node-requires-clause-apart c =
    subst AreApart (sym c.as_slice.ensures.keys)
    (rows_apart c.self.inside.rows.keys c.self.invariant
    (AllPairs-from_IsDistinct row_decides c.self.inside.rows.keys c.as_slice.ensures.unique))

pub returns : goal.returns
returns c = λ f e.
    subst (λ (z : List Node). Writes c.args.limit (spelling f (get_or z c.args.root nowhere)) c.write_node.result)
    (ap table_nodes c.as_slice.ensures.keys ∙ c.self.view_is) (c.write_node.ensures f e)
