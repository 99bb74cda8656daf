use Rattle.std.proofs.Common.{◌≡◌, ℕ, List, sym, ap, subst, ◌∙◌, length}
use Rattle.std.specs.List.{list_any}
use Rattle.node_bytes.specs.Nodes.{Node}
use Rattle.node_bytes.specs.Rows.{same_row}
use Rattle.node_bytes.specs.Tables.{content_of, table_nodes}
use Rattle.node_bytes.specs.declared.table.Item.{Item}
use Rattle.node_bytes.specs.declared.table.Row.{Row}
use Rattle.node_tables.specs.Tables.{HasParts, Adds}
use Rattle.node_tables.proofs.Adding.{length_nodes, rows_kept, row_added}
use Rattle.node_tables.proofs.table.NodeTable.add.Goals as goal

-- the row of a tag and items
abbrev row_of : ℕ → List Item → Row
row_of tag items = record { tag = tag; items = items }

parts_of_rows : (rows : List Row) (now : List Node) (items : List Item) → table_nodes rows ≡ now
    → HasParts (length now) items → HasParts (length rows) items
parts_of_rows rows now items e h =
    subst (λ n. HasParts n items) (ap length (sym e) ∙ length_nodes rows) h

pub invariant_of-self-2 : goal.invariant_of-self-2
invariant_of-self-2 c =
    let rows = c.self.inside.rows.keys in
    let row = row_of c.args.tag c.args.items in
    rows_kept rows c.insert_full.new.self.keys row (list_any (same_row row) rows) c.self.invariant
    (parts_of_rows rows c.args.self.now c.args.items c.self.view_is c.requires) c.in_ok-place.ensures.keys

pub returns-clause-ok : goal.returns-clause-ok
returns-clause-ok c =
    let rows = c.self.inside.rows.keys in
    let new = c.insert_full.new.self.keys in
    let row = row_of c.args.tag c.args.items in
    let found = c.in_ok-place.ensures.stored in
    subst (λ (z : List Node). Adds z (table_nodes new) (Node.node c.args.tag (content_of z c.args.items))
    c.in_ok-place.place)
    c.self.view_is
    (row_added rows new row found.0 (list_any (same_row row) rows) c.in_ok-place.place c.self.invariant
    (parts_of_rows rows c.args.self.now c.args.items c.self.view_is c.requires) c.in_ok-place.ensures.keys
    found.1 found.2)
