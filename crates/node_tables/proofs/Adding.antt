-- What a table is with one row more, if it didn't stand there.
use Rattle.std.proofs.Common.{◌≡◌, ℕ, zero, suc, ◌+◌, ◌<◌, refl, sym, ap, subst, ◌∙◌, List, [], ◌∷◌, ◌++◌, length, get_or, Some, Bool, true, false, if◌then◌else◌, arith}
use Rattle.std.specs.Prelude.{slice_get}
use Rattle.std.proofs.lemmas.List.{append-nil, length-append, get_or_append_left}
use Rattle.std.proofs.lemmas.Option.{slice_get_within}
use Rattle.node_bytes.specs.Nodes.{Node, Content}
use Rattle.node_bytes.specs.Rows.{same_row, row_decides}
use Rattle.node_bytes.specs.Tables.{nowhere, content_of, row_node, nodes_after, table_nodes, AreRows}
use Rattle.node_bytes.specs.declared.table.Item.TheVariants as item
use Rattle.node_bytes.specs.declared.table.Row.{Row}
use Rattle.node_bytes.proofs.Rows.{table_at, content_same}
use Rattle.node_tables.specs.Tables.{HasParts, Adds}

after_snoc : (made : List Node) (rows : List Row) (row : Row)
    → nodes_after made (rows ++ row ∷ []) ≡ nodes_after made rows ++ row_node (nodes_after made rows) row ∷ []
after_snoc made [] row = refl
after_snoc made (x ∷ xs) row = after_snoc (made ++ row_node made x ∷ []) xs row

nodes_snoc : (rows : List Row) (row : Row)
    → table_nodes (rows ++ row ∷ []) ≡ table_nodes rows ++ row_node (table_nodes rows) row ∷ []
nodes_snoc rows row = after_snoc [] rows row

length_after : (made : List Node) (rows : List Row) → length (nodes_after made rows) ≡ length made + length rows
length_after made [] = let e : length made ≡ length made + 0 = omega arith in e
length_after made (x ∷ xs) =
    let longer = length-append made (row_node made x ∷ []) in
    let more = length_after (made ++ row_node made x ∷ []) xs in
    omega (arith, longer, more)

pub length_nodes : (rows : List Row) → length (table_nodes rows) ≡ length rows
length_nodes rows = let e = length_after [] rows in omega (arith, e)

-- a row in a list with one more: it stands there already, or it is that one
snoc_get : (rows : List Row) (x : Row) (p : ℕ) (r : Row) (P : Type 0) → slice_get (rows ++ x ∷ []) p ≡ Some r
    → (slice_get rows p ≡ Some r → P) → (p ≡ length rows → r ≡ x → P) → P
snoc_get [] x zero r P e old new = new refl (sym (let k : x ≡ r = cc in k))
snoc_get [] x (suc p) r P e old new = absurd (cc)
snoc_get (y ∷ ys) x zero r P e old new = old e
snoc_get (y ∷ ys) x (suc p) r P e old new = snoc_get ys x p r P e old (λ k. new (ap suc k))

rows_snoc : (rows : List Row) (row : Row) → AreRows rows → HasParts (length rows) row.items
    → AreRows (rows ++ row ∷ [])
rows_snoc rows row h k = record {
  before = λ p r i part e f.
      snoc_get rows row p r (part < p) e (λ old. h.before p r i part old f)
      (λ at is. subst (λ n. part < n) (sym at)
      (k.below i part (subst (λ (z : Row). slice_get z.items i ≡ Some (item.Part part)) is f)));
}

rows_if : (rows : List Row) (row : Row) (b : Bool) → AreRows rows → HasParts (length rows) row.items
    → AreRows (if b then rows else rows ++ row ∷ [])
rows_if rows row true h k = h
rows_if rows row false h k = rows_snoc rows row h k

pub rows_kept : (rows new : List Row) (row : Row) (b : Bool) → AreRows rows → HasParts (length rows) row.items
    → new ≡ (if b then rows else rows ++ row ∷ []) → AreRows new
rows_kept rows new row b h k e = subst AreRows (sym e) (rows_if rows row b h k)

-- the same row under a list with one more
content_front : (rows : List Row) (row : Row) → HasParts (length rows) row.items
    → content_of (table_nodes rows) row.items ≡ content_of (table_nodes (rows ++ row ∷ [])) row.items
content_front rows row k =
    let x = row_node (table_nodes rows) row in
    content_same (table_nodes rows) (table_nodes (rows ++ row ∷ [])) (length rows) row.items k.below
    (λ p lt. sym (ap (λ (z : List Node). get_or z p nowhere) (nodes_snoc rows row)
    ∙ get_or_append_left (table_nodes rows) (x ∷ []) nowhere p
    (subst (λ n. p < n) (sym (length_nodes rows)) lt)))

abbrev made_of : List Row → Row → Node
made_of rows row = Node.node row.tag (content_of (table_nodes rows) row.items)

within_nodes : (rows : List Row) (p : ℕ) (r : Row) → slice_get rows p ≡ Some r → p < length (table_nodes rows)
within_nodes rows p r e = subst (λ n. p < n) (sym (length_nodes rows)) (slice_get_within rows p r e)

adds_if : (rows : List Row) (row : Row) (b : Bool) (place : ℕ) → AreRows rows → HasParts (length rows) row.items
    → slice_get (if b then rows else rows ++ row ∷ []) place ≡ Some row
    → Adds (table_nodes rows) (table_nodes (if b then rows else rows ++ row ∷ [])) (made_of rows row) place
adds_if rows row true place h k e = record {
  more = [];
  grown = sym (append-nil (table_nodes rows));
  within = within_nodes rows place row e;
  is = table_at rows h place row e;
}
adds_if rows row false place h k e = record {
  more = row_node (table_nodes rows) row ∷ [];
  grown = nodes_snoc rows row;
  within = within_nodes (rows ++ row ∷ []) place row e;
  is = table_at (rows ++ row ∷ []) (rows_snoc rows row h k) place row e
      ∙ ap (λ (c : Content). Node.node row.tag c) (sym (content_front rows row k));
}

pub row_added : (rows new : List Row) (row found : Row) (b : Bool) (place : ℕ) → AreRows rows
    → HasParts (length rows) row.items → new ≡ (if b then rows else rows ++ row ∷ [])
    → slice_get new place ≡ Some found → same_row row found ≡ true
    → Adds (table_nodes rows) (table_nodes new) (made_of rows row) place
row_added rows new row found b place h k e at same =
    let is : row ≡ found = (row_decides row found).0 same in
    subst (λ (z : List Row). Adds (table_nodes rows) (table_nodes z) (made_of rows row) place) (sym e)
    (adds_if rows row b place h k
    (subst (λ (z : List Row). slice_get z place ≡ Some row) e
    (subst (λ (r : Row). slice_get new place ≡ Some r) (sym is) at)))
