-- The node at each place of a table is made of its row and of the nodes at earlier places.
use Rattle.std.proofs.Common.{◌≡◌, ℕ, zero, suc, ◌+◌, ◌<◌, refl, sym, ap, ap₂, subst, ◌∙◌, List, [], ◌∷◌, ◌++◌, length, get_or, Some, append_assoc, arith}
use Rattle.std.specs.Prelude.{slice_get}
use Rattle.std.proofs.lemmas.List.{append-nil, length-append, get_or_append_left, get_or-append-add}
use Rattle.cm_bytes.proofs.Fields.{some_is}
use Rattle.node_bytes.specs.Nodes.{Node, Content}
use Rattle.node_bytes.specs.Tables.{nowhere, content_of, row_node, nodes_after, table_nodes, table_node, AreRows}
use Rattle.node_bytes.specs.declared.table.Item.{Item}
use Rattle.node_bytes.specs.declared.table.Item.TheVariants as item
use Rattle.node_bytes.specs.declared.table.Row.{Row}

-- the nodes of rows alone
abbrev added : List Node → List Row → List Node
added made [] = []
added made (row ∷ rows) = row_node made row ∷ added (made ++ row_node made row ∷ []) rows

nodes_add : (made : List Node) (rows : List Row) → nodes_after made rows ≡ made ++ added made rows
nodes_add made [] = sym (append-nil made)
nodes_add made (row ∷ rows) = nodes_add (made ++ row_node made row ∷ []) rows
    ∙ append_assoc made (row_node made row ∷ []) (added (made ++ row_node made row ∷ []) rows)

-- items whose parts stand in a front are made of it
pub content_same : (made all : List Node) (n : ℕ) (items : List Item)
    → ((k part : ℕ) → slice_get items k ≡ Some (item.Part part) → part < n)
    → ((p : ℕ) → p < n → get_or made p nowhere ≡ get_or all p nowhere) → content_of made items ≡ content_of all items
content_same made all n [] below front = refl
content_same made all n (item.Piece text ∷ items) below front =
    ap (λ (c : Content). Content.piece text c)
    (content_same made all n items (λ k part e. below (suc k) part e) front)
content_same made all n (item.Part p ∷ items) below front =
    ap₂ (λ (x : Node) (c : Content). Content.part x c) (front p (below 0 p refl))
    (content_same made all n items (λ k part e. below (suc k) part e) front)

rows_in_turn : (made : List Node) (rows : List Row)
    → ((p : ℕ) (row : Row) (k part : ℕ) → slice_get rows p ≡ Some row → slice_get row.items k ≡ Some (item.Part part)
    → part < length made + p)
    → (p : ℕ) (row : Row) → slice_get rows p ≡ Some row
    → get_or (nodes_after made rows) (length made + p) nowhere ≡ row_node (nodes_after made rows) row
rows_in_turn made [] below p row e = absurd (cc)
rows_in_turn made (first ∷ rows) below zero row e =
    let x = row_node made first in
    let all = nodes_after (made ++ x ∷ []) rows in
    let more = added (made ++ x ∷ []) rows in
    let parts : all ≡ made ++ x ∷ more = nodes_add (made ++ x ∷ []) rows ∙ append_assoc made (x ∷ []) more in
    let here : get_or all (length made + 0) nowhere ≡ x =
    ap (λ (z : List Node). get_or z (length made + 0) nowhere) parts ∙ get_or-append-add made (x ∷ more) 0 nowhere in
    let same : content_of made first.items ≡ content_of all first.items =
    content_same made all (length made) first.items
    (λ k part i. let lt : part < length made + 0 = below 0 first k part refl i in omega (arith, lt))
    (λ p lt. sym (ap (λ (z : List Node). get_or z p nowhere) parts
    ∙ get_or_append_left made (x ∷ more) nowhere p lt)) in
    subst (λ (z : Row). get_or all (length made + 0) nowhere ≡ row_node all z) (some_is first row e)
    (here ∙ ap (λ (c : Content). Node.node first.tag c) same)
rows_in_turn made (first ∷ rows) below (suc p) row e =
    let x = row_node made first in
    let longer : length (made ++ x ∷ []) ≡ length made + 1 = length-append made (x ∷ []) in
    let at : length (made ++ x ∷ []) + p ≡ length made + suc p = omega (arith, longer) in
    let all = nodes_after (made ++ x ∷ []) rows in
    subst (λ (n : ℕ). get_or all n nowhere ≡ row_node all row) at
    (rows_in_turn (made ++ x ∷ []) rows
    (λ q r k part i j. let lt : part < length made + suc q = below (suc q) r k part i j in omega (arith, lt, longer))
    p row e)

pub table_at : (rows : List Row) → AreRows rows → (p : ℕ) (row : Row) → slice_get rows p ≡ Some row
    → table_node rows p ≡ row_node (table_nodes rows) row
table_at rows h p row e =
    subst (λ (n : ℕ). get_or (table_nodes rows) n nowhere ≡ row_node (table_nodes rows) row)
    (let zero_on : 0 + p ≡ p = omega arith in zero_on)
    (rows_in_turn [] rows (λ q r k part i j. let lt : part < q = h.before q r k part i j in omega (arith, lt)) p row e)
