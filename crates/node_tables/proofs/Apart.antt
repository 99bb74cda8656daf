-- Rows that differ are differing nodes.
use Rattle.std.proofs.Common.{◌≡◌, ◌≢◌, ◌⊎◌, inl, inr, ℕ, zero, suc, ◌<◌, refl, sym, ap₂, ◌∙◌, List, [], ◌∷◌, length, get_or, Some, arith}
use Rattle.std.specs.Prelude.{slice_get}
use Rattle.std.specs.List.{AllPairs}
use Rattle.std.proofs.lemmas.Bool.{cases_order}
use Rattle.std.proofs.lemmas.Option.{slice_get-get_or}
use Rattle.node_bytes.specs.Nodes.{Node, Content}
use Rattle.node_bytes.specs.Tables.{nowhere, content_of, row_node, table_nodes, table_node, AreRows, AreApart}
use Rattle.node_bytes.specs.declared.table.Item.{Item}
use Rattle.node_bytes.specs.declared.table.Item.TheVariants as item
use Rattle.node_bytes.specs.declared.table.Row.{Row}
use Rattle.node_bytes.proofs.Rows.{table_at}

abbrev row_of : ℕ → List Item → Row
row_of tag items = record { tag = tag; items = items }

-- equal contents have equal items, where the parts of one are told apart
items_same : (made : List Node) (P Q : ℕ → Type 0)
    → ((a b : ℕ) → P a → Q b → get_or made a nowhere ≡ get_or made b nowhere → a ≡ b) → (xs ys : List Item)
    → ((k part : ℕ) → slice_get xs k ≡ Some (item.Part part) → P part)
    → ((k part : ℕ) → slice_get ys k ≡ Some (item.Part part) → Q part)
    → content_of made xs ≡ content_of made ys → xs ≡ ys
items_same made P Q told [] [] h k e = refl
items_same made P Q told [] (item.Piece t ∷ ys) h k e = absurd (cc)
items_same made P Q told [] (item.Part q ∷ ys) h k e = absurd (cc)
items_same made P Q told (item.Piece s ∷ xs) [] h k e = absurd (cc)
items_same made P Q told (item.Part p ∷ xs) [] h k e = absurd (cc)
items_same made P Q told (item.Piece s ∷ xs) (item.Part q ∷ ys) h k e = absurd (cc)
items_same made P Q told (item.Part p ∷ xs) (item.Piece t ∷ ys) h k e = absurd (cc)
items_same made P Q told (item.Piece s ∷ xs) (item.Piece t ∷ ys) h k e =
    let text : s ≡ t = cc in
    let rest : content_of made xs ≡ content_of made ys = cc in
    ap₂ (λ (z : List ℕ) (zs : List Item). item.Piece z ∷ zs) text
    (items_same made P Q told xs ys (λ i. h (suc i)) (λ i. k (suc i)) rest)
items_same made P Q told (item.Part p ∷ xs) (item.Part q ∷ ys) h k e =
    let part : get_or made p nowhere ≡ get_or made q nowhere = cc in
    let rest : content_of made xs ≡ content_of made ys = cc in
    ap₂ (λ (z : ℕ) (zs : List Item). item.Part z ∷ zs) (told p q (h 0 p refl) (k 0 q refl) part)
    (items_same made P Q told xs ys (λ i. h (suc i)) (λ i. k (suc i)) rest)

node_parts : (s t : ℕ) (c d : Content) → Node.node s c ≡ Node.node t d → (s ≡ t) × (c ≡ d)
node_parts s t c d e = (cc, cc)

one_place : (rows : List Row) → AllPairs (λ x y. x ≢ y) rows → (d : Row) (p q : ℕ) → p < length rows
    → q < length rows → get_or rows p d ≡ get_or rows q d → p ≡ q
one_place rows pairs d p q a b e = by_order (cases_order p q)
  where
    by_order : (p ≡ q) ⊎ ((p < q) ⊎ (q < p)) → p ≡ q
    by_order (inl h) = h
    by_order (inr (inl lt)) = absurd (pairs p q d lt b e)
    by_order (inr (inr lt)) = absurd (pairs q p d lt a (sym e))

apart_below : (rows : List Row) → AreRows rows → AllPairs (λ x y. x ≢ y) rows → (n p q : ℕ) → p < n
    → p < length rows → q < length rows → table_node rows p ≡ table_node rows q → p ≡ q
apart_below rows h pairs zero p q lt a b e = absurd (omega (arith, lt))
apart_below rows h pairs (suc n) p q lt a b e =
    let d = row_of 0 [] in
    let x = get_or rows p d in
    let y = get_or rows q d in
    let at_p : slice_get rows p ≡ Some x = slice_get-get_or rows p d a in
    let at_q : slice_get rows q ≡ Some y = slice_get-get_or rows q d b in
    let made = table_nodes rows in
    let same : row_node made x ≡ row_node made y =
    sym (table_at rows h p x at_p) ∙ e ∙ table_at rows h q y at_q in
    let parts = node_parts x.tag y.tag (content_of made x.items) (content_of made y.items) same in
    let items = items_same made (λ i. i < p) (λ i. i < q)
    (λ i j i_lt j_lt k. apart_below rows h pairs n i j (omega (arith, i_lt, lt)) (omega (arith, i_lt, a))
    (omega (arith, j_lt, b)) k) x.items y.items (λ k part i. h.before p x k part at_p i)
    (λ k part i. h.before q y k part at_q i) parts.1 in
    one_place rows pairs d p q a b (ap₂ row_of parts.0 items)

pub rows_apart : (rows : List Row) → AreRows rows → AllPairs (λ x y. x ≢ y) rows → AreApart rows
rows_apart rows h pairs = record {
  apart = λ p q a b e. apart_below rows h pairs (suc p) p q (omega arith) a b e;
}
