-- What items are as contents, and that their parts are places of the table.
use Rattle.std.proofs.Common.{◌≡◌, ℕ, zero, suc, ◌<◌, refl, sym, ap, subst, ◌∙◌, List, [], ◌∷◌, ◌++◌, length, Some, Bool, true, false}
use Rattle.std.specs.Prelude.{slice_get}
use Rattle.std.specs.List.{flat_map}
use Rattle.std.proofs.lemmas.List.{length-map}
use Rattle.cm_bytes.specs.Fields.{u32_of}
use Rattle.node_bytes.specs.Nodes.{Node, Content}
use Rattle.node_bytes.specs.Shapes.{with_number, with_items, with_list}
use Rattle.node_bytes.specs.Tables.{content_of}
use Rattle.node_bytes.specs.declared.table.Item.{Item}
use Rattle.node_bytes.specs.declared.table.Item.TheVariants as item
use Rattle.node_tables.specs.Tables.{HasParts}
use Rattle.semantic_objects.specs.declared.name.Owner.{Owner}
use Rattle.semantic_objects.specs.declared.name.Owner.TheVariants as owner
use Rattle.semantic_objects.specs.declared.name.TyName.{TyName}
use Rattle.semantic_objects.specs.Symbols.{same_text}
use Rattle.interface_format.specs.Tags.{with_unit, with_owner, with_type_name, with_named, with_value, bool_byte}
use Rattle.interface_nodes.specs.declared.fields.NamedPlace.{NamedPlace}
use Rattle.interface_nodes.specs.declared.fields.ValuePlace.{ValuePlace}
use Rattle.interface_nodes.specs.Fields.{row_items, table_items, value_items, values_items, part_items, parts_items, unit_items, owner_items, type_name_items, node_at, nodes_at, row_at, rows_at, value_at, values_at, AreBelow, RowsAreBelow, ValuesAreBelow}

-- ---- contents

-- items with more content behind them
abbrev pub before : List Node → List Item → Content → Content
before made [] c = c
before made (item.Piece text ∷ items) c = Content.piece text (before made items c)
before made (item.Part p ∷ items) c = Content.part (node_at made p) (before made items c)

pub content_is : (made : List Node) (items : List Item) → content_of made items ≡ before made items Content.nothing
content_is made [] = refl
content_is made (item.Piece text ∷ items) = ap (λ c. Content.piece text c) (content_is made items)
content_is made (item.Part p ∷ items) = ap (λ c. Content.part (node_at made p) c) (content_is made items)

pub before_append : (made : List Node) (xs ys : List Item) (c : Content)
    → before made (xs ++ ys) c ≡ before made xs (before made ys c)
before_append made [] ys c = refl
before_append made (item.Piece text ∷ xs) ys c = ap (λ d. Content.piece text d) (before_append made xs ys c)
before_append made (item.Part p ∷ xs) ys c = ap (λ d. Content.part (node_at made p) d) (before_append made xs ys c)

count_same : (m n : ℕ) (c : Content) → m ≡ n → with_number m c ≡ with_number n c
count_same m n c e = ap (λ k. with_number k c) e

rows_before : (made : List Node) (rows : List NamedPlace) (c : Content)
    → before made (flat_map row_items rows) c ≡ with_items with_named (rows_at made rows) c
rows_before made [] c = refl
rows_before made (row ∷ rows) c = ap (λ d. with_named (row_at made row) d) (rows_before made rows c)

pub table_before : (made : List Node) (rows : List NamedPlace) (c : Content)
    → before made (table_items rows) c ≡ with_list with_named (rows_at made rows) c
table_before made rows c = ap (λ d. with_number (length rows) d) (rows_before made rows c)
    ∙ count_same (length rows) (length (rows_at made rows)) (with_items with_named (rows_at made rows) c)
    (sym (length-map rows (row_at made)))

value_rows_before : (made : List Node) (rows : List ValuePlace) (c : Content)
    → before made (flat_map value_items rows) c ≡ with_items with_value (values_at made rows) c
value_rows_before made [] c = refl
value_rows_before made (row ∷ rows) c = ap (λ d. with_value (value_at made row) d) (value_rows_before made rows c)

pub values_before : (made : List Node) (rows : List ValuePlace) (c : Content)
    → before made (values_items rows) c ≡ with_list with_value (values_at made rows) c
values_before made rows c = ap (λ d. with_number (length rows) d) (value_rows_before made rows c)
    ∙ count_same (length rows) (length (values_at made rows)) (with_items with_value (values_at made rows) c)
    (sym (length-map rows (value_at made)))

part_rows_before : (made : List Node) (places : List ℕ) (c : Content)
    → before made (flat_map part_items places) c ≡ with_items Content.part (nodes_at made places) c
part_rows_before made [] c = refl
part_rows_before made (p ∷ ps) c = ap (λ d. Content.part (node_at made p) d) (part_rows_before made ps c)

pub parts_before : (made : List Node) (places : List ℕ) (c : Content)
    → before made (parts_items places) c ≡ with_list Content.part (nodes_at made places) c
parts_before made places c = ap (λ d. with_number (length places) d) (part_rows_before made places c)
    ∙ count_same (length places) (length (nodes_at made places)) (with_items Content.part (nodes_at made places) c)
    (sym (length-map places (node_at made)))

unit_before : (made : List Node) (b : Bool) (u : List ℕ) (c : Content)
    → before made (unit_items b u) c ≡ with_unit b u c
unit_before made true u c = refl
unit_before made false u c = refl

owner_before : (made : List Node) (home : List ℕ) (o : Owner) (c : Content)
    → before made (owner_items home o) c ≡ with_owner home o c
owner_before made home owner.Basis c = refl
owner_before made home (owner.«Unit» u) c = unit_before made (same_text home u) u c
owner_before made home owner.Bound c = refl

pub name_before : (made : List Node) (home : List ℕ) (m : TyName) (c : Content)
    → before made (type_name_items home m) c ≡ with_type_name home m c
name_before made home m c =
    let behind : List Item =
    item.Piece (u32_of m.number) ∷ item.Piece (u32_of m.arity) ∷ item.Piece (bool_byte m.eq ∷ []) ∷ [] in
    before_append made (owner_items home m.owner) behind c ∙ owner_before made home m.owner (before made behind c)

-- ---- parts

-- the parts among some items are below a number
abbrev pub Below : ℕ → List Item → Type 0
Below n [] = Unit {0}
Below n (item.Piece text ∷ items) = Below n items
Below n (item.Part p ∷ items) = (p < n) × Below n items

pub below_append : (n : ℕ) (xs ys : List Item) → Below n xs → Below n ys → Below n (xs ++ ys)
below_append n [] ys h k = k
below_append n (item.Piece text ∷ xs) ys h k = below_append n xs ys h k
below_append n (item.Part p ∷ xs) ys h k = (h.0, below_append n xs ys h.1 k)

below_get : (n : ℕ) (items : List Item) → Below n items → (i part : ℕ)
    → slice_get items i ≡ Some (item.Part part) → part < n
below_get n [] h i part e = absurd (cc)
below_get n (item.Piece text ∷ items) h zero part e = absurd (cc)
below_get n (item.Piece text ∷ items) h (suc i) part e = below_get n items h i part e
below_get n (item.Part p ∷ items) h zero part e = subst (λ q. q < n) (let k : p ≡ part = cc in k) h.0
below_get n (item.Part p ∷ items) h (suc i) part e = below_get n items h.1 i part e

pub has_parts : (n : ℕ) (items : List Item) → Below n items → HasParts n items
has_parts n items h = record { below = below_get n items h }

pub table_below : (n : ℕ) (rows : List NamedPlace) → RowsAreBelow n rows → Below n (table_items rows)
table_below n [] h = tt
table_below n (row ∷ rows) h = (h.0, rows_below n rows h.1)
  where
    rows_below : (m : ℕ) (rs : List NamedPlace) → RowsAreBelow m rs → Below m (flat_map row_items rs)
    rows_below m [] k = tt
    rows_below m (r ∷ rs) k = (k.0, rows_below m rs k.1)

pub values_below : (n : ℕ) (rows : List ValuePlace) → ValuesAreBelow n rows → Below n (values_items rows)
values_below n [] h = tt
values_below n (row ∷ rows) h = (h.0, rows_below n rows h.1)
  where
    rows_below : (m : ℕ) (rs : List ValuePlace) → ValuesAreBelow m rs → Below m (flat_map value_items rs)
    rows_below m [] k = tt
    rows_below m (r ∷ rs) k = (k.0, rows_below m rs k.1)

pub parts_below : (n : ℕ) (places : List ℕ) → AreBelow n places → Below n (parts_items places)
parts_below n [] h = tt
parts_below n (p ∷ ps) h = (h.0, rows_below n ps h.1)
  where
    rows_below : (m : ℕ) (qs : List ℕ) → AreBelow m qs → Below m (flat_map part_items qs)
    rows_below m [] k = tt
    rows_below m (q ∷ qs) k = (k.0, rows_below m qs k.1)

unit_below : (n : ℕ) (b : Bool) (u : List ℕ) → Below n (unit_items b u)
unit_below n true u = tt
unit_below n false u = tt

owner_below : (n : ℕ) (home : List ℕ) (o : Owner) → Below n (owner_items home o)
owner_below n home owner.Basis = tt
owner_below n home (owner.«Unit» u) = unit_below n (same_text home u) u
owner_below n home owner.Bound = tt

pub name_below : (n : ℕ) (home : List ℕ) (m : TyName) → Below n (type_name_items home m)
name_below n home m =
    let behind : List Item =
    item.Piece (u32_of m.number) ∷ item.Piece (u32_of m.arity) ∷ item.Piece (bool_byte m.eq ∷ []) ∷ [] in
    below_append n (owner_items home m.owner) behind (owner_below n home m.owner) tt

-- ---- lists one behind another, as the items of whole nodes

-- items that are built up from none
from_none : (none items more : List Item) → none ≡ [] → items ≡ none ++ more → items ≡ more
from_none none items more h e = e ∙ ap (λ z. z ++ more) h

pub one_content : (made : List Node) (none items xs : List Item) (c : Content) → none ≡ [] → items ≡ none ++ xs
    → before made xs Content.nothing ≡ c → content_of made items ≡ c
one_content made none items xs c h e k =
    ap (content_of made) (from_none none items xs h e) ∙ content_is made xs ∙ k

pub one_below : (n : ℕ) (none items xs : List Item) → none ≡ [] → items ≡ none ++ xs → Below n xs → HasParts n items
one_below n none items xs h e k = subst (HasParts n) (sym (from_none none items xs h e)) (has_parts n xs k)

two_items : (none a b xs ys : List Item) → none ≡ [] → a ≡ none ++ xs → b ≡ a ++ ys → b ≡ xs ++ ys
two_items none a b xs ys h e f = f ∙ ap (λ z. z ++ ys) (from_none none a xs h e)

pub two_content : (made : List Node) (none a b xs ys : List Item) (c : Content) → none ≡ [] → a ≡ none ++ xs
    → b ≡ a ++ ys → before made xs (before made ys Content.nothing) ≡ c → content_of made b ≡ c
two_content made none a b xs ys c h e f k =
    ap (content_of made) (two_items none a b xs ys h e f) ∙ content_is made (xs ++ ys)
    ∙ before_append made xs ys Content.nothing ∙ k

pub two_below : (n : ℕ) (none a b xs ys : List Item) → none ≡ [] → a ≡ none ++ xs → b ≡ a ++ ys
    → Below n xs → Below n ys → HasParts n b
two_below n none a b xs ys h e f k l =
    subst (HasParts n) (sym (two_items none a b xs ys h e f)) (has_parts n (xs ++ ys) (below_append n xs ys k l))

pub three_content : (made : List Node) (none a b d xs ys zs : List Item) (c : Content) → none ≡ []
    → a ≡ none ++ xs → b ≡ a ++ ys → d ≡ b ++ zs
    → before made xs (before made ys (before made zs Content.nothing)) ≡ c → content_of made d ≡ c
three_content made none a b d xs ys zs c h e f g k =
    ap (content_of made) (g ∙ ap (λ z. z ++ zs) (two_items none a b xs ys h e f)) ∙ content_is made ((xs ++ ys) ++ zs)
    ∙ before_append made (xs ++ ys) zs Content.nothing
    ∙ before_append made xs ys (before made zs Content.nothing) ∙ k

pub three_below : (n : ℕ) (none a b d xs ys zs : List Item) → none ≡ [] → a ≡ none ++ xs → b ≡ a ++ ys
    → d ≡ b ++ zs → Below n xs → Below n ys → Below n zs → HasParts n d
three_below n none a b d xs ys zs h e f g k l m =
    subst (HasParts n) (sym (g ∙ ap (λ z. z ++ zs) (two_items none a b xs ys h e f)))
    (has_parts n ((xs ++ ys) ++ zs) (below_append n (xs ++ ys) zs (below_append n xs ys k l) m))

pub four_content : (made : List Node) (none a b d f ws xs ys zs : List Item) (c : Content) → none ≡ []
    → a ≡ none ++ ws → b ≡ a ++ xs → d ≡ b ++ ys → f ≡ d ++ zs
    → before made ws (before made xs (before made ys (before made zs Content.nothing))) ≡ c → content_of made f ≡ c
four_content made none a b d f ws xs ys zs c h e g i j k =
    let three = i ∙ ap (λ z. z ++ ys) (two_items none a b ws xs h e g) in
    ap (content_of made) (j ∙ ap (λ z. z ++ zs) three) ∙ content_is made (((ws ++ xs) ++ ys) ++ zs)
    ∙ before_append made ((ws ++ xs) ++ ys) zs Content.nothing
    ∙ before_append made (ws ++ xs) ys (before made zs Content.nothing)
    ∙ before_append made ws xs (before made ys (before made zs Content.nothing)) ∙ k

pub four_below : (n : ℕ) (none a b d f ws xs ys zs : List Item) → none ≡ [] → a ≡ none ++ ws → b ≡ a ++ xs
    → d ≡ b ++ ys → f ≡ d ++ zs → Below n ws → Below n xs → Below n ys → Below n zs → HasParts n f
four_below n none a b d f ws xs ys zs h e g i j k l m o =
    let three = i ∙ ap (λ z. z ++ ys) (two_items none a b ws xs h e g) in
    subst (HasParts n) (sym (j ∙ ap (λ z. z ++ zs) three))
    (has_parts n (((ws ++ xs) ++ ys) ++ zs) (below_append n ((ws ++ xs) ++ ys) zs
    (below_append n (ws ++ xs) ys (below_append n ws xs k l) m) o))

-- ---- whole nodes

pub env_content : (made : List Node) (ss ts : List NamedPlace) (vs : List ValuePlace)
    → before made (table_items ss) (before made (table_items ts) (before made (values_items vs) Content.nothing))
    ≡ with_list with_named (rows_at made ss) (with_list with_named (rows_at made ts)
    (with_list with_value (values_at made vs) Content.nothing))
env_content made ss ts vs =
    let third = with_list with_value (values_at made vs) Content.nothing in
    let second = with_list with_named (rows_at made ts) third in
    ap (λ c. before made (table_items ss) (before made (table_items ts) c)) (values_before made vs Content.nothing)
    ∙ ap (before made (table_items ss)) (table_before made ts third) ∙ table_before made ss second

pub unit_content : (made : List Node) (ws xs ys zs : List NamedPlace)
    → before made (table_items ws) (before made (table_items xs) (before made (table_items ys)
    (before made (table_items zs) Content.nothing)))
    ≡ with_list with_named (rows_at made ws) (with_list with_named (rows_at made xs)
    (with_list with_named (rows_at made ys) (with_list with_named (rows_at made zs) Content.nothing)))
unit_content made ws xs ys zs =
    let fourth = with_list with_named (rows_at made zs) Content.nothing in
    let third = with_list with_named (rows_at made ys) fourth in
    let second = with_list with_named (rows_at made xs) third in
    ap (λ c. before made (table_items ws) (before made (table_items xs) (before made (table_items ys) c)))
    (table_before made zs Content.nothing)
    ∙ ap (λ c. before made (table_items ws) (before made (table_items xs) c)) (table_before made ys fourth)
    ∙ ap (before made (table_items ws)) (table_before made xs third) ∙ table_before made ws second

pub named_content : (made : List Node) (home : List ℕ) (m : TyName) (places : List ℕ)
    → before made (type_name_items home m) (before made (parts_items places) Content.nothing)
    ≡ with_type_name home m (with_list Content.part (nodes_at made places) Content.nothing)
named_content made home m places =
    ap (before made (type_name_items home m)) (parts_before made places Content.nothing)
    ∙ name_before made home m (with_list Content.part (nodes_at made places) Content.nothing)
