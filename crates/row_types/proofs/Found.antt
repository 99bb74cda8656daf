-- What is found of symbols over rows.
use Rattle.std.proofs.Common.{◌≡◌, ◌≢◌, ℕ, suc, ◌<◌, refl, sym, ap, ap₂, subst, ◌∙◌, List, [], ◌∷◌, length, map, arith, Option, Some, None, Bool, true, false}
use Rattle.std.specs.List.{zip}
use Rattle.std.proofs.lemmas.List.{length-map}
use Rattle.node_bytes.specs.Nodes.{Node, Content}
use Rattle.node_bytes.specs.Shapes.{with_number, with_list}
use Rattle.node_bytes.specs.Tables.{content_of}
use Rattle.node_bytes.specs.declared.table.Item.{Item}
use Rattle.semantic_objects.specs.declared.name.TyName.{TyName}
use Rattle.semantic_objects.specs.declared.node.TypeNode.{TypeNode}
use Rattle.semantic_objects.specs.declared.node.TypeNode.TheVariants as node
use Rattle.semantic_objects.specs.declared.symbol.Symbol.{Symbol}
use Rattle.semantic_objects.specs.declared.symbol.Symbol.TheVariants as symbol
use Rattle.semantic_objects.specs.Symbols.{part_count, HasRisingLabels}
use Rattle.semantic_objects.specs.Trees.{Tree, Trees, trees_of}
use Rattle.semantic_objects.specs.Nodes.{trees_at, unfolded}
use Rattle.interface_format.specs.Tags.{with_named, with_type_name, record_node, arrow_node, named_node}
use Rattle.interface_format.specs.Trees.{node_over, type_node, type_nodes}
use Rattle.interface_format.specs.Rules.{IsNumber, IsTypeName, AreNames, IsSymbol, IsOver, IsType, count_trees}
use Rattle.interface_format.proofs.Told.{Told, part_told, named_told, list_told, number_then_told}
use Rattle.interface_format.proofs.Types.{type_name_told, count_nodes}
use Rattle.interface_nodes.specs.declared.fields.NamedPlace.{NamedPlace}
use Rattle.interface_nodes.specs.Fields.{node_at, nodes_at, row_at, rows_at}
use Rattle.row_fields.specs.Taking.{Begins, NeverBegins, IsAny}
use Rattle.row_fields.specs.Listing.{HasName, AreItems}
use Rattle.row_types.specs.declared.rows.TypeRows.{TypeRows}
use Rattle.row_types.specs.Told.{most, AreTold, PartsAre, LacksType, MakesOf, Makes, MakesRecord, MakesArrow, MakesNamed, name_of, place_of}
use Rattle.row_types.proofs.Parts.{lacks_never, count_of_trees}
use Rattle.row_types.proofs.Refused.{nothing_left, no_variable, no_record, no_arrow, no_named, fields_fit, args_fit}

-- ---- a symbol over types

over_found : (home : List ℕ) (made : List Node) (nodes : List TypeNode) (c : Symbol) (places : List ℕ) (x : Node)
    → PartsAre home made nodes places → IsSymbol c → HasRisingLabels c → length places ≡ part_count c
    → x ≡ node_over home c (nodes_at made places) → MakesOf home nodes x (Some (node.Made c places))
over_found home made nodes c places x p s r n e =
    let ts = trees_at (unfolded nodes) places in
    let count : count_trees (trees_of ts) ≡ part_count c =
    count_of_trees ts ∙ length-map places (λ q. Rattle.std.proofs.Common.get_or (unfolded nodes) q (Tree.Bound 0)) ∙ n in (
      (record { below = p.below; counted = n }, r),
      record {
        node = e ∙ ap (node_over home c) (sym p.are);
        is = (record { symbol = s; parts = count }, p.types);
      },
    )

-- ---- variables

pub variable_found : (home : List ℕ) (items rest : List Item) (rows : TypeRows) (i : ℕ)
    → ((made : List Node) → Begins IsNumber with_number made i items rest) → rest ≡ [] → i < most
    → Makes home 1 items rows (Some (node.Bound i))
variable_found home items rest rows i h e lt made told = (
  tt,
  record {
    node = ap (Node.node 1)
        ((h made).is ∙ ap (λ (z : List Item). with_number i (content_of made z)) e);
    is = lt;
  },
)

pub variable_never : (home : List ℕ) (items : List Item) (rows : TypeRows) → NeverBegins IsNumber with_number items
    → Makes home 1 items rows None
variable_never home items rows h made told =
    no_variable home (content_of made items) (λ j n e. h.never made j Content.nothing n e)

first_content : (c d : Content) → Node.node 1 c ≡ Node.node 1 d → c ≡ d
first_content c d e = cc

pub variable_index : (i : ℕ) → IsNumber i → i ≢ most → i < most
variable_index i n apart = let b = n.below in omega (arith, b, apart)

-- no binder has so many variables
pub variable_last : (home : List ℕ) (items rest : List Item) (rows : TypeRows) (i : ℕ)
    → ((made : List Node) → Begins IsNumber with_number made i items rest) → i ≡ most → Makes home 1 items rows None
variable_last home items rest rows i h last made told = record {
  never = λ m t n k e. below m t n k (ap (λ (c : Content). Node.node 1 c) (sym ((h made).is)) ∙ e);
}
  where
    below : (m : ℕ) (t : Tree) → IsNumber m → IsType m t
        → Node.node 1 (with_number i (content_of made rest)) ≢ type_node home t
    below m (Tree.Bound j) n k e =
        let same = (number_then_told i j (content_of made rest) Content.nothing ((h made).fits)
        (let b = n.below in record { below = omega (arith, k, b) })
        (first_content (with_number i (content_of made rest)) (with_number j Content.nothing) e)).item in
        let b = n.below in
        omega (arith, same, last, k, b)
    below m (Tree.Free v) n k e = k
    below m (Tree.Made symbol.Arrow ts) n k e = cc
    below m (Tree.Made (symbol.Record ls) ts) n k e = cc
    below m (Tree.Made (symbol.Name name) ts) n k e = cc

pub variable_longer : (home : List ℕ) (items rest : List Item) (rows : TypeRows) (i : ℕ)
    → ((made : List Node) → Begins IsNumber with_number made i items rest) → rest ≢ []
    → Makes home 1 items rows None
variable_longer home items rest rows i h more made told =
    no_variable home (content_of made items)
    (λ j n e. more (nothing_left made rest
    (number_then_told i j (content_of made rest) Content.nothing ((h made).fits) n (sym ((h made).is) ∙ e)).rest))

-- ---- record types

zip_columns : (made : List Node) (table : List NamedPlace)
    → zip (map name_of table) (nodes_at made (map place_of table)) ≡ rows_at made table
zip_columns made [] = refl
zip_columns made (row ∷ table) = ap (λ rows. row_at made row ∷ rows) (zip_columns made table)

zip_names : (ls : List (List ℕ)) (xs : List Node) → length xs ≡ length ls
    → map (λ (r : List ℕ × Node). r.0) (zip ls xs) ≡ ls
zip_names [] xs e = refl
zip_names (l ∷ ls) [] e = absurd (cc)
zip_names (l ∷ ls) (x ∷ xs) e =
    let k : length xs ≡ length ls = cc in ap (λ z. l ∷ z) (zip_names ls xs k)

zip_nodes : (ls : List (List ℕ)) (xs : List Node) → length xs ≡ length ls
    → map (λ (r : List ℕ × Node). r.1) (zip ls xs) ≡ xs
zip_nodes [] [] e = refl
zip_nodes [] (x ∷ xs) e = absurd (cc)
zip_nodes (l ∷ ls) [] e = absurd (cc)
zip_nodes (l ∷ ls) (x ∷ xs) e =
    let k : length xs ≡ length ls = cc in ap (λ z. x ∷ z) (zip_nodes ls xs k)

row_names : (made : List Node) (table : List NamedPlace)
    → map (λ (r : List ℕ × Node). r.0) (rows_at made table) ≡ map name_of table
row_names made [] = refl
row_names made (row ∷ table) = ap (λ z. row.name ∷ z) (row_names made table)

row_nodes : (made : List Node) (table : List NamedPlace)
    → map (λ (r : List ℕ × Node). r.1) (rows_at made table) ≡ nodes_at made (map place_of table)
row_nodes made [] = refl
row_nodes made (row ∷ table) = ap (λ z. node_at made row.place ∷ z) (row_nodes made table)

-- the rows that a record type would have
same_rows : (home : List ℕ) (made : List Node) (table : List NamedPlace) (ls : List (List ℕ)) (ts : Trees) (c : Content)
    → AreItems HasName (rows_at made table) → IsOver (symbol.Record ls) (count_trees ts)
    → with_list with_named (rows_at made table) c
    ≡ with_list with_named (zip ls (type_nodes home ts)) Content.nothing
    → Told (with_list with_named) (rows_at made table) (zip ls (type_nodes home ts)) c Content.nothing
same_rows home made table ls ts c f o e =
    list_told with_named named_told (rows_at made table) (zip ls (type_nodes home ts)) c Content.nothing f.counted
    (fields_fit home ls ts o).counted e

pub record_never : (home : List ℕ) (items : List Item) (rows : TypeRows)
    → NeverBegins (AreItems HasName) (with_list with_named) items → Makes home 2 items rows None
record_never home items rows h made told =
    no_record home (content_of made items)
    (λ m ls ts n o a e. h.never made (zip ls (type_nodes home ts)) Content.nothing (fields_fit home ls ts o) e)

pub record_longer : (home : List ℕ) (items rest : List Item) (rows : TypeRows) (table : List NamedPlace)
    → ((made : List Node) → Begins (AreItems HasName) (with_list with_named) made (rows_at made table) items rest)
    → rest ≢ [] → Makes home 2 items rows None
record_longer home items rest rows table h more made told =
    no_record home (content_of made items)
    (λ m ls ts n o a e. more (nothing_left made rest
    (same_rows home made table ls ts (content_of made rest) ((h made).fits) o (sym ((h made).is) ∙ e)).rest))

pub record_names : (home : List ℕ) (table : List NamedPlace) (rows : TypeRows) → (AreNames (map name_of table) → ⊥)
    → MakesRecord home table rows None
record_names home table rows bad made told f =
    no_record home (with_list with_named (rows_at made table) Content.nothing)
    (λ m ls ts n o a e.
    let same = (same_rows home made table ls ts Content.nothing f o e).item in
    let names : map name_of table ≡ ls =
    sym (row_names made table) ∙ ap (map (λ (r : List ℕ × Node). r.0)) same
    ∙ zip_names ls (type_nodes home ts) (count_nodes home ts ∙ o.parts) in
    bad (subst AreNames (sym names) o.symbol))

pub record_lacks : (home : List ℕ) (table : List NamedPlace) (places : List ℕ) (rows : TypeRows)
    → places ≡ map place_of table
    → ((made : List Node) → AreTold home made rows → LacksType home made places) → MakesRecord home table rows None
record_lacks home table places rows is lack made told f =
    no_record home (with_list with_named (rows_at made table) Content.nothing)
    (λ m ls ts n o a e.
    let same = (same_rows home made table ls ts Content.nothing f o e).item in
    let nodes : nodes_at made (map place_of table) ≡ type_nodes home ts =
    sym (row_nodes made table) ∙ ap (map (λ (r : List ℕ × Node). r.1)) same
    ∙ zip_nodes ls (type_nodes home ts) (count_nodes home ts ∙ o.parts) in
    lacks_never home made m places ts (lack made told) n a (ap (nodes_at made) is ∙ nodes))

pub record_found : (home : List ℕ) (table : List NamedPlace) (names : List (List ℕ)) (places : List ℕ)
    (rows : TypeRows) → names ≡ map name_of table → places ≡ map place_of table → AreNames names
    → ((made : List Node) → AreTold home made rows → PartsAre home made rows.nodes places)
    → MakesRecord home table rows (Some (node.Made (symbol.Record names) places))
record_found home table names places rows n p good are made told f =
    let count : length places ≡ length names =
    ap length p ∙ length-map table place_of ∙ sym (length-map table name_of) ∙ sym (ap length n) in
    over_found home made rows.nodes (symbol.Record names) places (record_node (rows_at made table)) (are made told) good
    good.rising count
    (ap record_node (sym (zip_columns made table))
    ∙ ap₂ (λ ls ps. record_node (zip ls (nodes_at made ps))) (sym n) (sym p))

-- the record type behind which nothing stands
pub record_of_rows : (home : List ℕ) (items rest : List Item) (rows : TypeRows) (table : List NamedPlace)
    (found : Option TypeNode)
    → ((made : List Node) → Begins (AreItems HasName) (with_list with_named) made (rows_at made table) items rest)
    → rest ≡ [] → MakesRecord home table rows found → Makes home 2 items rows found
record_of_rows home items rest rows table found h e m made told =
    let is : content_of made items ≡ with_list with_named (rows_at made table) Content.nothing =
    (h made).is ∙ ap (λ (z : List Item). with_list with_named (rows_at made table) (content_of made z)) e in
    subst (λ x. MakesOf home rows.nodes x found) (sym (ap (Node.node 2) is)) (m made told (h made).fits)

-- ---- function types

part_told_in : (x y : Node) (c d : Content) → Content.part x c ≡ Content.part y d → (x ≡ y) × (c ≡ d)
part_told_in x y c d e = (cc, cc)

pub arrow_never : (home : List ℕ) (items : List Item) (rows : TypeRows) → NeverBegins IsAny Content.part items
    → Makes home 3 items rows None
arrow_never home items rows h made told =
    no_arrow home (content_of made items)
    (λ m a b n i k e.
    h.never made (type_node home a) (Content.part (type_node home b) Content.nothing) tt e)

pub arrow_short : (home : List ℕ) (items middle : List Item) (rows : TypeRows) (from : ℕ)
    → ((made : List Node) → Begins IsAny Content.part made (node_at made from) items middle)
    → NeverBegins IsAny Content.part middle → Makes home 3 items rows None
arrow_short home items middle rows from h never made told =
    no_arrow home (content_of made items)
    (λ m a b n i k e.
    never.never made (type_node home b) Content.nothing tt
    (part_told_in (node_at made from) (type_node home a) (content_of made middle)
    (Content.part (type_node home b) Content.nothing) (sym ((h made).is) ∙ e)).1)

pub arrow_longer : (home : List ℕ) (items middle rest : List Item) (rows : TypeRows) (from to : ℕ)
    → ((made : List Node) → Begins IsAny Content.part made (node_at made from) items middle)
    → ((made : List Node) → Begins IsAny Content.part made (node_at made to) middle rest) → rest ≢ []
    → Makes home 3 items rows None
arrow_longer home items middle rest rows from to h k more made told =
    no_arrow home (content_of made items)
    (λ m a b n i j e.
    let first = (part_told_in (node_at made from) (type_node home a) (content_of made middle)
    (Content.part (type_node home b) Content.nothing) (sym ((h made).is) ∙ e)).1 in
    more (nothing_left made rest
    (part_told_in (node_at made to) (type_node home b) (content_of made rest) Content.nothing
    (sym ((k made).is) ∙ first)).1))

pub arrow_lacks : (home : List ℕ) (from to : ℕ) (places : List ℕ) (rows : TypeRows) → places ≡ from ∷ to ∷ []
    → ((made : List Node) → AreTold home made rows → LacksType home made places) → MakesArrow home from to rows None
arrow_lacks home from to places rows is lack made told =
    no_arrow home (Content.part (node_at made from) (Content.part (node_at made to) Content.nothing))
    (λ m a b n i k e.
    let p = part_told_in (node_at made from) (type_node home a) (Content.part (node_at made to) Content.nothing)
    (Content.part (type_node home b) Content.nothing) e in
    let q = part_told_in (node_at made to) (type_node home b) Content.nothing Content.nothing p.1 in
    lacks_never home made m places (Trees.Cons a (Trees.Cons b Trees.Nil)) (lack made told) n (i, (k, tt))
    (ap (nodes_at made) is ∙ ap₂ (λ x y. x ∷ y ∷ []) p.0 q.0))

pub arrow_found : (home : List ℕ) (from to : ℕ) (places : List ℕ) (rows : TypeRows) → places ≡ from ∷ to ∷ []
    → ((made : List Node) → AreTold home made rows → PartsAre home made rows.nodes places)
    → MakesArrow home from to rows (Some (node.Made symbol.Arrow places))
arrow_found home from to places rows is are made told =
    over_found home made rows.nodes symbol.Arrow places (arrow_node (node_at made from ∷ node_at made to ∷ []))
    (are made told) tt tt (ap length is) (ap (λ ps. arrow_node (nodes_at made ps)) (sym is))

pub arrow_of_rows : (home : List ℕ) (items middle rest : List Item) (rows : TypeRows) (from to : ℕ)
    (found : Option TypeNode)
    → ((made : List Node) → Begins IsAny Content.part made (node_at made from) items middle)
    → ((made : List Node) → Begins IsAny Content.part made (node_at made to) middle rest) → rest ≡ []
    → MakesArrow home from to rows found → Makes home 3 items rows found
arrow_of_rows home items middle rest rows from to found h k e m made told =
    let is : content_of made items ≡ Content.part (node_at made from) (Content.part (node_at made to) Content.nothing) =
    (h made).is ∙ ap (Content.part (node_at made from))
    ((k made).is ∙ ap (λ (z : List Item). Content.part (node_at made to) (content_of made z)) e) in
    subst (λ x. MakesOf home rows.nodes x found) (sym (ap (Node.node 3) is)) (m made told)

-- ---- named types

pub named_never : (home : List ℕ) (items : List Item) (rows : TypeRows)
    → NeverBegins IsTypeName (with_type_name home) items → Makes home 4 items rows None
named_never home items rows h made told =
    no_named home (content_of made items)
    (λ m name ts n o a e.
    h.never made name (with_list Content.part (type_nodes home ts) Content.nothing) o.symbol e)

pub named_short : (home : List ℕ) (items middle : List Item) (rows : TypeRows) (name : TyName)
    → ((made : List Node) → Begins IsTypeName (with_type_name home) made name items middle)
    → NeverBegins (AreItems IsAny) (with_list Content.part) middle → Makes home 4 items rows None
named_short home items middle rows name h never made told =
    no_named home (content_of made items)
    (λ m other ts n o a e.
    never.never made (type_nodes home ts) Content.nothing (args_fit home other ts o)
    (type_name_told home name other (content_of made middle)
    (with_list Content.part (type_nodes home ts) Content.nothing) ((h made).fits) o.symbol
    (sym ((h made).is) ∙ e)).rest)

-- the name and the arguments that a named type would have
pub record SameNamed (home : List ℕ) (made : List Node) (name other : TyName) (args : List ℕ) (ts : Trees) (c : Content)
    : Type 0 where
  pub name_is : name ≡ other
  pub args_are : nodes_at made args ≡ type_nodes home ts
  pub rest_is : c ≡ Content.nothing

same_named : (home : List ℕ) (made : List Node) (name other : TyName) (args : List ℕ) (ts : Trees) (c : Content)
    → IsTypeName name → IsNumber (length args) → IsOver (symbol.Name other) (count_trees ts)
    → with_type_name home name (with_list Content.part (nodes_at made args) c)
    ≡ with_type_name home other (with_list Content.part (type_nodes home ts) Content.nothing)
    → SameNamed home made name other args ts c
same_named home made name other args ts c f k o e =
    let p = type_name_told home name other (with_list Content.part (nodes_at made args) c)
    (with_list Content.part (type_nodes home ts) Content.nothing) f o.symbol e in
    let q = list_told Content.part part_told (nodes_at made args) (type_nodes home ts) c Content.nothing
    (subst IsNumber (sym (length-map args (node_at made))) k) (args_fit home other ts o).counted p.rest in
    record { name_is = p.item; args_are = q.item; rest_is = q.rest }

named_content : (home : List ℕ) (items middle rest : List Item) (made : List Node) (name : TyName) (args : List ℕ)
    → Begins IsTypeName (with_type_name home) made name items middle
    → Begins (AreItems IsAny) (with_list Content.part) made (nodes_at made args) middle rest
    → content_of made items ≡ with_type_name home name (with_list Content.part (nodes_at made args) (content_of made rest))
named_content home items middle rest made name args h k = h.is ∙ ap (with_type_name home name) k.is

args_number : (made : List Node) (args : List ℕ) → AreItems IsAny (nodes_at made args) → IsNumber (length args)
args_number made args h = subst IsNumber (length-map args (node_at made)) h.counted

pub named_longer : (home : List ℕ) (items middle rest : List Item) (rows : TypeRows) (name : TyName) (args : List ℕ)
    → ((made : List Node) → Begins IsTypeName (with_type_name home) made name items middle)
    → ((made : List Node) → Begins (AreItems IsAny) (with_list Content.part) made (nodes_at made args) middle rest)
    → rest ≢ [] → Makes home 4 items rows None
named_longer home items middle rest rows name args h k more made told =
    no_named home (content_of made items)
    (λ m other ts n o a e. more (nothing_left made rest
    (same_named home made name other args ts (content_of made rest) ((h made).fits)
    (args_number made args ((k made).fits)) o
    (sym (named_content home items middle rest made name args (h made) (k made)) ∙ e)).rest_is))

pub named_arity : (home : List ℕ) (name : TyName) (args : List ℕ) (rows : TypeRows) → length args ≢ name.arity
    → MakesNamed home name args rows None
named_arity home name args rows bad made told f k =
    no_named home (with_type_name home name (with_list Content.part (nodes_at made args) Content.nothing))
    (λ m other ts n o a e.
    let s = same_named home made name other args ts Content.nothing f k o e in
    bad (sym (length-map args (node_at made)) ∙ ap length s.args_are ∙ count_nodes home ts ∙ o.parts
    ∙ sym (ap (λ (x : TyName). x.arity) s.name_is)))

pub named_lacks : (home : List ℕ) (name : TyName) (args : List ℕ) (rows : TypeRows)
    → ((made : List Node) → AreTold home made rows → LacksType home made args) → MakesNamed home name args rows None
named_lacks home name args rows lack made told f k =
    no_named home (with_type_name home name (with_list Content.part (nodes_at made args) Content.nothing))
    (λ m other ts n o a e.
    lacks_never home made m args ts (lack made told) n a
    (same_named home made name other args ts Content.nothing f k o e).args_are)

pub named_found : (home : List ℕ) (name : TyName) (args : List ℕ) (rows : TypeRows) → length args ≡ name.arity
    → ((made : List Node) → AreTold home made rows → PartsAre home made rows.nodes args)
    → MakesNamed home name args rows (Some (node.Made (symbol.Name name) args))
named_found home name args rows count are made told f k =
    over_found home made rows.nodes (symbol.Name name) args (named_node home name (nodes_at made args)) (are made told) f
    tt count refl

pub named_of_rows : (home : List ℕ) (items middle rest : List Item) (rows : TypeRows) (name : TyName) (args : List ℕ)
    (found : Option TypeNode)
    → ((made : List Node) → Begins IsTypeName (with_type_name home) made name items middle)
    → ((made : List Node) → Begins (AreItems IsAny) (with_list Content.part) made (nodes_at made args) middle rest)
    → rest ≡ [] → MakesNamed home name args rows found → Makes home 4 items rows found
named_of_rows home items middle rest rows name args found h k e m made told =
    let is : content_of made items
    ≡ with_type_name home name (with_list Content.part (nodes_at made args) Content.nothing) =
    named_content home items middle rest made name args (h made) (k made)
    ∙ ap (λ (z : List Item). with_type_name home name (with_list Content.part (nodes_at made args) (content_of made z)))
    e in
    subst (λ x. MakesOf home rows.nodes x found) (sym (ap (Node.node 4) is))
    (m made told (h made).fits (args_number made args ((k made).fits)))
