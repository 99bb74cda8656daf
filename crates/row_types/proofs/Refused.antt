-- Contents of rows that no type has.
use Rattle.std.proofs.Common.{◌≡◌, ◌≢◌, ℕ, ◌<◌, refl, sym, subst, ◌∙◌, List, [], ◌∷◌, length, arith}
use Rattle.std.specs.Prelude.{All}
use Rattle.std.specs.List.{zip, AllByRecursion}
use Rattle.std.proofs.lemmas.List.Elements.{All-head, All-tail}
use Rattle.node_bytes.specs.Nodes.{Node, Content}
use Rattle.node_bytes.specs.Shapes.{with_number, with_list}
use Rattle.node_bytes.specs.Tables.{content_of}
use Rattle.node_bytes.specs.declared.table.Item.{Item}
use Rattle.node_bytes.specs.declared.table.Item.TheVariants as item
use Rattle.semantic_objects.specs.declared.name.TyName.{TyName}
use Rattle.semantic_objects.specs.declared.symbol.Symbol.TheVariants as symbol
use Rattle.semantic_objects.specs.Trees.{Tree, Trees}
use Rattle.interface_format.specs.Tags.{with_named, with_type_name}
use Rattle.interface_format.specs.Trees.{node_over, type_node, type_nodes}
use Rattle.interface_format.specs.Rules.{IsNumber, IsName, IsOver, IsType, AreTypes, count_trees}
use Rattle.interface_format.proofs.Types.{count_nodes, length_fields}
use Rattle.row_fields.specs.Taking.{IsAny}
use Rattle.row_fields.specs.Listing.{HasName, AreItems}
use Rattle.row_types.specs.Told.{NoType}

content_same : (s t : ℕ) (c d : Content) → Node.node s c ≡ Node.node t d → c ≡ d
content_same s t c d e = cc

tag_same : (s t : ℕ) (c d : Content) → Node.node s c ≡ Node.node t d → s ≡ t
tag_same s t c d e = cc

-- nothing is left exactly where there are no items
pub nothing_left : (made : List Node) (items : List Item) → content_of made items ≡ Content.nothing → items ≡ []
nothing_left made [] e = refl
nothing_left made (item.Piece text ∷ items) e = absurd (cc)
nothing_left made (item.Part p ∷ items) e = absurd (cc)

number_below : (i n : ℕ) → i < n → IsNumber n → IsNumber i
number_below i n lt h = let b = h.below in record { below = omega (arith, lt, b) }

-- ---- which types have which tags

pub no_variable : (home : List ℕ) (c : Content) → ((j : ℕ) → IsNumber j → c ≢ with_number j Content.nothing)
    → NoType home (Node.node 1 c)
no_variable home c f = record { never = at }
  where
    at : (m : ℕ) (t : Tree) → IsNumber m → IsType m t → Node.node 1 c ≢ type_node home t
    at m (Tree.Bound j) n h e =
        f j (number_below j m h n) (content_same 1 1 c (with_number j Content.nothing) e)
    at m (Tree.Free v) n h e = h
    at m (Tree.Made symbol.Arrow ts) n h e = cc
    at m (Tree.Made (symbol.Record ls) ts) n h e = cc
    at m (Tree.Made (symbol.Name name) ts) n h e = cc

pub no_record : (home : List ℕ) (c : Content)
    → ((m : ℕ) (ls : List (List ℕ)) (ts : Trees) → IsNumber m → IsOver (symbol.Record ls) (count_trees ts)
    → AreTypes m ts → c ≢ with_list with_named (zip ls (type_nodes home ts)) Content.nothing)
    → NoType home (Node.node 2 c)
no_record home c f = record { never = at }
  where
    at : (m : ℕ) (t : Tree) → IsNumber m → IsType m t → Node.node 2 c ≢ type_node home t
    at m (Tree.Bound j) n h e = cc
    at m (Tree.Free v) n h e = h
    at m (Tree.Made symbol.Arrow ts) n h e = cc
    at m (Tree.Made (symbol.Record ls) ts) n h e =
        f m ls ts n h.0 h.1
        (content_same 2 2 c (with_list with_named (zip ls (type_nodes home ts)) Content.nothing) e)
    at m (Tree.Made (symbol.Name name) ts) n h e = cc

two_parts : (home : List ℕ) (m : ℕ) (c : Content) (ts : Trees) → count_trees ts ≡ 2 → AreTypes m ts
    → Node.node 3 c ≡ node_over home symbol.Arrow (type_nodes home ts)
    → ((a b : Tree) → IsType m a → IsType m b
    → c ≢ Content.part (type_node home a) (Content.part (type_node home b) Content.nothing)) → ⊥
two_parts home m c Trees.Nil two h e f = absurd (cc)
two_parts home m c (Trees.Cons a Trees.Nil) two h e f = absurd (cc)
two_parts home m c (Trees.Cons a (Trees.Cons b Trees.Nil)) two h e f =
    f a b h.0 h.1.0
    (content_same 3 3 c (Content.part (type_node home a) (Content.part (type_node home b) Content.nothing)) e)
two_parts home m c (Trees.Cons a (Trees.Cons b (Trees.Cons d ts))) two h e f = absurd (omega (arith, two))

pub no_arrow : (home : List ℕ) (c : Content)
    → ((m : ℕ) (a b : Tree) → IsNumber m → IsType m a → IsType m b
    → c ≢ Content.part (type_node home a) (Content.part (type_node home b) Content.nothing))
    → NoType home (Node.node 3 c)
no_arrow home c f = record { never = at }
  where
    at : (m : ℕ) (t : Tree) → IsNumber m → IsType m t → Node.node 3 c ≢ type_node home t
    at m (Tree.Bound j) n h e = cc
    at m (Tree.Free v) n h e = h
    at m (Tree.Made symbol.Arrow ts) n h e =
        two_parts home m c ts h.0.parts h.1 e (λ a b i k. f m a b n i k)
    at m (Tree.Made (symbol.Record ls) ts) n h e = cc
    at m (Tree.Made (symbol.Name name) ts) n h e = cc

pub no_named : (home : List ℕ) (c : Content)
    → ((m : ℕ) (name : TyName) (ts : Trees) → IsNumber m → IsOver (symbol.Name name) (count_trees ts)
    → AreTypes m ts
    → c ≢ with_type_name home name (with_list Content.part (type_nodes home ts) Content.nothing))
    → NoType home (Node.node 4 c)
no_named home c f = record { never = at }
  where
    at : (m : ℕ) (t : Tree) → IsNumber m → IsType m t → Node.node 4 c ≢ type_node home t
    at m (Tree.Bound j) n h e = cc
    at m (Tree.Free v) n h e = h
    at m (Tree.Made symbol.Arrow ts) n h e = cc
    at m (Tree.Made (symbol.Record ls) ts) n h e = cc
    at m (Tree.Made (symbol.Name name) ts) n h e =
        f m name ts n h.0 h.1
        (content_same 4 4 c (with_type_name home name (with_list Content.part (type_nodes home ts) Content.nothing)) e)

pub no_tag : (home : List ℕ) (tag : ℕ) (c : Content) → tag ≢ 1 → tag ≢ 2 → tag ≢ 3 → tag ≢ 4
    → NoType home (Node.node tag c)
no_tag home tag c one two three four = record { never = at }
  where
    at : (m : ℕ) (t : Tree) → IsNumber m → IsType m t → Node.node tag c ≢ type_node home t
    at m (Tree.Bound j) n h e = one (cc)
    at m (Tree.Free v) n h e = h
    at m (Tree.Made symbol.Arrow ts) n h e = three (cc)
    at m (Tree.Made (symbol.Record ls) ts) n h e = two (cc)
    at m (Tree.Made (symbol.Name name) ts) n h e = four (cc)

-- ---- lists of parts

name_number : (name : List ℕ) → IsName name → IsNumber (length name)
name_number name h = let s = h.short in record { below = omega (arith, s) }

names_fit : (ls : List (List ℕ)) (xs : List Node) → All IsName ls → AllByRecursion HasName (zip ls xs)
names_fit [] xs h = tt
names_fit (l ∷ ls) [] h = tt
names_fit (l ∷ ls) (x ∷ xs) h =
    (name_number l (All-head IsName l ls h), names_fit ls xs (All-tail IsName l ls h))

pub fields_fit : (home : List ℕ) (ls : List (List ℕ)) (ts : Trees) → IsOver (symbol.Record ls) (count_trees ts)
    → AreItems HasName (zip ls (type_nodes home ts))
fields_fit home ls ts h = record {
  counted = subst IsNumber (sym (length_fields ls (type_nodes home ts) (count_nodes home ts ∙ h.parts)))
      h.symbol.counted;
  each = names_fit ls (type_nodes home ts) h.symbol.each;
}

any_fit : (xs : List Node) → AllByRecursion IsAny xs
any_fit [] = tt
any_fit (x ∷ xs) = (tt, any_fit xs)

pub args_fit : (home : List ℕ) (name : TyName) (ts : Trees) → IsOver (symbol.Name name) (count_trees ts)
    → AreItems IsAny (type_nodes home ts)
args_fit home name ts h = record {
  counted = subst IsNumber (sym (count_nodes home ts ∙ h.parts)) h.symbol.arity;
  each = any_fit (type_nodes home ts);
}
