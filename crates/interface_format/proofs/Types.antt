-- Types are told by their nodes.
use Rattle.std.proofs.Common.{◌≡◌, ℕ, suc, ◌<◌, refl, sym, ap, ap₂, subst, ◌∙◌, List, [], ◌∷◌, length, Bool, true, false, arith}
use Rattle.std.specs.List.{zip}
use Rattle.node_bytes.specs.Nodes.{Node, Content}
use Rattle.node_bytes.specs.Shapes.{with_byte, with_number, with_text, with_items, with_list}
use Rattle.semantic_objects.specs.declared.name.Owner.{Owner}
use Rattle.semantic_objects.specs.declared.name.Owner.TheVariants as owner
use Rattle.semantic_objects.specs.declared.name.TyName.{TyName}
use Rattle.semantic_objects.specs.declared.symbol.Symbol.{Symbol}
use Rattle.semantic_objects.specs.declared.symbol.Symbol.TheVariants as symbol
use Rattle.semantic_objects.specs.Symbols.{same_text}
use Rattle.semantic_objects.specs.Trees.{Tree, Trees}
use Rattle.semantic_objects.proofs.Same.{text_is}
use Rattle.interface_format.specs.Tags.{bool_byte, with_unit, with_owner, with_type_name, with_named, variable_node, record_node, arrow_node, named_node}
use Rattle.interface_format.specs.Trees.{node_over, type_node, type_nodes}
use Rattle.interface_format.specs.Rules.{IsNumber, IsTypeName, IsOver, IsType, AreTypes, count_trees}
use Rattle.interface_format.proofs.Told.{Told, Tells, part_told, named_told, text_rest, items_told, list_told, number_then_told, eq_told}

-- ---- type names

pub unit_told : (home : List ℕ) (a b : Bool) (u v : List ℕ) (c d : Content) → same_text home u ≡ a
    → same_text home v ≡ b → with_unit a u c ≡ with_unit b v d → (u ≡ v) × (c ≡ d)
unit_told home true true u v c d h k e = (sym (text_is home u h) ∙ text_is home v k, cc)
unit_told home true false u v c d h k e = absurd (cc)
unit_told home false true u v c d h k e = absurd (cc)
unit_told home false false u v c d h k e =
    let t : with_text u c ≡ with_text v d = cc in
    let p = text_rest u v c d t in
    (p.item, p.rest)

unit_not_basis : (a : Bool) (u : List ℕ) (c d : Content) → with_unit a u c ≡ with_byte 0 d → ⊥
unit_not_basis true u c d e = cc
unit_not_basis false u c d e = cc

unit_not_bound : (a : Bool) (u : List ℕ) (c d : Content) → with_unit a u c ≡ with_byte 3 d → ⊥
unit_not_bound true u c d e = cc
unit_not_bound false u c d e = cc

pub owner_told : (home : List ℕ) → Tells (with_owner home)
owner_told home owner.Basis owner.Basis c d e = record { item = refl; rest = cc }
owner_told home owner.Basis (owner.«Unit» v) c d e = absurd (unit_not_basis (same_text home v) v d c (sym e))
owner_told home owner.Basis owner.Bound c d e = absurd (cc)
owner_told home (owner.«Unit» u) owner.Basis c d e = absurd (unit_not_basis (same_text home u) u c d e)
owner_told home (owner.«Unit» u) (owner.«Unit» v) c d e =
    let p = unit_told home (same_text home u) (same_text home v) u v c d refl refl e in
    record { item = ap owner.«Unit» p.0; rest = p.1 }
owner_told home (owner.«Unit» u) owner.Bound c d e = absurd (unit_not_bound (same_text home u) u c d e)
owner_told home owner.Bound owner.Basis c d e = absurd (cc)
owner_told home owner.Bound (owner.«Unit» v) c d e = absurd (unit_not_bound (same_text home v) v d c (sym e))
owner_told home owner.Bound owner.Bound c d e = record { item = refl; rest = cc }

abbrev name_of : Owner → ℕ → ℕ → Bool → TyName
name_of owner number arity eq = record { owner = owner; number = number; arity = arity; eq = eq }

name_same : (o p : Owner) (i j a b : ℕ) (x y : Bool) → o ≡ p → i ≡ j → a ≡ b → x ≡ y
    → name_of o i a x ≡ name_of p j b y
name_same o p i j a b x y h k l m = cc

pub type_name_told : (home : List ℕ) (m n : TyName) (c d : Content) → IsTypeName m → IsTypeName n
    → with_type_name home m c ≡ with_type_name home n d → Told (with_type_name home) m n c d
type_name_told home m n c d h k e =
    let o = owner_told home m.owner n.owner
    (with_number m.number (with_number m.arity (with_byte (bool_byte m.eq) c)))
    (with_number n.number (with_number n.arity (with_byte (bool_byte n.eq) d))) e in
    let i = number_then_told m.number n.number (with_number m.arity (with_byte (bool_byte m.eq) c))
    (with_number n.arity (with_byte (bool_byte n.eq) d)) h.number k.number o.rest in
    let a = number_then_told m.arity n.arity (with_byte (bool_byte m.eq) c) (with_byte (bool_byte n.eq) d)
    h.arity k.arity i.rest in
    let q = eq_told m.eq n.eq c d a.rest in
    record {
      item = name_same m.owner n.owner m.number n.number m.arity n.arity m.eq n.eq o.item i.item a.item q.0;
      rest = q.1;
    }

-- ---- symbols over parts

pub count_nodes : (home : List ℕ) (ts : Trees) → length (type_nodes home ts) ≡ count_trees ts
count_nodes home Trees.Nil = refl
count_nodes home (Trees.Cons t ts) = ap suc (count_nodes home ts)

-- the labels and the parts of fields
pub length_fields : (labels : List (List ℕ)) (xs : List Node) → length xs ≡ length labels
    → length (zip labels xs) ≡ length labels
length_fields [] xs e = refl
length_fields (l ∷ ls) [] e = e
length_fields (l ∷ ls) (x ∷ xs) e =
    let k : length xs ≡ length ls = cc in ap suc (length_fields ls xs k)

abbrev field : List ℕ → Node → List ℕ × Node
field label x = (label, x)

pair_parts : (l k : List ℕ) (x y : Node) → field l x ≡ field k y → (l ≡ k) × (x ≡ y)
pair_parts l k x y e = (ap (λ (p : List ℕ × Node). p.0) e, ap (λ (p : List ℕ × Node). p.1) e)

fields_told : (ls ks : List (List ℕ)) (xs ys : List Node) → length xs ≡ length ls → length ys ≡ length ks
    → zip ls xs ≡ zip ks ys → (ls ≡ ks) × (xs ≡ ys)
fields_told [] [] [] [] h k e = (refl, refl)
fields_told [] ks (x ∷ xs) ys h k e = absurd (cc)
fields_told (l ∷ ls) ks [] ys h k e = absurd (cc)
fields_told ls [] xs (y ∷ ys) h k e = absurd (cc)
fields_told ls (k ∷ ks) xs [] h i e = absurd (cc)
fields_told [] (k ∷ ks) [] (y ∷ ys) h i e = absurd (cc)
fields_told (l ∷ ls) [] (x ∷ xs) [] h i e = absurd (cc)
fields_told (l ∷ ls) (k ∷ ks) (x ∷ xs) (y ∷ ys) h i e =
    let p : field l x ≡ field k y = cc in
    let q : zip ls xs ≡ zip ks ys = cc in
    let m : length xs ≡ length ls = cc in
    let n : length ys ≡ length ks = cc in
    let both = pair_parts l k x y p in
    let more = fields_told ls ks xs ys m n q in
    (ap₂ (λ z zs. z ∷ zs) both.0 more.0, ap₂ (λ z zs. z ∷ zs) both.1 more.1)

content_same : (s t : ℕ) (c d : Content) → Node.node s c ≡ Node.node t d → c ≡ d
content_same s t c d e = cc

arrows_told : (xs ys : List Node) → length xs ≡ 2 → length ys ≡ 2 → arrow_node xs ≡ arrow_node ys → xs ≡ ys
arrows_told xs ys h k e =
    (items_told Content.part part_told xs ys Content.nothing Content.nothing (h ∙ sym k)
    (content_same 3 3 (with_items Content.part xs Content.nothing) (with_items Content.part ys Content.nothing) e)).item

records_told : (ls ks : List (List ℕ)) (xs ys : List Node) → IsNumber (length ls) → IsNumber (length ks)
    → length xs ≡ length ls → length ys ≡ length ks → record_node (zip ls xs) ≡ record_node (zip ks ys)
    → (ls ≡ ks) × (xs ≡ ys)
records_told ls ks xs ys h k m n e =
    fields_told ls ks xs ys m n
    (list_told with_named named_told (zip ls xs) (zip ks ys) Content.nothing Content.nothing
    (subst IsNumber (sym (length_fields ls xs m)) h) (subst IsNumber (sym (length_fields ks ys n)) k)
    (content_same 2 2 (with_list with_named (zip ls xs) Content.nothing)
    (with_list with_named (zip ks ys) Content.nothing) e)).item

names_told : (home : List ℕ) (m n : TyName) (xs ys : List Node) → IsTypeName m → IsTypeName n
    → length xs ≡ m.arity → length ys ≡ n.arity → named_node home m xs ≡ named_node home n ys
    → (m ≡ n) × (xs ≡ ys)
names_told home m n xs ys h k i j e =
    let a = type_name_told home m n (with_list Content.part xs Content.nothing)
    (with_list Content.part ys Content.nothing) h k
    (content_same 4 4 (with_type_name home m (with_list Content.part xs Content.nothing))
    (with_type_name home n (with_list Content.part ys Content.nothing)) e) in
    let b = list_told Content.part part_told xs ys Content.nothing Content.nothing
    (subst IsNumber (sym i) h.arity) (subst IsNumber (sym j) k.arity) a.rest in
    (a.item, b.item)

symbols_told : (home : List ℕ) (c d : Symbol) (xs ys : List Node) → IsOver c (length xs) → IsOver d (length ys)
    → node_over home c xs ≡ node_over home d ys → (c ≡ d) × (xs ≡ ys)
symbols_told home symbol.Arrow symbol.Arrow xs ys h k e = (refl, arrows_told xs ys h.parts k.parts e)
symbols_told home symbol.Arrow (symbol.Record ls) xs ys h k e = absurd (cc)
symbols_told home symbol.Arrow (symbol.Name n) xs ys h k e = absurd (cc)
symbols_told home (symbol.Record ls) symbol.Arrow xs ys h k e = absurd (cc)
symbols_told home (symbol.Record ls) (symbol.Record ks) xs ys h k e =
    let p = records_told ls ks xs ys h.symbol.counted k.symbol.counted h.parts k.parts e in
    (ap symbol.Record p.0, p.1)
symbols_told home (symbol.Record ls) (symbol.Name n) xs ys h k e = absurd (cc)
symbols_told home (symbol.Name m) symbol.Arrow xs ys h k e = absurd (cc)
symbols_told home (symbol.Name m) (symbol.Record ls) xs ys h k e = absurd (cc)
symbols_told home (symbol.Name m) (symbol.Name n) xs ys h k e =
    let p = names_told home m n xs ys h.symbol k.symbol h.parts k.parts e in
    (ap symbol.Name p.0, p.1)

variable_apart : (home : List ℕ) (c : Symbol) (xs : List Node) (i : ℕ) → variable_node i ≡ node_over home c xs → ⊥
variable_apart home symbol.Arrow xs i e = cc
variable_apart home (symbol.Record ls) xs i e = cc
variable_apart home (symbol.Name n) xs i e = cc

pub over_nodes : (home : List ℕ) (c : Symbol) (ts : Trees) → IsOver c (count_trees ts)
    → IsOver c (length (type_nodes home ts))
over_nodes home c ts h = subst (IsOver c) (sym (count_nodes home ts)) h

-- ---- types

number_below : (i n : ℕ) → i < n → IsNumber n → IsNumber i
number_below i n lt h = let b = h.below in record { below = omega (arith, lt, b) }

mutual
  pub type_told : (home : List ℕ) (m n : ℕ) → IsNumber m → IsNumber n → (t u : Tree) → IsType m t → IsType n u
      → type_node home t ≡ type_node home u → t ≡ u
  type_told home m n a b (Tree.Bound i) (Tree.Bound j) h k e =
      ap Tree.Bound (number_then_told i j Content.nothing Content.nothing (number_below i m h a)
      (number_below j n k b)
      (content_same 1 1 (with_number i Content.nothing) (with_number j Content.nothing) e)).item
  type_told home m n a b (Tree.Bound i) (Tree.Made d us) h k e =
      absurd (variable_apart home d (type_nodes home us) i e)
  type_told home m n a b (Tree.Made c ts) (Tree.Bound j) h k e =
      absurd (variable_apart home c (type_nodes home ts) j (sym e))
  type_told home m n a b (Tree.Made c ts) (Tree.Made d us) h k e =
      let p = symbols_told home c d (type_nodes home ts) (type_nodes home us) (over_nodes home c ts h.0)
      (over_nodes home d us k.0) e in
      ap₂ Tree.Made p.0 (types_told home m n a b ts us h.1 k.1 p.1)
  type_told home m n a b (Tree.Free v) u h k e = absurd h
  type_told home m n a b (Tree.Bound i) (Tree.Free w) h k e = absurd k
  type_told home m n a b (Tree.Made c ts) (Tree.Free w) h k e = absurd k

  types_told : (home : List ℕ) (m n : ℕ) → IsNumber m → IsNumber n → (ts us : Trees) → AreTypes m ts → AreTypes n us
      → type_nodes home ts ≡ type_nodes home us → ts ≡ us
  types_told home m n a b Trees.Nil Trees.Nil h k e = refl
  types_told home m n a b Trees.Nil (Trees.Cons u us) h k e = absurd (cc)
  types_told home m n a b (Trees.Cons t ts) Trees.Nil h k e = absurd (cc)
  types_told home m n a b (Trees.Cons t ts) (Trees.Cons u us) h k e =
      let p : type_node home t ≡ type_node home u = cc in
      let q : type_nodes home ts ≡ type_nodes home us = cc in
      ap₂ Trees.Cons (type_told home m n a b t u h.0 k.0 p) (types_told home m n a b ts us h.1 k.1 q)
