-- The nodes of tops are nodes of the format.
use Rattle.std.proofs.Common.{◌≡◌, ℕ, suc, ◌<◌, ◌^◌, refl, sym, ap, subst, List, [], ◌∷◌, length, Bool, true, false, map, arith}
use Rattle.std.specs.Prelude.{All}
use Rattle.std.specs.List.{zip}
use Rattle.std.proofs.lemmas.List.Elements.{All-nil, All-cons, All-head, All-tail}
use Rattle.std.proofs.lemmas.List.{length-map}
use Rattle.node_bytes.specs.Nodes.{Node, Content}
use Rattle.node_bytes.specs.Formats.{Shape, IsNode, IsContent}
use Rattle.node_bytes.specs.Shapes.{byte_then, number_then, list_then, with_byte, with_number, with_text, with_items, with_list}
use Rattle.node_bytes.specs.Laws.{IsItem}
use Rattle.node_bytes.specs.Interfaces.{interfaces, owner_then, type_name_then, named_then, value_then}
use Rattle.node_bytes.proofs.Shapes.{have_shapes}
use Rattle.semantic_objects.specs.declared.name.Owner.{Owner}
use Rattle.semantic_objects.specs.declared.name.Owner.TheVariants as owner
use Rattle.semantic_objects.specs.declared.name.TyName.{TyName}
use Rattle.semantic_objects.specs.declared.symbol.Symbol.{Symbol}
use Rattle.semantic_objects.specs.declared.symbol.Symbol.TheVariants as symbol
use Rattle.semantic_objects.specs.declared.entry.ConEntry.{ConEntry}
use Rattle.semantic_objects.specs.declared.entry.TypeFn.{TypeFn}
use Rattle.semantic_objects.specs.declared.entry.TypeStr.{TypeStr}
use Rattle.semantic_objects.specs.declared.entry.ValueEntry.{ValueEntry}
use Rattle.semantic_objects.specs.Symbols.{same_text}
use Rattle.semantic_objects.specs.Tables.{Table, names_of}
use Rattle.semantic_objects.specs.Trees.{Tree, Trees, TypeScheme}
use Rattle.semantic_objects.specs.Environments.{Env, Structures, Signature, Functor, Top, table_of, structures}
use Rattle.interface_format.specs.Tags.{bool_byte, status_byte, with_unit, with_owner, with_type_name, with_named, ValueRow, with_value, variable_node}
use Rattle.interface_format.specs.Trees.{node_over, type_node, type_nodes, node_of_function, node_of_scheme, row_of_con, node_of_type, row_of_value, rows_by, env_node, structure_rows, node_of_signature, node_of_functor, top_node}
use Rattle.interface_format.specs.Rules.{IsNumber, IsName, AreNames, HasText, IsTypeName, IsOver, IsType, AreTypes, IsFunction, IsClosed, IsTypeStructure, IsValueRow, IsEnv, AreEnvs, IsSignature, IsFunctor, HasTables}
use Rattle.interface_format.proofs.Types.{over_nodes, length_fields}
use Rattle.interface_format.proofs.Entries.{rows_counted}

abbrev IsOf : Node → Type 0
IsOf = IsNode interfaces

-- ---- items

name_number : (name : List ℕ) → IsName name → length name < 2 ^ 32
name_number name h = let s = h.short in omega (arith, s)

abbrev IsNamed : List ℕ × Node → Type 0
IsNamed row = IsItem interfaces named_then with_named row

named_has : (name : List ℕ) (x : Node) → IsName name → IsOf x → IsNamed (name, x)
named_has name x h k = record {
  has = λ next content c.
      ((have_shapes ℕ).text interfaces name (name_number name h)).has (Shape.part next) (Content.part x content)
      (IsContent.part next x content k c);
}

abbrev IsValued : ValueRow → Type 0
IsValued row = IsItem interfaces value_then with_value row

value_has : (row : ValueRow) → IsName row.name → IsOf row.scheme → IsValued row
value_has row h k = record {
  has = λ next content c.
      ((have_shapes ℕ).text interfaces row.name (name_number row.name h)).has (byte_then (Shape.part next))
      (with_byte (status_byte row.status) (Content.part row.scheme content))
      (((have_shapes ℕ).byte interfaces (status_byte row.status)).has (Shape.part next)
      (Content.part row.scheme content) (IsContent.part next row.scheme content k c));
}

abbrev IsArgument : Node → Type 0
IsArgument x = IsItem interfaces Shape.part Content.part x

argument_has : (x : Node) → IsOf x → IsArgument x
argument_has x h = record { has = λ next content c. IsContent.part next x content h c }

-- ---- lists

number_has : (n : ℕ) (next : Shape) (content : Content) → IsContent interfaces next content
    → IsContent interfaces (number_then next) (with_number n content)
number_has n next content h = ((have_shapes ℕ).number interfaces n).has next content h

named_list : (rows : Table Node) (next : Shape) (content : Content) → IsNumber (length rows) → All IsNamed rows
    → IsContent interfaces next content
    → IsContent interfaces (list_then named_then next) (with_list with_named rows content)
named_list rows next content h each c =
    ((have_shapes (List ℕ × Node)).list interfaces named_then with_named rows h.below each).has next content c

-- rows of entries with names
all_rows : {A B : Type 0} (g : A → B) (name : A → List ℕ) (P : A → Type 0) (Q : B → Type 0)
    → ((x : A) → IsName (name x) → P x → Q (g x)) → (xs : List A) → All IsName (map name xs) → All P xs
    → All Q (map g xs)
all_rows g name P Q f [] h k = All-nil Q
all_rows g name P Q f (x ∷ xs) h k = All-cons Q (g x) (map g xs)
    (f x (All-head IsName (name x) (map name xs) h) (All-head P x xs k))
    (all_rows g name P Q f xs (All-tail IsName (name x) (map name xs) h) (All-tail P x xs k))

-- ---- type names

unit_has : (b : Bool) (u : List ℕ) (next : Shape) (content : Content) → IsNumber (length u)
    → IsContent interfaces next content
    → IsContent interfaces (Shape.piece 1 (λ kind. owner_then kind next)) (with_unit b u content)
unit_has true u next content h c =
    IsContent.piece 1 (λ kind. owner_then kind next) (1 ∷ []) content refl c
unit_has false u next content h c =
    IsContent.piece 1 (λ kind. owner_then kind next) (2 ∷ []) (with_text u content) refl
    (((have_shapes ℕ).text interfaces u h.below).has next content c)

owner_has : (home : List ℕ) (o : Owner) (next : Shape) (content : Content) → HasText o
    → IsContent interfaces next content
    → IsContent interfaces (Shape.piece 1 (λ kind. owner_then kind next)) (with_owner home o content)
owner_has home owner.Basis next content h c =
    IsContent.piece 1 (λ kind. owner_then kind next) (0 ∷ []) content refl c
owner_has home (owner.«Unit» u) next content h c = unit_has (same_text home u) u next content h c
owner_has home owner.Bound next content h c =
    IsContent.piece 1 (λ kind. owner_then kind next) (3 ∷ []) content refl c

type_name_has : (home : List ℕ) (m : TyName) (next : Shape) (content : Content) → IsTypeName m
    → IsContent interfaces next content
    → IsContent interfaces (type_name_then next) (with_type_name home m content)
type_name_has home m next content h c =
    owner_has home m.owner (number_then (number_then (byte_then next)))
    (with_number m.number (with_number m.arity (with_byte (bool_byte m.eq) content))) h.owner
    (number_has m.number (number_then (byte_then next)) (with_number m.arity (with_byte (bool_byte m.eq) content))
    (number_has m.arity (byte_then next) (with_byte (bool_byte m.eq) content)
    (((have_shapes ℕ).byte interfaces (bool_byte m.eq)).has next content c)))

-- ---- types

variable_is : (i : ℕ) → IsOf (variable_node i)
variable_is i = IsNode.node 1 (with_number i Content.nothing) (λ e. absurd (let k : 1 ≡ 12 = e in cc))
    (number_has i Shape.complete Content.nothing IsContent.nothing)

two_parts : (xs : List Node) → length xs ≡ 2 → All IsOf xs
    → IsContent interfaces (Shape.part (Shape.part Shape.complete)) (with_items Content.part xs Content.nothing)
two_parts [] e h = absurd (cc)
two_parts (x ∷ []) e h = absurd (cc)
two_parts (x ∷ y ∷ []) e h =
    let tail = All-tail IsOf x (y ∷ []) h in
    IsContent.part (Shape.part Shape.complete) x (Content.part y Content.nothing) (All-head IsOf x (y ∷ []) h)
    (IsContent.part Shape.complete y Content.nothing (All-head IsOf y [] tail) IsContent.nothing)
two_parts (x ∷ y ∷ z ∷ zs) e h = absurd (cc)

all_fields : (labels : List (List ℕ)) (xs : List Node) → All IsName labels → All IsOf xs
    → All IsNamed (zip labels xs)
all_fields [] xs h k = All-nil IsNamed
all_fields (l ∷ ls) [] h k = All-nil IsNamed
all_fields (l ∷ ls) (x ∷ xs) h k = All-cons IsNamed (l, x) (zip ls xs)
    (named_has l x (All-head IsName l ls h) (All-head IsOf x xs k))
    (all_fields ls xs (All-tail IsName l ls h) (All-tail IsOf x xs k))

all_arguments : (xs : List Node) → All IsOf xs → All IsArgument xs
all_arguments [] h = All-nil IsArgument
all_arguments (x ∷ xs) h = All-cons IsArgument x xs (argument_has x (All-head IsOf x xs h))
    (all_arguments xs (All-tail IsOf x xs h))

over_is : (home : List ℕ) (c : Symbol) (xs : List Node) → IsOver c (length xs) → All IsOf xs
    → IsOf (node_over home c xs)
over_is home symbol.Arrow xs h each =
    IsNode.node 3 (with_items Content.part xs Content.nothing) (λ e. absurd (let k : 3 ≡ 12 = e in cc))
    (two_parts xs h.parts each)
over_is home (symbol.Record ls) xs h each =
    IsNode.node 2 (with_list with_named (zip ls xs) Content.nothing) (λ e. absurd (let k : 2 ≡ 12 = e in cc))
    (named_list (zip ls xs) Shape.complete Content.nothing
    (subst IsNumber (sym (length_fields ls xs h.parts)) h.symbol.counted) (all_fields ls xs h.symbol.each each)
    IsContent.nothing)
over_is home (symbol.Name m) xs h each =
    IsNode.node 4 (with_type_name home m (with_list Content.part xs Content.nothing))
    (λ e. absurd (let k : 4 ≡ 12 = e in cc))
    (type_name_has home m (list_then Shape.part Shape.complete) (with_list Content.part xs Content.nothing) h.symbol
    (((have_shapes Node).list interfaces Shape.part Content.part xs
    (subst IsNumber (sym h.parts) h.symbol.arity).below (all_arguments xs each)).has Shape.complete Content.nothing
    IsContent.nothing))

mutual
  type_is : (home : List ℕ) (n : ℕ) (t : Tree) → IsType n t → IsOf (type_node home t)
  type_is home n (Tree.Bound i) h = variable_is i
  type_is home n (Tree.Free v) h = absurd h
  type_is home n (Tree.Made c ts) h =
      over_is home c (type_nodes home ts) (over_nodes home c ts h.0) (types_are home n ts h.1)

  types_are : (home : List ℕ) (n : ℕ) (ts : Trees) → AreTypes n ts → All IsOf (type_nodes home ts)
  types_are home n Trees.Nil h = All-nil IsOf
  types_are home n (Trees.Cons t ts) h =
      All-cons IsOf (type_node home t) (type_nodes home ts) (type_is home n t h.0) (types_are home n ts h.1)

-- ---- entries

function_is : (home : List ℕ) (f : TypeFn) → IsFunction f → IsOf (node_of_function home f)
function_is home f h =
    IsNode.node 5 (with_number f.arity (Content.part (type_node home f.body) Content.nothing))
    (λ e. absurd (let k : 5 ≡ 12 = e in cc))
    (number_has f.arity (Shape.part Shape.complete) (Content.part (type_node home f.body) Content.nothing)
    (IsContent.part Shape.complete (type_node home f.body) Content.nothing (type_is home f.arity f.body h.body)
    IsContent.nothing))

scheme_is : (home : List ℕ) (σ : TypeScheme) → IsClosed σ → IsOf (node_of_scheme home σ)
scheme_is home σ h =
    let count = subst IsNumber (sym (length-map σ.marks bool_byte)) h.count in
    IsNode.node 6 (with_text (map bool_byte σ.marks) (Content.part (type_node home σ.body) Content.nothing))
    (λ e. absurd (let k : 6 ≡ 12 = e in cc))
    (((have_shapes ℕ).text interfaces (map bool_byte σ.marks) count.below).has (Shape.part Shape.complete)
    (Content.part (type_node home σ.body) Content.nothing)
    (IsContent.part Shape.complete (type_node home σ.body) Content.nothing
    (type_is home (length σ.marks) σ.body h.body) IsContent.nothing))

con_is : (home : List ℕ) (con : ConEntry) → IsName con.name → IsClosed con.scheme → IsNamed (row_of_con home con)
con_is home con h k = named_has con.name (node_of_scheme home con.scheme) h (scheme_is home con.scheme k)

structure_is : (home : List ℕ) (str : TypeStr) → IsTypeStructure str → IsOf (node_of_type home str)
structure_is home str h =
    let cons = map (row_of_con home) str.cons in
    let names : ConEntry → List ℕ = λ con. con.name in
    IsNode.node 7 (Content.part (node_of_function home str.function) (with_list with_named cons Content.nothing))
    (λ e. absurd (let k : 7 ≡ 12 = e in cc))
    (IsContent.part (list_then named_then Shape.complete) (node_of_function home str.function)
    (with_list with_named cons Content.nothing) (function_is home str.function h.function)
    (named_list cons Shape.complete Content.nothing (rows_counted (row_of_con home) names str.cons h.names)
    (all_rows (row_of_con home) names (λ (con : ConEntry). IsClosed con.scheme) IsNamed (con_is home) str.cons
    h.names.each h.cons) IsContent.nothing))

value_row_is : (home : List ℕ) (row : List ℕ × ValueEntry) → IsName row.0 → IsValueRow row
    → IsValued (row_of_value home row)
value_row_is home row h k = value_has (row_of_value home row) h (scheme_is home row.1.scheme k)

-- ---- environments

-- a table whose entries have nodes
rows_are : {A : Type 0} (node : A → Node) (P : A → Type 0) → ((x : A) → P x → IsOf (node x)) → (rows : Table A)
    → AreNames (names_of rows) → All (λ r. P r.1) rows → All IsNamed (rows_by node rows)
rows_are {A} node P f rows h k =
    all_rows (λ (r : List ℕ × A). (r.0, node r.1)) (λ (r : List ℕ × A). r.0) (λ r. P r.1) IsNamed
    (λ r i j. named_has r.0 (node r.1) i (f r.1 j)) rows h.each k

table_counted : {A : Type 0} (node : A → Node) (rows : Table A) → AreNames (names_of rows)
    → IsNumber (length (rows_by node rows))
table_counted {A} node rows h =
    rows_counted (λ (r : List ℕ × A). (r.0, node r.1)) (λ (r : List ℕ × A). r.0) rows h

length_rows : (home : List ℕ) (ss : Structures)
    → length (structure_rows home ss) ≡ length (map (λ (r : List ℕ × Env). r.0) (table_of ss))
length_rows home Structures.Nil = refl
length_rows home (Structures.Cons name env rest) = ap suc (length_rows home rest)

mutual
  env_is : (home : List ℕ) (env : Env) → IsEnv env → IsOf (env_node home env)
  env_is home (Env.MakeEnv ss ts vs) h =
      let tables = h.0 in
      let values = map (row_of_value home) vs in
      let third = with_list with_value values Content.nothing in
      let second = with_list with_named (rows_by (node_of_type home) ts) third in
      IsNode.node 8 (with_list with_named (structure_rows home ss) second)
      (λ e. absurd (let k : 8 ≡ 12 = e in cc))
      (named_list (structure_rows home ss) (list_then named_then (list_then value_then Shape.complete)) second
      (subst IsNumber (sym (length_rows home ss)) tables.structure_names.counted)
      (structures_are home ss tables.structure_names.each h.1)
      (named_list (rows_by (node_of_type home) ts) (list_then value_then Shape.complete) third
      (table_counted (node_of_type home) ts tables.type_names)
      (rows_are (node_of_type home) IsTypeStructure (structure_is home) ts tables.type_names tables.types)
      (((have_shapes ValueRow).list interfaces value_then with_value values
      (rows_counted (row_of_value home) (λ (r : List ℕ × ValueEntry). r.0) vs tables.value_names).below
      (all_rows (row_of_value home) (λ (r : List ℕ × ValueEntry). r.0) IsValueRow IsValued (value_row_is home) vs
      tables.value_names.each tables.values)).has Shape.complete Content.nothing IsContent.nothing)))

  structures_are : (home : List ℕ) (ss : Structures) → All IsName (names_of (table_of ss)) → AreEnvs ss
      → All IsNamed (structure_rows home ss)
  structures_are home Structures.Nil h k = All-nil IsNamed
  structures_are home (Structures.Cons name env rest) h k =
      All-cons IsNamed (name, env_node home env) (structure_rows home rest)
      (named_has name (env_node home env) (All-head IsName name (names_of (table_of rest)) h) (env_is home env k.0))
      (structures_are home rest (All-tail IsName name (names_of (table_of rest)) h) k.1)

signature_is : (home : List ℕ) (sig : Signature) → IsSignature sig → IsOf (node_of_signature home sig)
signature_is home sig h =
    IsNode.node 9 (with_number (length sig.bound) (Content.part (env_node home sig.env) Content.nothing))
    (λ e. absurd (let k : 9 ≡ 12 = e in cc))
    (number_has (length sig.bound) (Shape.part Shape.complete) (Content.part (env_node home sig.env) Content.nothing)
    (IsContent.part Shape.complete (env_node home sig.env) Content.nothing (env_is home sig.env h.env)
    IsContent.nothing))

functor_is : (home : List ℕ) (f : Functor) → IsFunctor f → IsOf (node_of_functor home f)
functor_is home f h =
    let end = Content.part (env_node home f.result) Content.nothing in
    let more = with_number (length f.further) end in
    let tail = number_then (Shape.part Shape.complete) in
    IsNode.node 10 (with_number (length f.bound) (Content.part (env_node home f.param) more))
    (λ e. absurd (let k : 10 ≡ 12 = e in cc))
    (number_has (length f.bound) (Shape.part tail) (Content.part (env_node home f.param) more)
    (IsContent.part tail (env_node home f.param) more (env_is home f.param h.param)
    (number_has (length f.further) (Shape.part Shape.complete) end
    (IsContent.part Shape.complete (env_node home f.result) Content.nothing (env_is home f.result h.result)
    IsContent.nothing))))

-- ---- tops

alone_are : (home : List ℕ) (env : Env) → IsEnv env → All IsNamed (rows_by (env_node home) (structures env))
alone_are home (Env.MakeEnv ss ts vs) h = those ss h.0.structure_names.each h.1
  where
    those : (zs : Structures) → All IsName (names_of (table_of zs)) → AreEnvs zs
        → All IsNamed (rows_by (env_node home) (table_of zs))
    those Structures.Nil n k = All-nil IsNamed
    those (Structures.Cons name env rest) n k =
        All-cons IsNamed (name, env_node home env) (rows_by (env_node home) (table_of rest))
        (named_has name (env_node home env) (All-head IsName name (names_of (table_of rest)) n) (env_is home env k.0))
        (those rest (All-tail IsName name (names_of (table_of rest)) n) k.1)

alone_counted : (home : List ℕ) (d : Env) → IsEnv d → IsNumber (length (rows_by (env_node home) (structures d)))
alone_counted home (Env.MakeEnv ss ts vs) h = table_counted (env_node home) (table_of ss) h.0.structure_names

pub top_is : (home : List ℕ) (top : Top) → HasTables top → IsNode interfaces (top_node home top)
top_is home top h =
    let env = rows_by (env_node home) (structures top.env) in
    let sigs = rows_by (node_of_signature home) top.signatures in
    let funs = rows_by (node_of_functor home) top.functors in
    let fsigs = rows_by (node_of_functor home) top.funsigs in
    let fourth = with_list with_named fsigs Content.nothing in
    let third = with_list with_named funs fourth in
    let second = with_list with_named sigs third in
    let last = list_then named_then Shape.complete in
    IsNode.node 11 (with_list with_named env second) (λ e. absurd (let k : 11 ≡ 12 = e in cc))
    (named_list env (list_then named_then (list_then named_then last)) second (alone_counted home top.env h.env)
    (alone_are home top.env h.env)
    (named_list sigs (list_then named_then last) third
    (table_counted (node_of_signature home) top.signatures h.signature_names)
    (rows_are (node_of_signature home) IsSignature (signature_is home) top.signatures h.signature_names h.signatures)
    (named_list funs last fourth (table_counted (node_of_functor home) top.functors h.functor_names)
    (rows_are (node_of_functor home) IsFunctor (functor_is home) top.functors h.functor_names h.functors)
    (named_list fsigs Shape.complete Content.nothing (table_counted (node_of_functor home) top.funsigs h.funsig_names)
    (rows_are (node_of_functor home) IsFunctor (functor_is home) top.funsigs h.funsig_names h.funsigs)
    IsContent.nothing))))
