-- What the node of a top says is that top.
use Rattle.std.proofs.Common.{◌≡◌, ℕ, ◌<◌, refl, sym, ap, ap₂, subst, ◌∙◌, List, [], ◌∷◌, length, map, Bool, true, false, arith}
use Rattle.std.specs.Prelude.{All}
use Rattle.std.specs.List.{zip}
use Rattle.std.proofs.lemmas.Nat.{from_be_bytes-to_be_bytes_4}
use Rattle.std.proofs.lemmas.List.Elements.{All-nil, All-cons, All-head, All-tail}
use Rattle.cm_bytes.specs.Fields.{u32_of}
use Rattle.node_bytes.specs.Nodes.{Node, Content}
use Rattle.node_bytes.specs.Shapes.{number, with_byte, with_number, with_items, with_list}
use Rattle.semantic_objects.specs.declared.name.Owner.{Owner}
use Rattle.semantic_objects.specs.declared.name.Owner.TheVariants as owner
use Rattle.semantic_objects.specs.declared.name.TyName.{TyName}
use Rattle.semantic_objects.specs.declared.symbol.Symbol.TheVariants as symbol
use Rattle.semantic_objects.specs.declared.entry.ConEntry.{ConEntry}
use Rattle.semantic_objects.specs.declared.entry.TypeFn.{TypeFn}
use Rattle.semantic_objects.specs.declared.entry.TypeStr.{TypeStr}
use Rattle.semantic_objects.specs.declared.entry.ValueEntry.{ValueEntry}
use Rattle.semantic_objects.specs.declared.entry.VidStatus.{VidStatus}
use Rattle.semantic_objects.specs.declared.entry.VidStatus.TheVariants as status
use Rattle.semantic_objects.specs.Symbols.{same_text}
use Rattle.semantic_objects.specs.Tables.{Table, names_of}
use Rattle.semantic_objects.specs.Trees.{Tree, Trees, TypeScheme}
use Rattle.semantic_objects.specs.Environments.{Env, Structures, Signature, Functor, Top, table_of, structures_of, structures, types, values, env_of}
use Rattle.semantic_objects.proofs.Same.{text_is}
use Rattle.realisation.specs.Names.{names_in_env}
use Rattle.realisation.specs.Canonical.{met}
use Rattle.interface_format.specs.Tags.{bool_byte, status_byte, with_unit, with_owner, with_type_name, with_named, ValueRow, with_value}
use Rattle.interface_format.specs.Trees.{type_node, type_nodes, node_of_function, node_of_scheme, row_of_con, node_of_type, row_of_value, rows_by, env_node, structure_rows, node_of_signature, node_of_functor, top_node}
use Rattle.interface_format.specs.Rules.{IsNumber, AreNames, IsTypeName, IsOver, IsType, AreTypes, count_trees, IsFunction, IsClosed, IsTypeStructure, IsTypeRow, IsValueRow, AreTables, IsEnv, AreEnvs, is_beyond, IsSignature, IsFunctor, HasTables}
use Rattle.interface_format.proofs.Types.{count_nodes, length_fields}
use Rattle.interface_format.proofs.Entries.{rows_counted}
use Rattle.interface_tops.specs.Contents.{rows_of, past_rows, list_of, past_list, status_of, values_of, value_list_of, owner_of, past_owner, name_by, type_name_of, tree_of, trees_in, function_of, is_one, scheme_of, con_of, type_of, value_of, table_by, environment_of, environments_in, signature_by, signature_of, functor_by, functor_of, top_of}

-- ---- fields

number_back : (n : ℕ) → IsNumber n → number (u32_of n) ≡ n
unfolding u32_of number
number_back n h = from_be_bytes-to_be_bytes_4 n h.below

rows_back : (rows : Table Node) (c : Content) → rows_of (length rows) (with_items with_named rows c) ≡ rows
rows_back [] c = refl
rows_back (row ∷ rows) c = ap (λ (z : Table Node). row ∷ z) (rows_back rows c)

past_back : (rows : Table Node) (c : Content) → past_rows (length rows) (with_items with_named rows c) ≡ c
past_back [] c = refl
past_back (row ∷ rows) c = past_back rows c

list_back : (rows : Table Node) (c : Content) → IsNumber (length rows) → list_of (with_list with_named rows c) ≡ rows
list_back rows c h =
    ap (λ n. rows_of n (with_items with_named rows c)) (number_back (length rows) h) ∙ rows_back rows c

past_list_back : (rows : Table Node) (c : Content) → IsNumber (length rows)
    → past_list (with_list with_named rows c) ≡ c
past_list_back rows c h =
    ap (λ n. past_rows n (with_items with_named rows c)) (number_back (length rows) h) ∙ past_back rows c

status_back : (s : VidStatus) → status_of (status_byte s) ≡ s
status_back status.Variable = refl
status_back status.Constructor = refl
status_back status.Exception = refl

abbrev value_row : List ℕ → VidStatus → Node → ValueRow
value_row name status scheme = record { name = name; status = status; scheme = scheme }

values_back : (rows : List ValueRow) (c : Content) → values_of (length rows) (with_items with_value rows c) ≡ rows
values_back [] c = refl
values_back (row ∷ rows) c =
    ap₂ (λ (s : VidStatus) (z : List ValueRow). value_row row.name s row.scheme ∷ z) (status_back row.status)
    (values_back rows c)

value_list_back : (rows : List ValueRow) (c : Content) → IsNumber (length rows)
    → value_list_of (with_list with_value rows c) ≡ rows
value_list_back rows c h =
    ap (λ n. values_of n (with_items with_value rows c)) (number_back (length rows) h) ∙ values_back rows c

-- ---- type names

eq_back : (e : Bool) → is_one (bool_byte e) ≡ e
eq_back true = refl
eq_back false = refl

abbrev name_of : Owner → ℕ → ℕ → Bool → TyName
name_of owner number arity eq = record { owner = owner; number = number; arity = arity; eq = eq }

abbrev facts : ℕ → ℕ → Bool → Content → Content
facts number arity eq c = with_number number (with_number arity (with_byte (bool_byte eq) c))

facts_back : (o : Owner) (i a : ℕ) (e : Bool) (c : Content) → IsNumber i → IsNumber a
    → name_by o (facts i a e c) ≡ name_of o i a e
facts_back o i a e c h k =
    let x = number_back i h in
    let y = number_back a k in
    let z = eq_back e in
    ap₂ (λ (p : ℕ) (q : ℕ). name_of o p q (is_one (bool_byte e))) x y ∙ ap (name_of o i a) z

-- with what stands behind the owner
owner_back : (home : List ℕ) (o : Owner) (c : Content) → (owner_of home (with_owner home o c) ≡ o)
    × (past_owner (with_owner home o c) ≡ c)
owner_back home owner.Basis c = (refl, refl)
owner_back home owner.Bound c = (refl, refl)
owner_back home (owner.«Unit» u) c = unit_back (same_text home u) refl
  where
    unit_back : (b : Bool) → same_text home u ≡ b → (owner_of home (with_unit b u c) ≡ owner.«Unit» u)
        × (past_owner (with_unit b u c) ≡ c)
    unit_back true e = (ap owner.«Unit» (text_is home u e), refl)
    unit_back false e = (refl, refl)

type_name_back : (home : List ℕ) (n : TyName) (c : Content) → IsTypeName n
    → type_name_of home (with_type_name home n c) ≡ n
type_name_back home n c h =
    let p = owner_back home n.owner (facts n.number n.arity n.eq c) in
    ap₂ name_by p.0 p.1 ∙ facts_back n.owner n.number n.arity n.eq c h.number h.arity

-- no part stands in a type name
trees_past_owner : (home : List ℕ) (o : Owner) (c : Content) → trees_in home (with_owner home o c) ≡ trees_in home c
trees_past_owner home owner.Basis c = refl
trees_past_owner home owner.Bound c = refl
trees_past_owner home (owner.«Unit» u) c = past_unit (same_text home u)
  where
    past_unit : (b : Bool) → trees_in home (with_unit b u c) ≡ trees_in home c
    past_unit true = refl
    past_unit false = refl

-- ---- types

names_back : (labels : List (List ℕ)) (xs : List Node) → length xs ≡ length labels → names_of (zip labels xs) ≡ labels
names_back [] xs e = refl
names_back (l ∷ ls) [] e = absurd (cc)
names_back (l ∷ ls) (x ∷ xs) e =
    let k : length xs ≡ length ls = cc in ap (λ (z : List (List ℕ)). l ∷ z) (names_back ls xs k)

labels_back : (home : List ℕ) (labels : List (List ℕ)) (ts : Trees) → IsOver (symbol.Record labels) (count_trees ts)
    → names_of (list_of (with_list with_named (zip labels (type_nodes home ts)) Content.nothing)) ≡ labels
labels_back home labels ts h =
    let counted : length (type_nodes home ts) ≡ length labels = count_nodes home ts ∙ h.parts in
    ap names_of (list_back (zip labels (type_nodes home ts)) Content.nothing
    (subst IsNumber (sym (length_fields labels (type_nodes home ts) counted)) h.symbol.counted))
    ∙ names_back labels (type_nodes home ts) counted

below_number : (i n : ℕ) → i < n → IsNumber n → IsNumber i
below_number i n lt h = let b = h.below in record { below = omega (arith, lt, b) }

mutual
  tree_back : (home : List ℕ) (m : ℕ) → IsNumber m → (t : Tree) → IsType m t → tree_of home (type_node home t) ≡ t
  tree_back home m a (Tree.Bound i) h = ap Tree.Bound (number_back i (below_number i m h a))
  tree_back home m a (Tree.Free n) h = absurd h
  tree_back home m a (Tree.Made symbol.Arrow ts) h = ap (Tree.Made symbol.Arrow) (parts_back home m a ts h.1)
  tree_back home m a (Tree.Made (symbol.Record labels) ts) h =
      ap₂ Tree.Made (ap symbol.Record (labels_back home labels ts h.0))
      (fields_back home m a labels ts h.0.parts h.1)
  tree_back home m a (Tree.Made (symbol.Name n) ts) h =
      ap₂ Tree.Made
      (ap symbol.Name (type_name_back home n
      (with_list Content.part (type_nodes home ts) Content.nothing) h.0.symbol))
      (trees_past_owner home n.owner
      (facts n.number n.arity n.eq (with_list Content.part (type_nodes home ts) Content.nothing))
      ∙ parts_back home m a ts h.1)

  parts_back : (home : List ℕ) (m : ℕ) → IsNumber m → (ts : Trees) → AreTypes m ts
      → trees_in home (with_items Content.part (type_nodes home ts) Content.nothing) ≡ ts
  parts_back home m a Trees.Nil h = refl
  parts_back home m a (Trees.Cons t ts) h =
      ap₂ Trees.Cons (tree_back home m a t h.0) (parts_back home m a ts h.1)

  fields_back : (home : List ℕ) (m : ℕ) → IsNumber m → (labels : List (List ℕ)) (ts : Trees)
      → count_trees ts ≡ length labels → AreTypes m ts
      → trees_in home (with_items with_named (zip labels (type_nodes home ts)) Content.nothing) ≡ ts
  fields_back home m a [] Trees.Nil e h = refl
  fields_back home m a (l ∷ ls) Trees.Nil e h = absurd (cc)
  fields_back home m a [] (Trees.Cons t ts) e h = absurd (cc)
  fields_back home m a (l ∷ ls) (Trees.Cons t ts) e h =
      let k : count_trees ts ≡ length ls = cc in
      ap₂ Trees.Cons (tree_back home m a t h.0) (fields_back home m a ls ts k h.1)

-- ---- entries

-- what is said of each item's node is that item
maps_back : {A B : Type 0} (node : A → B) (say : B → A) (P : A → Type 0) → ((x : A) → P x → say (node x) ≡ x)
    → (xs : List A) → All P xs → map say (map node xs) ≡ xs
maps_back node say P back [] h = refl
maps_back node say P back (x ∷ xs) h =
    ap₂ (λ z zs. z ∷ zs) (back x (All-head P x xs h)) (maps_back node say P back xs (All-tail P x xs h))

abbrev type_function : ℕ → Tree → TypeFn
type_function arity body = record { arity = arity; body = body }

function_back : (home : List ℕ) (f : TypeFn) → IsFunction f → function_of home (node_of_function home f) ≡ f
function_back home f h =
    ap₂ type_function (number_back f.arity h.arity) (tree_back home f.arity h.arity f.body h.body)

marks_back : (marks : List Bool) → map is_one (map bool_byte marks) ≡ marks
marks_back [] = refl
marks_back (mark ∷ marks) = ap₂ (λ (z : Bool) (zs : List Bool). z ∷ zs) (eq_back mark) (marks_back marks)

abbrev type_scheme : List Bool → Tree → TypeScheme
type_scheme marks body = record { marks = marks; body = body }

scheme_back : (home : List ℕ) (σ : TypeScheme) → IsClosed σ → scheme_of home (node_of_scheme home σ) ≡ σ
scheme_back home σ h =
    ap₂ type_scheme (marks_back σ.marks) (tree_back home (length σ.marks) h.count σ.body h.body)

abbrev con_entry : List ℕ → TypeScheme → ConEntry
con_entry name scheme = record { name = name; scheme = scheme }

con_back : (home : List ℕ) (con : ConEntry) → IsClosed con.scheme → con_of home (row_of_con home con) ≡ con
con_back home con h = ap (con_entry con.name) (scheme_back home con.scheme h)

abbrev type_structure : TypeFn → List ConEntry → TypeStr
type_structure function cons = record { function = function; cons = cons }

type_back : (home : List ℕ) (str : TypeStr) → IsTypeStructure str → type_of home (node_of_type home str) ≡ str
type_back home str h =
    ap₂ type_structure (function_back home str.function h.function)
    (ap (map (con_of home)) (list_back (map (row_of_con home) str.cons) Content.nothing
    (rows_counted (row_of_con home) (λ (con : ConEntry). con.name) str.cons h.names))
    ∙ maps_back (row_of_con home) (con_of home) (λ (con : ConEntry). IsClosed con.scheme) (con_back home) str.cons h.cons)

abbrev value_entry : VidStatus → TypeScheme → ValueEntry
value_entry status scheme = record { status = status; scheme = scheme }

abbrev row_with : {A : Type 0} → List ℕ → A → List ℕ × A
row_with name x = (name, x)

value_back : (home : List ℕ) (row : List ℕ × ValueEntry) → IsValueRow row → value_of home (row_of_value home row) ≡ row
value_back home row h =
    ap (λ (σ : TypeScheme). row_with row.0 (value_entry row.1.status σ)) (scheme_back home row.1.scheme h)

-- a table whose rows are said again
table_back : {A : Type 0} (node : A → Node) (say : Node → A) (P : A → Type 0) → ((x : A) → P x → say (node x) ≡ x)
    → (rows : Table A) → All (λ r. P r.1) rows → table_by say (rows_by node rows) ≡ rows
table_back {A} node say P back rows h =
    maps_back (λ (r : List ℕ × A). row_with r.0 (node r.1)) (λ (r : List ℕ × Node). row_with r.0 (say r.1))
    (λ r. P r.1) (λ r k. ap (row_with r.0) (back r.1 k)) rows h

-- ---- environments

table_counted : {A : Type 0} (node : A → Node) (rows : Table A) → AreNames (names_of rows)
    → IsNumber (length (rows_by node rows))
table_counted {A} node rows h =
    rows_counted (λ (r : List ℕ × A). row_with r.0 (node r.1)) (λ (r : List ℕ × A). r.0) rows h

structure_rows_are : (home : List ℕ) (ss : Structures) → structure_rows home ss ≡ rows_by (env_node home) (table_of ss)
structure_rows_are home Structures.Nil = refl
structure_rows_are home (Structures.Cons name env rest) =
    ap (λ (z : Table Node). (name, env_node home env) ∷ z) (structure_rows_are home rest)

structures_counted : (home : List ℕ) (ss : Structures) → AreNames (names_of (table_of ss))
    → IsNumber (length (structure_rows home ss))
structures_counted home ss h = subst (λ (z : Table Node). IsNumber (length z)) (sym (structure_rows_are home ss))
    (table_counted (env_node home) (table_of ss) h)

values_counted : (home : List ℕ) (vs : Table ValueEntry) → AreNames (names_of vs)
    → IsNumber (length (map (row_of_value home) vs))
values_counted home vs h = rows_counted (row_of_value home) (λ (r : List ℕ × ValueEntry). r.0) vs h

abbrev types_and_values : List ℕ → Table TypeStr → Table ValueEntry → Content
types_and_values home ts vs =
    with_list with_named (rows_by (node_of_type home) ts)
    (with_list with_value (map (row_of_value home) vs) Content.nothing)

types_back : (home : List ℕ) (ts : Table TypeStr) (c : Content) → AreNames (names_of ts) → All IsTypeRow ts
    → table_by (type_of home) (list_of (with_list with_named (rows_by (node_of_type home) ts) c)) ≡ ts
types_back home ts c n h =
    ap (table_by (type_of home)) (list_back (rows_by (node_of_type home) ts) c (table_counted (node_of_type home) ts n))
    ∙ table_back (node_of_type home) (type_of home) IsTypeStructure (type_back home) ts h

entries_back : (home : List ℕ) (vs : Table ValueEntry) → AreNames (names_of vs) → All IsValueRow vs
    → map (value_of home) (value_list_of (with_list with_value (map (row_of_value home) vs) Content.nothing)) ≡ vs
entries_back home vs n h =
    ap (map (value_of home)) (value_list_back (map (row_of_value home) vs) Content.nothing (values_counted home vs n))
    ∙ maps_back (row_of_value home) (value_of home) IsValueRow (value_back home) vs h

abbrev made_env : Table Env → Table TypeStr → Table ValueEntry → Env
made_env ss ts vs = env_of ss ts vs

-- what stands behind the structures
abbrev past_structures : List ℕ → Structures → Table TypeStr → Table ValueEntry → Content
past_structures home ss ts vs =
    past_list (with_list with_named (structure_rows home ss) (types_and_values home ts vs))

tables_back : (home : List ℕ) (ss : Structures) (ts : Table TypeStr) (vs : Table ValueEntry) → AreTables ss ts vs
    → (table_by (type_of home) (list_of (past_structures home ss ts vs)) ≡ ts)
    × (map (value_of home) (value_list_of (past_list (past_structures home ss ts vs))) ≡ vs)
tables_back home ss ts vs h =
    let behind = past_list_back (structure_rows home ss) (types_and_values home ts vs)
    (structures_counted home ss h.structure_names) in
    let more = past_list_back (rows_by (node_of_type home) ts)
    (with_list with_value (map (row_of_value home) vs) Content.nothing)
    (table_counted (node_of_type home) ts h.type_names) in (
      ap (λ (c : Content). table_by (type_of home) (list_of c)) behind
          ∙ types_back home ts (with_list with_value (map (row_of_value home) vs) Content.nothing) h.type_names h.types,
      ap (λ (c : Content). map (value_of home) (value_list_of (past_list c))) behind
          ∙ ap (λ (c : Content). map (value_of home) (value_list_of c)) more
          ∙ entries_back home vs h.value_names h.values,
    )

abbrev whole_env : Structures → Table TypeStr → Table ValueEntry → Env
whole_env ss ts vs = Env.MakeEnv ss ts vs

mutual
  env_back : (home : List ℕ) (env : Env) → IsEnv env → environment_of home (env_node home env) ≡ env
  env_back home (Env.MakeEnv ss ts vs) h =
      let c : Content = types_and_values home ts vs in
      let listed = list_back (structure_rows home ss) c (structures_counted home ss h.0.structure_names) in
      let p = tables_back home ss ts vs h.0 in
      ap₂ (λ (z : Structures × Table TypeStr) (w : Table ValueEntry). whole_env z.0 z.1 w)
      (ap₂ (λ (z : Structures) (w : Table TypeStr). (z, w))
      (ap (λ (z : Table Node). structures_of (zip (names_of z)
      (environments_in home (with_list with_named (structure_rows home ss) c)))) listed
      ∙ structures_back home ss c h.1) p.0) p.1

  structures_back : (home : List ℕ) (ss : Structures) (c : Content) → AreEnvs ss
      → structures_of (zip (names_of (structure_rows home ss))
      (environments_in home (with_items with_named (structure_rows home ss) c))) ≡ ss
  structures_back home Structures.Nil c h = refl
  structures_back home (Structures.Cons name env rest) c h =
      ap₂ (Structures.Cons name) (env_back home env h.0) (structures_back home rest c h.1)

-- ---- signatures, functors and tops

abbrev signature_with : List TyName → Env → Signature
signature_with bound env = record { bound = bound; env = env }

signature_back : (home : List ℕ) (sig : Signature) → IsSignature sig
    → signature_of home (node_of_signature home sig) ≡ sig
signature_back home sig h =
    ap signature_by (env_back home sig.env h.env)
    ∙ ap (λ (bound : List TyName). signature_with bound sig.env) (sym h.bound)

abbrev functor_with : Env → Env → List TyName → List TyName → Functor
functor_with param result bound further =
    record { bound = bound; param = param; further = further; result = result }

functor_back : (home : List ℕ) (fun : Functor) → IsFunctor fun → functor_of home (node_of_functor home fun) ≡ fun
functor_back home fun h =
    ap₂ functor_by (env_back home fun.param h.param) (env_back home fun.result h.result)
    ∙ ap (λ (bound : List TyName). functor_with fun.param fun.result bound
    (met (is_beyond bound) (names_in_env fun.result))) (sym h.bound)
    ∙ ap (functor_with fun.param fun.result fun.bound) (sym h.further)

each_env : (ss : Structures) → AreEnvs ss → All (λ r. IsEnv r.1) (table_of ss)
each_env Structures.Nil h = All-nil (λ (r : List ℕ × Env). IsEnv r.1)
each_env (Structures.Cons name env rest) h =
    All-cons (λ (r : List ℕ × Env). IsEnv r.1) (name, env) (table_of rest) h.0 (each_env rest h.1)

inside : (env : Env) → IsEnv env → All (λ r. IsEnv r.1) (structures env)
inside (Env.MakeEnv ss ts vs) h = each_env ss h.1

named_inside : (env : Env) → IsEnv env → AreNames (names_of (structures env))
named_inside (Env.MakeEnv ss ts vs) h = h.0.structure_names

structures_again : (ss : Structures) → structures_of (table_of ss) ≡ ss
structures_again Structures.Nil = refl
structures_again (Structures.Cons name env rest) = ap (Structures.Cons name env) (structures_again rest)

alone_back : (env : Env) → types env ≡ [] → values env ≡ [] → env_of (structures env) [] [] ≡ env
alone_back (Env.MakeEnv ss ts vs) h k =
    ap (λ (z : Structures). whole_env z [] []) (structures_again ss)
    ∙ ap₂ (λ (z : Table TypeStr) (w : Table ValueEntry). whole_env ss z w) (sym h) (sym k)

-- a list of rows in front of something
said_back : {A : Type 0} (node : A → Node) (say : Node → A) (P : A → Type 0) → ((x : A) → P x → say (node x) ≡ x)
    → (rows : Table A) (c : Content) → AreNames (names_of rows) → All (λ r. P r.1) rows
    → table_by say (list_of (with_list with_named (rows_by node rows) c)) ≡ rows
said_back {A} node say P back rows c n h =
    ap (table_by say) (list_back (rows_by node rows) c (table_counted node rows n)) ∙ table_back node say P back rows h

past_said : {A : Type 0} (node : A → Node) (rows : Table A) (c : Content) → AreNames (names_of rows)
    → past_list (with_list with_named (rows_by node rows) c) ≡ c
past_said node rows c n = past_list_back (rows_by node rows) c (table_counted node rows n)

abbrev top_with : Env → Table Signature → Table Functor → Table Functor → Top
top_with env signatures functors funsigs =
    record { env = env; signatures = signatures; functors = functors; funsigs = funsigs }

four : (e d : Env) (s r : Table Signature) (f g : Table Functor) (a b : Table Functor) → e ≡ d → s ≡ r → f ≡ g → a ≡ b
    → top_with e s f a ≡ top_with d r g b
four e d s r f g a b h k l m = cc

pub top_back : (home : List ℕ) (top : Top) → HasTables top → top_of home (top_node home top) ≡ top
top_back home top h =
    let fourth : Content = with_list with_named (rows_by (node_of_functor home) top.funsigs) Content.nothing in
    let third : Content = with_list with_named (rows_by (node_of_functor home) top.functors) fourth in
    let second : Content = with_list with_named (rows_by (node_of_signature home) top.signatures) third in
    let first : Content = with_list with_named (rows_by (env_node home) (structures top.env)) second in
    let to_second = past_said (env_node home) (structures top.env) second (named_inside top.env h.env) in
    let to_third = ap past_list to_second ∙ past_said (node_of_signature home) top.signatures third h.signature_names in
    let to_fourth = ap past_list to_third ∙ past_said (node_of_functor home) top.functors fourth h.functor_names in
    four (env_of (table_by (environment_of home) (list_of first)) [] []) top.env
    (table_by (signature_of home) (list_of (past_list first))) top.signatures
    (table_by (functor_of home) (list_of (past_list (past_list first)))) top.functors
    (table_by (functor_of home) (list_of (past_list (past_list (past_list first))))) top.funsigs
    (ap (λ (z : Table Env). env_of z [] []) (said_back (env_node home) (environment_of home) IsEnv (env_back home)
    (structures top.env) second (named_inside top.env h.env) (inside top.env h.env))
    ∙ alone_back top.env h.no_types h.no_values)
    (ap (λ (c : Content). table_by (signature_of home) (list_of c)) to_second
    ∙ said_back (node_of_signature home) (signature_of home) IsSignature (signature_back home) top.signatures third
    h.signature_names h.signatures)
    (ap (λ (c : Content). table_by (functor_of home) (list_of c)) to_third
    ∙ said_back (node_of_functor home) (functor_of home) IsFunctor (functor_back home) top.functors fourth
    h.functor_names h.functors)
    (ap (λ (c : Content). table_by (functor_of home) (list_of c)) to_fourth
    ∙ said_back (node_of_functor home) (functor_of home) IsFunctor (functor_back home) top.funsigs Content.nothing
    h.funsig_names h.funsigs)
