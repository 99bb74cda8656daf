-- Type functions, schemes, type structures and values are told by their nodes.
use Rattle.std.proofs.Common.{◌≡◌, ℕ, refl, sym, ap, ap₂, subst, ◌∙◌, List, [], ◌∷◌, length, Bool, map}
use Rattle.std.specs.Prelude.{All}
use Rattle.std.proofs.lemmas.List.Elements.{All-head, All-tail}
use Rattle.std.proofs.lemmas.List.{length-map}
use Rattle.node_bytes.specs.Nodes.{Node, Content}
use Rattle.node_bytes.specs.Shapes.{with_number, with_text, with_list}
use Rattle.semantic_objects.specs.declared.entry.ConEntry.{ConEntry}
use Rattle.semantic_objects.specs.declared.entry.TypeFn.{TypeFn}
use Rattle.semantic_objects.specs.declared.entry.TypeStr.{TypeStr}
use Rattle.semantic_objects.specs.declared.entry.ValueEntry.{ValueEntry}
use Rattle.semantic_objects.specs.declared.entry.VidStatus.{VidStatus}
use Rattle.semantic_objects.specs.Tables.{Table}
use Rattle.semantic_objects.specs.Trees.{Tree, TypeScheme}
use Rattle.interface_format.specs.Tags.{bool_byte, ValueRow, with_named}
use Rattle.interface_format.specs.Trees.{type_node, node_of_function, node_of_scheme, row_of_con, node_of_type, row_of_value, rows_by}
use Rattle.interface_format.specs.Rules.{IsNumber, AreNames, IsFunction, IsClosed, IsTypeStructure, IsValueRow}
use Rattle.interface_format.proofs.Told.{part_told, named_told, text_rest, list_told, number_then_told, marks_told}
use Rattle.interface_format.proofs.Types.{type_told}

-- ---- lists of what is told

cons_parts : {A : Type 0} (x y : A) (xs ys : List A) → (x ∷ xs) ≡ (y ∷ ys) → (x ≡ y) × (xs ≡ ys)
cons_parts x y xs ys e = (cc, cc)

pub all_told : {A B : Type 0} (f : A → B) (P : A → Type 0) → ((x y : A) → P x → P y → f x ≡ f y → x ≡ y)
    → (xs ys : List A) → All P xs → All P ys → map f xs ≡ map f ys → xs ≡ ys
all_told f P told [] [] h k e = refl
all_told f P told [] (y ∷ ys) h k e = absurd (cc)
all_told f P told (x ∷ xs) [] h k e = absurd (cc)
all_told f P told (x ∷ xs) (y ∷ ys) h k e =
    let p = cons_parts (f x) (f y) (map f xs) (map f ys) e in
    ap₂ (λ z zs. z ∷ zs) (told x y (All-head P x xs h) (All-head P y ys k) p.0)
    (all_told f P told xs ys (All-tail P x xs h) (All-tail P y ys k) p.1)

abbrev row : {A : Type 0} → List ℕ → A → List ℕ × A
row name x = (name, x)

pub pair_told : {A : Type 0} (p q : List ℕ × A) → p ≡ q → (p.0 ≡ q.0) × (p.1 ≡ q.1)
pair_told {A} p q e = (ap (λ (r : List ℕ × A). r.0) e, ap (λ (r : List ℕ × A). r.1) e)

pub rows_told : {A : Type 0} (node : A → Node) (P : A → Type 0)
    → ((x y : A) → P x → P y → node x ≡ node y → x ≡ y) → (xs ys : Table A)
    → All (λ r. P r.1) xs → All (λ r. P r.1) ys → rows_by node xs ≡ rows_by node ys → xs ≡ ys
rows_told {A} node P told xs ys h k e =
    all_told (λ r. row r.0 (node r.1)) (λ r. P r.1)
    (λ x y i j d.
    let p = pair_told (row x.0 (node x.1)) (row y.0 (node y.1)) d in
    ap₂ (λ (n : List ℕ) (z : A). row n z) p.0 (told x.1 y.1 i j p.1)) xs ys h k e

-- the list of names is as long as the rows
pub rows_counted : {A B : Type 0} (f : A → B) (g : A → List ℕ) (xs : List A) → AreNames (map g xs)
    → IsNumber (length (map f xs))
rows_counted f g xs h = subst IsNumber (length-map xs g ∙ sym (length-map xs f)) h.counted

content_same : (s t : ℕ) (c d : Content) → Node.node s c ≡ Node.node t d → c ≡ d
content_same s t c d e = cc

-- ---- type functions and schemes

abbrev function_of : ℕ → Tree → TypeFn
function_of arity body = record { arity = arity; body = body }

pub function_told : (home : List ℕ) (f g : TypeFn) → IsFunction f → IsFunction g
    → node_of_function home f ≡ node_of_function home g → f ≡ g
function_told home f g h k e =
    let a = number_then_told f.arity g.arity (Content.part (type_node home f.body) Content.nothing)
    (Content.part (type_node home g.body) Content.nothing) h.arity k.arity
    (content_same 5 5 (with_number f.arity (Content.part (type_node home f.body) Content.nothing))
    (with_number g.arity (Content.part (type_node home g.body) Content.nothing)) e) in
    let b = part_told (type_node home f.body) (type_node home g.body) Content.nothing Content.nothing a.rest in
    ap₂ function_of a.item (type_told home f.arity g.arity h.arity k.arity f.body g.body h.body k.body b.item)

abbrev scheme_of : List Bool → Tree → TypeScheme
scheme_of marks body = record { marks = marks; body = body }

pub scheme_told : (home : List ℕ) (σ τ : TypeScheme) → IsClosed σ → IsClosed τ
    → node_of_scheme home σ ≡ node_of_scheme home τ → σ ≡ τ
scheme_told home σ τ h k e =
    let a = text_rest (map bool_byte σ.marks) (map bool_byte τ.marks)
    (Content.part (type_node home σ.body) Content.nothing) (Content.part (type_node home τ.body) Content.nothing)
    (content_same 6 6 (with_text (map bool_byte σ.marks) (Content.part (type_node home σ.body) Content.nothing))
    (with_text (map bool_byte τ.marks) (Content.part (type_node home τ.body) Content.nothing)) e) in
    let b = part_told (type_node home σ.body) (type_node home τ.body) Content.nothing Content.nothing a.rest in
    ap₂ scheme_of (marks_told σ.marks τ.marks a.item)
    (type_told home (length σ.marks) (length τ.marks) h.count k.count σ.body τ.body h.body k.body b.item)

-- ---- type structures

abbrev con_of : List ℕ → TypeScheme → ConEntry
con_of name scheme = record { name = name; scheme = scheme }

con_told : (home : List ℕ) (x y : ConEntry) → IsClosed x.scheme → IsClosed y.scheme
    → row_of_con home x ≡ row_of_con home y → x ≡ y
con_told home x y h k e =
    let p = pair_told (row_of_con home x) (row_of_con home y) e in
    ap₂ con_of p.0 (scheme_told home x.scheme y.scheme h k p.1)

abbrev str_of : TypeFn → List ConEntry → TypeStr
str_of function cons = record { function = function; cons = cons }

pub structure_told : (home : List ℕ) (x y : TypeStr) → IsTypeStructure x → IsTypeStructure y
    → node_of_type home x ≡ node_of_type home y → x ≡ y
structure_told home x y h k e =
    let a = part_told (node_of_function home x.function) (node_of_function home y.function)
    (with_list with_named (map (row_of_con home) x.cons) Content.nothing)
    (with_list with_named (map (row_of_con home) y.cons) Content.nothing)
    (content_same 7 7 (Content.part (node_of_function home x.function)
    (with_list with_named (map (row_of_con home) x.cons) Content.nothing))
    (Content.part (node_of_function home y.function)
    (with_list with_named (map (row_of_con home) y.cons) Content.nothing)) e) in
    let b = list_told with_named named_told (map (row_of_con home) x.cons) (map (row_of_con home) y.cons)
    Content.nothing Content.nothing
    (rows_counted (row_of_con home) (λ (con : ConEntry). con.name) x.cons h.names)
    (rows_counted (row_of_con home) (λ (con : ConEntry). con.name) y.cons k.names) a.rest in
    ap₂ str_of (function_told home x.function y.function h.function k.function a.item)
    (all_told (row_of_con home) (λ (con : ConEntry). IsClosed con.scheme) (con_told home) x.cons y.cons h.cons k.cons
    b.item)

-- ---- values

abbrev value_of : VidStatus → TypeScheme → ValueEntry
value_of status scheme = record { status = status; scheme = scheme }

pub value_row_told : (home : List ℕ) (x y : List ℕ × ValueEntry) → IsValueRow x → IsValueRow y
    → row_of_value home x ≡ row_of_value home y → x ≡ y
value_row_told home x y h k e =
    let n = ap (λ (r : ValueRow). r.name) e in
    let s = ap (λ (r : ValueRow). r.status) e in
    let t = ap (λ (r : ValueRow). r.scheme) e in
    ap₂ (λ (m : List ℕ) (v : ValueEntry). row m v) n
    (ap₂ value_of s (scheme_told home x.1.scheme y.1.scheme h k t))
