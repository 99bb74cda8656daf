-- Rows that are type functions and schemes, and rows that are none.
use Rattle.std.proofs.Common.{◌≡◌, ◌≢◌, ℕ, refl, sym, ap, ap₂, subst, ◌∙◌, arith, List, length, map, Bool, true, false, Option, Some, None}
use Rattle.std.specs.Prelude.{IsTrue}
use Rattle.node_bytes.specs.Nodes.{Node, Content}
use Rattle.node_bytes.specs.Shapes.{with_number, with_text}
use Rattle.node_bytes.specs.Tables.{content_of, row_node}
use Rattle.node_bytes.specs.declared.table.Item.{Item}
use Rattle.node_bytes.specs.declared.table.Row.{Row}
use Rattle.semantic_objects.specs.declared.entry.TypeFn.{TypeFn}
use Rattle.semantic_objects.specs.Trees.{Tree, TypeScheme}
use Rattle.semantic_objects.specs.Nodes.{tree_at}
use Rattle.interface_format.specs.Tags.{bool_byte, function_node, scheme_node}
use Rattle.interface_format.specs.Trees.{type_node}
use Rattle.interface_format.specs.Rules.{IsNumber, IsType}
use Rattle.interface_format.proofs.Told.{number_then_told, part_told, text_rest, marks_told}
use Rattle.interface_format.proofs.Types.{type_told}
use Rattle.interface_nodes.specs.Fields.{node_at}
use Rattle.row_types.specs.declared.rows.TypeRows.{TypeRows}
use Rattle.row_types.specs.Told.{most, Told, IsTypeOf, AreTold, Stands}
use Rattle.row_forms.specs.declared.entries.CountedForm.{CountedForm}
use Rattle.row_forms.specs.declared.entries.SchemeForm.{SchemeForm}
use Rattle.row_forms.specs.Forms.{IsForm, NeverForm, with_counted, FitsCounted, counted_at, with_scheme, FitsScheme, scheme_at}
use Rattle.row_entries.specs.Variables.{AreFirst, AreAmong}
use Rattle.row_entries.specs.Told.{IsFunctionOf, IsSchemeOf, FindsFunction, FindsScheme, TellsFunction, TellsScheme}
use Rattle.row_entries.proofs.Among.{type_among, type_below, first_among, most_number}

content_same : (s t : ℕ) (c d : Content) → Node.node s c ≡ Node.node t d → c ≡ d
content_same s t c d e = cc

tag_same : (s t : ℕ) (c d : Content) → Node.node s c ≡ Node.node t d → s ≡ t
tag_same s t c d e = cc

told_at : (home : List ℕ) (made : List Node) (types : TypeRows) (p : ℕ) (is : Bool) → AreTold home made types
    → Stands types p is → Told home (node_at made p) (tree_at types.nodes p) is
told_at home made types p is h s =
    let size = h.told_counted in
    let within = s.within in
    subst (Told home (node_at made p) (tree_at types.nodes p)) s.told (h.each p (omega (arith, size, within)))

-- the type that a node is
same_type : (home : List ℕ) (x : Node) (t u : Tree) (n : ℕ) → IsTypeOf home x t → IsNumber n → IsType n u
    → x ≡ type_node home u → t ≡ u
same_type home x t u n h k i e = type_told home most n most_number k t u h.is i (sym h.node ∙ e)

-- ---- type functions

record SameFunction (home : List ℕ) (count : ℕ) (x : Node) (f : TypeFn) : Type 0 where
  arity : count ≡ f.arity
  type : x ≡ type_node home f.body

same_function : (home : List ℕ) (count : ℕ) (x : Node) (f : TypeFn) → IsNumber count
    → IsFunctionOf home (function_node count x) f → SameFunction home count x f
same_function home count x f n h =
    let a = number_then_told count f.arity (Content.part x Content.nothing)
    (Content.part (type_node home f.body) Content.nothing) n h.rules.arity
    (content_same 5 5 (with_number count (Content.part x Content.nothing))
    (with_number f.arity (Content.part (type_node home f.body) Content.nothing)) h.node) in
    let b = part_told x (type_node home f.body) Content.nothing Content.nothing a.rest in
    record { arity = a.item; type = b.item }

pub function_lacks : (types : TypeRows) (form : CountedForm) → Stands types form.place false
    → FindsFunction types form None
function_lacks types form s home made told n f is =
    let same = same_function home form.count (node_at made form.place) f n is in
    (told_at home made types form.place false told s).never f.arity f.body is.rules.arity is.rules.body same.type

pub function_beyond : (types : TypeRows) (form : CountedForm) (body : Tree) → Stands types form.place true
    → body ≡ tree_at types.nodes form.place → (AreAmong body form.count → ⊥) → FindsFunction types form None
function_beyond types form body s at beyond home made told n f is =
    let same = same_function home form.count (node_at made form.place) f n is in
    let t : tree_at types.nodes form.place ≡ f.body =
    same_type home (node_at made form.place) (tree_at types.nodes form.place) f.body f.arity
    (told_at home made types form.place true told s) is.rules.arity is.rules.body same.type in
    beyond (subst (λ z. AreAmong z form.count) (sym (at ∙ t))
    (subst (AreAmong f.body) (sym same.arity) (type_among f.arity f.body is.rules.body)))

pub function_found : (types : TypeRows) (form : CountedForm) (body : Tree) → Stands types form.place true
    → body ≡ tree_at types.nodes form.place → AreAmong body form.count
    → FindsFunction types form (Some (record { arity = form.count; body = body }))
function_found types form body s at among home made told n =
    let h = told_at home made types form.place true told s in
    record {
      node = ap (function_node form.count) (h.node ∙ ap (type_node home) (sym at));
      rules = record {
        arity = n;
        body = type_below most form.count body (subst (IsType most) (sym at) h.is) among;
      };
    }

pub function_tagged : (types : TypeRows) (row : Row) → row.tag ≢ 5 → TellsFunction types row None
function_tagged types row other home made told f is =
    other (tag_same row.tag 5 (content_of made row.items)
    (with_number f.arity (Content.part (type_node home f.body) Content.nothing)) is.node)

pub function_never : (types : TypeRows) (row : Row) (slice : List Item) → slice ≡ row.items
    → NeverForm FitsCounted with_counted slice → TellsFunction types row None
function_never types row slice e h home made told f is =
    h.never made (f.arity, type_node home f.body) (record { first = is.rules.arity; second = tt })
    (ap (content_of made) e
    ∙ content_same row.tag 5 (content_of made row.items)
    (with_number f.arity (Content.part (type_node home f.body) Content.nothing)) is.node)

-- a row with this tag and these fields is this node
pub row_is : (made : List Node) (row : Row) (tag : ℕ) (slice : List Item) (c : Content) → row.tag ≡ tag
    → slice ≡ row.items → content_of made slice ≡ c → Node.node tag c ≡ row_node made row
row_is made row tag slice c e f h =
    ap (Node.node tag) (sym h ∙ ap (content_of made) f)
    ∙ ap (λ n. Node.node n (content_of made row.items)) (sym e)

pub function_formed : (types : TypeRows) (row : Row) (slice : List Item) (form : CountedForm) (found : Option TypeFn)
    → row.tag ≡ 5 → slice ≡ row.items
    → ((made : List Node) → IsForm FitsCounted with_counted made (counted_at made form) slice)
    → FindsFunction types form found → TellsFunction types row found
function_formed types row slice form found t e h k home made told =
    subst (λ x. Rattle.row_entries.specs.Told.IsOrNone (IsFunctionOf home x) found)
    (row_is made row 5 slice (with_counted (counted_at made form) Content.nothing) t e ((h made).is))
    (k home made told ((h made).fits.first))

-- ---- schemes

record SameScheme (home : List ℕ) (marks : List Bool) (x : Node) (σ : TypeScheme) : Type 0 where
  marks_are : marks ≡ σ.marks
  type : x ≡ type_node home σ.body

same_scheme : (home : List ℕ) (marks : List Bool) (x : Node) (σ : TypeScheme)
    → IsSchemeOf home (scheme_node marks x) σ → SameScheme home marks x σ
same_scheme home marks x σ h =
    let a = text_rest (map bool_byte marks) (map bool_byte σ.marks) (Content.part x Content.nothing)
    (Content.part (type_node home σ.body) Content.nothing)
    (content_same 6 6 (with_text (map bool_byte marks) (Content.part x Content.nothing))
    (with_text (map bool_byte σ.marks) (Content.part (type_node home σ.body) Content.nothing)) h.node) in
    let b = part_told x (type_node home σ.body) Content.nothing Content.nothing a.rest in
    record { marks_are = marks_told marks σ.marks a.item; type = b.item }

pub scheme_lacks : (types : TypeRows) (form : SchemeForm) → Stands types form.place false → FindsScheme types form None
scheme_lacks types form s home made told n σ is =
    let same = same_scheme home form.marks (node_at made form.place) σ is in
    (told_at home made types form.place false told s).never (length σ.marks) σ.body is.rules.count is.rules.body
    same.type

pub scheme_unordered : (types : TypeRows) (form : SchemeForm) (body : Tree) → Stands types form.place true
    → body ≡ tree_at types.nodes form.place → (AreFirst body (length form.marks) → ⊥) → FindsScheme types form None
scheme_unordered types form body s at never home made told n σ is =
    let same = same_scheme home form.marks (node_at made form.place) σ is in
    let t : tree_at types.nodes form.place ≡ σ.body =
    same_type home (node_at made form.place) (tree_at types.nodes form.place) σ.body (length σ.marks)
    (told_at home made types form.place true told s) is.rules.count is.rules.body same.type in
    never (subst (λ z. AreFirst z (length form.marks)) (sym (at ∙ t))
    (subst (λ (ms : List Bool). AreFirst σ.body (length ms)) (sym same.marks_are) is.rules.ordered))

abbrev scheme_of : List Bool → Tree → TypeScheme
scheme_of marks body = record { marks = marks; body = body }

pub scheme_found : (types : TypeRows) (form : SchemeForm) (body : Tree) (σ : TypeScheme) → Stands types form.place true
    → body ≡ tree_at types.nodes form.place → AreFirst body (length form.marks) → σ.marks ≡ form.marks
    → σ.body ≡ body → FindsScheme types form (Some σ)
scheme_found types form body σ s at first m b home made told n =
    subst (IsSchemeOf home (scheme_node form.marks (node_at made form.place))) (sym (ap₂ scheme_of m b)) closed
  where
    closed : IsSchemeOf home (scheme_node form.marks (node_at made form.place)) (scheme_of form.marks body)
    closed =
        let h = told_at home made types form.place true told s in
        record {
          node = ap (scheme_node form.marks) (h.node ∙ ap (type_node home) (sym at));
          rules = record {
            count = n.counted;
            body = type_below most (length form.marks) body (subst (IsType most) (sym at) h.is)
                (first_among (length form.marks) body first);
            ordered = first;
          };
        }

pub scheme_tagged : (types : TypeRows) (row : Row) → row.tag ≢ 6 → TellsScheme types row None
scheme_tagged types row other home made told σ is =
    other (tag_same row.tag 6 (content_of made row.items)
    (with_text (map bool_byte σ.marks) (Content.part (type_node home σ.body) Content.nothing)) is.node)

pub scheme_never : (types : TypeRows) (row : Row) (slice : List Item) → slice ≡ row.items
    → NeverForm FitsScheme with_scheme slice → TellsScheme types row None
scheme_never types row slice e h home made told σ is =
    h.never made (σ.marks, type_node home σ.body)
    (record { first = record { counted = is.rules.count }; second = tt })
    (ap (content_of made) e
    ∙ content_same row.tag 6 (content_of made row.items)
    (with_text (map bool_byte σ.marks) (Content.part (type_node home σ.body) Content.nothing)) is.node)

pub scheme_formed : (types : TypeRows) (row : Row) (slice : List Item) (form : SchemeForm) (found : Option TypeScheme)
    → row.tag ≡ 6 → slice ≡ row.items
    → ((made : List Node) → IsForm FitsScheme with_scheme made (scheme_at made form) slice)
    → FindsScheme types form found → TellsScheme types row found
scheme_formed types row slice form found t e h k home made told =
    subst (λ x. Rattle.row_entries.specs.Told.IsOrNone (IsSchemeOf home x) found)
    (row_is made row 6 slice (with_scheme (scheme_at made form) Content.nothing) t e ((h made).is))
    (k home made told ((h made).fits.first))

-- ---- what tests say

pub not_so : {P : Type 0} (b : Bool) → (IsTrue b → P) × (P → IsTrue b) → b ≡ false → P → ⊥
not_so true h e p = absurd (cc)
not_so false h e p = no_truth (h.1 p)
  where
    no_truth : IsTrue false → ⊥
    no_truth k = cc

pub is_so : {P : Type 0} (b : Bool) → (IsTrue b → P) × (P → IsTrue b) → b ≡ true → P
is_so true h e = h.0 refl
is_so false h e = absurd (cc)
