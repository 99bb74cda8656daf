-- Bytes behind the mark, as rows, and the unit that the last row is.
use Rattle.std.proofs.Common.{◌≡◌, ◌≢◌, ℕ, ◌+◌, ◌-◌, ◌<◌, ◌≤◌, ◌^◌, refl, sym, ap, ap₂, subst, ◌∙◌, arith, List, [], ◌∷◌, ◌++◌, length, take, drop, get_or, Option, Some, None, true, false, MatchOption}
use Rattle.std.specs.Prelude.{Result, Ok, Err, IsErrAnd}
use Rattle.std.specs.Prelude.{nat_eq}
use Rattle.std.specs.Cmp.Lexicographic.{same_text, other_text}
use Rattle.std.proofs.lemmas.List.{length-append, take_more, take-append-drop}
use lib.Pointwise.{pointwise}
use denote.Ref.{Bor}
use Rattle.cm_bytes.specs.Fields.{IsBytes}
use Rattle.node_bytes.specs.Nodes.{Node, Content}
use Rattle.node_bytes.specs.Spelling.{spelling}
use Rattle.node_bytes.specs.Reading.{alone_at}
use Rattle.node_bytes.specs.Interfaces.{interfaces}
use Rattle.node_bytes.specs.Tables.{nowhere, row_node, nodes_after, table_nodes}
use Rattle.node_bytes.specs.declared.table.Row.{Row}
use Rattle.semantic_objects.specs.Environments.{Top, structures}
use Rattle.interface_format.specs.Trees.{rows_by, env_node, node_of_signature, node_of_functor, top_node}
use Rattle.row_forms.specs.Forms.{with_unit}
use Rattle.interface_format.specs.Rules.{HasNames}
use Rattle.interface_format.specs.Interfaces.{mark, IsInterface}
use Rattle.interface_reading.specs.Remaining.{last_node}
use Rattle.interface_reading.specs.declared.fault.RestoreFault.{RestoreFault}
use Rattle.interface_reading.specs.declared.fault.RestoreFault.TheVariants as fault
use Rattle.sml_modules.specs.declared.id.TopId.{TopId}
use Rattle.interface_reading.specs.Rows.{SpellRows, SpellNone, ReadsRows}
use Rattle.restoring_laws.specs.Promises.{AreOf}
use Rattle.restoring_laws.proofs.Reading.{are_read}
use Rattle.sml_modules.specs.Items.{Item, as_top, IsTop}
use Rattle.sml_modules.specs.Graphs.{Graph}
use Rattle.row_types.proofs.Added.{last_item}
use Rattle.row_environments.specs.Placed.{StandsFor, PlaceOrNone, AreValues}
use Rattle.row_binders.specs.declared.rows.BinderRows.{BinderRows}
use Rattle.row_binders.specs.Binders.{AreBound, HaveBound, PlacesBinder}
use Rattle.interface_restoring.specs.Tops.{IsTopOf, PlacesTop}
use Rattle.interface_restoring.specs.Restored.{HasRest, Notes, Builds, Reads, Restores}

-- ---- rows

after_more : (made : List Node) (rows : List Row) (row : Row)
    → nodes_after made (rows ++ row ∷ []) ≡ nodes_after made rows ++ row_node (nodes_after made rows) row ∷ []
after_more made [] row = refl
after_more made (x ∷ rows) row = after_more (made ++ row_node made x ∷ []) rows row

pub nodes_more : (rows : List Row) (row : Row)
    → table_nodes (rows ++ row ∷ []) ≡ table_nodes rows ++ row_node (table_nodes rows) row ∷ []
nodes_more rows row = after_more [] rows row

last_of : (made : List Node) (x : Node) → last_node (made ++ x ∷ []) ≡ x
last_of made x =
    let n : length (made ++ x ∷ []) ≡ length made + 1 = length-append made (x ∷ []) in
    last_item made x nowhere (length (made ++ x ∷ []) - 1) (omega (arith, n))

-- the node of the last row
pub last_row : (before : List Row) (row : Row) → last_node (table_nodes (before ++ row ∷ [])) ≡ row_node (table_nodes before) row
last_row before row = ap last_node (nodes_more before row) ∙ last_of (table_nodes before) (row_node (table_nodes before) row)

-- ---- bytes

pub unmarked : (home bytes : List ℕ) → ((rest : List ℕ) → bytes ≢ mark ++ rest) → (top : Top)
    → IsInterface home bytes top → ⊥
unmarked home bytes never top h = never (spelling interfaces (top_node home top)) h.spelled

pub of_rest : (bytes rest : List ℕ) (rows slice : List Row) → bytes ≡ mark ++ rest → SpellRows rest rows
    → slice ≡ rows → AreOf bytes (last_node (table_nodes slice))
of_rest bytes rest rows slice e h same =
    subst (λ (z : List Row). AreOf bytes (last_node (table_nodes z))) (sym same)
    (record { rest = rest; marked = e; read = h.read })

behind_mark : (a b : List ℕ) → mark ++ a ≡ mark ++ b → a ≡ b
behind_mark a b e = cc

pub unspelled : (home bytes rest : List ℕ) → bytes ≡ mark ++ rest → SpellNone rest → (top : Top)
    → IsInterface home bytes top → ⊥
unspelled home bytes rest e never top h =
    let of = are_read.read home bytes top h in
    let same : of.rest ≡ rest = behind_mark of.rest rest (sym of.marked ∙ e) in
    never (top_node home top) (ap (alone_at interfaces) (sym same) ∙ of.read)

-- the last row is no unit
pub no_unit : (home bytes : List ℕ) (x : Node) → AreOf bytes x → ((top : Top) → IsTopOf home x top → ⊥) → (top : Top)
    → IsInterface home bytes top → ⊥
no_unit home bytes x of never top h = never top (record {
  node = are_read.one bytes x (top_node home top) of (are_read.read home bytes top h);
  tables = h.rules.tables;
})

-- its names aren't as the rules ask
pub no_names : (home bytes : List ℕ) (x : Node) (made : Top) → AreOf bytes x → IsTopOf home x made
    → (HasNames home made → ⊥) → (top : Top) → IsInterface home bytes top → ⊥
no_names home bytes x made of is never top h =
    let same : top ≡ made = are_read.only home bytes made top (subst (AreOf bytes) is.node of) is.tables h in
    never (subst (HasNames home) same h.rules.names)

-- they are
pub is_interface : (home bytes : List ℕ) (x : Node) (made : Top) → IsBytes bytes → length bytes ≤ 2 ^ 32 → AreOf bytes x
    → IsTopOf home x made → HasNames home made → IsInterface home bytes made
is_interface home bytes x made b l of is names =
    are_read.is home bytes made b l (subst (AreOf bytes) is.node of) is.tables names

-- ---- the mark

abbrev Strips : List ℕ → List ℕ → Option (Bor (List ℕ)) → Type 0
Strips bytes prefix result = MatchOption result (pointwise nat_eq (take (length prefix) bytes) prefix ≡ false)
    (λ x. (pointwise nat_eq (take (length prefix) bytes) prefix ≡ true) × (x.now ≡ drop (length prefix) bytes)
    × (length x.now + length prefix ≡ length bytes))

of_mark : (bytes : List ℕ) (result : Option (Bor (List ℕ))) → Strips bytes mark result → HasRest bytes result
of_mark bytes (Some rest) h =
    sym (take-append-drop 4 bytes) ∙ ap₂ (λ x y. x ++ y) (same_text (take 4 bytes) mark (sym h.0)) (sym h.1)
of_mark bytes None h = λ rest e. other_text (take 4 bytes) mark (sym h) (ap (take 4) e)

pub stripped : (bytes prefix : List ℕ) (result : Option (Bor (List ℕ))) → prefix ≡ mark → Strips bytes prefix result
    → HasRest bytes result
stripped bytes prefix result e h = of_mark bytes result (subst (λ (z : List ℕ). Strips bytes z result) e h)

-- ---- rows that are told

pub notes_have : (home : List ℕ) (table : List Row) (items : List Item) (rows : BinderRows) → Notes home table items rows
    → HaveBound home items rows
notes_have home table items rows h = record { made = table_nodes table; bound = h.bound; values = h.values }

-- one row more
pub notes_more : (home : List ℕ) (table : List Row) (i : ℕ) (row d : Row) (old new : List Item) (rows told : BinderRows)
    → row ≡ get_or table i d → i < length table → Notes home (take i table) old rows
    → PlacesBinder home old new rows row told → AreValues told.envs.told.entries.schemes new told.envs.values
    → Notes home (take (i + 1) table) new told
notes_more home table i row d old new rows told e lt h p v = record {
  bound = subst (λ (z : List Node). AreBound home new z told) (sym nodes) (p (table_nodes (take i table)) h.bound);
  values = v;
}
  where
    nodes : table_nodes (take (i + 1) table)
        ≡ table_nodes (take i table) ++ row_node (table_nodes (take i table)) row ∷ []
    nodes = ap table_nodes (take_more table i d lt ∙ ap (λ (z : Row). take i table ++ z ∷ []) (sym e))
        ∙ nodes_more (take i table) row

-- ---- the last row

abbrev IsUnitAt : List ℕ → List Row → List Item → Option ℕ → Type 0
IsUnitAt home table items found = PlaceOrNone IsTop as_top (IsTopOf home (last_node (table_nodes table))) items found

pub last_placed : (home : List ℕ) (before table : List Row) (last : Row) (old new : List Item) (rows : BinderRows)
    (found place : Option ℕ) → table ≡ before ++ last ∷ [] → Notes home before old rows
    → PlacesTop rows old last new found → found ≡ place → IsUnitAt home table new place
last_placed home before table last old new rows found place e h p f =
    subst (IsUnitAt home table new) f
    (subst (λ x. PlaceOrNone IsTop as_top (IsTopOf home x) new found)
    (sym (ap (λ (z : List Row). last_node (table_nodes z)) e ∙ last_row before last))
    (p home (table_nodes before) h.bound))

tag_same : (s t : ℕ) (c d : Content) → Node.node s c ≡ Node.node t d → s ≡ t
tag_same s t c d e = cc

top_at_none : (home : List ℕ) (top : Top) → IsTopOf home nowhere top → ⊥
top_at_none home top h =
    let t : 0 ≡ 11 = tag_same 0 11 Content.nothing
    (with_unit (
      rows_by (env_node home) (structures top.env),
      (
        rows_by (node_of_signature home) top.signatures,
        (rows_by (node_of_functor home) top.functors, rows_by (node_of_functor home) top.funsigs),
      ),
    ) Content.nothing) h.node in
    omega (arith, t)

pub no_rows : (home : List ℕ) (table : List Row) (new : Graph) → table ≡ [] → Builds home table new None
no_rows home table new e top h =
    top_at_none home top (subst (λ (z : List Row). IsTopOf home (last_node (table_nodes z)) top) e h)

-- ---- answers of calls

pub no_rest : (bytes : List ℕ) (found : Option (Bor (List ℕ))) → HasRest bytes found
    → ((rest : Bor (List ℕ)) → found ≡ Some rest → ⊥) → (rest : List ℕ) → bytes ≢ mark ++ rest
no_rest bytes (Some rest) h never = absurd (never rest refl)
no_rest bytes None h never = h

pub not_built : (home : List ℕ) (table : List Row) (new : Graph) (found : Option TopId) → Builds home table new found
    → ((id : TopId) → found ≡ Some id → ⊥) → (top : Top) → IsTopOf home (last_node (table_nodes table)) top → ⊥
not_built home table new (Some id) h never = absurd (never id refl)
not_built home table new None h never = h

pub built : (home : List ℕ) (table : List Row) (new : Graph) (found : Option TopId) (id : TopId)
    → Builds home table new found → found ≡ Some id
    → StandsFor IsTop as_top (IsTopOf home (last_node (table_nodes table))) new.items id.place
built home table new found id h e = subst (Builds home table new) e h

-- bytes behind the mark that aren't read
reads_none : (home bytes rest : List ℕ) (new : Graph) (why : RestoreFault) → bytes ≡ mark ++ rest
    → ReadsRows {S = Unit {0}} rest (Err why) → Reads home bytes new (Err why)
reads_none home bytes rest new fault.BadInterface e h = unspelled home bytes rest e h
reads_none home bytes rest new fault.NoMemory e h = tt

pub reads_not : (home bytes rest : List ℕ) (new : Graph) (result : Result TopId RestoreFault)
    (why : RestoreFault) → IsErrAnd result (λ y. y ≡ why) → bytes ≡ mark ++ rest → ReadsRows {S = Unit {0}} rest (Err why)
    → Reads home bytes new result
reads_not home bytes rest new (Ok id) why r e h = absurd r
reads_not home bytes rest new (Err y) why r e h =
    subst (λ (z : RestoreFault). Reads home bytes new (Err z)) (sym r) (reads_none home bytes rest new why e h)

-- a refusal, after which the graph is as it was
pub refused : (home bytes : List ℕ) (old mid new : Graph) (why : RestoreFault) → Reads home bytes mid (Err why)
    → new ≡ old → Restores home bytes old new (Err why)
refused home bytes old mid new fault.BadInterface h e = (e, h)
refused home bytes old mid new fault.NoMemory h e = e

pub none_left : (table : List Row) → length table ≡ 0 → table ≡ []
none_left [] e = refl
none_left (row ∷ table) e = absurd (omega (arith, e))
