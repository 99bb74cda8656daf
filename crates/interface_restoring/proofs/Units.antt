-- Units over tables of places, and the row that is a unit.
use Rattle.std.proofs.Common.{◌≡◌, ◌≢◌, ℕ, refl, sym, ap, ap₂, subst, ◌∙◌, lit<, List, [], ◌∷◌, length, map, Option, Some, None, inl, inr}
use Rattle.std.specs.Prelude.{All, Result, Ok, Err, IfOk, OnErr}
use Rattle.cm_base.specs.declared.fault.NoMemory.{NoMemory}
use Rattle.std.proofs.lemmas.List.Elements.{All-nil, All-cons, All-head, All-tail}
use Rattle.node_bytes.specs.Nodes.{Node, Content}
use Rattle.node_bytes.specs.Shapes.{with_list}
use Rattle.node_bytes.specs.Tables.{content_of}
use Rattle.node_bytes.specs.declared.table.Item as part
use Rattle.node_bytes.specs.declared.table.Row.{Row}
use Rattle.semantic_objects.specs.Tables.{Table, names_of}
use Rattle.semantic_objects.specs.Environments.{Env, Structures, Signature, Functor, Top, table_of, structures_of, structures}
use Rattle.interface_format.specs.Tags.{with_named, unit_node}
use Rattle.interface_format.specs.Trees.{rows_by, env_node, node_of_signature, node_of_functor}
use Rattle.interface_format.specs.Rules.{IsNumber, IsName, AreNames, IsSignatureRow, IsFunctorRow, HasTables}
use Rattle.interface_format.specs.Rules as rules
use Rattle.interface_format.proofs.Told.{list_told, named_told}
use Rattle.interface_format.proofs.Entries.{rows_counted}
use Rattle.interface_nodes.specs.declared.fields.NamedPlace.{NamedPlace}
use Rattle.interface_nodes.specs.Fields.{rows_at}
use Rattle.sml_modules.specs.Items.{Item, at, as_env, as_signature, as_functor, as_top, IsEnv, IsSignature, IsFunctor, IsTop, map_rows}
use Rattle.sml_modules.specs.Graphs.{Graph}
use Rattle.sml_modules.specs.Adding.{Extends, Adds}
use Rattle.env_parts.specs.declared.tables.EnvTables.{EnvTables}
use Rattle.env_parts.specs.declared.tables.TopTables.{TopTables}
use Rattle.sml_modules.specs.Nodes.{AreAll, AreTopTables, env_of_tables, top_of_tables}
use Rattle.sml_modules.proofs.Unfolding.{Never, all_more, rows_more}
use Rattle.sml_modules.proofs.Keeping.{extends_then, extends_same}
use Rattle.sml_modules.proofs.Setting.{names_map}
use Rattle.row_fields.specs.Listing.{AreItems, HasName}
use Rattle.row_types.specs.Told.{name_of}
use Rattle.row_forms.specs.declared.modules.UnitForm.{UnitForm}
use Rattle.row_forms.specs.Forms.{IsForm, NeverForm, with_unit, FitsUnit, unit_at}
use Rattle.row_entries.specs.Told.{RowsAre}
use Rattle.row_entries.proofs.Found.{row_is}
use Rattle.row_entries.proofs.Cons.{names_fit}
use Rattle.row_environments.specs.Placed.{IsEnvOf, PlaceOrNone, AreAllPlaced}
use Rattle.row_environments.specs.Answers.{PlacesRows}
use Rattle.row_environments.proofs.Tabled.{placed_names}
use Rattle.row_environments.proofs.Placing.{rows_are, rows_there, lacking}
use Rattle.row_environments.proofs.Enving.{envs_hold, table_back}
use Rattle.row_environments.proofs.Formed.{row_names}
use Rattle.row_binders.specs.declared.rows.BinderRows.{BinderRows}
use Rattle.row_binders.specs.Binders.{IsSignatureOf, IsFunctorOf, AreBound}
use Rattle.interface_restoring.specs.declared.tops.UnitTables.{UnitTables}
use Rattle.interface_restoring.specs.Tops.{IsTopOf, TableIs, LacksTable, FindsTable, FindsUnit, UnitPlaced, node_of_unit, LacksUnit, AreUnitTables, unit_of, unit_item, FormsTop, PlacesTop}

-- ---- tables of what meets the rules, and their nodes

rows_back : {A : Type 0} (node : A → Node) (P : A → Type 0) (Is : Node → A → Type 0)
    → ((x : A) → P x → Is (node x) x) → (xs : Table A) → All (λ (row : List ℕ × A). P row.1) xs
    → RowsAre Is (rows_by node xs) xs
rows_back node P Is f [] h = tt
rows_back {A} node P Is f (x ∷ xs) h = (
  record { name = refl; is = f x.1 (All-head (λ (row : List ℕ × A). P row.1) x xs h) },
  rows_back node P Is f xs (All-tail (λ (row : List ℕ × A). P row.1) x xs h),
)

rows_nodes : {A : Type 0} (node : A → Node) (Is : Node → A → Type 0) → ((x : Node) (a : A) → Is x a → x ≡ node a)
    → (rows : Table Node) (xs : Table A) → RowsAre Is rows xs → rows ≡ rows_by node xs
rows_nodes node Is f [] [] h = refl
rows_nodes node Is f [] (x ∷ xs) h = absurd h
rows_nodes node Is f (r ∷ rows) [] h = absurd h
rows_nodes node Is f (r ∷ rows) (x ∷ xs) h =
    ap₂ (λ z zs. z ∷ zs) (ap₂ (λ (n : List ℕ) (z : Node). (n, z)) h.0.name (f r.1 x.1 h.0.is))
    (rows_nodes node Is f rows xs h.1)

rows_hold : {A : Type 0} (P : A → Type 0) (Is : Node → A → Type 0) → ((x : Node) (a : A) → Is x a → P a)
    → (rows : Table Node) (xs : Table A) → RowsAre Is rows xs → All (λ (row : List ℕ × A). P row.1) xs
rows_hold {A} P Is f [] [] h = All-nil (λ (row : List ℕ × A). P row.1)
rows_hold P Is f [] (x ∷ xs) h = absurd h
rows_hold P Is f (r ∷ rows) [] h = absurd h
rows_hold {A} P Is f (r ∷ rows) (x ∷ xs) h =
    All-cons (λ (row : List ℕ × A). P row.1) x xs (f r.1 x.1 h.0.is) (rows_hold P Is f rows xs h.1)

envs_back : (home : List ℕ) (ss : Structures) → rules.AreEnvs ss
    → RowsAre (IsEnvOf home) (rows_by (env_node home) (table_of ss)) (table_of ss)
envs_back home Structures.Nil h = tt
envs_back home (Structures.Cons name env rest) h =
    (record { name = refl; is = record { node = refl; rules = h.0 } }, envs_back home rest h.1)

env_rows : (home : List ℕ) (env : Env) → rules.IsEnv env
    → RowsAre (IsEnvOf home) (rows_by (env_node home) (structures env)) (structures env)
env_rows home (Env.MakeEnv ss ts vs) h = envs_back home ss h.1

env_names : (env : Env) → rules.IsEnv env → AreNames (names_of (structures env))
env_names (Env.MakeEnv ss ts vs) h = h.0.structure_names

-- ---- the tables of a unit

record UnitLists (home : List ℕ) (ss gs fs us : Table Node) (top : Top) : Type 0 where
  structures_are : RowsAre (IsEnvOf home) ss (structures top.env)
  signatures_are : RowsAre (IsSignatureOf home) gs top.signatures
  functors_are : RowsAre (IsFunctorOf home) fs top.functors
  funsigs_are : RowsAre (IsFunctorOf home) us top.funsigs

content_same : (s t : ℕ) (c d : Content) → Node.node s c ≡ Node.node t d → c ≡ d
content_same s t c d e = cc

tag_same : (s t : ℕ) (c d : Content) → Node.node s c ≡ Node.node t d → s ≡ t
tag_same s t c d e = cc

counted : {A : Type 0} (node : A → Node) (xs : Table A) → AreNames (names_of xs) → IsNumber (length (rows_by node xs))
counted {A} node xs h =
    rows_counted (λ (r : List ℕ × A). (r.0, node r.1)) (λ (r : List ℕ × A). r.0) xs h

abbrev four : Table Node → Table Node → Table Node → Table Node → Content
four ss gs fs us = with_unit (ss, (gs, (fs, us))) Content.nothing

unit_lists : (home : List ℕ) (ss gs fs us : Table Node) (top : Top) → FitsUnit (ss, (gs, (fs, us)))
    → IsTopOf home (unit_node ss gs fs us) top → UnitLists home ss gs fs us top
unit_lists home ss gs fs us top fits is =
    let t = is.tables in
    let zs = rows_by (env_node home) (structures top.env) in
    let hs = rows_by (node_of_signature home) top.signatures in
    let ks = rows_by (node_of_functor home) top.functors in
    let ws = rows_by (node_of_functor home) top.funsigs in
    let nil : Content = Content.nothing in
    let last : Content = with_list with_named us nil in
    let end : Content = with_list with_named ws nil in
    let later : Content = with_list with_named fs last in
    let then : Content = with_list with_named ks end in
    let a = list_told with_named named_told ss zs (with_list with_named gs later) (with_list with_named hs then)
    fits.first.counted (counted (env_node home) (structures top.env) (env_names top.env t.env))
    (content_same 11 11 (four ss gs fs us) (four zs hs ks ws) is.node) in
    let b = list_told with_named named_told gs hs later then fits.second.first.counted
    (counted (node_of_signature home) top.signatures t.signature_names) a.rest in
    let c = list_told with_named named_told fs ks last end fits.second.second.first.counted
    (counted (node_of_functor home) top.functors t.functor_names) b.rest in
    let d = list_told with_named named_told us ws nil nil fits.second.second.second.counted
    (counted (node_of_functor home) top.funsigs t.funsig_names) c.rest in
    record {
      structures_are = subst (λ (z : Table Node). RowsAre (IsEnvOf home) z (structures top.env)) (sym a.item)
          (env_rows home top.env t.env);
      signatures_are = subst (λ (z : Table Node). RowsAre (IsSignatureOf home) z top.signatures) (sym b.item)
          (rows_back (node_of_signature home) rules.IsSignature (IsSignatureOf home)
          (λ x h. record { node = refl; rules = h }) top.signatures t.signatures);
      functors_are = subst (λ (z : Table Node). RowsAre (IsFunctorOf home) z top.functors) (sym c.item)
          (rows_back (node_of_functor home) rules.IsFunctor (IsFunctorOf home)
          (λ x h. record { node = refl; rules = h }) top.functors t.functors);
      funsigs_are = subst (λ (z : Table Node). RowsAre (IsFunctorOf home) z top.funsigs) (sym d.item)
          (rows_back (node_of_functor home) rules.IsFunctor (IsFunctorOf home)
          (λ x h. record { node = refl; rules = h }) top.funsigs t.funsigs);
    }

lists_of : (home : List ℕ) (made : List Node) (form : UnitForm) (top : Top) → FitsUnit (unit_at made form)
    → IsTopOf home (node_of_unit made form) top
    → UnitLists home (rows_at made form.structures) (rows_at made form.signatures) (rows_at made form.functors)
    (rows_at made form.funsigs) top
lists_of home made form top fits is =
    unit_lists home (rows_at made form.structures) (rows_at made form.signatures) (rows_at made form.functors)
    (rows_at made form.funsigs) top fits is

-- ---- a table that isn't as the rules ask

table_lacks : {A : Type 0} (Kind : Item → Type 0) (read : Item → A) (Is : Node → A → Type 0) (items : List Item)
    (made : List Node) (told : List (Option ℕ)) (table : List NamedPlace) (xs : Table A)
    → AreAllPlaced Kind read Is items made told → LacksTable told table → AreNames (names_of xs)
    → RowsAre Is (rows_at made table) xs → ⊥
table_lacks Kind read Is items made told table xs h (inl bad) names k =
    bad (subst AreNames (sym (row_names Is made table xs k)) names)
table_lacks Kind read Is items made told table xs h (inr l) names k =
    lacking Kind read Is items made told table xs h l k

pub lacks_structures : (rows : BinderRows) (form : UnitForm) → LacksTable rows.envs.told.envs form.structures
    → LacksUnit rows form
lacks_structures rows form l home items made bound fits top is =
    table_lacks IsEnv as_env (IsEnvOf home) items made rows.envs.told.envs form.structures (structures top.env)
    bound.told.envs l (env_names top.env is.tables.env) (lists_of home made form top fits is).structures_are

pub lacks_signatures : (rows : BinderRows) (form : UnitForm) → LacksTable rows.signatures form.signatures
    → LacksUnit rows form
lacks_signatures rows form l home items made bound fits top is =
    table_lacks IsSignature as_signature (IsSignatureOf home) items made rows.signatures form.signatures top.signatures
    bound.signatures l is.tables.signature_names (lists_of home made form top fits is).signatures_are

pub lacks_functors : (rows : BinderRows) (form : UnitForm) → LacksTable rows.functors form.functors
    → LacksUnit rows form
lacks_functors rows form l home items made bound fits top is =
    table_lacks IsFunctor as_functor (IsFunctorOf home) items made rows.functors form.functors top.functors
    bound.functors l is.tables.functor_names (lists_of home made form top fits is).functors_are

pub lacks_funsigs : (rows : BinderRows) (form : UnitForm) → LacksTable rows.functors form.funsigs
    → LacksUnit rows form
lacks_funsigs rows form l home items made bound fits top is =
    table_lacks IsFunctor as_functor (IsFunctorOf home) items made rows.functors form.funsigs top.funsigs
    bound.functors l is.tables.funsig_names (lists_of home made form top fits is).funsigs_are

pub top_lacks : (rows : BinderRows) (form : UnitForm) (old items : List Item) → LacksUnit rows form
    → FormsTop rows old form items None
top_lacks rows form old items l home made bound fits top is = l home old made bound fits top is

-- ---- the tables of a unit are found

pub tables_stand : (home : List ℕ) (items : List Item) (made : List Node) (rows : BinderRows) (form : UnitForm)
    (tables : UnitTables) → AreBound home items made rows → UnitPlaced rows form tables → AreUnitTables items tables
tables_stand home items made rows form tables bound t = record {
  structures = rows_there IsEnv as_env (IsEnvOf home) items made rows.envs.told.envs form.structures tables.structures
      bound.told.envs t.structures.placed;
  signatures = rows_there IsSignature as_signature (IsSignatureOf home) items made rows.signatures form.signatures
      tables.signatures bound.signatures t.signatures.placed;
  functors = rows_there IsFunctor as_functor (IsFunctorOf home) items made rows.functors form.functors tables.functors
      bound.functors t.functors.placed;
  funsigs = rows_there IsFunctor as_functor (IsFunctorOf home) items made rows.functors form.funsigs tables.funsigs
      bound.functors t.funsigs.placed;
}

table_named : {A : Type 0} (read : Item → A) (items : List Item) (told : List (Option ℕ)) (table : List NamedPlace)
    (rows : Table ℕ) → TableIs told table rows → AreNames (names_of (map_rows (λ p. read (at items p)) rows))
table_named read items told table rows t =
    subst AreNames (sym (names_map (λ p. read (at items p)) rows ∙ placed_names told table rows t.placed)) t.named

no_names : AreNames []
no_names = record { each = All-nil IsName; rising = tt; counted = record { below = lit< tt } }

same_unit : (a b c d e f g h : Table Node) → a ≡ e → b ≡ f → c ≡ g → d ≡ h → unit_node a b c d ≡ unit_node e f g h
same_unit a b c d e f g h i j k l = ap₂ (λ x y. unit_node x y c d) i j ∙ ap₂ (unit_node e f) k l

unit_is : (home : List ℕ) (items : List Item) (made : List Node) (rows : BinderRows) (form : UnitForm)
    (tables : UnitTables) → AreBound home items made rows → UnitPlaced rows form tables
    → IsTopOf home (node_of_unit made form) (unit_of items tables)
unit_is home items made rows form tables bound t = record {
  node = same_unit ss gs fs us (rows_by (env_node home) (table_of (structures_of xs))) (rows_by (node_of_signature home) ys)
      (rows_by (node_of_functor home) zs) (rows_by (node_of_functor home) ws)
      (rows_nodes (env_node home) (IsEnvOf home) (λ x a h. h.node) ss xs envs
      ∙ ap (rows_by (env_node home)) (sym (table_back xs)))
      (rows_nodes (node_of_signature home) (IsSignatureOf home) (λ x a h. h.node) gs ys signatures)
      (rows_nodes (node_of_functor home) (IsFunctorOf home) (λ x a h. h.node) fs zs functors)
      (rows_nodes (node_of_functor home) (IsFunctorOf home) (λ x a h. h.node) us ws funsigs);
  tables = record {
    env = (
      record {
        structure_names = subst (λ (z : Table Env). AreNames (names_of z)) (sym (table_back xs))
            (table_named as_env items rows.envs.told.envs form.structures tables.structures t.structures);
        type_names = no_names;
        value_names = no_names;
        types = All-nil rules.IsTypeRow;
        values = All-nil rules.IsValueRow;
      },
      envs_hold home ss xs envs,
    );
    no_types = refl;
    no_values = refl;
    signature_names = table_named as_signature items rows.signatures form.signatures tables.signatures t.signatures;
    functor_names = table_named as_functor items rows.functors form.functors tables.functors t.functors;
    funsig_names = table_named as_functor items rows.functors form.funsigs tables.funsigs t.funsigs;
    signatures = rows_hold rules.IsSignature (IsSignatureOf home) (λ x a h. h.rules) gs ys signatures;
    functors = rows_hold rules.IsFunctor (IsFunctorOf home) (λ x a h. h.rules) fs zs functors;
    funsigs = rows_hold rules.IsFunctor (IsFunctorOf home) (λ x a h. h.rules) us ws funsigs;
  };
}
  where
    ss : Table Node
    ss = rows_at made form.structures

    gs : Table Node
    gs = rows_at made form.signatures

    fs : Table Node
    fs = rows_at made form.functors

    us : Table Node
    us = rows_at made form.funsigs

    xs : Table Env
    xs = map_rows (λ p. as_env (at items p)) tables.structures

    ys : Table Signature
    ys = map_rows (λ p. as_signature (at items p)) tables.signatures

    zs : Table Functor
    zs = map_rows (λ p. as_functor (at items p)) tables.functors

    ws : Table Functor
    ws = map_rows (λ p. as_functor (at items p)) tables.funsigs

    envs : RowsAre (IsEnvOf home) ss xs
    envs = rows_are IsEnv as_env (IsEnvOf home) items made rows.envs.told.envs form.structures tables.structures
        bound.told.envs t.structures.placed

    signatures : RowsAre (IsSignatureOf home) gs ys
    signatures = rows_are IsSignature as_signature (IsSignatureOf home) items made rows.signatures form.signatures
        tables.signatures bound.signatures t.signatures.placed

    functors : RowsAre (IsFunctorOf home) fs zs
    functors = rows_are IsFunctor as_functor (IsFunctorOf home) items made rows.functors form.functors tables.functors
        bound.functors t.functors.placed

    funsigs : RowsAre (IsFunctorOf home) us ws
    funsigs = rows_are IsFunctor as_functor (IsFunctorOf home) items made rows.functors form.funsigs tables.funsigs
        bound.functors t.funsigs.placed

pub top_found : (rows : BinderRows) (form : UnitForm) (old new : Graph) (tables : UnitTables) (p : ℕ)
    → UnitPlaced rows form tables → Adds old new (unit_item old.items tables) p
    → FormsTop rows old.items form new.items (Some p)
top_found rows form old new tables p t a home made bound fits = record {
  kind = subst IsTop (sym a.stands) tt;
  is = subst (IsTopOf home (node_of_unit made form)) (sym (ap as_top a.stands))
      (unit_is home old.items made rows form tables bound t);
}

-- ---- the row

abbrev content_of_top : List ℕ → Top → Content
content_of_top home top = four (rows_by (env_node home) (structures top.env))
    (rows_by (node_of_signature home) top.signatures) (rows_by (node_of_functor home) top.functors)
    (rows_by (node_of_functor home) top.funsigs)

pub top_tagged : (rows : BinderRows) (old items : List Item) (row : Row) → row.tag ≢ 11 → PlacesTop rows old row items None
top_tagged rows old items row other home made bound top is =
    other (tag_same row.tag 11 (content_of made row.items) (content_of_top home top) is.node)

items_fit : {A : Type 0} (node : A → Node) (xs : Table A) → AreNames (names_of xs) → AreItems HasName (rows_by node xs)
items_fit {A} node xs h = record {
  counted = counted node xs h;
  each = names_fit (λ (r : List ℕ × A). (r.0, node r.1)) (λ (r : List ℕ × A). r.0) (λ r. refl) xs h.each;
}

pub top_never : (rows : BinderRows) (old items : List Item) (row : Row) (slice : List part.Item) → slice ≡ row.items
    → NeverForm FitsUnit with_unit slice → PlacesTop rows old row items None
top_never rows old items row slice e h home made bound top is =
    h.never made (
      rows_by (env_node home) (structures top.env),
      (
        rows_by (node_of_signature home) top.signatures,
        (rows_by (node_of_functor home) top.functors, rows_by (node_of_functor home) top.funsigs),
      ),
    )
    (record {
      first = items_fit (env_node home) (structures top.env) (env_names top.env is.tables.env);
      second = record {
        first = items_fit (node_of_signature home) top.signatures is.tables.signature_names;
        second = record {
          first = items_fit (node_of_functor home) top.functors is.tables.functor_names;
          second = items_fit (node_of_functor home) top.funsigs is.tables.funsig_names;
        };
      };
    })
    (ap (content_of made) e
    ∙ content_same row.tag 11 (content_of made row.items) (content_of_top home top) is.node)

pub top_formed : (rows : BinderRows) (old items : List Item) (row : Row) (slice : List part.Item) (form : UnitForm)
    (found : Option ℕ) → row.tag ≡ 11 → slice ≡ row.items
    → ((made : List Node) → IsForm FitsUnit with_unit made (unit_at made form) slice)
    → FormsTop rows old form items found → PlacesTop rows old row items found
top_formed rows old items row slice form found t e h k home made bound =
    subst (λ x. PlaceOrNone IsTop as_top (IsTopOf home x) items found)
    (row_is made row 11 slice (with_unit (unit_at made form) Content.nothing) t e ((h made).is))
    (k home made bound ((h made).fits))

-- ---- answers of calls

pub table_found : (told : List (Option ℕ)) (table : List NamedPlace) (found : Option (Table ℕ))
    → AreNames (map name_of table) → PlacesRows told table found → FindsTable told table found
table_found told table (Some rows) n h = record { named = n; placed = h }
table_found told table None n h = inr h

pub table_none : (told : List (Option ℕ)) (slice table : List NamedPlace) (found : Option (Table ℕ))
    → FindsTable told slice found → slice ≡ table → ((rows : Table ℕ) → found ≡ Some rows → ⊥)
    → LacksTable told table
table_none told slice table (Some rows) h e never = absurd (never rows refl)
table_none told slice table None h e never = subst (λ (z : List NamedPlace). LacksTable told z) e h

pub table_some : (told : List (Option ℕ)) (slice table : List NamedPlace) (found : Option (Table ℕ)) (rows : Table ℕ)
    → FindsTable told slice found → slice ≡ table → found ≡ Some rows → TableIs told table rows
table_some told slice table found rows h e f =
    subst (λ (z : List NamedPlace). TableIs told z rows) e (subst (FindsTable told slice) f h)

pub unit_none : (rows : BinderRows) (form : UnitForm) (found : Option UnitTables) → FindsUnit rows form found
    → ((tables : UnitTables) → found ≡ Some tables → ⊥) → LacksUnit rows form
unit_none rows form (Some tables) h never = absurd (never tables refl)
unit_none rows form None h never = h

pub unit_some : (rows : BinderRows) (form : UnitForm) (found : Option UnitTables) (tables : UnitTables)
    → FindsUnit rows form found → found ≡ Some tables → UnitPlaced rows form tables
unit_some rows form found tables h e = subst (FindsUnit rows form) e h

-- ---- a unit is added

all_later : (Is : Item → Type 0) → Never Is → (old mid : Graph) (rows : Table ℕ) → Extends old mid
    → AreAll Is old.items rows → AreAll Is mid.items rows
all_later Is none old mid rows e h =
    subst (λ (z : List Item). AreAll Is z rows) (sym e.items) (all_more Is none old.items e.more rows h)

rows_later : {B : Type 0} (Is : Item → Type 0) → Never Is → (f : Item → B) (old mid : Graph) (rows : Table ℕ)
    → Extends old mid → AreAll Is old.items rows
    → map_rows (λ p. f (at mid.items p)) rows ≡ map_rows (λ p. f (at old.items p)) rows
rows_later Is none f old mid rows e h =
    ap (λ (z : List Item). map_rows (λ p. f (at z p)) rows) e.items ∙ rows_more Is none f old.items e.more rows h

abbrev pub top_tables : UnitTables → ℕ → TopTables
top_tables tables p = record {
  env = p;
  signatures = tables.signatures;
  functors = tables.functors;
  funsigs = tables.funsigs;
}

abbrev pub env_tables : UnitTables → Table ℕ → Table ℕ → EnvTables
env_tables tables ts vs = record { structures = tables.structures; types = ts; values = vs }

pub unit_stands : (old mid : Graph) (tables : UnitTables) (env : Env) (p : ℕ) → AreUnitTables old.items tables
    → Adds old mid (Item.EnvItem env) p → AreTopTables mid.items (top_tables tables p)
unit_stands old mid tables env p h a = record {
  env = subst IsEnv (sym a.stands) tt;
  signatures = all_later IsSignature (λ k. k) old mid tables.signatures a.extends h.signatures;
  functors = all_later IsFunctor (λ k. k) old mid tables.functors a.extends h.functors;
  funsigs = all_later IsFunctor (λ k. k) old mid tables.funsigs a.extends h.funsigs;
}

top_same : (s t : Top) → s.env ≡ t.env → s.signatures ≡ t.signatures → s.functors ≡ t.functors
    → s.funsigs ≡ t.funsigs → s ≡ t
top_same s t h i j k = λ n. record { env = h n; signatures = i n; functors = j n; funsigs = k n }

pub unit_added : (old mid new : Graph) (tables : UnitTables) (ts vs : Table ℕ) (p q : ℕ) → AreUnitTables old.items tables
    → ts ≡ [] → vs ≡ [] → Adds old mid (Item.EnvItem (env_of_tables old.items (env_tables tables ts vs))) p
    → Adds mid new (Item.TopItem (top_of_tables mid.items (top_tables tables p))) q
    → Adds old new (unit_item old.items tables) q
unit_added old mid new tables ts vs p q h e f a b = record {
  stands = b.stands ∙ ap Item.TopItem (top_same _ _
      (ap as_env a.stands ∙ ap₂ (λ x y. env_of_tables old.items (env_tables tables x y)) e f)
      (rows_later IsSignature (λ k. k) as_signature old mid tables.signatures a.extends h.signatures)
      (rows_later IsFunctor (λ k. k) as_functor old mid tables.functors a.extends h.functors)
      (rows_later IsFunctor (λ k. k) as_functor old mid tables.funsigs a.extends h.funsigs));
  extends = extends_then old mid new a.extends b.extends;
}

pub then_added : (a b c : Graph) (item : Item) (r : Result ℕ NoMemory) → Extends a b
    → IfOk r (λ p. Adds b c item p) → OnErr r (c ≡ b) → Extends a c
then_added a b c item (Ok p) e h k = extends_then a b c e h.extends
then_added a b c item (Err why) e h k = extends_same a b c e k
