-- Rows of a graph that became rows of a node.
use Rattle.std.proofs.Common.{◌≡◌, ℕ, zero, suc, ◌+◌, List, [], ◌∷◌, ◌++◌, length, map, drop, refl, sym, ap, ap₂, ◌∙◌, subst, Option, Some, append_assoc, slice_get}
use Rattle.std.proofs.lemmas.List.{append-nil, map-append}
use Rattle.node_bytes.specs.Nodes.{Node}
use Rattle.node_tables.specs.Tables.{Adds}
use Rattle.semantic_objects.specs.declared.entry.VidStatus.{VidStatus}
use Rattle.semantic_objects.specs.Tables.{Table}
use Rattle.semantic_objects.specs.Environments.{structures, structures_of, table_of}
use Rattle.env_parts.specs.declared.tables.EnvTables.{EnvTables}
use Rattle.env_parts.specs.declared.tables.TopTables.{TopTables}
use Rattle.sml_modules.specs.Items.{Item, at, as_type, as_value, as_env, as_signature, as_functor, IsType, IsValue, IsEnv, IsSignature, IsFunctor, map_rows}
use Rattle.sml_modules.specs.Nodes.{AreAll, AreEnvTables, AreTopTables, env_of_tables, top_of_tables}
use Rattle.sml_modules.specs.Adding.{ReadsEnv}
use Rattle.interface_format.specs.Tags.{ValueRow, environment_node, unit_node}
use Rattle.interface_format.specs.Trees.{rows_by, structure_rows, env_node, node_of_type, row_of_value, node_of_signature, node_of_functor, top_node}
use Rattle.interface_nodes.specs.declared.fields.NamedPlace.{NamedPlace}
use Rattle.interface_nodes.specs.declared.fields.ValuePlace.{ValuePlace}
use Rattle.interface_nodes.specs.Fields.{node_at, rows_at, values_at, RowsAreBelow, ValuesAreBelow}
use Rattle.interface_nodes.proofs.Imaging.{drop_get, no_more}
use Rattle.environment_nodes.specs.declared.places.NodePlaces.{NodePlaces}
use Rattle.environment_nodes.specs.Written.{item_node, place_in, AreWithin, AreWritten, AddsOver, row_asked, row_answered, ArePlaced, value_asked, value_answered, ValuesArePlaced}
use Rattle.environment_nodes.proofs.Items.{env_item, type_item, value_item, signature_item, functor_item}

-- ---- the rows of a table one by one

some_is : {A : Type 0} (x y : A) → Some x ≡ Some y → x ≡ y
some_is x y h = cc

row_there : (rows : Table ℕ) (i : ℕ) (n : List ℕ) (p : ℕ) → slice_get (map (λ row. row.0) rows) i ≡ Some n
    → slice_get (map (λ row. row.1) rows) i ≡ Some p → slice_get rows i ≡ Some (n, p)
row_there [] zero n p e f = absurd (cc)
row_there [] (suc i) n p e f = absurd (cc)
row_there (row ∷ rows) zero n p e f = ap₂ (λ m q. Some (m, q)) (some_is row.0 n e) (some_is row.1 p f)
row_there (row ∷ rows) (suc i) n p e f = row_there rows i n p e f

-- the next row, where names and places are given as lists
pub next_row : (rows : Table ℕ) (names : List (List ℕ)) (parts : List ℕ) (i : ℕ) (n : List ℕ) (p : ℕ)
    → names ≡ map (λ row. row.0) rows → parts ≡ map (λ row. row.1) rows → slice_get names i ≡ Some n
    → slice_get parts i ≡ Some p → drop i rows ≡ (n, p) ∷ drop (i + 1) rows
next_row rows names parts i n p e f g h = drop_get rows i (n, p)
    (row_there rows i n p (ap (λ z. slice_get z i) (sym e) ∙ g) (ap (λ z. slice_get z i) (sym f) ∙ h))

-- a row more
pub rows_next : (places : NodePlaces) (left rest : Table ℕ) (made more : List NamedPlace) (name given : List ℕ)
    (part place : ℕ) (all : List (List ℕ × Option ℕ)) → left ≡ (name, part) ∷ rest
    → more ≡ made ++ record { name = given; place = place } ∷ [] → given ≡ name
    → place_in places part ≡ Some place → map row_answered made ++ map (row_asked places) left ≡ all
    → map row_answered more ++ map (row_asked places) rest ≡ all
rows_next places left rest made more name given part place all e f g h k =
    let row : NamedPlace = record { name = given; place = place } in
    ap (λ z. map row_answered z ++ map (row_asked places) rest) f
    ∙ ap (λ z. z ++ map (row_asked places) rest) (map-append row_answered made (row ∷ []))
    ∙ append_assoc (map row_answered made) (row_answered row ∷ []) (map (row_asked places) rest)
    ∙ ap₂ (λ m o. map row_answered made ++ (m, o) ∷ map (row_asked places) rest) g (sym h)
    ∙ ap (λ z. map row_answered made ++ map (row_asked places) z) (sym e) ∙ k

pub rows_end : (places : NodePlaces) (rows left : Table ℕ) (made : List NamedPlace) → left ≡ []
    → map row_answered made ++ map (row_asked places) left ≡ map (row_asked places) rows → ArePlaced places rows made
rows_end places rows left made e h =
    sym (sym (append-nil (map row_answered made))
    ∙ ap (λ z. map row_answered made ++ map (row_asked places) z) (sym e) ∙ h)

pub values_next : (items : List Item) (places : NodePlaces) (left rest : Table ℕ) (made more : List ValuePlace)
    (name given : List ℕ) (status : VidStatus) (part place : ℕ) (all : List (List ℕ × (VidStatus × Option ℕ)))
    → left ≡ (name, part) ∷ rest
    → more ≡ made ++ record { name = given; status = status; place = place } ∷ [] → given ≡ name
    → status ≡ (as_value (at items part)).status → place_in places part ≡ Some place
    → map value_answered made ++ map (value_asked items places) left ≡ all
    → map value_answered more ++ map (value_asked items places) rest ≡ all
values_next items places left rest made more name given status part place all e f g s h k =
    let row : ValuePlace = record { name = given; status = status; place = place } in
    ap (λ z. map value_answered z ++ map (value_asked items places) rest) f
    ∙ ap (λ z. z ++ map (value_asked items places) rest) (map-append value_answered made (row ∷ []))
    ∙ append_assoc (map value_answered made) (value_answered row ∷ []) (map (value_asked items places) rest)
    ∙ ap₂ (λ m o. map value_answered made ++ (m, (status, o)) ∷ map (value_asked items places) rest) g (sym h)
    ∙ ap (λ t. map value_answered made ++ (name, (t, place_in places part)) ∷ map (value_asked items places) rest) s
    ∙ ap (λ z. map value_answered made ++ map (value_asked items places) z) (sym e) ∙ k

pub values_end : (items : List Item) (places : NodePlaces) (rows left : Table ℕ) (made : List ValuePlace) → left ≡ []
    → map value_answered made ++ map (value_asked items places) left ≡ map (value_asked items places) rows
    → ValuesArePlaced items places rows made
values_end items places rows left made e h =
    sym (sym (append-nil (map value_answered made))
    ∙ ap (λ z. map value_answered made ++ map (value_asked items places) z) (sym e) ∙ h)

-- the places of a table are as many as its names
pub names_gone : (rows : Table ℕ) (names : List (List ℕ)) (n : ℕ) → names ≡ map (λ row. row.0) rows
    → n ≡ length names → drop n rows ≡ []
names_gone rows names n e h =
    no_more rows n (h ∙ ap length e ∙ Rattle.std.proofs.lemmas.List.length-map rows (λ row. row.0))

-- ---- rows of nodes

cons_head : {A : Type 0} (x y : A) (xs ys : List A) → x ∷ xs ≡ y ∷ ys → x ≡ y
cons_head x y xs ys h = cc

cons_tail : {A : Type 0} (x y : A) (xs ys : List A) → x ∷ xs ≡ y ∷ ys → xs ≡ ys
cons_tail x y xs ys h = cc

row_is : (places : NodePlaces) (r : List ℕ × ℕ) (m : NamedPlace) (rs : Table ℕ) (ms : List NamedPlace)
    → ArePlaced places (r ∷ rs) (m ∷ ms) → row_asked places r ≡ row_answered m
row_is places r m rs ms h =
    cons_head (row_asked places r) (row_answered m) (map (row_asked places) rs) (map row_answered ms) h

rows_rest : (places : NodePlaces) (r : List ℕ × ℕ) (m : NamedPlace) (rs : Table ℕ) (ms : List NamedPlace)
    → ArePlaced places (r ∷ rs) (m ∷ ms) → ArePlaced places rs ms
rows_rest places r m rs ms h =
    cons_tail (row_asked places r) (row_answered m) (map (row_asked places) rs) (map row_answered ms) h

row_name : (places : NodePlaces) (r : List ℕ × ℕ) (m : NamedPlace) → row_asked places r ≡ row_answered m
    → m.name ≡ r.0
row_name places r m h = sym (ap (λ (z : List ℕ × Option ℕ). z.0) h)

row_place : (places : NodePlaces) (r : List ℕ × ℕ) (m : NamedPlace) → row_asked places r ≡ row_answered m
    → place_in places r.1 ≡ Some m.place
row_place places r m h = ap (λ (z : List ℕ × Option ℕ). z.1) h

pub rows_within : (n : ℕ) (places : NodePlaces) (rows : Table ℕ) (made : List NamedPlace) → AreWithin n places
    → ArePlaced places rows made → RowsAreBelow n made
rows_within n places [] [] h e = tt
rows_within n places [] (m ∷ ms) h e = absurd (cc)
rows_within n places (r ∷ rs) [] h e = absurd (cc)
rows_within n places (r ∷ rs) (m ∷ ms) h e = (
  h.below r.1 m.place (row_place places r m (row_is places r m rs ms e)),
  rows_within n places rs ms h (rows_rest places r m rs ms e),
)

-- a row with the node of what stands at its place
abbrev pub item_row : List ℕ → List Item → List ℕ × ℕ → List ℕ × Node
item_row home items row = (row.0, item_node home (at items row.1))

pub rows_written : (home : List ℕ) (items : List Item) (nodes : List Node) (places : NodePlaces) (rows : Table ℕ)
    (made : List NamedPlace) → AreWritten home items nodes places → ArePlaced places rows made
    → rows_at nodes made ≡ map (item_row home items) rows
rows_written home items nodes places [] [] h e = refl
rows_written home items nodes places [] (m ∷ ms) h e = absurd (cc)
rows_written home items nodes places (r ∷ rs) [] h e = absurd (cc)
rows_written home items nodes places (r ∷ rs) (m ∷ ms) h e =
    let i : row_asked places r ≡ row_answered m = row_is places r m rs ms e in
    ap₂ (λ (row : List ℕ × Node) rows. row ∷ rows)
    (ap₂ (λ name x. (name, x)) (row_name places r m i) (h.each r.1 m.place (row_place places r m i)))
    (rows_written home items nodes places rs ms h (rows_rest places r m rs ms e))

-- ---- rows of values

value_is : (items : List Item) (places : NodePlaces) (r : List ℕ × ℕ) (m : ValuePlace) (rs : Table ℕ)
    (ms : List ValuePlace) → ValuesArePlaced items places (r ∷ rs) (m ∷ ms)
    → value_asked items places r ≡ value_answered m
value_is items places r m rs ms h = cons_head (value_asked items places r) (value_answered m)
    (map (value_asked items places) rs) (map value_answered ms) h

values_rest : (items : List Item) (places : NodePlaces) (r : List ℕ × ℕ) (m : ValuePlace) (rs : Table ℕ)
    (ms : List ValuePlace) → ValuesArePlaced items places (r ∷ rs) (m ∷ ms) → ValuesArePlaced items places rs ms
values_rest items places r m rs ms h = cons_tail (value_asked items places r) (value_answered m)
    (map (value_asked items places) rs) (map value_answered ms) h

value_place : (items : List Item) (places : NodePlaces) (r : List ℕ × ℕ) (m : ValuePlace)
    → value_asked items places r ≡ value_answered m → place_in places r.1 ≡ Some m.place
value_place items places r m h = ap (λ (z : List ℕ × (VidStatus × Option ℕ)). z.1.1) h

pub values_within : (n : ℕ) (items : List Item) (places : NodePlaces) (rows : Table ℕ) (made : List ValuePlace)
    → AreWithin n places → ValuesArePlaced items places rows made → ValuesAreBelow n made
values_within n items places [] [] h e = tt
values_within n items places [] (m ∷ ms) h e = absurd (cc)
values_within n items places (r ∷ rs) [] h e = absurd (cc)
values_within n items places (r ∷ rs) (m ∷ ms) h e = (
  h.below r.1 m.place (value_place items places r m (value_is items places r m rs ms e)),
  values_within n items places rs ms h (values_rest items places r m rs ms e),
)

abbrev value_row : List ℕ → VidStatus → Node → ValueRow
value_row name status scheme = record { name = name; status = status; scheme = scheme }

pub values_written : (home : List ℕ) (items : List Item) (nodes : List Node) (places : NodePlaces) (rows : Table ℕ)
    (made : List ValuePlace) → AreWritten home items nodes places → AreAll IsValue items rows
    → ValuesArePlaced items places rows made
    → values_at nodes made ≡ map (row_of_value home) (map_rows (λ p. as_value (at items p)) rows)
values_written home items nodes places [] [] h a e = refl
values_written home items nodes places [] (m ∷ ms) h a e = absurd (cc)
values_written home items nodes places (r ∷ rs) [] h a e = absurd (cc)
values_written home items nodes places (r ∷ rs) (m ∷ ms) h a e =
    let i : value_asked items places r ≡ value_answered m = value_is items places r m rs ms e in
    ap₂ (λ (row : ValueRow) rows. row ∷ rows)
    (ap₂ (λ name status. value_row name status (node_at nodes m.place))
    (sym (ap (λ (z : List ℕ × (VidStatus × Option ℕ)). z.0) i))
    (sym (ap (λ (z : List ℕ × (VidStatus × Option ℕ)). z.1.0) i))
    ∙ ap (value_row r.0 (as_value (at items r.1)).status)
    (h.each r.1 m.place (value_place items places r m i) ∙ value_item home (at items r.1) a.0))
    (values_written home items nodes places rs ms h a.1 (values_rest items places r m rs ms e))

-- ---- rows of each kind

pub structures_are : (home : List ℕ) (items : List Item) (rows : Table ℕ) → AreAll IsEnv items rows
    → map (item_row home items) rows ≡ structure_rows home (structures_of (map_rows (λ p. as_env (at items p)) rows))
structures_are home items [] h = refl
structures_are home items (r ∷ rs) h =
    ap₂ (λ x xs. (r.0, x) ∷ xs) (env_item home (at items r.1) h.0) (structures_are home items rs h.1)

-- the structures of a unit
pub tops_are : (home : List ℕ) (items : List Item) (rows : Table ℕ) → AreAll IsEnv items rows
    → map (item_row home items) rows
    ≡ rows_by (env_node home) (table_of (structures_of (map_rows (λ p. as_env (at items p)) rows)))
tops_are home items [] h = refl
tops_are home items (r ∷ rs) h =
    ap₂ (λ x xs. (r.0, x) ∷ xs) (env_item home (at items r.1) h.0) (tops_are home items rs h.1)

pub types_are : (home : List ℕ) (items : List Item) (rows : Table ℕ) → AreAll IsType items rows
    → map (item_row home items) rows ≡ rows_by (node_of_type home) (map_rows (λ p. as_type (at items p)) rows)
types_are home items [] h = refl
types_are home items (r ∷ rs) h =
    ap₂ (λ x xs. (r.0, x) ∷ xs) (type_item home (at items r.1) h.0) (types_are home items rs h.1)

pub signatures_are : (home : List ℕ) (items : List Item) (rows : Table ℕ) → AreAll IsSignature items rows
    → map (item_row home items) rows
    ≡ rows_by (node_of_signature home) (map_rows (λ p. as_signature (at items p)) rows)
signatures_are home items [] h = refl
signatures_are home items (r ∷ rs) h =
    ap₂ (λ x xs. (r.0, x) ∷ xs) (signature_item home (at items r.1) h.0) (signatures_are home items rs h.1)

pub functors_are : (home : List ℕ) (items : List Item) (rows : Table ℕ) → AreAll IsFunctor items rows
    → map (item_row home items) rows ≡ rows_by (node_of_functor home) (map_rows (λ p. as_functor (at items p)) rows)
functors_are home items [] h = refl
functors_are home items (r ∷ rs) h =
    ap₂ (λ x xs. (r.0, x) ∷ xs) (functor_item home (at items r.1) h.0) (functors_are home items rs h.1)

-- ---- nodes over rows

pub env_added : (items : List Item) (places : NodePlaces) (old new : List Node) (t : EnvTables)
    (ss ts : List NamedPlace) (vs : List ValuePlace) (place : ℕ) → AreEnvTables items t
    → ArePlaced places t.structures ss → ArePlaced places t.types ts → ValuesArePlaced items places t.values vs
    → Adds old new (environment_node (rows_at old ss) (rows_at old ts) (values_at old vs)) place
    → AddsOver items places old new (λ home. env_node home (env_of_tables items t)) place
env_added items places old new t ss ts vs place a s u v h home w =
    subst (λ z. Adds old new z place)
    (ap₂ (λ x y. environment_node x y (values_at old vs))
    (rows_written home items old places t.structures ss w s ∙ structures_are home items t.structures a.structures)
    (rows_written home items old places t.types ts w u ∙ types_are home items t.types a.types)
    ∙ ap (environment_node
    (structure_rows home (structures_of (map_rows (λ p. as_env (at items p)) t.structures)))
    (rows_by (node_of_type home) (map_rows (λ p. as_type (at items p)) t.types)))
    (values_written home items old places t.values vs w a.values v)) h

pub top_added : (items : List Item) (places : NodePlaces) (old new : List Node) (t : TopTables) (env : EnvTables)
    (ss sigs funs funsigs : List NamedPlace) (place : ℕ) → AreTopTables items t
    → ReadsEnv items (as_env (at items t.env)) env
    → ArePlaced places env.structures ss → ArePlaced places t.signatures sigs → ArePlaced places t.functors funs
    → ArePlaced places t.funsigs funsigs
    → Adds old new (unit_node (rows_at old ss) (rows_at old sigs) (rows_at old funs) (rows_at old funsigs)) place
    → AddsOver items places old new (λ home. top_node home (top_of_tables items t)) place
top_added items places old new t env ss sigs funs funsigs place a r s u f g h home w =
    let one : rows_at old ss ≡ rows_by (env_node home) (structures (as_env (at items t.env))) =
    rows_written home items old places env.structures ss w s ∙ tops_are home items env.structures r.are.structures
    ∙ ap (λ e. rows_by (env_node home) (structures e)) (sym r.is) in
    let two = rows_written home items old places t.signatures sigs w u
    ∙ signatures_are home items t.signatures a.signatures in
    let three = rows_written home items old places t.functors funs w f
    ∙ functors_are home items t.functors a.functors in
    let four = rows_written home items old places t.funsigs funsigs w g
    ∙ functors_are home items t.funsigs a.funsigs in
    subst (λ z. Adds old new z place)
    (ap₂ (λ x y. unit_node x y (rows_at old funs) (rows_at old funsigs)) one two
    ∙ ap₂ (unit_node
    (rows_by (env_node home) (structures (as_env (at items t.env))))
    (rows_by (node_of_signature home) (map_rows (λ p. as_signature (at items p)) t.signatures))) three four) h
