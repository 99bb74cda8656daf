-- What stands at the parts of a node, in a type and in a graph.
use Rattle.std.proofs.Common.{◌≡◌, ℕ, List, [], ◌∷◌, ◌++◌, map, refl, sym, ap, ap₂, ◌∙◌, Some, slice_get}
use Rattle.std.specs.List.{flat_map}
use Rattle.std.proofs.lemmas.List.{append_assoc}
use Rattle.std.proofs.lemmas.Grind.{flat_map-append}
use Rattle.semantic_objects.specs.declared.name.TyName.{TyName}
use Rattle.semantic_objects.specs.declared.node.TypeNode.{TypeNode}
use Rattle.semantic_objects.specs.declared.node.TypeNode.TheVariants as node
use Rattle.semantic_objects.specs.Tables.{Table}
use Rattle.semantic_objects.specs.Environments.{structures_of}
use Rattle.semantic_objects.specs.Trees.{Tree, trees_of}
use Rattle.semantic_objects.specs.Nodes.{unfolded, trees_at, AreNodes}
use Rattle.semantic_objects.proofs.Unfolding as unfolds
use Rattle.env_parts.specs.declared.tables.EnvTables.{EnvTables}
use Rattle.env_parts.specs.Types.{types_in, types_in_structures, types_in_types, types_in_values, type_types, value_types}
use Rattle.sml_modules.specs.declared.id.EnvId.{EnvId}
use Rattle.sml_modules.specs.Items.{Item, at, as_env, as_type, as_value, IsEnv, IsType, IsValue, map_rows}
use Rattle.sml_modules.specs.Graphs.{Graph}
use Rattle.sml_modules.specs.Nodes.{AreAll}
use Rattle.sml_modules.specs.Adding.{ReadsEnv}
use Rattle.realisation.specs.Names.{names_of_symbol, names_in, names_in_all, names_in_list, names_in_env}
use Rattle.name_walks.specs.Visits.{variables_in, variables_in_all, own_names, own_variables, names_at, variables_at, node_names, node_variables}
use Rattle.name_walks.specs.Places.{item_names, place_names, HasAll}
use Rattle.name_walks.specs.Places as places

-- ---- types

-- the places of the parts of a node
abbrev pub parts_of : TypeNode → List ℕ
parts_of (node.Bound i) = []
parts_of (node.Free n) = []
parts_of (node.Made c ps) = ps

parts_named : (nodes : List TypeNode) (ps : List ℕ)
    → names_in_all (trees_of (trees_at (unfolded nodes) ps)) ≡ flat_map (node_names nodes) ps
parts_named nodes [] = refl
parts_named nodes (p ∷ ps) = ap (λ z. node_names nodes p ++ z) (parts_named nodes ps)

parts_bind : (nodes : List TypeNode) (ps : List ℕ)
    → variables_in_all (trees_of (trees_at (unfolded nodes) ps)) ≡ flat_map (node_variables nodes) ps
parts_bind nodes [] = refl
parts_bind nodes (p ∷ ps) = ap (λ z. node_variables nodes p ++ z) (parts_bind nodes ps)

pub node_named : (nodes : List TypeNode) (p : ℕ) (x : TypeNode) → AreNodes nodes → slice_get nodes p ≡ Some x
    → node_names nodes p ≡ names_at nodes p ++ flat_map (node_names nodes) (parts_of x)
node_named nodes p (node.Bound i) h e = ap names_in (unfolds.noted nodes p (node.Bound i) h e)
    ∙ sym (ap (λ o. own_names o ++ []) e)
node_named nodes p (node.Free n) h e = ap names_in (unfolds.noted nodes p (node.Free n) h e)
    ∙ sym (ap (λ o. own_names o ++ []) e)
node_named nodes p (node.Made c ps) h e = ap names_in (unfolds.noted nodes p (node.Made c ps) h e)
    ∙ ap (λ z. names_of_symbol c ++ z) (parts_named nodes ps)
    ∙ sym (ap (λ o. own_names o ++ flat_map (node_names nodes) ps) e)

pub node_binds : (nodes : List TypeNode) (p : ℕ) (x : TypeNode) → AreNodes nodes → slice_get nodes p ≡ Some x
    → node_variables nodes p ≡ variables_at nodes p ++ flat_map (node_variables nodes) (parts_of x)
node_binds nodes p (node.Bound i) h e = ap variables_in (unfolds.noted nodes p (node.Bound i) h e)
    ∙ sym (ap (λ o. own_variables o ++ []) e)
node_binds nodes p (node.Free n) h e = ap variables_in (unfolds.noted nodes p (node.Free n) h e)
    ∙ sym (ap (λ o. own_variables o ++ []) e)
node_binds nodes p (node.Made c ps) h e = ap variables_in (unfolds.noted nodes p (node.Made c ps) h e)
    ∙ parts_bind nodes ps
    ∙ sym (ap (λ o. own_variables o ++ flat_map (node_variables nodes) ps) e)

-- ---- environments

names_append : (xs ys : List Tree) → names_in_list (xs ++ ys) ≡ names_in_list xs ++ names_in_list ys
names_append [] ys = refl
names_append (x ∷ xs) ys = ap (λ z. names_in x ++ z) (names_append xs ys)
    ∙ sym (append_assoc (names_in x) (names_in_list xs) (names_in_list ys))

pub env_named : (x : Item) → IsEnv x → names_in_env (as_env x) ≡ item_names x
env_named (Item.EnvItem e) h = refl
env_named Item.Nowhere h = absurd h
env_named (Item.TypeItem x) h = absurd h
env_named (Item.ValueItem x) h = absurd h
env_named (Item.SignatureItem x) h = absurd h
env_named (Item.FunctorItem x) h = absurd h
env_named (Item.TopItem x) h = absurd h

type_named : (x : Item) → IsType x → names_in_list (type_types (as_type x)) ≡ item_names x
type_named (Item.TypeItem x) h = refl
type_named Item.Nowhere h = absurd h
type_named (Item.EnvItem x) h = absurd h
type_named (Item.ValueItem x) h = absurd h
type_named (Item.SignatureItem x) h = absurd h
type_named (Item.FunctorItem x) h = absurd h
type_named (Item.TopItem x) h = absurd h

value_named : (x : Item) → IsValue x → names_in_list (value_types (as_value x)) ≡ item_names x
value_named (Item.ValueItem x) h = refl
value_named Item.Nowhere h = absurd h
value_named (Item.EnvItem x) h = absurd h
value_named (Item.TypeItem x) h = absurd h
value_named (Item.SignatureItem x) h = absurd h
value_named (Item.FunctorItem x) h = absurd h
value_named (Item.TopItem x) h = absurd h

abbrev pub row_places : Table ℕ → List ℕ
row_places rows = map (λ row. row.1) rows

structures_named : (items : List Item) (rows : Table ℕ) → AreAll IsEnv items rows
    → names_in_list (types_in_structures (structures_of (map_rows (λ p. as_env (at items p)) rows)))
    ≡ flat_map (place_names items) (row_places rows)
structures_named items [] h = refl
structures_named items (r ∷ rs) h =
    names_append (types_in (as_env (at items r.1))) (types_in_structures (structures_of (map_rows (λ p. as_env (at items p)) rs)))
    ∙ ap₂ (λ xs ys. xs ++ ys) (env_named (at items r.1) h.0) (structures_named items rs h.1)

types_named : (items : List Item) (rows : Table ℕ) → AreAll IsType items rows
    → names_in_list (types_in_types (map_rows (λ p. as_type (at items p)) rows))
    ≡ flat_map (place_names items) (row_places rows)
types_named items [] h = refl
types_named items (r ∷ rs) h =
    names_append (type_types (as_type (at items r.1))) (types_in_types (map_rows (λ p. as_type (at items p)) rs))
    ∙ ap₂ (λ xs ys. xs ++ ys) (type_named (at items r.1) h.0) (types_named items rs h.1)

values_named : (items : List Item) (rows : Table ℕ) → AreAll IsValue items rows
    → names_in_list (types_in_values (map_rows (λ p. as_value (at items p)) rows))
    ≡ flat_map (place_names items) (row_places rows)
values_named items [] h = refl
values_named items (r ∷ rs) h =
    names_append (value_types (as_value (at items r.1))) (types_in_values (map_rows (λ p. as_value (at items p)) rs))
    ∙ ap₂ (λ xs ys. xs ++ ys) (value_named (at items r.1) h.0) (values_named items rs h.1)

-- the places of all rows of the tables of an environment, in the order of the walk
abbrev pub part_places : EnvTables → List ℕ
part_places t = row_places t.structures ++ (row_places t.types ++ row_places t.values)

pub tables_named : (items : List Item) (p : ℕ) (t : EnvTables) → IsEnv (at items p)
    → ReadsEnv items (as_env (at items p)) t → place_names items p ≡ flat_map (place_names items) (part_places t)
tables_named items p t h r =
    let N : ℕ → List TyName = place_names items in
    let ss = types_in_structures (structures_of (map_rows (λ p. as_env (at items p)) t.structures)) in
    let ts = types_in_types (map_rows (λ p. as_type (at items p)) t.types) in
    let vs = types_in_values (map_rows (λ p. as_value (at items p)) t.values) in
    sym (env_named (at items p) h)
    ∙ ap names_in_env r.is
    ∙ names_append ss (ts ++ vs)
    ∙ ap₂ (λ xs ys. xs ++ ys) (structures_named items t.structures r.are.structures)
    (names_append ts vs ∙ ap₂ (λ xs ys. xs ++ ys) (types_named items t.types r.are.types)
    (values_named items t.values r.are.values)
    ∙ sym (flat_map-append N (row_places t.types) (row_places t.values)))
    ∙ sym (flat_map-append N (row_places t.structures) (row_places t.types ++ row_places t.values))

-- ---- environments by their ids

pub all_named : (g : Graph) (ids : List EnvId) → HasAll g ids
    → flat_map (place_names g.items) (map (λ (id : EnvId). id.place) ids) ≡ places.names_in_all g ids
all_named g [] h = refl
all_named g (id ∷ ids) h = ap₂ (λ xs ys. xs ++ ys) (sym (env_named (at g.items id.place) h.0)) (all_named g ids h.1)
