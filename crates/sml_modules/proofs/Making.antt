-- Environments and tops that are made of tables.
use Rattle.std.proofs.Common.{◌≡◌, ℕ, ◌+◌, ◌<◌, ◌≤◌, refl, sym, ap, ap₂, ◌∙◌, subst, List, [], ◌∷◌, ◌++◌, map, length, drop, get_or}
use Rattle.semantic_objects.specs.declared.name.TyName.{TyName}
use Rattle.semantic_objects.specs.declared.entry.TypeStr.{TypeStr}
use Rattle.semantic_objects.specs.declared.entry.ValueEntry.{ValueEntry}
use Rattle.semantic_objects.specs.Tables.{Table, with_entry, with_all}
use Rattle.semantic_objects.specs.Environments.{Env, structures_of, empty_env, env_of, structures, types, values, with_structure, with_type, with_value, modified_by, Top, empty_top}
use Rattle.env_parts.specs.declared.facts.Facts.{Facts}
use Rattle.env_parts.specs.declared.tables.EnvTables.{EnvTables}
use Rattle.env_parts.specs.declared.tables.TopTables.{TopTables}
use Rattle.sml_modules.specs.declared.parts.SigParts.{SigParts}
use Rattle.sml_modules.specs.declared.parts.FunParts.{FunParts}
use Rattle.sml_modules.specs.declared.parts.NamedEnv.{NamedEnv}
use Rattle.sml_modules.specs.declared.parts.NamedType.{NamedType}
use Rattle.sml_modules.specs.declared.parts.NamedValue.{NamedValue}
use Rattle.sml_modules.specs.declared.id.EnvId.{EnvId}
use Rattle.sml_modules.specs.declared.id.SigId.{SigId}
use Rattle.sml_modules.specs.declared.id.FunId.{FunId}
use Rattle.sml_modules.specs.Items.{Item, at, as_type, as_value, as_env, as_signature, as_functor, IsType, IsValue, IsEnv, IsSignature, IsFunctor, map_rows}
use Rattle.env_parts.specs.Types.{no_facts, both, facts_of, types_in_structures, types_in_types, types_in_values, type_types, value_types}
use Rattle.env_parts.specs.TypeSteps.{joined}
use Rattle.sml_modules.specs.Items.{item_facts}
use Rattle.sml_modules.specs.Graphs.{Graph, env_at, signature_at, functor_at, HasEnvs, structure_rows, type_rows, value_rows, signature_of, functor_of, GivesSignature, GivesFunctor}
use Rattle.sml_modules.specs.Nodes.{env_of_tables, top_of_tables, AreAll, AreEnvTables, AreTopTables}
use Rattle.sml_modules.specs.Adding.{Extends, Adds, ReadsEnv, ReadsTop, place_rows, KeepsTypes, KeepsValues, over_tables, facts_at_places, rows_facts}
use Rattle.env_parts.proofs.Tabling.{drop_next, drop_past}
use Rattle.env_parts.proofs.Facting.{both_assoc, none_both, both_none, facts_of-append}
use Rattle.sml_modules.proofs.Unfolding.{Never, all_more, rows_more}
use Rattle.sml_modules.proofs.Keeping.{gives_signature, gives_functor}
use Rattle.sml_modules.proofs.Setting.{with_map, all_map, all_set, all_with_all}
use Rattle.sml_modules.proofs.Looking.{structures_are, types_are, values_are}

-- the facts of rows are those of what stands at them
joined_more : (f : Facts) (fs : List Facts) → joined f fs ≡ both f (joined no_facts fs)
joined_more f [] = sym (both_none f)
joined_more f (x ∷ xs) = joined_more (both f x) xs ∙ both_assoc f x (joined no_facts xs)
    ∙ ap (both f) (sym (ap (λ z. joined z xs) (none_both x) ∙ joined_more x xs))

rows_step : (items : List Item) (p : ℕ) (rows : Table ℕ) (name : List ℕ)
    → rows_facts items ((name, p) ∷ rows) ≡ both (item_facts (at items p)) (rows_facts items rows)
rows_step items p rows name =
    ap (λ z. joined z (facts_at_places items (map (λ row. row.1) rows))) (none_both (item_facts (at items p)))
    ∙ joined_more (item_facts (at items p)) (facts_at_places items (map (λ row. row.1) rows))

pub rows_next : (items : List Item) (ps : List ℕ) (k : ℕ) (f a g whole : Facts) → k < length ps
    → a ≡ item_facts (at items (get_or ps k 0)) → g ≡ both f a
    → joined f (facts_at_places items (drop k ps)) ≡ whole → joined g (facts_at_places items (drop (k + 1) ps)) ≡ whole
rows_next items ps k f a g whole l h i j =
    ap (λ z. joined z (facts_at_places items (drop (k + 1) ps))) (i ∙ ap (both f) h)
    ∙ sym (ap (λ z. joined f (facts_at_places items z)) (drop_next k ps 0 l)) ∙ j

pub rows_done : (items : List Item) (ps : List ℕ) (k : ℕ) (f whole : Facts) → length ps ≤ k
    → joined f (facts_at_places items (drop k ps)) ≡ whole → f ≡ whole
rows_done items ps k f whole l j = sym (ap (λ z. joined f (facts_at_places items z)) (drop_past k ps l)) ∙ j

env_fact : (item : Item) → IsEnv item → item_facts item ≡ item_facts (Item.EnvItem (as_env item))
env_fact Item.Nowhere h = absurd h
env_fact (Item.TypeItem x) h = absurd h
env_fact (Item.ValueItem x) h = absurd h
env_fact (Item.EnvItem x) h = refl
env_fact (Item.SignatureItem x) h = absurd h
env_fact (Item.FunctorItem x) h = absurd h
env_fact (Item.TopItem x) h = absurd h

type_fact : (item : Item) → IsType item → item_facts item ≡ facts_of (type_types (as_type item))
type_fact Item.Nowhere h = absurd h
type_fact (Item.TypeItem x) h = refl
type_fact (Item.ValueItem x) h = absurd h
type_fact (Item.EnvItem x) h = absurd h
type_fact (Item.SignatureItem x) h = absurd h
type_fact (Item.FunctorItem x) h = absurd h
type_fact (Item.TopItem x) h = absurd h

value_fact : (item : Item) → IsValue item → item_facts item ≡ facts_of (value_types (as_value item))
value_fact Item.Nowhere h = absurd h
value_fact (Item.TypeItem x) h = absurd h
value_fact (Item.ValueItem x) h = refl
value_fact (Item.EnvItem x) h = absurd h
value_fact (Item.SignatureItem x) h = absurd h
value_fact (Item.FunctorItem x) h = absurd h
value_fact (Item.TopItem x) h = absurd h

structure_facts : (items : List Item) (rows : Table ℕ) → AreAll IsEnv items rows
    → rows_facts items rows
    ≡ facts_of (types_in_structures (structures_of (map_rows (λ p. as_env (at items p)) rows)))
structure_facts items [] h = refl
structure_facts items (row ∷ rows) h = rows_step items row.1 rows row.0
    ∙ ap₂ both (env_fact (at items row.1) h.0) (structure_facts items rows h.1)
    ∙ sym (facts_of-append _ (types_in_structures (structures_of (map_rows (λ p. as_env (at items p)) rows))))

type_facts : (items : List Item) (rows : Table ℕ) → AreAll IsType items rows
    → rows_facts items rows ≡ facts_of (types_in_types (map_rows (λ p. as_type (at items p)) rows))
type_facts items [] h = refl
type_facts items (row ∷ rows) h = rows_step items row.1 rows row.0
    ∙ ap₂ both (type_fact (at items row.1) h.0) (type_facts items rows h.1)
    ∙ sym (facts_of-append (type_types (as_type (at items row.1)))
    (types_in_types (map_rows (λ p. as_type (at items p)) rows)))

value_facts : (items : List Item) (rows : Table ℕ) → AreAll IsValue items rows
    → rows_facts items rows ≡ facts_of (types_in_values (map_rows (λ p. as_value (at items p)) rows))
value_facts items [] h = refl
value_facts items (row ∷ rows) h = rows_step items row.1 rows row.0
    ∙ ap₂ both (value_fact (at items row.1) h.0) (value_facts items rows h.1)
    ∙ sym (facts_of-append (value_types (as_value (at items row.1)))
    (types_in_values (map_rows (λ p. as_value (at items p)) rows)))

pub tables_facts : (items : List Item) (t : EnvTables) (s u v : Facts) → AreEnvTables items t
    → s ≡ rows_facts items t.structures → u ≡ rows_facts items t.types → v ≡ rows_facts items t.values
    → both s (both u v) ≡ item_facts (Item.EnvItem (env_of_tables items t))
tables_facts items t s u v h i j k =
    let ts = types_in_types (map_rows (λ p. as_type (at items p)) t.types) in
    let vs = types_in_values (map_rows (λ p. as_value (at items p)) t.values) in
    ap₂ both (i ∙ structure_facts items t.structures h.structures)
    (ap₂ both (j ∙ type_facts items t.types h.types) (k ∙ value_facts items t.values h.values)
    ∙ sym (facts_of-append ts vs))
    ∙ sym (facts_of-append (types_in_structures (structures_of (map_rows (λ p. as_env (at items p)) t.structures)))
    (ts ++ vs))

-- tables with a structure set
pub set_structure_are : (g : Graph) (old new : EnvTables) (env : Env) (name : List ℕ) (id : EnvId)
    → ReadsEnv g.items env old → IsEnv (at g.items id.place) → new.structures ≡ with_entry name id.place old.structures
    → new.types ≡ old.types → new.values ≡ old.values → AreEnvTables g.items new
set_structure_are g old new env name id r h i j k = record {
  structures = subst (AreAll IsEnv g.items) (sym i)
      (all_set IsEnv g.items name id.place old.structures h r.are.structures);
  types = subst (AreAll IsType g.items) (sym j) r.are.types;
  values = subst (AreAll IsValue g.items) (sym k) r.are.values;
}

pub set_structure_is : (g : Graph) (old new : EnvTables) (env : Env) (name : List ℕ) (id : EnvId)
    → ReadsEnv g.items env old → new.structures ≡ with_entry name id.place old.structures
    → new.types ≡ old.types → new.values ≡ old.values
    → env_of_tables g.items new ≡ with_structure name (env_at g id) env
set_structure_is g old new env name id r i j k =
    ap (λ s. env_of s (map_rows (λ p. as_type (at g.items p)) new.types)
    (map_rows (λ p. as_value (at g.items p)) new.values))
    (ap (map_rows (λ p. as_env (at g.items p))) i
    ∙ sym (with_map (λ p. as_env (at g.items p)) name id.place old.structures)
    ∙ ap (with_entry name (env_at g id)) (sym (structures_are g.items env old r)))
    ∙ ap₂ (env_of (with_entry name (env_at g id) (structures env)))
    (ap (map_rows (λ p. as_type (at g.items p))) j ∙ sym (types_are g.items env old r))
    (ap (map_rows (λ p. as_value (at g.items p))) k ∙ sym (values_are g.items env old r))

-- entries over tables that were read
pub over_read : (items : List Item) (t : EnvTables) (env : Env) (types' : List NamedType) (values' : List NamedValue)
    → ReadsEnv items env t
    → over_tables items t types' values'
    ≡ env_of (structures env) (with_all (type_rows types') (types env)) (with_all (value_rows values') (values env))
over_read items t env types' values' r =
    ap (λ s. env_of s (with_all (type_rows types') (map_rows (λ p. as_type (at items p)) t.types))
    (with_all (value_rows values') (map_rows (λ p. as_value (at items p)) t.values)))
    (sym (structures_are items env t r))
    ∙ ap₂ (λ ts vs. env_of (structures env) (with_all (type_rows types') ts) (with_all (value_rows values') vs))
    (sym (types_are items env t r)) (sym (values_are items env t r))

-- tables with all rows of others
pub all_are : (items : List Item) (old by new : EnvTables) (d e : Env) → ReadsEnv items d old → ReadsEnv items e by
    → new.structures ≡ with_all by.structures old.structures → new.types ≡ with_all by.types old.types
    → new.values ≡ with_all by.values old.values → AreEnvTables items new
all_are items old by new d e r s i j k = record {
  structures = subst (AreAll IsEnv items) (sym i)
      (all_with_all IsEnv items by.structures old.structures s.are.structures r.are.structures);
  types = subst (AreAll IsType items) (sym j)
      (all_with_all IsType items by.types old.types s.are.types r.are.types);
  values = subst (AreAll IsValue items) (sym k)
      (all_with_all IsValue items by.values old.values s.are.values r.are.values);
}

all_rows : {A : Type 0} (f : ℕ → A) (by old new : Table ℕ) (x y : Table A) → x ≡ map_rows f by → y ≡ map_rows f old
    → new ≡ with_all by old → map_rows f new ≡ with_all x y
all_rows f by old new x y h i j =
    ap (map_rows f) j ∙ sym (all_map f by old) ∙ sym (ap₂ with_all h i)

pub all_is : (items : List Item) (old by new : EnvTables) (d e : Env) → ReadsEnv items d old → ReadsEnv items e by
    → new.structures ≡ with_all by.structures old.structures → new.types ≡ with_all by.types old.types
    → new.values ≡ with_all by.values old.values → env_of_tables items new ≡ modified_by d e
all_is items old by new d e r s i j k =
    ap (λ z. env_of z (map_rows (λ p. as_type (at items p)) new.types)
    (map_rows (λ p. as_value (at items p)) new.values))
    (all_rows (λ p. as_env (at items p)) by.structures old.structures new.structures (structures e) (structures d)
    (structures_are items e by s) (structures_are items d old r) i)
    ∙ ap₂ (env_of (with_all (structures e) (structures d)))
    (all_rows (λ p. as_type (at items p)) by.types old.types new.types (types e) (types d)
    (types_are items e by s) (types_are items d old r) j)
    (all_rows (λ p. as_value (at items p)) by.values old.values new.values (values e) (values d)
    (values_are items e by s) (values_are items d old r) k)

-- structures of a list
places_map : (g : Graph) (entries : List NamedEnv)
    → structure_rows g entries ≡ map_rows (λ p. as_env (at g.items p)) (place_rows entries)
places_map g [] = refl
places_map g (e ∷ es) = ap (λ z. (e.name, env_at g e.env) ∷ z) (places_map g es)

places_are : (g : Graph) (entries : List NamedEnv) → HasEnvs g entries → AreAll IsEnv g.items (place_rows entries)
places_are g [] h = tt
places_are g (e ∷ es) h = (h.0, places_are g es h.1)

pub made_are : (g : Graph) (t : EnvTables) (entries : List NamedEnv) → HasEnvs g entries
    → t.structures ≡ with_all (place_rows entries) [] → t.types ≡ [] → t.values ≡ [] → AreEnvTables g.items t
made_are g t entries h i j k = record {
  structures = subst (AreAll IsEnv g.items) (sym i)
      (all_with_all IsEnv g.items (place_rows entries) [] (places_are g entries h) tt);
  types = subst (AreAll IsType g.items) (sym j) tt;
  values = subst (AreAll IsValue g.items) (sym k) tt;
}

pub made_is : (g : Graph) (t : EnvTables) (entries : List NamedEnv) (types' : List NamedType)
    (values' : List NamedValue) → t.structures ≡ with_all (place_rows entries) [] → t.types ≡ [] → t.values ≡ []
    → over_tables g.items t types' values'
    ≡ env_of (with_all (structure_rows g entries) []) (with_all (type_rows types') []) (with_all (value_rows values') [])
made_is g t entries types' values' i j k =
    ap (λ s. env_of s (with_all (type_rows types') (map_rows (λ p. as_type (at g.items p)) t.types))
    (with_all (value_rows values') (map_rows (λ p. as_value (at g.items p)) t.values)))
    (ap (map_rows (λ p. as_env (at g.items p))) i
    ∙ sym (all_map (λ p. as_env (at g.items p)) (place_rows entries) [])
    ∙ ap (λ z. with_all z []) (sym (places_map g entries)))
    ∙ ap₂ (λ ts vs. env_of (with_all (structure_rows g entries) []) (with_all (type_rows types') ts)
    (with_all (value_rows values') vs))
    (ap (map_rows (λ p. as_type (at g.items p))) j) (ap (map_rows (λ p. as_value (at g.items p))) k)

-- rows of nodes that are added one after the other
pub type_step : (a b c : Graph) (rows set next : Table ℕ) (entry : TypeStr) (p : ℕ) (name : List ℕ)
    (left : List NamedType) (all : Table TypeStr)
    → Extends a b → AreAll IsType b.items set
    → with_all ((name, entry) ∷ type_rows left) (map_rows (λ q. as_type (at b.items q)) set) ≡ all
    → Adds b c (Item.TypeItem entry) p → next ≡ with_entry name p set
    → AreAll IsType c.items next × (with_all (type_rows left) (map_rows (λ q. as_type (at c.items q)) next) ≡ all)
type_step a b c rows set next entry p name left all e h i k l =
    let there : AreAll IsType c.items set = subst (λ z. AreAll IsType z set) (sym k.extends.items)
    (all_more IsType (λ z. z) b.items k.extends.more set h) in
    let same : map_rows (λ q. as_type (at c.items q)) set ≡ map_rows (λ q. as_type (at b.items q)) set =
    ap (λ z. map_rows (λ q. as_type (at z q)) set) k.extends.items
    ∙ rows_more IsType (λ z. z) as_type b.items k.extends.more set h in (
      subst (AreAll IsType c.items) (sym l)
          (all_set IsType c.items name p set (subst IsType (sym k.stands) tt) there),
      ap (with_all (type_rows left)) (ap (map_rows (λ q. as_type (at c.items q))) l
          ∙ sym (with_map (λ q. as_type (at c.items q)) name p set)
          ∙ ap₂ (with_entry name) (ap as_type k.stands) same) ∙ i,
    )

pub value_step : (a b c : Graph) (rows set next : Table ℕ) (entry : ValueEntry) (p : ℕ) (name : List ℕ)
    (left : List NamedValue) (all : Table ValueEntry)
    → Extends a b → AreAll IsValue b.items set
    → with_all ((name, entry) ∷ value_rows left) (map_rows (λ q. as_value (at b.items q)) set) ≡ all
    → Adds b c (Item.ValueItem entry) p → next ≡ with_entry name p set
    → AreAll IsValue c.items next × (with_all (value_rows left) (map_rows (λ q. as_value (at c.items q)) next) ≡ all)
value_step a b c rows set next entry p name left all e h i k l =
    let there : AreAll IsValue c.items set = subst (λ z. AreAll IsValue z set) (sym k.extends.items)
    (all_more IsValue (λ z. z) b.items k.extends.more set h) in
    let same : map_rows (λ q. as_value (at c.items q)) set ≡ map_rows (λ q. as_value (at b.items q)) set =
    ap (λ z. map_rows (λ q. as_value (at z q)) set) k.extends.items
    ∙ rows_more IsValue (λ z. z) as_value b.items k.extends.more set h in (
      subst (AreAll IsValue c.items) (sym l)
          (all_set IsValue c.items name p set (subst IsValue (sym k.stands) tt) there),
      ap (with_all (value_rows left)) (ap (map_rows (λ q. as_value (at c.items q))) l
          ∙ sym (with_map (λ q. as_value (at c.items q)) name p set)
          ∙ ap₂ (with_entry name) (ap as_value k.stands) same) ∙ i,
    )

-- tables without rows
pub none_are : (items : List Item) (t : EnvTables) → t.structures ≡ [] → t.types ≡ [] → t.values ≡ []
    → AreEnvTables items t
none_are items t i j k = record {
  structures = subst (AreAll IsEnv items) (sym i) tt;
  types = subst (AreAll IsType items) (sym j) tt;
  values = subst (AreAll IsValue items) (sym k) tt;
}

pub none_is : (items : List Item) (t : EnvTables) → t.structures ≡ [] → t.types ≡ [] → t.values ≡ []
    → env_of_tables items t ≡ empty_env
none_is items t i j k =
    ap (λ s. env_of (map_rows (λ p. as_env (at items p)) s) (map_rows (λ p. as_type (at items p)) t.types)
    (map_rows (λ p. as_value (at items p)) t.values)) i
    ∙ ap₂ (λ ts vs. env_of [] (map_rows (λ p. as_type (at items p)) ts) (map_rows (λ p. as_value (at items p)) vs)) j k

-- .. where the tables and the name are copies
pub structure_set_are : (g : Graph) (old t new : EnvTables) (env : Env) (name n : List ℕ) (id : EnvId)
    → ReadsEnv g.items env old → t ≡ old → n ≡ name → IsEnv (at g.items id.place)
    → new.structures ≡ with_entry n id.place t.structures → new.types ≡ t.types → new.values ≡ t.values
    → AreEnvTables g.items new
structure_set_are g old t new env name n id r e m h i j k = set_structure_are g old new env name id r h
    (i ∙ ap₂ (λ a (b : EnvTables). with_entry a id.place b.structures) m e)
    (j ∙ ap (λ (z : EnvTables). z.types) e) (k ∙ ap (λ (z : EnvTables). z.values) e)

pub structure_set_is : (g : Graph) (old t new : EnvTables) (env : Env) (name n : List ℕ) (id : EnvId)
    → ReadsEnv g.items env old → t ≡ old → n ≡ name
    → new.structures ≡ with_entry n id.place t.structures → new.types ≡ t.types → new.values ≡ t.values
    → env_of_tables g.items new ≡ with_structure name (env_at g id) env
structure_set_is g old t new env name n id r e m i j k = set_structure_is g old new env name id r
    (i ∙ ap₂ (λ a (b : EnvTables). with_entry a id.place b.structures) m e)
    (j ∙ ap (λ (z : EnvTables). z.types) e) (k ∙ ap (λ (z : EnvTables). z.values) e)

pub copy_are : (items : List Item) (old t : EnvTables) (env : Env) → ReadsEnv items env old → t ≡ old
    → AreEnvTables items t
copy_are items old t env r e = subst (AreEnvTables items) (sym e) r.are

pub type_set_is : (items : List Item) (old t : EnvTables) (env : Env) (types' : List NamedType)
    (values' : List NamedValue) (name n : List ℕ) (entry x : TypeStr) → ReadsEnv items env old → t ≡ old
    → types' ≡ record { name = n; entry = x } ∷ [] → values' ≡ [] → n ≡ name → x ≡ entry
    → over_tables items t types' values' ≡ with_type name entry env
type_set_is items old t env types' values' name n entry x r e h i j k =
    ap (λ z. over_tables items z types' values') e ∙ ap₂ (over_tables items old) h i
    ∙ over_read items old env (record { name = n; entry = x } ∷ []) [] r
    ∙ ap₂ (λ a b. env_of (structures env) (with_entry a b (types env)) (values env)) j k

pub value_set_is : (items : List Item) (old t : EnvTables) (env : Env) (types' : List NamedType)
    (values' : List NamedValue) (name n : List ℕ) (entry x : ValueEntry) → ReadsEnv items env old → t ≡ old
    → types' ≡ [] → values' ≡ record { name = n; entry = x } ∷ [] → n ≡ name → x ≡ entry
    → over_tables items t types' values' ≡ with_value name entry env
value_set_is items old t env types' values' name n entry x r e h i j k =
    ap (λ z. over_tables items z types' values') e ∙ ap₂ (over_tables items old) h i
    ∙ over_read items old env [] (record { name = n; entry = x } ∷ []) r
    ∙ ap₂ (λ a b. env_of (structures env) (types env) (with_entry a b (values env))) j k

-- tables over which entries were kept
pub kept_are : (a b c : Graph) (t new : EnvTables) (types' : List NamedType) (values' : List NamedValue)
    → AreEnvTables a.items t → Extends a b → Extends b c
    → KeepsTypes a.items t.types types' b.items new.types → KeepsValues b.items t.values values' c.items new.values
    → new.structures ≡ t.structures → AreEnvTables c.items new
kept_are a b c t new types' values' h e f k l i = record {
  structures = subst (AreAll IsEnv c.items) (sym i) (subst (λ z. AreAll IsEnv z t.structures) (sym f.items)
      (all_more IsEnv (λ z. z) b.items f.more t.structures
      (subst (λ z. AreAll IsEnv z t.structures) (sym e.items)
      (all_more IsEnv (λ z. z) a.items e.more t.structures h.structures))));
  types = subst (λ z. AreAll IsType z new.types) (sym f.items)
      (all_more IsType (λ z. z) b.items f.more new.types k.are);
  values = l.are;
}

pub values_later : (a b : Graph) (rows : Table ℕ) → Extends a b → AreAll IsValue a.items rows
    → AreAll IsValue b.items rows
values_later a b rows e h = subst (λ z. AreAll IsValue z rows) (sym e.items)
    (all_more IsValue (λ z. z) a.items e.more rows h)

later : {A : Type 0} (Is : Item → Type 0) → Never Is → (f : Item → A) (a b : Graph) (rows : Table ℕ) → Extends a b
    → AreAll Is a.items rows → map_rows (λ p. f (at b.items p)) rows ≡ map_rows (λ p. f (at a.items p)) rows
later Is none f a b rows e h = ap (λ z. map_rows (λ p. f (at z p)) rows) e.items
    ∙ rows_more Is none f a.items e.more rows h

there_later : (a b : Graph) (rows : Table ℕ) → Extends a b → AreAll IsEnv a.items rows → AreAll IsEnv b.items rows
there_later a b rows e h = subst (λ z. AreAll IsEnv z rows) (sym e.items)
    (all_more IsEnv (λ z. z) a.items e.more rows h)

pub kept_tables : (a b c : Graph) (t new : EnvTables) (types' : List NamedType) (values' : List NamedValue)
    → AreEnvTables a.items t → Extends a b → Extends b c
    → KeepsTypes a.items t.types types' b.items new.types → KeepsValues b.items t.values values' c.items new.values
    → new.structures ≡ t.structures → env_of_tables c.items new ≡ over_tables a.items t types' values'
kept_tables a b c t new types' values' h e f k l i =
    ap (λ s. env_of s (map_rows (λ p. as_type (at c.items p)) new.types)
    (map_rows (λ p. as_value (at c.items p)) new.values))
    (ap (map_rows (λ p. as_env (at c.items p))) i
    ∙ later IsEnv (λ z. z) as_env b c t.structures f (there_later a b t.structures e h.structures)
    ∙ later IsEnv (λ z. z) as_env a b t.structures e h.structures)
    ∙ ap₂ (env_of (map_rows (λ p. as_env (at a.items p)) t.structures))
    (later IsType (λ z. z) as_type b c new.types f k.are ∙ k.is)
    (l.is ∙ ap (with_all (value_rows values')) (later IsValue (λ z. z) as_value a b t.values e h.values))

-- tops
top_same : (s t : Top) → s.env ≡ t.env → s.signatures ≡ t.signatures → s.functors ≡ t.functors
    → s.funsigs ≡ t.funsigs → s ≡ t
top_same s t h i j k = λ n. record { env = h n; signatures = i n; functors = j n; funsigs = k n }

set_rows : {A : Type 0} (f : ℕ → A) (name n : List ℕ) (p : ℕ) (old new : Table ℕ) (x : Table A) → x ≡ map_rows f old
    → n ≡ name → new ≡ with_entry n p old → map_rows f new ≡ with_entry name (f p) x
set_rows f name n p old new x h i j = ap (map_rows f) (j ∙ ap (λ z. with_entry z p old) i)
    ∙ sym (with_map f name p old) ∙ ap (with_entry name (f p)) (sym h)

pub signature_set_are : (g : Graph) (old t new : TopTables) (top : Top) (n : List ℕ) (id : SigId)
    → ReadsTop g.items top old → t ≡ old → IsSignature (at g.items id.place)
    → new.env ≡ t.env
    → new.signatures ≡ with_entry n id.place t.signatures
    → new.functors ≡ t.functors
    → new.funsigs ≡ t.funsigs
    → AreTopTables g.items new
signature_set_are g old t new top n id r e there h i j k = record {
  env = subst (λ p. IsEnv (at g.items p)) (sym (h ∙ ap (λ (z : TopTables). z.env) e)) r.are.env;
  signatures = subst (AreAll IsSignature g.items) (sym (i ∙ ap (λ (z : TopTables). with_entry n id.place z.signatures) e))
      (all_set IsSignature g.items n id.place old.signatures there r.are.signatures);
  functors = subst (AreAll IsFunctor g.items) (sym (j ∙ ap (λ (z : TopTables). z.functors) e)) r.are.functors;
  funsigs = subst (AreAll IsFunctor g.items) (sym (k ∙ ap (λ (z : TopTables). z.funsigs) e)) r.are.funsigs;
}

pub signature_set_is : (g : Graph) (old t new : TopTables) (top : Top) (name n : List ℕ) (id : SigId)
    → ReadsTop g.items top old → t ≡ old → n ≡ name
    → new.env ≡ t.env
    → new.signatures ≡ with_entry n id.place t.signatures
    → new.functors ≡ t.functors
    → new.funsigs ≡ t.funsigs
    → top_of_tables g.items new
    ≡ (let x : Top = record top { signatures = with_entry name (signature_at g id) top.signatures } in x)
signature_set_is g old t new top name n id r e m h i j k = top_same _ _
    (ap (λ p. as_env (at g.items p)) (h ∙ ap (λ (z : TopTables). z.env) e) ∙ sym (ap (λ (z : Top). z.env) r.is))
    (set_rows (λ p. as_signature (at g.items p)) name n id.place old.signatures new.signatures top.signatures
    (ap (λ (z : Top). z.signatures) r.is) m (i ∙ ap (λ (z : TopTables). with_entry n id.place z.signatures) e))
    (ap (map_rows (λ p. as_functor (at g.items p))) (j ∙ ap (λ (z : TopTables). z.functors) e)
    ∙ sym (ap (λ (z : Top). z.functors) r.is))
    (ap (map_rows (λ p. as_functor (at g.items p))) (k ∙ ap (λ (z : TopTables). z.funsigs) e)
    ∙ sym (ap (λ (z : Top). z.funsigs) r.is))

pub functor_set_are : (g : Graph) (old t new : TopTables) (top : Top) (n : List ℕ) (id : FunId)
    → ReadsTop g.items top old → t ≡ old → IsFunctor (at g.items id.place)
    → new.env ≡ t.env
    → new.signatures ≡ t.signatures
    → new.functors ≡ with_entry n id.place t.functors
    → new.funsigs ≡ t.funsigs
    → AreTopTables g.items new
functor_set_are g old t new top n id r e there h i j k = record {
  env = subst (λ p. IsEnv (at g.items p)) (sym (h ∙ ap (λ (z : TopTables). z.env) e)) r.are.env;
  signatures = subst (AreAll IsSignature g.items) (sym (i ∙ ap (λ (z : TopTables). z.signatures) e)) r.are.signatures;
  functors = subst (AreAll IsFunctor g.items) (sym (j ∙ ap (λ (z : TopTables). with_entry n id.place z.functors) e))
      (all_set IsFunctor g.items n id.place old.functors there r.are.functors);
  funsigs = subst (AreAll IsFunctor g.items) (sym (k ∙ ap (λ (z : TopTables). z.funsigs) e)) r.are.funsigs;
}

pub functor_set_is : (g : Graph) (old t new : TopTables) (top : Top) (name n : List ℕ) (id : FunId)
    → ReadsTop g.items top old → t ≡ old → n ≡ name
    → new.env ≡ t.env
    → new.signatures ≡ t.signatures
    → new.functors ≡ with_entry n id.place t.functors
    → new.funsigs ≡ t.funsigs
    → top_of_tables g.items new
    ≡ (let x : Top = record top { functors = with_entry name (functor_at g id) top.functors } in x)
functor_set_is g old t new top name n id r e m h i j k = top_same _ _
    (ap (λ p. as_env (at g.items p)) (h ∙ ap (λ (z : TopTables). z.env) e) ∙ sym (ap (λ (z : Top). z.env) r.is))
    (ap (map_rows (λ p. as_signature (at g.items p))) (i ∙ ap (λ (z : TopTables). z.signatures) e)
    ∙ sym (ap (λ (z : Top). z.signatures) r.is))
    (set_rows (λ p. as_functor (at g.items p)) name n id.place old.functors new.functors top.functors
    (ap (λ (z : Top). z.functors) r.is) m (j ∙ ap (λ (z : TopTables). with_entry n id.place z.functors) e))
    (ap (map_rows (λ p. as_functor (at g.items p))) (k ∙ ap (λ (z : TopTables). z.funsigs) e)
    ∙ sym (ap (λ (z : Top). z.funsigs) r.is))

pub funsig_set_are : (g : Graph) (old t new : TopTables) (top : Top) (n : List ℕ) (id : FunId)
    → ReadsTop g.items top old → t ≡ old → IsFunctor (at g.items id.place)
    → new.env ≡ t.env
    → new.signatures ≡ t.signatures
    → new.functors ≡ t.functors
    → new.funsigs ≡ with_entry n id.place t.funsigs
    → AreTopTables g.items new
funsig_set_are g old t new top n id r e there h i j k = record {
  env = subst (λ p. IsEnv (at g.items p)) (sym (h ∙ ap (λ (z : TopTables). z.env) e)) r.are.env;
  signatures = subst (AreAll IsSignature g.items) (sym (i ∙ ap (λ (z : TopTables). z.signatures) e)) r.are.signatures;
  functors = subst (AreAll IsFunctor g.items) (sym (j ∙ ap (λ (z : TopTables). z.functors) e)) r.are.functors;
  funsigs = subst (AreAll IsFunctor g.items) (sym (k ∙ ap (λ (z : TopTables). with_entry n id.place z.funsigs) e))
      (all_set IsFunctor g.items n id.place old.funsigs there r.are.funsigs);
}

pub funsig_set_is : (g : Graph) (old t new : TopTables) (top : Top) (name n : List ℕ) (id : FunId)
    → ReadsTop g.items top old → t ≡ old → n ≡ name
    → new.env ≡ t.env
    → new.signatures ≡ t.signatures
    → new.functors ≡ t.functors
    → new.funsigs ≡ with_entry n id.place t.funsigs
    → top_of_tables g.items new
    ≡ (let x : Top = record top { funsigs = with_entry name (functor_at g id) top.funsigs } in x)
funsig_set_is g old t new top name n id r e m h i j k = top_same _ _
    (ap (λ p. as_env (at g.items p)) (h ∙ ap (λ (z : TopTables). z.env) e) ∙ sym (ap (λ (z : Top). z.env) r.is))
    (ap (map_rows (λ p. as_signature (at g.items p))) (i ∙ ap (λ (z : TopTables). z.signatures) e)
    ∙ sym (ap (λ (z : Top). z.signatures) r.is))
    (ap (map_rows (λ p. as_functor (at g.items p))) (j ∙ ap (λ (z : TopTables). z.functors) e)
    ∙ sym (ap (λ (z : Top). z.functors) r.is))
    (set_rows (λ p. as_functor (at g.items p)) name n id.place old.funsigs new.funsigs top.funsigs
    (ap (λ (z : Top). z.funsigs) r.is) m (k ∙ ap (λ (z : TopTables). with_entry n id.place z.funsigs) e))

pub env_set_are : (g : Graph) (old t new : TopTables) (top : Top) (id : EnvId)
    → ReadsTop g.items top old → t ≡ old → IsEnv (at g.items id.place)
    → new.env ≡ id.place → new.signatures ≡ t.signatures → new.functors ≡ t.functors → new.funsigs ≡ t.funsigs
    → AreTopTables g.items new
env_set_are g old t new top id r e there h i j k = record {
  env = subst (λ p. IsEnv (at g.items p)) (sym h) there;
  signatures = subst (AreAll IsSignature g.items) (sym (i ∙ ap (λ (z : TopTables). z.signatures) e)) r.are.signatures;
  functors = subst (AreAll IsFunctor g.items) (sym (j ∙ ap (λ (z : TopTables). z.functors) e)) r.are.functors;
  funsigs = subst (AreAll IsFunctor g.items) (sym (k ∙ ap (λ (z : TopTables). z.funsigs) e)) r.are.funsigs;
}

pub env_set_is : (g : Graph) (old t new : TopTables) (top : Top) (id : EnvId)
    → ReadsTop g.items top old → t ≡ old
    → new.env ≡ id.place → new.signatures ≡ t.signatures → new.functors ≡ t.functors → new.funsigs ≡ t.funsigs
    → top_of_tables g.items new ≡ (let x : Top = record top { env = env_at g id } in x)
env_set_is g old t new top id r e h i j k = top_same _ _
    (ap (λ p. as_env (at g.items p)) h)
    (ap (map_rows (λ p. as_signature (at g.items p))) (i ∙ ap (λ (z : TopTables). z.signatures) e)
    ∙ sym (ap (λ (z : Top). z.signatures) r.is))
    (ap (map_rows (λ p. as_functor (at g.items p))) (j ∙ ap (λ (z : TopTables). z.functors) e)
    ∙ sym (ap (λ (z : Top). z.functors) r.is))
    (ap (map_rows (λ p. as_functor (at g.items p))) (k ∙ ap (λ (z : TopTables). z.funsigs) e)
    ∙ sym (ap (λ (z : Top). z.funsigs) r.is))

-- the top of an environment and no tables
pub top_none_are : (items : List Item) (t : TopTables) → IsEnv (at items t.env) → t.signatures ≡ [] → t.functors ≡ []
    → t.funsigs ≡ [] → AreTopTables items t
top_none_are items t h i j k = record {
  env = h;
  signatures = subst (AreAll IsSignature items) (sym i) tt;
  functors = subst (AreAll IsFunctor items) (sym j) tt;
  funsigs = subst (AreAll IsFunctor items) (sym k) tt;
}

pub top_none_is : (items : List Item) (t : TopTables) → at items t.env ≡ Item.EnvItem empty_env → t.signatures ≡ []
    → t.functors ≡ [] → t.funsigs ≡ [] → top_of_tables items t ≡ empty_top
top_none_is items t h i j k = top_same _ _ (ap as_env h) (ap (map_rows (λ p. as_signature (at items p))) i)
    (ap (map_rows (λ p. as_functor (at items p))) j) (ap (map_rows (λ p. as_functor (at items p))) k)

-- an environment that was added, at its place
pub env_placed : (old new : Graph) (env : Env) (p q : ℕ) → Adds old new (Item.EnvItem env) p → q ≡ p
    → IsEnv (at new.items q)
env_placed old new env p q h e = subst (λ z. IsEnv (at new.items z)) (sym e) (subst IsEnv (sym h.stands) tt)

pub env_placed_as : (old new : Graph) (env : Env) (p q : ℕ) → Adds old new (Item.EnvItem env) p → q ≡ p
    → env ≡ empty_env → at new.items q ≡ Item.EnvItem empty_env
env_placed_as old new env p q h e i = ap (at new.items) e ∙ h.stands ∙ ap Item.EnvItem i

-- signatures and functors of copied names
pub signature_made : (old new : Graph) (parts : SigParts) (bound : List TyName) (id : SigId) → bound ≡ parts.bound
    → Adds old new (Item.SignatureItem (record { bound = bound; env = env_at old parts.env })) id.place
    → GivesSignature old new (signature_of old parts) id
signature_made old new parts bound id e h = gives_signature old new (signature_of old parts) id
    (subst (λ z. Adds old new (Item.SignatureItem (record { bound = z; env = env_at old parts.env })) id.place) e h)

pub functor_made : (old new : Graph) (parts : FunParts) (bound further : List TyName) (id : FunId)
    → bound ≡ parts.bound → further ≡ parts.further
    → Adds old new (Item.FunctorItem (record {
      bound = bound;
      param = env_at old parts.param;
      further = further;
      result = env_at old parts.result;
    })) id.place
    → GivesFunctor old new (functor_of old parts) id
functor_made old new parts bound further id e f h = gives_functor old new (functor_of old parts) id
    (subst (λ z. Adds old new (Item.FunctorItem (record {
      bound = parts.bound;
      param = env_at old parts.param;
      further = z;
      result = env_at old parts.result;
    })) id.place) f
    (subst (λ z. Adds old new (Item.FunctorItem (record {
      bound = z;
      param = env_at old parts.param;
      further = further;
      result = env_at old parts.result;
    })) id.place) e h))
