-- The types of structures by the places of what stands in them.
use Rattle.std.proofs.Common.{◌≡◌, ℕ, List, [], ◌∷◌, ◌++◌, map, refl, sym, ap, ap₂, ◌∙◌, Bool, false, ◌||◌}
use Rattle.std.specs.Prelude.{ltb}
use Rattle.std.specs.List.{list_any}
use Rattle.std.proofs.lemmas.List.{append_assoc}
use Rattle.std.proofs.lemmas.List.Folds.{list_any-append}
use Rattle.semantic_objects.specs.declared.entry.TypeStr.{TypeStr}
use Rattle.semantic_objects.specs.declared.entry.ValueEntry.{ValueEntry}
use Rattle.semantic_objects.specs.Tables.{Table, with_all}
use Rattle.semantic_objects.specs.Environments.{structures_of}
use Rattle.unification.specs.Types.{Substitution}
use Rattle.env_parts.specs.declared.facts.Facts.{Facts}
use Rattle.env_parts.specs.declared.tables.EnvTables.{EnvTables}
use Rattle.env_parts.specs.Types.{facts_of, type_types, value_types, types_in_structures, types_in_types, types_in_values}
use Rattle.sml_modules.specs.declared.parts.NamedEnv.{NamedEnv}
use Rattle.sml_modules.specs.Items.{Item, at, as_env, as_type, as_value, IsEnv, IsType, IsValue, map_rows, item_facts}
use Rattle.sml_modules.specs.Graphs.{Graph, env_at, HasEnvs, structure_rows}
use Rattle.sml_modules.specs.Nodes.{AreAll}
use Rattle.sml_modules.specs.Adding.{ReadsEnv, place_rows}
use Rattle.sml_modules.proofs.Setting.{all_map, all_with_all}
use Rattle.static_semantics.specs.Inferring.{structure_bodies}
use Rattle.environment_walks.specs.declared.steps.Step.{Step}
use Rattle.environment_walks.specs.declared.steps.Step.TheVariants as step
use Rattle.environment_walks.specs.Stepping.{entered}
use Rattle.declaration_ends.specs.Sizes.{is_large_in, any_large, large_type}
use Rattle.declaration_ends.specs.Structures.{item_types, large_at, row_places, IsOpened}
use Rattle.declaration_ends.proofs.Sizing.{facts_large, same_structures}
use Rattle.declaration_ends.proofs.Meeting.{or_false, opened, entered_append}

-- ---- what is known at a place at once

item_told : (x : Item) → item_facts x ≡ facts_of (item_types x)
item_told Item.Nowhere = refl
item_told (Item.TypeItem x) = refl
item_told (Item.ValueItem x) = refl
item_told (Item.EnvItem x) = refl
item_told (Item.SignatureItem x) = refl
item_told (Item.FunctorItem x) = refl
item_told (Item.TopItem x) = refl

pub facts_tell : (s : Substitution) (items : List Item) (p : ℕ) (f : Facts) → f ≡ item_facts (at items p)
    → f.has_free ≡ false → ltb 65536 f.largest ≡ large_at s items p
facts_tell s items p f e h =
    let is : f ≡ facts_of (item_types (at items p)) = e ∙ item_told (at items p) in
    ap (λ (x : Facts). ltb 65536 x.largest) is
    ∙ facts_large s (item_types (at items p)) (ap (λ (x : Facts). x.has_free) (sym is) ∙ h)

pub type_tells : (s : Substitution) (items : List Item) (p : ℕ) (entry : TypeStr) (b : Bool)
    → at items p ≡ Item.TypeItem entry → b ≡ large_type s entry → b ≡ large_at s items p
type_tells s items p entry b e h = h ∙ ap (λ x. any_large s (item_types x)) (sym e)

pub value_tells : (s : Substitution) (items : List Item) (p : ℕ) (entry : ValueEntry) (b : Bool)
    → at items p ≡ Item.ValueItem entry → b ≡ is_large_in s entry.scheme.body → b ≡ large_at s items p
value_tells s items p entry b e h =
    h ∙ sym (or_false (is_large_in s entry.scheme.body)) ∙ ap (λ x. any_large s (item_types x)) (sym e)

-- ---- environments

module _ (s : Substitution) (items : List Item) where
  env_is : (x : Item) → IsEnv x → any_large s (item_types (Item.EnvItem (as_env x))) ≡ any_large s (item_types x)
  env_is (Item.EnvItem e) h = refl
  env_is Item.Nowhere h = absurd h
  env_is (Item.TypeItem x) h = absurd h
  env_is (Item.ValueItem x) h = absurd h
  env_is (Item.SignatureItem x) h = absurd h
  env_is (Item.FunctorItem x) h = absurd h
  env_is (Item.TopItem x) h = absurd h

  type_is : (x : Item) → IsType x → any_large s (type_types (as_type x)) ≡ any_large s (item_types x)
  type_is (Item.TypeItem x) h = refl
  type_is Item.Nowhere h = absurd h
  type_is (Item.EnvItem x) h = absurd h
  type_is (Item.ValueItem x) h = absurd h
  type_is (Item.SignatureItem x) h = absurd h
  type_is (Item.FunctorItem x) h = absurd h
  type_is (Item.TopItem x) h = absurd h

  value_is : (x : Item) → IsValue x → any_large s (value_types (as_value x)) ≡ any_large s (item_types x)
  value_is (Item.ValueItem x) h = refl
  value_is Item.Nowhere h = absurd h
  value_is (Item.EnvItem x) h = absurd h
  value_is (Item.TypeItem x) h = absurd h
  value_is (Item.SignatureItem x) h = absurd h
  value_is (Item.FunctorItem x) h = absurd h
  value_is (Item.TopItem x) h = absurd h

  structures_are : (rows : Table ℕ) → AreAll IsEnv items rows
      → any_large s (types_in_structures (structures_of (map_rows (λ p. as_env (at items p)) rows)))
      ≡ list_any (large_at s items) (row_places rows)
  structures_are [] h = refl
  structures_are (r ∷ rs) h =
      list_any-append (is_large_in s) (item_types (Item.EnvItem (as_env (at items r.1))))
      (types_in_structures (structures_of (map_rows (λ p. as_env (at items p)) rs)))
      ∙ ap₂ (λ a b. a || b) (env_is (at items r.1) h.0) (structures_are rs h.1)

  types_are : (rows : Table ℕ) → AreAll IsType items rows
      → any_large s (types_in_types (map_rows (λ p. as_type (at items p)) rows))
      ≡ list_any (large_at s items) (row_places rows)
  types_are [] h = refl
  types_are (r ∷ rs) h =
      list_any-append (is_large_in s) (type_types (as_type (at items r.1)))
      (types_in_types (map_rows (λ p. as_type (at items p)) rs))
      ∙ ap₂ (λ a b. a || b) (type_is (at items r.1) h.0) (types_are rs h.1)

  values_are : (rows : Table ℕ) → AreAll IsValue items rows
      → any_large s (types_in_values (map_rows (λ p. as_value (at items p)) rows))
      ≡ list_any (large_at s items) (row_places rows)
  values_are [] h = refl
  values_are (r ∷ rs) h =
      list_any-append (is_large_in s) (value_types (as_value (at items r.1)))
      (types_in_values (map_rows (λ p. as_value (at items p)) rs))
      ∙ ap₂ (λ a b. a || b) (value_is (at items r.1) h.0) (values_are rs h.1)

  -- the places of all rows of the tables of an environment
  abbrev part_places : EnvTables → List ℕ
  part_places t = row_places t.structures ++ (row_places t.types ++ row_places t.values)

  tables_are : (p : ℕ) (t : EnvTables) → IsEnv (at items p) → ReadsEnv items (as_env (at items p)) t
      → large_at s items p ≡ list_any (large_at s items) (part_places t)
  tables_are p t h r =
      let ss = types_in_structures (structures_of (map_rows (λ p. as_env (at items p)) t.structures)) in
      let ts = types_in_types (map_rows (λ p. as_type (at items p)) t.types) in
      let vs = types_in_values (map_rows (λ p. as_value (at items p)) t.values) in
      let L : ℕ → Bool = large_at s items in
      sym (env_is (at items p) h)
      ∙ ap (λ e. any_large s (item_types (Item.EnvItem e))) r.is
      ∙ list_any-append (is_large_in s) ss (ts ++ vs)
      ∙ ap₂ (λ a b. a || b) (structures_are t.structures r.are.structures)
      (list_any-append (is_large_in s) ts vs
      ∙ ap₂ (λ a b. a || b) (types_are t.types r.are.types) (values_are t.values r.are.values)
      ∙ sym (list_any-append L (row_places t.types) (row_places t.values)))
      ∙ sym (list_any-append L (row_places t.structures) (row_places t.types ++ row_places t.values))

  pub env_opened : (before one two three four : List Step) (p : ℕ) (t : EnvTables) → IsEnv (at items p)
      → ReadsEnv items (as_env (at items p)) t → one ≡ before ++ step.Leave p ∷ []
      → two ≡ one ++ entered (map (λ row. row.1) t.values) → three ≡ two ++ entered (map (λ row. row.1) t.types)
      → four ≡ three ++ entered (map (λ row. row.1) t.structures) → IsOpened (large_at s items) p before four
  env_opened before one two three four p t h r a b c d =
      let ss : List Step = entered (row_places t.structures) in
      let ts : List Step = entered (row_places t.types) in
      let vs : List Step = entered (row_places t.values) in
      let parts : entered (part_places t) ≡ (vs ++ ts) ++ ss =
      entered_append (row_places t.structures) (row_places t.types ++ row_places t.values)
      ∙ ap (λ z. z ++ ss) (entered_append (row_places t.types) (row_places t.values)) in
      let after : four ≡ (before ++ step.Leave p ∷ []) ++ entered (part_places t) =
      d ∙ ap (λ z. z ++ ss) (c ∙ ap (λ z. z ++ ts) (b ∙ ap (λ z. z ++ vs) a))
      ∙ ap (λ z. z ++ ss) (append_assoc (before ++ step.Leave p ∷ []) vs ts)
      ∙ append_assoc (before ++ step.Leave p ∷ []) (vs ++ ts) ss
      ∙ ap (λ z. (before ++ step.Leave p ∷ []) ++ z) (sym parts) in
      opened (large_at s items) before four p (part_places t) (tables_are p t h r) after

-- ---- the structures of a declaration

places_map : (g : Graph) (entries : List NamedEnv)
    → structure_rows g entries ≡ map_rows (λ p. as_env (at g.items p)) (place_rows entries)
places_map g [] = refl
places_map g (e ∷ es) = ap (λ z. (e.name, env_at g e.env) ∷ z) (places_map g es)

places_are : (g : Graph) (entries : List NamedEnv) → HasEnvs g entries → AreAll IsEnv g.items (place_rows entries)
places_are g [] h = tt
places_are g (e ∷ es) h = (h.0, places_are g es h.1)

pub structures_large : (s : Substitution) (g : Graph) (entries : List NamedEnv) (places : List ℕ) (b : Bool)
    → HasEnvs g entries → places ≡ row_places (with_all (place_rows entries) [])
    → b ≡ list_any (large_at s g.items) places
    → b ≡ any_large s (structure_bodies (structures_of (with_all (structure_rows g entries) [])))
structures_large s g entries places b h e k =
    let rows : Table ℕ = with_all (place_rows entries) [] in
    k ∙ ap (list_any (large_at s g.items)) e
    ∙ sym (structures_are s g.items rows
    (all_with_all IsEnv g.items (place_rows entries) [] (places_are g entries h) tt))
    ∙ ap (any_large s) (sym (same_structures (structures_of (map_rows (λ p. as_env (at g.items p)) rows))))
    ∙ ap (λ z. any_large s (structure_bodies (structures_of z)))
    (sym (all_map (λ p. as_env (at g.items p)) (place_rows entries) []) ∙ ap (λ z. with_all z []) (sym (places_map g entries)))
