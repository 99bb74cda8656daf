-- What stands in the tables of environments.
use Rattle.std.proofs.Common.{◌≡◌, ℕ, List, [], ◌∷◌, ◌++◌, map, refl, sym, ap, ◌∙◌, subst, Option, Some, None, true, cond, nat_eq}
use Rattle.std.specs.Option.{is_some}
use Rattle.std.proofs.lemmas.Bool.{eqb-true}
use Rattle.unification.proofs.Walking.{either_way}
use Rattle.semantic_objects.specs.Tables.{Table}
use Rattle.semantic_objects.specs.Environments.{structures_of}
use Rattle.env_parts.specs.declared.tables.EnvTables.{EnvTables}
use Rattle.sml_modules.specs.Items.{Item, at, as_type, as_value, as_env, IsType, IsValue, IsEnv, map_rows}
use Rattle.sml_modules.specs.Nodes.{env_of_tables, AreAll, AreEnvTables}
use Rattle.static_semantics.specs.Holding.{AllRows, TypeHas, ValueHas, StructuresHave}
use Rattle.environment_walks.specs.declared.places.Images.{Images}
use Rattle.environment_walks.specs.declared.steps.Step.{Step}
use Rattle.environment_walks.specs.Changing.{image_in}
use Rattle.environment_walks.specs.Stepping.{entered}
use Rattle.environment_ages.specs.Below.{SchemeBelow, FunctionBelow, StandsBelow}
use Rattle.environment_ages.specs.Walking.{ItemBelow, AreBelow, AreDone, AreAsked}

-- ---- rows

abbrev pub RowsBelow : ℕ → List Item → Table ℕ → Type 0
RowsBelow n items [] = Unit {0}
RowsBelow n items (row ∷ rows) = ItemBelow n (at items row.1) × RowsBelow n items rows

type_below : (n : ℕ) (x : Item) → IsType x → TypeHas (SchemeBelow n) (FunctionBelow n) (as_type x) → ItemBelow n x
type_below n (Item.TypeItem x) t h = h
type_below n Item.Nowhere t h = absurd t
type_below n (Item.ValueItem x) t h = absurd t
type_below n (Item.EnvItem x) t h = absurd t
type_below n (Item.SignatureItem x) t h = absurd t
type_below n (Item.FunctorItem x) t h = absurd t
type_below n (Item.TopItem x) t h = absurd t

below_type : (n : ℕ) (x : Item) → IsType x → ItemBelow n x → TypeHas (SchemeBelow n) (FunctionBelow n) (as_type x)
below_type n (Item.TypeItem x) t h = h
below_type n Item.Nowhere t h = absurd t
below_type n (Item.ValueItem x) t h = absurd t
below_type n (Item.EnvItem x) t h = absurd t
below_type n (Item.SignatureItem x) t h = absurd t
below_type n (Item.FunctorItem x) t h = absurd t
below_type n (Item.TopItem x) t h = absurd t

value_below : (n : ℕ) (x : Item) → IsValue x → ValueHas (SchemeBelow n) (as_value x) → ItemBelow n x
value_below n (Item.ValueItem x) t h = h
value_below n Item.Nowhere t h = absurd t
value_below n (Item.TypeItem x) t h = absurd t
value_below n (Item.EnvItem x) t h = absurd t
value_below n (Item.SignatureItem x) t h = absurd t
value_below n (Item.FunctorItem x) t h = absurd t
value_below n (Item.TopItem x) t h = absurd t

below_value : (n : ℕ) (x : Item) → IsValue x → ItemBelow n x → ValueHas (SchemeBelow n) (as_value x)
below_value n (Item.ValueItem x) t h = h
below_value n Item.Nowhere t h = absurd t
below_value n (Item.TypeItem x) t h = absurd t
below_value n (Item.EnvItem x) t h = absurd t
below_value n (Item.SignatureItem x) t h = absurd t
below_value n (Item.FunctorItem x) t h = absurd t
below_value n (Item.TopItem x) t h = absurd t

pub env_below : (n : ℕ) (x : Item) → IsEnv x → StandsBelow n (as_env x) → ItemBelow n x
env_below n (Item.EnvItem x) t h = h
env_below n Item.Nowhere t h = absurd t
env_below n (Item.TypeItem x) t h = absurd t
env_below n (Item.ValueItem x) t h = absurd t
env_below n (Item.SignatureItem x) t h = absurd t
env_below n (Item.FunctorItem x) t h = absurd t
env_below n (Item.TopItem x) t h = absurd t

pub below_env : (n : ℕ) (x : Item) → IsEnv x → ItemBelow n x → StandsBelow n (as_env x)
below_env n (Item.EnvItem x) t h = h
below_env n Item.Nowhere t h = absurd t
below_env n (Item.TypeItem x) t h = absurd t
below_env n (Item.ValueItem x) t h = absurd t
below_env n (Item.SignatureItem x) t h = absurd t
below_env n (Item.FunctorItem x) t h = absurd t
below_env n (Item.TopItem x) t h = absurd t

module _ (n : ℕ) (items : List Item) where
  types_below : (rows : Table ℕ) → AreAll IsType items rows
      → AllRows (TypeHas (SchemeBelow n) (FunctionBelow n)) (map_rows (λ p. as_type (at items p)) rows)
      → RowsBelow n items rows
  types_below [] a h = tt
  types_below (row ∷ rows) a h = (type_below n (at items row.1) a.0 h.0, types_below rows a.1 h.1)

  below_types : (rows : Table ℕ) → AreAll IsType items rows → RowsBelow n items rows
      → AllRows (TypeHas (SchemeBelow n) (FunctionBelow n)) (map_rows (λ p. as_type (at items p)) rows)
  below_types [] a h = tt
  below_types (row ∷ rows) a h = (below_type n (at items row.1) a.0 h.0, below_types rows a.1 h.1)

  values_below : (rows : Table ℕ) → AreAll IsValue items rows
      → AllRows (ValueHas (SchemeBelow n)) (map_rows (λ p. as_value (at items p)) rows) → RowsBelow n items rows
  values_below [] a h = tt
  values_below (row ∷ rows) a h = (value_below n (at items row.1) a.0 h.0, values_below rows a.1 h.1)

  below_values : (rows : Table ℕ) → AreAll IsValue items rows → RowsBelow n items rows
      → AllRows (ValueHas (SchemeBelow n)) (map_rows (λ p. as_value (at items p)) rows)
  below_values [] a h = tt
  below_values (row ∷ rows) a h = (below_value n (at items row.1) a.0 h.0, below_values rows a.1 h.1)

  structures_below : (rows : Table ℕ) → AreAll IsEnv items rows
      → StructuresHave (SchemeBelow n) (FunctionBelow n) (structures_of (map_rows (λ p. as_env (at items p)) rows))
      → RowsBelow n items rows
  structures_below [] a h = tt
  structures_below (row ∷ rows) a h = (env_below n (at items row.1) a.0 h.0, structures_below rows a.1 h.1)

  below_structures : (rows : Table ℕ) → AreAll IsEnv items rows → RowsBelow n items rows
      → StructuresHave (SchemeBelow n) (FunctionBelow n) (structures_of (map_rows (λ p. as_env (at items p)) rows))
  below_structures [] a h = tt
  below_structures (row ∷ rows) a h = (below_env n (at items row.1) a.0 h.0, below_structures rows a.1 h.1)

  -- an environment stands so exactly where the rows of its tables do
  pub record TablesBelow (t : EnvTables) : Type 0 where
    pub structures : RowsBelow n items t.structures
    pub types : RowsBelow n items t.types
    pub values : RowsBelow n items t.values

  pub tables_below : (t : EnvTables) → AreEnvTables items t → StandsBelow n (env_of_tables items t) → TablesBelow t
  tables_below t a h = record {
    structures = structures_below t.structures a.structures h.0;
    types = types_below t.types a.types h.1;
    values = values_below t.values a.values h.2;
  }

  pub below_tables : (t : EnvTables) → AreEnvTables items t → TablesBelow t → StandsBelow n (env_of_tables items t)
  below_tables t a h = (
    below_structures t.structures a.structures h.structures,
    below_types t.types a.types h.types,
    below_values t.values a.values h.values,
  )

-- ---- what is done

abbrev pub IsSet : Images → Images → ℕ → ℕ → Type 0
IsSet old new place image = (p : ℕ) → image_in new p ≡ cond (nat_eq place p) (Some image) (image_in old p)

pub set_below : (n : ℕ) (items : List Item) (old new : Images) (place image : ℕ) → AreBelow n items old
    → ItemBelow n (at items place) → IsSet old new place image → AreBelow n items new
set_below n items old new place image h k set = record {
  each = λ p q e. either_way (nat_eq place p)
      (λ s. subst (λ z. ItemBelow n (at items z)) (eqb-true place p s) k)
      (λ s. h.each p q (sym (ap (λ b. cond b (Some image) (image_in old p)) s) ∙ sym (set p) ∙ e));
}

some_below : (n : ℕ) (items : List Item) (done : Images) (p : ℕ) → AreBelow n items done → (o : Option ℕ)
    → image_in done p ≡ o → is_some o ≡ true → ItemBelow n (at items p)
some_below n items done p h (Some q) e s = h.each p q e
some_below n items done p h None e s = absurd (cc)

pub done_below : (n : ℕ) (items : List Item) (done : Images) (p : ℕ) → AreBelow n items done
    → is_some (image_in done p) ≡ true → ItemBelow n (at items p)
done_below n items done p h s = some_below n items done p h (image_in done p) refl s

pub rows_done : (n : ℕ) (items : List Item) (done : Images) (rows : Table ℕ) → AreBelow n items done
    → AreDone done (map (λ row. row.1) rows) → RowsBelow n items rows
rows_done n items done [] h k = tt
rows_done n items done (row ∷ rows) h k = (done_below n items done row.1 h k.0, rows_done n items done rows h k.1)

-- ---- what is asked

pub asked_append : (n : ℕ) (items : List Item) (root : ℕ) (xs ys : List Step) → AreAsked n items root xs
    → AreAsked n items root ys → AreAsked n items root (xs ++ ys)
asked_append n items root [] ys h k = k
asked_append n items root (x ∷ xs) ys h k = (h.0, asked_append n items root xs ys h.1 k)

pub asked_front : (n : ℕ) (items : List Item) (root : ℕ) (xs ys : List Step) → AreAsked n items root (xs ++ ys)
    → AreAsked n items root xs
asked_front n items root [] ys h = tt
asked_front n items root (x ∷ xs) ys h = (h.0, asked_front n items root xs ys h.1)

pub asked_back : (n : ℕ) (items : List Item) (root : ℕ) (xs ys : List Step) → AreAsked n items root (xs ++ ys)
    → AreAsked n items root ys
asked_back n items root [] ys h = h
asked_back n items root (x ∷ xs) ys h = asked_back n items root xs ys h.1

pub rows_asked : (n : ℕ) (items : List Item) (root : ℕ) (rows : Table ℕ)
    → (ItemBelow n (at items root) → RowsBelow n items rows)
    → AreAsked n items root (entered (map (λ row. row.1) rows))
rows_asked n items root [] h = tt
rows_asked n items root (row ∷ rows) h =
    asked_append n items root (entered (map (λ r. r.1) rows)) _ (rows_asked n items root rows (λ k. (h k).1))
    ((λ k. (h k).0), tt)
