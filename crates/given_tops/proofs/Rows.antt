-- What stands in the tables of environments.
use Rattle.std.proofs.Common.{◌≡◌, ℕ, List, [], ◌∷◌, ◌++◌, map, refl, sym, ap, ap₂, ◌∙◌, subst, Option, Some, None, Bool, true, ◌&&◌, cond, nat_eq}
use Rattle.std.specs.Option.{is_some}
use Rattle.std.specs.Ordering.{is_lt}
use Rattle.std.specs.FinMap.Entries.{below_all, is_sorted}
use Rattle.std.proofs.lemmas.Bool.{eqb-true}
use Rattle.unification.proofs.Walking.{either_way}
use Rattle.semantic_objects.specs.declared.entry.TypeStr.{TypeStr}
use Rattle.semantic_objects.specs.Tables.{Table, IsTable, by_bytes}
use Rattle.semantic_objects.specs.Environments.{Env, structures_of, table_of}
use Rattle.env_parts.specs.declared.tables.EnvTables.{EnvTables}
use Rattle.sml_modules.specs.Items.{Item, at, as_type, as_value, as_env, IsType, IsValue, IsEnv, map_rows}
use Rattle.sml_modules.specs.Nodes.{env_of_tables, AreAll, AreEnvTables}
use Rattle.static_semantics.specs.Holding.{AllRows, TypeHas, ValueHas, StructuresHave}
use Rattle.inference_laws.specs.Nodes.{Nodes}
use Rattle.table_laws.specs.Rising.{RisingType, RisingEnv, RisingStructures}
use Rattle.environment_walks.specs.declared.places.Images.{Images}
use Rattle.environment_walks.specs.declared.steps.Step.{Step}
use Rattle.environment_walks.specs.Changing.{image_in}
use Rattle.environment_walks.specs.Stepping.{entered}
use Rattle.given_tops.specs.Fitting.{SchemeFits, FunctionFits, TypeFits, EnvFits}
use Rattle.given_tops.specs.Walking.{ItemFits, AreFit, AreDone, AreAsked}

-- ---- items

type_fits : (q : Nodes) (x : Item) → IsType x → TypeFits q (as_type x) → ItemFits q x
type_fits q (Item.TypeItem x) t h = h
type_fits q Item.Nowhere t h = absurd t
type_fits q (Item.ValueItem x) t h = absurd t
type_fits q (Item.EnvItem x) t h = absurd t
type_fits q (Item.SignatureItem x) t h = absurd t
type_fits q (Item.FunctorItem x) t h = absurd t
type_fits q (Item.TopItem x) t h = absurd t

fits_type : (q : Nodes) (x : Item) → IsType x → ItemFits q x → TypeFits q (as_type x)
fits_type q (Item.TypeItem x) t h = h
fits_type q Item.Nowhere t h = absurd t
fits_type q (Item.ValueItem x) t h = absurd t
fits_type q (Item.EnvItem x) t h = absurd t
fits_type q (Item.SignatureItem x) t h = absurd t
fits_type q (Item.FunctorItem x) t h = absurd t
fits_type q (Item.TopItem x) t h = absurd t

value_fits : (q : Nodes) (x : Item) → IsValue x → ValueHas (SchemeFits q) (as_value x) → ItemFits q x
value_fits q (Item.ValueItem x) t h = h
value_fits q Item.Nowhere t h = absurd t
value_fits q (Item.TypeItem x) t h = absurd t
value_fits q (Item.EnvItem x) t h = absurd t
value_fits q (Item.SignatureItem x) t h = absurd t
value_fits q (Item.FunctorItem x) t h = absurd t
value_fits q (Item.TopItem x) t h = absurd t

fits_value : (q : Nodes) (x : Item) → IsValue x → ItemFits q x → ValueHas (SchemeFits q) (as_value x)
fits_value q (Item.ValueItem x) t h = h
fits_value q Item.Nowhere t h = absurd t
fits_value q (Item.TypeItem x) t h = absurd t
fits_value q (Item.EnvItem x) t h = absurd t
fits_value q (Item.SignatureItem x) t h = absurd t
fits_value q (Item.FunctorItem x) t h = absurd t
fits_value q (Item.TopItem x) t h = absurd t

pub env_fits : (q : Nodes) (x : Item) → IsEnv x → EnvFits q (as_env x) → ItemFits q x
env_fits q (Item.EnvItem x) t h = h
env_fits q Item.Nowhere t h = absurd t
env_fits q (Item.TypeItem x) t h = absurd t
env_fits q (Item.ValueItem x) t h = absurd t
env_fits q (Item.SignatureItem x) t h = absurd t
env_fits q (Item.FunctorItem x) t h = absurd t
env_fits q (Item.TopItem x) t h = absurd t

pub fits_env : (q : Nodes) (x : Item) → IsEnv x → ItemFits q x → EnvFits q (as_env x)
fits_env q (Item.EnvItem x) t h = h
fits_env q Item.Nowhere t h = absurd t
fits_env q (Item.TypeItem x) t h = absurd t
fits_env q (Item.ValueItem x) t h = absurd t
fits_env q (Item.SignatureItem x) t h = absurd t
fits_env q (Item.FunctorItem x) t h = absurd t
fits_env q (Item.TopItem x) t h = absurd t

-- ---- rows with the same names rise as they do

below_same : {A B : Type 0} (f : A → B) (name : List ℕ) (rows : Table A)
    → below_all by_bytes name (map_rows f rows) ≡ below_all by_bytes name rows
below_same f name [] = refl
below_same f name (row ∷ rows) = ap (λ b. is_lt (by_bytes name row.0) && b) (below_same f name rows)

rises_same : {A B : Type 0} (f : A → B) (rows : Table A)
    → is_sorted by_bytes (map_rows f rows) ≡ is_sorted by_bytes rows
rises_same f [] = refl
rises_same f (row ∷ rows) = ap₂ (λ a b. a && b) (below_same f row.0 rows) (rises_same f rows)

pub mapped_table : {A B : Type 0} (f : A → B) (rows : Table A) → IsTable rows → IsTable (map_rows f rows)
mapped_table f rows h = rises_same f rows ∙ h

back : (rows : Table Env) → table_of (structures_of rows) ≡ rows
back [] = refl
back (row ∷ rows) = ap (λ z. row ∷ z) (back rows)

-- ---- the rows of an environment

abbrev pub RowsFit : Nodes → List Item → Table ℕ → Type 0
RowsFit q items [] = Unit {0}
RowsFit q items (row ∷ rows) = ItemFits q (at items row.1) × RowsFit q items rows

module _ (q : Nodes) (items : List Item) where
  types_fit : (rows : Table ℕ) → AreAll IsType items rows
      → AllRows (TypeHas (SchemeFits q) (FunctionFits q)) (map_rows (λ p. as_type (at items p)) rows)
      → AllRows RisingType (map_rows (λ p. as_type (at items p)) rows) → RowsFit q items rows
  types_fit [] a h k = tt
  types_fit (row ∷ rows) a h k = (
    type_fits q (at items row.1) a.0 (record { has = h.0; rises = k.0 }),
    types_fit rows a.1 h.1 k.1,
  )

  types_have : (rows : Table ℕ) → AreAll IsType items rows → RowsFit q items rows
      → AllRows (TypeHas (SchemeFits q) (FunctionFits q)) (map_rows (λ p. as_type (at items p)) rows)
  types_have [] a h = tt
  types_have (row ∷ rows) a h = (TypeFits.has (fits_type q (at items row.1) a.0 h.0), types_have rows a.1 h.1)

  types_rise : (rows : Table ℕ) → AreAll IsType items rows → RowsFit q items rows
      → AllRows RisingType (map_rows (λ p. as_type (at items p)) rows)
  types_rise [] a h = tt
  types_rise (row ∷ rows) a h = (TypeFits.rises (fits_type q (at items row.1) a.0 h.0), types_rise rows a.1 h.1)

  values_fit : (rows : Table ℕ) → AreAll IsValue items rows
      → AllRows (ValueHas (SchemeFits q)) (map_rows (λ p. as_value (at items p)) rows) → RowsFit q items rows
  values_fit [] a h = tt
  values_fit (row ∷ rows) a h = (value_fits q (at items row.1) a.0 h.0, values_fit rows a.1 h.1)

  values_have : (rows : Table ℕ) → AreAll IsValue items rows → RowsFit q items rows
      → AllRows (ValueHas (SchemeFits q)) (map_rows (λ p. as_value (at items p)) rows)
  values_have [] a h = tt
  values_have (row ∷ rows) a h = (fits_value q (at items row.1) a.0 h.0, values_have rows a.1 h.1)

  structures_fit : (rows : Table ℕ) → AreAll IsEnv items rows
      → StructuresHave (SchemeFits q) (FunctionFits q) (structures_of (map_rows (λ p. as_env (at items p)) rows))
      → RisingStructures (structures_of (map_rows (λ p. as_env (at items p)) rows)) → RowsFit q items rows
  structures_fit [] a h k = tt
  structures_fit (row ∷ rows) a h k = (
    env_fits q (at items row.1) a.0 (record { has = h.0; rises = k.0 }),
    structures_fit rows a.1 h.1 k.1,
  )

  structures_have : (rows : Table ℕ) → AreAll IsEnv items rows → RowsFit q items rows
      → StructuresHave (SchemeFits q) (FunctionFits q) (structures_of (map_rows (λ p. as_env (at items p)) rows))
  structures_have [] a h = tt
  structures_have (row ∷ rows) a h = (EnvFits.has (fits_env q (at items row.1) a.0 h.0), structures_have rows a.1 h.1)

  structures_rise : (rows : Table ℕ) → AreAll IsEnv items rows → RowsFit q items rows
      → RisingStructures (structures_of (map_rows (λ p. as_env (at items p)) rows))
  structures_rise [] a h = tt
  structures_rise (row ∷ rows) a h = (EnvFits.rises (fits_env q (at items row.1) a.0 h.0), structures_rise rows a.1 h.1)

  -- an environment may be given exactly where the rows of its tables may
  pub record TablesFit (t : EnvTables) : Type 0 where
    pub structures : RowsFit q items t.structures
    pub types : RowsFit q items t.types
    pub values : RowsFit q items t.values

  pub tables_fit : (t : EnvTables) → AreEnvTables items t → EnvFits q (env_of_tables items t) → TablesFit t
  tables_fit t a h = of h.has h.rises
    where
      of : StructuresHave (SchemeFits q) (FunctionFits q) (structures_of (map_rows (λ p. as_env (at items p)) t.structures))
          × AllRows (TypeHas (SchemeFits q) (FunctionFits q)) (map_rows (λ p. as_type (at items p)) t.types)
          × AllRows (ValueHas (SchemeFits q)) (map_rows (λ p. as_value (at items p)) t.values)
          → RisingEnv (env_of_tables items t) → TablesFit t
      of k r = record {
        structures = structures_fit t.structures a.structures k.0 r.1;
        types = types_fit t.types a.types k.1 (rows_of r.2);
        values = values_fit t.values a.values k.2;
      }
        where
          rows_of : IsTable (map_rows (λ p. as_type (at items p)) t.types)
              × AllRows RisingType (map_rows (λ p. as_type (at items p)) t.types)
              → AllRows RisingType (map_rows (λ p. as_type (at items p)) t.types)
          rows_of w = w.1

  pub fits_tables : (t : EnvTables) → AreEnvTables items t → IsTable t.structures → IsTable t.types → IsTable t.values
      → TablesFit t → EnvFits q (env_of_tables items t)
  fits_tables t a ss ts vs h = record {
    has = (
      structures_have t.structures a.structures h.structures,
      types_have t.types a.types h.types,
      values_have t.values a.values h.values,
    );
    rises = (
      subst IsTable (sym (back (map_rows (λ p. as_env (at items p)) t.structures)))
          (mapped_table (λ p. as_env (at items p)) t.structures ss),
      structures_rise t.structures a.structures h.structures,
      (mapped_table (λ p. as_type (at items p)) t.types ts, types_rise t.types a.types h.types),
      mapped_table (λ p. as_value (at items p)) t.values vs,
    );
  }

-- ---- what is done

abbrev pub IsSet : Images → Images → ℕ → ℕ → Type 0
IsSet old new place image = (p : ℕ) → image_in new p ≡ cond (nat_eq place p) (Some image) (image_in old p)

pub none_fit : (q : Nodes) (items : List Item) (done : Images) → ((p : ℕ) → image_in done p ≡ None)
    → AreFit q items done
none_fit q items done h = record { each = λ p r e. let k : None ≡ Some r = sym (h p) ∙ e in absurd (cc) }

pub set_fits : (q : Nodes) (items : List Item) (old new : Images) (place image : ℕ) → AreFit q items old
    → ItemFits q (at items place) → IsSet old new place image → AreFit q items new
set_fits q items old new place image h k set = record {
  each = λ p r e. either_way (nat_eq place p)
      (λ s. subst (λ z. ItemFits q (at items z)) (eqb-true place p s) k)
      (λ s. h.each p r (sym (ap (λ b. cond b (Some image) (image_in old p)) s) ∙ sym (set p) ∙ e));
}

some_fits : (q : Nodes) (items : List Item) (done : Images) (p : ℕ) → AreFit q items done → (o : Option ℕ)
    → image_in done p ≡ o → is_some o ≡ true → ItemFits q (at items p)
some_fits q items done p h (Some r) e s = h.each p r e
some_fits q items done p h None e s = absurd (cc)

pub done_fits : (q : Nodes) (items : List Item) (done : Images) (p : ℕ) → AreFit q items done
    → is_some (image_in done p) ≡ true → ItemFits q (at items p)
done_fits q items done p h s = some_fits q items done p h (image_in done p) refl s

pub rows_done : (q : Nodes) (items : List Item) (done : Images) (rows : Table ℕ) → AreFit q items done
    → AreDone done (map (λ row. row.1) rows) → RowsFit q items rows
rows_done q items done [] h k = tt
rows_done q items done (row ∷ rows) h k = (done_fits q items done row.1 h k.0, rows_done q items done rows h k.1)

-- ---- what is asked

pub asked_append : (q : Nodes) (items : List Item) (root : ℕ) (xs ys : List Step) → AreAsked q items root xs
    → AreAsked q items root ys → AreAsked q items root (xs ++ ys)
asked_append q items root [] ys h k = k
asked_append q items root (x ∷ xs) ys h k = (h.0, asked_append q items root xs ys h.1 k)

pub asked_front : (q : Nodes) (items : List Item) (root : ℕ) (xs ys : List Step) → AreAsked q items root (xs ++ ys)
    → AreAsked q items root xs
asked_front q items root [] ys h = tt
asked_front q items root (x ∷ xs) ys h = (h.0, asked_front q items root xs ys h.1)

pub asked_back : (q : Nodes) (items : List Item) (root : ℕ) (xs ys : List Step) → AreAsked q items root (xs ++ ys)
    → AreAsked q items root ys
asked_back q items root [] ys h = h
asked_back q items root (x ∷ xs) ys h = asked_back q items root xs ys h.1

pub rows_asked : (q : Nodes) (items : List Item) (root : ℕ) (rows : Table ℕ)
    → (ItemFits q (at items root) → RowsFit q items rows)
    → AreAsked q items root (entered (map (λ row. row.1) rows))
rows_asked q items root [] h = tt
rows_asked q items root (row ∷ rows) h =
    asked_append q items root (entered (map (λ r. r.1) rows)) _ (rows_asked q items root rows (λ k. (h k).1))
    ((λ k. (h k).0), tt)
