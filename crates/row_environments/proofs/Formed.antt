-- Environments over tables of places, and the rows that are environments.
use Rattle.std.proofs.Common.{◌≡◌, ◌≢◌, ℕ, zero, suc, ◌<◌, refl, sym, ap, subst, ◌∙◌, arith, List, [], ◌∷◌, length, map, get_or, Option, Some, None, inl, inr}
use Rattle.std.specs.List.{AllByRecursion}
use Rattle.std.specs.Prelude.{All}
use Rattle.std.proofs.lemmas.List.Elements.{All-head, All-tail}
use Rattle.node_bytes.specs.Nodes.{Node, Content}
use Rattle.node_bytes.specs.Tables.{content_of, row_node}
use Rattle.node_bytes.specs.declared.table.Item as part
use Rattle.node_bytes.specs.declared.table.Row.{Row}
use Rattle.semantic_objects.specs.declared.entry.TypeStr.{TypeStr}
use Rattle.semantic_objects.specs.declared.entry.ValueEntry.{ValueEntry}
use Rattle.semantic_objects.specs.Environments.{Env, Structures, structures, types, values, table_of}
use Rattle.semantic_objects.specs.Tables.{Table, names_of}
use Rattle.semantic_objects.specs.Trees.{TypeScheme}
use Rattle.env_parts.specs.declared.tables.EnvTables.{EnvTables}
use Rattle.interface_format.specs.Tags.{ValueRow}
use Rattle.interface_format.specs.Trees.{rows_by, structure_rows, node_of_type, row_of_value}
use Rattle.interface_format.specs.Rules.{IsNumber, IsName, AreNames}
use Rattle.interface_format.specs.Rules as rules
use Rattle.interface_format.proofs.Entries.{rows_counted}
use Rattle.interface_nodes.specs.declared.fields.NamedPlace.{NamedPlace}
use Rattle.interface_nodes.specs.declared.fields.ValuePlace.{ValuePlace}
use Rattle.interface_nodes.specs.Fields.{node_at, rows_at, values_at}
use Rattle.sml_modules.specs.Items.{Item, at, as_type, as_value, as_env, IsType, IsEnv, map_rows}
use Rattle.sml_modules.specs.Graphs.{Graph}
use Rattle.sml_modules.specs.Nodes.{AreEnvTables, env_of_tables}
use Rattle.sml_modules.specs.Adding.{Extends, Adds}
use Rattle.sml_modules.proofs.Setting.{names_map}
use Rattle.row_fields.specs.Listing.{HasName, IsValueName}
use Rattle.row_types.specs.Told.{name_of}
use Rattle.row_forms.specs.declared.modules.EnvForm.{EnvForm}
use Rattle.row_forms.specs.Forms.{IsForm, NeverForm, with_env, FitsEnv, env_at}
use Rattle.row_entries.specs.declared.rows.EntryRows.{EntryRows}
use Rattle.row_entries.specs.Told.{IsSchemeOf, IsStructureOf, RowsAre, AreEntries}
use Rattle.row_entries.proofs.Found.{row_is}
use Rattle.row_entries.proofs.Cons.{is_at, rows_names, table_names, names_fit}
use Rattle.row_environments.specs.declared.rows.ToldRows.{ToldRows}
use Rattle.row_environments.specs.Placed.{IsEnvOf, ValuesAre, AreLists, PlaceOrNone, ArePlaced}
use Rattle.row_environments.specs.Answers.{LacksPlace, value_names_of, value_places_in, AreNamed, TablesPlaced, LacksRow, FindsTables, node_of_form, FindsEnv, PlacesEnv}
use Rattle.row_environments.proofs.Tabled.{placed_names}
use Rattle.row_environments.proofs.Valued.{values_names}
use Rattle.row_environments.proofs.Placing.{rows_are, rows_there, lacking, values_are, values_there}
use Rattle.row_environments.proofs.Enving.{env_lists, env_is, same_length}
use Rattle.row_environments.proofs.Staying.{placed_more}

-- ---- names

same_names : (m n : List ℕ) (ms ns : List (List ℕ)) → m ≡ n → ms ≡ ns → m ∷ ms ≡ n ∷ ns
same_names m n ms ns e f = cc

pub row_names : {A : Type 0} (Is : Node → A → Type 0) (made : List Node) (table : List NamedPlace) (xs : Table A)
    → RowsAre Is (rows_at made table) xs → map name_of table ≡ names_of xs
row_names Is made table xs h = sym (table_names made table) ∙ rows_names Is (rows_at made table) xs h

value_row_names : (home : List ℕ) (made : List Node) (table : List ValuePlace) (xs : Table ValueEntry)
    → ValuesAre home (values_at made table) xs → value_names_of table ≡ names_of xs
value_row_names home made [] [] h = refl
value_row_names home made [] (x ∷ xs) h = absurd h
value_row_names home made (row ∷ table) [] h = absurd h
value_row_names home made (row ∷ table) (x ∷ xs) h =
    same_names row.name x.0 (value_names_of table) (names_of xs) h.0.name (value_row_names home made table xs h.1)

-- ---- an environment of these fields

abbrev lists : List ℕ → List Node → EnvForm → Env → Type 0
lists home made form env =
    AreLists home (rows_at made form.structures) (rows_at made form.types) (values_at made form.values) env

lists_of : (home : List ℕ) (made : List Node) (form : EnvForm) (env : Env) → FitsEnv (env_at made form)
    → IsEnvOf home (node_of_form made form) env → lists home made form env
lists_of home made form env fits is =
    env_lists home (rows_at made form.structures) (rows_at made form.types) (values_at made form.values) env fits.first
    fits.second.first fits.second.second is

lists_named : (home : List ℕ) (made : List Node) (form : EnvForm) (env : Env) → lists home made form env → AreNamed form
lists_named home made form env l = record {
  structures = subst AreNames
      (sym (row_names (IsEnvOf home) made form.structures (structures env) l.structures_are)) l.structure_names;
  types = subst AreNames (sym (row_names (IsStructureOf home) made form.types (types env) l.types_are)) l.type_names;
  values = subst AreNames (sym (value_row_names home made form.values (values env) l.values_are)) l.value_names;
}

pub env_unnamed : (told : ToldRows) (form : EnvForm) (old items : List Item) → (AreNamed form → ⊥)
    → FindsEnv told old form items None
env_unnamed told form old items bad home made placed fits env is =
    bad (lists_named home made form env (lists_of home made form env fits is))

-- a value has no scheme
values_lack : (home : List ℕ) (made : List Node) (table : List ValuePlace) (xs : Table ValueEntry) (i : ℕ)
    → i < length (value_places_in table)
    → ((x : TypeScheme) → IsSchemeOf home (node_at made (get_or (value_places_in table) i 0)) x → ⊥)
    → ValuesAre home (values_at made table) xs → ⊥
values_lack home made [] xs i lt never h = omega (arith, lt)
values_lack home made (row ∷ table) [] i lt never h = h
values_lack home made (row ∷ table) (x ∷ xs) zero lt never h = never x.1.scheme h.0.scheme
values_lack home made (row ∷ table) (x ∷ xs) (suc i) lt never h =
    values_lack home made table xs i (omega (arith, lt)) never h.1

lacking_value : (home : List ℕ) (made : List Node) (entries : EntryRows) (table : List ValuePlace) (xs : Table ValueEntry)
    → AreEntries home made entries → LacksPlace entries.schemes (value_places_in table)
    → ValuesAre home (values_at made table) xs → ⊥
lacking_value home made entries table xs h l k =
    values_lack home made table xs l.at l.within
    (is_at (IsSchemeOf home) made entries.schemes (get_or (value_places_in table) l.at 0) None h.schemes l.none) k

lacks_env : (told : ToldRows) (form : EnvForm) (old : List Item) (home : List ℕ) (made : List Node) (env : Env)
    → ArePlaced home old made told → lists home made form env → LacksRow told form → ⊥
lacks_env told form old home made env placed l (inl k) =
    lacking IsEnv as_env (IsEnvOf home) old made told.envs form.structures (structures env) placed.envs k l.structures_are
lacks_env told form old home made env placed l (inr (inl k)) =
    lacking IsType as_type (IsStructureOf home) old made told.types form.types (types env) placed.types k l.types_are
lacks_env told form old home made env placed l (inr (inr k)) =
    lacking_value home made told.entries form.values (values env) placed.entries k l.values_are

pub env_lacks : (told : ToldRows) (form : EnvForm) (old items : List Item) → LacksRow told form
    → FindsEnv told old form items None
env_lacks told form old items k home made placed fits env is =
    lacks_env told form old home made env placed (lists_of home made form env fits is) k

-- the tables of places are those of an environment
pub tables_stand : (home : List ℕ) (made : List Node) (told : ToldRows) (form : EnvForm) (items : List Item)
    (tables : EnvTables) → ArePlaced home items made told → TablesPlaced told items form tables
    → AreEnvTables items tables
tables_stand home made told form items tables placed t = record {
  structures = rows_there IsEnv as_env (IsEnvOf home) items made told.envs form.structures tables.structures placed.envs
      t.structures;
  types = rows_there IsType as_type (IsStructureOf home) items made told.types form.types tables.types placed.types
      t.types;
  values = values_there told.entries items form.values tables.values t.values;
}

tables_are : (home : List ℕ) (made : List Node) (told : ToldRows) (form : EnvForm) (items : List Item)
    (tables : EnvTables) → ArePlaced home items made told → AreNamed form → TablesPlaced told items form tables
    → IsEnvOf home (node_of_form made form) (env_of_tables items tables)
tables_are home made told form items tables placed named t =
    env_is home (rows_at made form.structures) (rows_at made form.types) (values_at made form.values)
    (map_rows (λ p. as_env (at items p)) tables.structures) (map_rows (λ p. as_type (at items p)) tables.types)
    (map_rows (λ p. as_value (at items p)) tables.values)
    (rows_are IsEnv as_env (IsEnvOf home) items made told.envs form.structures tables.structures placed.envs t.structures)
    (rows_are IsType as_type (IsStructureOf home) items made told.types form.types tables.types placed.types t.types)
    (values_are home made told.entries items form.values tables.values placed.entries t.values)
    (subst AreNames (sym (names_map (λ p. as_env (at items p)) tables.structures
    ∙ placed_names told.envs form.structures tables.structures t.structures)) named.structures)
    (subst AreNames (sym (names_map (λ p. as_type (at items p)) tables.types
    ∙ placed_names told.types form.types tables.types t.types)) named.types)
    (subst AreNames (sym (names_map (λ p. as_value (at items p)) tables.values
    ∙ values_names told.entries items form.values tables.values t.values)) named.values)

pub env_found : (told : ToldRows) (form : EnvForm) (old mid new : Graph) (tables : EnvTables) (p : ℕ) → Extends old mid
    → AreNamed form → TablesPlaced told mid.items form tables
    → Adds mid new (Item.EnvItem (env_of_tables mid.items tables)) p → FindsEnv told old.items form new.items (Some p)
env_found told form old mid new tables p e named t a home made placed fits = record {
  kind = subst IsEnv (sym a.stands) tt;
  is = subst (IsEnvOf home (node_of_form made form)) (sym (ap as_env a.stands))
      (tables_are home made told form mid.items tables (placed_more home old mid made told e placed) named t);
}

-- ---- rows

content_same : (s t : ℕ) (c d : Content) → Node.node s c ≡ Node.node t d → c ≡ d
content_same s t c d e = cc

tag_same : (s t : ℕ) (c d : Content) → Node.node s c ≡ Node.node t d → s ≡ t
tag_same s t c d e = cc

-- what stands in the row of an environment
abbrev fields_of : List ℕ → Structures → Table TypeStr → Table ValueEntry → Table Node × (Table Node × List ValueRow)
fields_of home ss ts vs = (structure_rows home ss, (rows_by (node_of_type home) ts, map (row_of_value home) vs))

abbrev content_of_env : List ℕ → Structures → Table TypeStr → Table ValueEntry → Content
content_of_env home ss ts vs = with_env (fields_of home ss ts vs) Content.nothing

text_fits : (name : List ℕ) → IsName name → IsNumber (length name)
text_fits name h = let s = h.short in record { below = omega (arith, s) }

structures_fit : (home : List ℕ) (ss : Structures) → All IsName (names_of (table_of ss))
    → AllByRecursion HasName (structure_rows home ss)
structures_fit home Structures.Nil h = tt
structures_fit home (Structures.Cons name env rest) h = (
  text_fits name (All-head IsName name (names_of (table_of rest)) h),
  structures_fit home rest (All-tail IsName name (names_of (table_of rest)) h),
)

values_fit : (home : List ℕ) (vs : Table ValueEntry) → All IsName (names_of vs)
    → AllByRecursion IsValueName (map (row_of_value home) vs)
values_fit home [] h = tt
values_fit home (v ∷ vs) h = (
  text_fits v.0 (All-head IsName v.0 (names_of vs) h),
  values_fit home vs (All-tail IsName v.0 (names_of vs) h),
)

env_fits : (home : List ℕ) (ss : Structures) (ts : Table TypeStr) (vs : Table ValueEntry)
    → rules.IsEnv (Env.MakeEnv ss ts vs) → FitsEnv (fields_of home ss ts vs)
env_fits home ss ts vs h = record {
  first = record {
    counted = subst IsNumber (same_length home ss) h.0.structure_names.counted;
    each = structures_fit home ss h.0.structure_names.each;
  };
  second = record {
    first = record {
      counted = rows_counted (λ (r : List ℕ × TypeStr). (r.0, node_of_type home r.1)) (λ (r : List ℕ × TypeStr). r.0) ts
          h.0.type_names;
      each = names_fit (λ (r : List ℕ × TypeStr). (r.0, node_of_type home r.1)) (λ (r : List ℕ × TypeStr). r.0)
          (λ r. refl) ts h.0.type_names.each;
    };
    second = record {
      counted = rows_counted (row_of_value home) (λ (r : List ℕ × ValueEntry). r.0) vs h.0.value_names;
      each = values_fit home vs h.0.value_names.each;
    };
  };
}

tagged : (home : List ℕ) (made : List Node) (row : Row) (env : Env) → row.tag ≢ 8
    → IsEnvOf home (row_node made row) env → ⊥
tagged home made row (Env.MakeEnv ss ts vs) other is =
    other (tag_same row.tag 8 (content_of made row.items) (content_of_env home ss ts vs) is.node)

pub env_tagged : (told : ToldRows) (old items : List Item) (row : Row) → row.tag ≢ 8
    → PlacesEnv told old row items None
env_tagged told old items row other home made placed env is = tagged home made row env other is

never : (home : List ℕ) (made : List Node) (row : Row) (slice : List part.Item) (env : Env) → slice ≡ row.items
    → NeverForm FitsEnv with_env slice → IsEnvOf home (row_node made row) env → ⊥
never home made row slice (Env.MakeEnv ss ts vs) e h is =
    h.never made (fields_of home ss ts vs) (env_fits home ss ts vs is.rules)
    (ap (content_of made) e
    ∙ content_same row.tag 8 (content_of made row.items) (content_of_env home ss ts vs) is.node)

pub env_never : (told : ToldRows) (old items : List Item) (row : Row) (slice : List part.Item) → slice ≡ row.items
    → NeverForm FitsEnv with_env slice → PlacesEnv told old row items None
env_never told old items row slice e h home made placed env is = never home made row slice env e h is

pub env_formed : (told : ToldRows) (old items : List Item) (row : Row) (slice : List part.Item) (form : EnvForm)
    (found : Option ℕ) → row.tag ≡ 8 → slice ≡ row.items
    → ((made : List Node) → IsForm FitsEnv with_env made (env_at made form) slice)
    → FindsEnv told old form items found → PlacesEnv told old row items found
env_formed told old items row slice form found t e h k home made placed =
    subst (λ x. PlaceOrNone IsEnv as_env (IsEnvOf home x) items found)
    (row_is made row 8 slice (with_env (env_at made form) Content.nothing) t e ((h made).is))
    (k home made placed ((h made).fits))

-- ---- answers of calls

pub tables_none : (told : ToldRows) (items : List Item) (form : EnvForm) (found : Option EnvTables)
    → FindsTables told items form found → ((tables : EnvTables) → found ≡ Some tables → ⊥) → LacksRow told form
tables_none told items form (Some tables) h never = absurd (never tables refl)
tables_none told items form None h never = h

pub tables_some : (told : ToldRows) (items : List Item) (form : EnvForm) (found : Option EnvTables) (tables : EnvTables)
    → FindsTables told items form found → found ≡ Some tables → TablesPlaced told items form tables
tables_some told items form found tables h e = subst (FindsTables told items form) e h
