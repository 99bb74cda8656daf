-- Environments by their tables, whose rows are told one by one.
use Rattle.std.proofs.Common.{◌≡◌, ℕ, suc, refl, sym, ap, ap₂, subst, List, [], ◌∷◌, length, map}
use Rattle.std.specs.Prelude.{All}
use Rattle.std.proofs.lemmas.List.Elements.{All-nil, All-cons, All-head, All-tail}
use Rattle.node_bytes.specs.Nodes.{Node, Content}
use Rattle.node_bytes.specs.Shapes.{with_list}
use Rattle.semantic_objects.specs.declared.entry.TypeStr.{TypeStr}
use Rattle.semantic_objects.specs.declared.entry.ValueEntry.{ValueEntry}
use Rattle.semantic_objects.specs.declared.entry.VidStatus.{VidStatus}
use Rattle.semantic_objects.specs.Environments.{Env, Structures, structures_of, table_of}
use Rattle.semantic_objects.specs.Tables.{Table, names_of}
use Rattle.interface_format.specs.Tags.{ValueRow, with_named, with_value, environment_node}
use Rattle.interface_format.specs.Trees.{rows_by, structure_rows, node_of_type, node_of_scheme, row_of_value}
use Rattle.interface_format.specs.Rules.{IsNumber, AreNames, IsTypeRow, IsValueRow, AreEnvs, AreTables}
use Rattle.interface_format.proofs.Told.{list_told, named_told, value_told}
use Rattle.interface_format.proofs.Entries.{rows_counted}
use Rattle.row_fields.specs.Listing.{AreItems, HasName, IsValueName}
use Rattle.row_entries.specs.Told.{IsStructureOf, RowsAre}
use Rattle.row_environments.specs.Placed.{IsEnvOf, IsValueOf, ValuesAre, AreLists}

-- ---- tables of what meets the rules

pub envs_rows : (home : List ℕ) (ss : Structures) → AreEnvs ss
    → RowsAre (IsEnvOf home) (structure_rows home ss) (table_of ss)
envs_rows home Structures.Nil h = tt
envs_rows home (Structures.Cons name env rest) h =
    (record { name = refl; is = record { node = refl; rules = h.0 } }, envs_rows home rest h.1)

pub types_rows : (home : List ℕ) (ts : Table TypeStr) → All IsTypeRow ts
    → RowsAre (IsStructureOf home) (rows_by (node_of_type home) ts) ts
types_rows home [] h = tt
types_rows home (t ∷ ts) h = (
  record { name = refl; is = record { node = refl; rules = All-head IsTypeRow t ts h } },
  types_rows home ts (All-tail IsTypeRow t ts h),
)

pub values_rows : (home : List ℕ) (vs : Table ValueEntry) → All IsValueRow vs
    → ValuesAre home (map (row_of_value home) vs) vs
values_rows home [] h = tt
values_rows home (v ∷ vs) h = (
  record {
    name = refl;
    status = refl;
    scheme = record { node = refl; rules = All-head IsValueRow v vs h };
  },
  values_rows home vs (All-tail IsValueRow v vs h),
)

-- ---- nodes of tables

abbrev row : List ℕ → Node → List ℕ × Node
row name x = (name, x)

cons_same : {A : Type 0} (x y : A) (xs ys : List A) → x ≡ y → xs ≡ ys → x ∷ xs ≡ y ∷ ys
cons_same x y xs ys e f = ap₂ (λ z zs. z ∷ zs) e f

pub envs_nodes : (home : List ℕ) (rows : Table Node) (xs : Table Env) → RowsAre (IsEnvOf home) rows xs
    → rows ≡ structure_rows home (structures_of xs)
envs_nodes home [] [] h = refl
envs_nodes home [] (x ∷ xs) h = absurd h
envs_nodes home (r ∷ rows) [] h = absurd h
envs_nodes home (r ∷ rows) (x ∷ xs) h =
    ap₂ (λ z zs. z ∷ zs) (ap₂ row h.0.name h.0.is.node) (envs_nodes home rows xs h.1)

pub envs_hold : (home : List ℕ) (rows : Table Node) (xs : Table Env) → RowsAre (IsEnvOf home) rows xs
    → AreEnvs (structures_of xs)
envs_hold home [] [] h = tt
envs_hold home [] (x ∷ xs) h = absurd h
envs_hold home (r ∷ rows) [] h = absurd h
envs_hold home (r ∷ rows) (x ∷ xs) h = (h.0.is.rules, envs_hold home rows xs h.1)

pub types_nodes : (home : List ℕ) (rows : Table Node) (xs : Table TypeStr) → RowsAre (IsStructureOf home) rows xs
    → rows ≡ rows_by (node_of_type home) xs
types_nodes home [] [] h = refl
types_nodes home [] (x ∷ xs) h = absurd h
types_nodes home (r ∷ rows) [] h = absurd h
types_nodes home (r ∷ rows) (x ∷ xs) h =
    ap₂ (λ z zs. z ∷ zs) (ap₂ row h.0.name h.0.is.node) (types_nodes home rows xs h.1)

pub types_hold : (home : List ℕ) (rows : Table Node) (xs : Table TypeStr) → RowsAre (IsStructureOf home) rows xs
    → All IsTypeRow xs
types_hold home [] [] h = All-nil IsTypeRow
types_hold home [] (x ∷ xs) h = absurd h
types_hold home (r ∷ rows) [] h = absurd h
types_hold home (r ∷ rows) (x ∷ xs) h = All-cons IsTypeRow x xs h.0.is.rules (types_hold home rows xs h.1)

abbrev value_row : List ℕ → VidStatus → Node → ValueRow
value_row name status scheme = record { name = name; status = status; scheme = scheme }

same_value : (m n : List ℕ) (s t : VidStatus) (x y : Node) → m ≡ n → s ≡ t → x ≡ y
    → value_row m s x ≡ value_row n t y
same_value m n s t x y e f g = cc

value_same : (home : List ℕ) (r : ValueRow) (x : List ℕ × ValueEntry) → IsValueOf home r x → r ≡ row_of_value home x
value_same home r x h =
    same_value r.name x.0 r.status x.1.status r.scheme (node_of_scheme home x.1.scheme) h.name h.status h.scheme.node

pub values_nodes : (home : List ℕ) (rows : List ValueRow) (xs : Table ValueEntry) → ValuesAre home rows xs
    → rows ≡ map (row_of_value home) xs
values_nodes home [] [] h = refl
values_nodes home [] (x ∷ xs) h = absurd h
values_nodes home (r ∷ rows) [] h = absurd h
values_nodes home (r ∷ rows) (x ∷ xs) h =
    ap₂ (λ z zs. z ∷ zs) (value_same home r x h.0) (values_nodes home rows xs h.1)

pub values_hold : (home : List ℕ) (rows : List ValueRow) (xs : Table ValueEntry) → ValuesAre home rows xs
    → All IsValueRow xs
values_hold home [] [] h = All-nil IsValueRow
values_hold home [] (x ∷ xs) h = absurd h
values_hold home (r ∷ rows) [] h = absurd h
values_hold home (r ∷ rows) (x ∷ xs) h = All-cons IsValueRow x xs h.0.scheme.rules (values_hold home rows xs h.1)

pub table_back : (xs : Table Env) → table_of (structures_of xs) ≡ xs
table_back [] = refl
table_back (x ∷ xs) = ap (λ z. x ∷ z) (table_back xs)

-- ---- environments

content_same : (s t : ℕ) (c d : Content) → Node.node s c ≡ Node.node t d → c ≡ d
content_same s t c d e = cc

pub same_length : (home : List ℕ) (us : Structures) → length (names_of (table_of us)) ≡ length (structure_rows home us)
same_length home Structures.Nil = refl
same_length home (Structures.Cons name env rest) = ap suc (same_length home rest)

pub env_lists : (home : List ℕ) (ss ts : Table Node) (vs : List ValueRow) (env : Env) → AreItems HasName ss
    → AreItems HasName ts → AreItems IsValueName vs → IsEnvOf home (environment_node ss ts vs) env
    → AreLists home ss ts vs env
env_lists home ss ts vs (Env.MakeEnv us xs ws) f g k h =
    let tables : AreTables us xs ws = h.rules.0 in
    let types = rows_by (node_of_type home) xs in
    let values = map (row_of_value home) ws in
    let values_end = with_list with_value vs Content.nothing in
    let values_there = with_list with_value values Content.nothing in
    let a = list_told with_named named_told ss (structure_rows home us) (with_list with_named ts values_end)
    (with_list with_named types values_there) f.counted
    (subst IsNumber (same_length home us) tables.structure_names.counted)
    (content_same 8 8 (with_list with_named ss (with_list with_named ts values_end))
    (with_list with_named (structure_rows home us) (with_list with_named types values_there)) h.node) in
    let b = list_told with_named named_told ts types values_end values_there g.counted
    (rows_counted (λ (r : List ℕ × TypeStr). (r.0, node_of_type home r.1)) (λ (r : List ℕ × TypeStr). r.0) xs
    tables.type_names) a.rest in
    let c = list_told with_value value_told vs values Content.nothing Content.nothing k.counted
    (rows_counted (row_of_value home) (λ (r : List ℕ × ValueEntry). r.0) ws tables.value_names) b.rest in
    record {
      structures_are = subst (λ (z : Table Node). RowsAre (IsEnvOf home) z (table_of us)) (sym a.item)
          (envs_rows home us h.rules.1);
      types_are = subst (λ (z : Table Node). RowsAre (IsStructureOf home) z xs) (sym b.item)
          (types_rows home xs tables.types);
      values_are = subst (λ (z : List ValueRow). ValuesAre home z ws) (sym c.item) (values_rows home ws tables.values);
      structure_names = tables.structure_names;
      type_names = tables.type_names;
      value_names = tables.value_names;
    }

same_node : (ss zs ts us : Table Node) (vs cs : List ValueRow) → ss ≡ zs → ts ≡ us → vs ≡ cs
    → environment_node ss ts vs ≡ environment_node zs us cs
same_node ss zs ts us vs cs e f g = cc

pub env_is : (home : List ℕ) (ss ts : Table Node) (vs : List ValueRow) (xs : Table Env) (us : Table TypeStr)
    (ws : Table ValueEntry) → RowsAre (IsEnvOf home) ss xs → RowsAre (IsStructureOf home) ts us → ValuesAre home vs ws
    → AreNames (names_of xs) → AreNames (names_of us) → AreNames (names_of ws)
    → IsEnvOf home (environment_node ss ts vs) (Env.MakeEnv (structures_of xs) us ws)
env_is home ss ts vs xs us ws h k l a b c = record {
  node = same_node ss (structure_rows home (structures_of xs)) ts (rows_by (node_of_type home) us) vs
      (map (row_of_value home) ws) (envs_nodes home ss xs h) (types_nodes home ts us k) (values_nodes home vs ws l);
  rules = (
    record {
      structure_names = subst (λ (z : Table Env). AreNames (names_of z)) (sym (table_back xs)) a;
      type_names = b;
      value_names = c;
      types = types_hold home ts us k;
      values = values_hold home vs ws l;
    },
    envs_hold home ss xs h,
  );
}
