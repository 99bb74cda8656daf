-- What is found behind a path in an environment as it is known, and what an environment of a graph has.
use Rattle.std.proofs.Common.{◌≡◌, ℕ, refl, sym, ap, ◌∙◌, List, [], ◌∷◌, ◌++◌, Option, Some, None}
use Rattle.std.specs.Option.{option_map}
use Rattle.semantic_objects.specs.Tables.{Table, entry}
use Rattle.semantic_objects.specs.Environments.{Env, Structures, structures, types, values, table_of, structures_of}
use Rattle.unification.specs.Types.{Substitution, State}
use Rattle.env_parts.specs.declared.tables.EnvTables.{EnvTables}
use Rattle.sml_modules.specs.Items.{Item as Node, at, as_type, as_value, as_env, map_rows}
use Rattle.sml_modules.specs.Adding.{ReadsEnv}
use Rattle.sml_modules.proofs.Setting.{entry_map}
use Rattle.sml_modules.proofs.Looking.{structures_are, types_are, values_are}
use Rattle.static_semantics.specs.Inferring.{found_in_structure, found_at}
use Rattle.static_semantics.specs.Holding.{AllItems}
use Rattle.static_semantics.specs.EnvironmentsPut.{put_type, put_value, put_env, put_structures}
use Rattle.module_semantics.specs.Matching.{Item, items_under, structure_items, type_items, value_items}
use Rattle.core_scopes.specs.Paths.{led_on}
use Rattle.core_scopes.proofs.Pathing.{found_first}
use Rattle.structure_matching.specs.declared.parts.Component.{Component}
use Rattle.structure_matching.specs.Found.{specified_rows, AreFound}
use Rattle.structure_matching.specs.Searching.{IsFound, of_components, type_of_component, structure_of_component}

-- ---- paths

none_some : {A P : Type 0} (x : A) → None ≡ Some x → P
none_some x h = absurd (cc)

some_is : {A : Type 0} (x y : A) → Some x ≡ Some y → x ≡ y
some_is x y h = cc

-- the last part of a name, where the parts before it lead to an environment
led_behind : {A : Type 0} (table : Env → Table A) (first : List ℕ) (rest : List (List ℕ)) (name : List ℕ) (root env : Env)
    (o : Option Env) → ((inner : Env) → led_on rest inner ≡ Some env
    → found_at table (rest ++ name ∷ []) inner ≡ entry name (table env)) → entry first (structures root) ≡ o
    → found_in_structure o (led_on rest) ≡ Some env
    → found_at table (first ∷ (rest ++ name ∷ [])) root ≡ entry name (table env)
led_behind table first rest name root env None k e h = none_some env h
led_behind table first [] name root env (Some inner) k e h =
    ap (λ o. found_in_structure o (found_at table (name ∷ []))) e ∙ k inner h
led_behind table first (next ∷ rest) name root env (Some inner) k e h =
    ap (λ o. found_in_structure o (found_at table (next ∷ (rest ++ name ∷ [])))) e ∙ k inner h

pub led_last : {A : Type 0} (table : Env → Table A) (path : List (List ℕ)) (name : List ℕ) (root env : Env)
    → led_on path root ≡ Some env → found_at table (path ++ name ∷ []) root ≡ entry name (table env)
led_last table [] name root env h = ap (λ e. entry name (table e)) (some_is root env h)
led_last table (first ∷ rest) name root env h =
    led_behind table first rest name root env (entry first (structures root))
    (λ inner k. led_last table rest name inner env k) refl (sym (led_first rest) ∙ h)
  where
    led_first : (rest : List (List ℕ)) → led_on (first ∷ rest) root ≡ found_in_structure (entry first (structures root)) (led_on rest)
    led_first rest = refl

-- a structure that is found is led to
pub led_to : (path : List (List ℕ)) (name : List ℕ) (root : Env)
    → led_on (path ++ name ∷ []) root ≡ found_at structures (path ++ name ∷ []) root
led_to [] name root = sym (found_first name [] root)
led_to (first ∷ rest) name root = sym (found_first first (rest ++ name ∷ []) root)

-- ---- environments as they are known

put_table : (s : Substitution) (ss : Structures) → table_of (put_structures s ss) ≡ map_rows (put_env s) (table_of ss)
put_table s Structures.Nil = refl
put_table s (Structures.Cons name env rest) = ap (λ rows. (name, put_env s env) ∷ rows) (put_table s rest)

put_structures_of : (s : Substitution) (env : Env) → structures (put_env s env) ≡ map_rows (put_env s) (structures env)
put_structures_of s (Env.MakeEnv ss ts vs) = put_table s ss

put_types_of : (s : Substitution) (env : Env) → types (put_env s env) ≡ map_rows (put_type s) (types env)
put_types_of s (Env.MakeEnv ss ts vs) = refl

put_values_of : (s : Substitution) (env : Env) → values (put_env s env) ≡ map_rows (put_value s) (values env)
put_values_of s (Env.MakeEnv ss ts vs) = refl

-- ---- what is found under the names of components

mapped : {A B C : Type 0} (f : B → C) (g : A → B) (o : Option A) → option_map f (option_map g o) ≡ option_map (λ x. f (g x)) o
mapped f g None = refl
mapped f g (Some x) = refl

-- one of them
found_one : {A : Type 0} (table : Env → Table A) (items : List Node) (read : Node → A) (put : A → A) (path : List (List ℕ))
    (root known env : Env) (rows : Table ℕ) (c : Component) → led_on path root ≡ Some known
    → table known ≡ map_rows put (table env) → table env ≡ map_rows (λ p. read (at items p)) rows
    → c.found ≡ entry c.name rows → IsFound table (λ p. put (read (at items p))) root path c
found_one table items read put path root known env rows c led e f g =
    led_last table path c.name root known led
    ∙ ap (entry c.name) e ∙ entry_map put c.name (table env)
    ∙ ap (λ t. option_map put (entry c.name t)) f
    ∙ ap (option_map put) (entry_map (λ p. read (at items p)) c.name rows)
    ∙ mapped put (λ p. read (at items p)) (entry c.name rows)
    ∙ ap (option_map (λ p. put (read (at items p)))) (sym g)

found_all : {A : Type 0} (table : Env → Table A) (items : List Node) (read : Node → A) (put : A → A) (path : List (List ℕ))
    (root known env : Env) (rows : Table ℕ) (cs : List Component) → led_on path root ≡ Some known
    → table known ≡ map_rows put (table env) → table env ≡ map_rows (λ p. read (at items p)) rows → AreFound rows cs
    → AllItems (IsFound table (λ p. put (read (at items p))) root path) cs
found_all table items read put path root known env rows [] led e f h = tt
found_all table items read put path root known env rows (c ∷ cs) led e f h = (
  found_one table items read put path root known env rows c led e f h.0,
  found_all table items read put path root known env rows cs led e f h.1,
)

pub structures_found : (items : List Node) (path : List (List ℕ)) (s : State) (root env : Env) (tables : EnvTables)
    (cs : List Component) → ReadsEnv items env tables → AreFound tables.structures cs
    → led_on path root ≡ Some (put_env s.stands env)
    → AllItems (IsFound structures (λ p. put_env s.stands (as_env (at items p))) root path) cs
structures_found items path s root env tables cs r h led =
    found_all structures items as_env (put_env s.stands) path root (put_env s.stands env) env tables.structures cs led
    (put_structures_of s.stands env) (structures_are items env tables r) h

pub types_found : (items : List Node) (path : List (List ℕ)) (s : State) (root env : Env) (tables : EnvTables)
    (cs : List Component) → ReadsEnv items env tables → AreFound tables.types cs
    → led_on path root ≡ Some (put_env s.stands env)
    → AllItems (IsFound types (λ p. put_type s.stands (as_type (at items p))) root path) cs
types_found items path s root env tables cs r h led =
    found_all types items as_type (put_type s.stands) path root (put_env s.stands env) env tables.types cs led
    (put_types_of s.stands env) (types_are items env tables r) h

pub values_found : (items : List Node) (path : List (List ℕ)) (s : State) (root env : Env) (tables : EnvTables)
    (cs : List Component) → ReadsEnv items env tables → AreFound tables.values cs
    → led_on path root ≡ Some (put_env s.stands env)
    → AllItems (IsFound values (λ p. put_value s.stands (as_value (at items p))) root path) cs
values_found items path s root env tables cs r h led =
    found_all values items as_value (put_value s.stands) path root (put_env s.stands env) env tables.values cs led
    (put_values_of s.stands env) (values_are items env tables r) h

-- ---- what is specified

structures_specified : (items : List Node) (path : List (List ℕ)) (cs : List Component)
    → structure_items path (structures_of (map_rows (λ p. as_env (at items p)) (specified_rows cs)))
    ≡ of_components (structure_of_component items path) cs
structures_specified items path [] = refl
structures_specified items path (c ∷ cs) =
    ap (λ xs. Item.StructureItem (path ++ c.name ∷ [])
    ∷ (items_under (path ++ c.name ∷ []) (as_env (at items c.specified)) ++ xs))
    (structures_specified items path cs)

types_specified : (items : List Node) (path : List (List ℕ)) (cs : List Component)
    → type_items path (map_rows (λ p. as_type (at items p)) (specified_rows cs))
    ≡ of_components (type_of_component items path) cs
types_specified items path [] = refl
types_specified items path (c ∷ cs) =
    ap (λ xs. Item.TypeItem (path ++ c.name ∷ []) (as_type (at items c.specified)) ∷ xs) (types_specified items path cs)

pub env_structures : (items : List Node) (path : List (List ℕ)) (env : Env) (tables : EnvTables) (ss : List Component)
    → ReadsEnv items env tables → specified_rows ss ≡ tables.structures
    → items_under path env ≡ of_components (structure_of_component items path) ss
    ++ (type_items path (map_rows (λ p. as_type (at items p)) tables.types)
    ++ value_items path (map_rows (λ p. as_value (at items p)) tables.values))
env_structures items path env tables ss r e =
    ap (items_under path) r.is
    ∙ ap (λ xs. xs ++ (type_items path (map_rows (λ p. as_type (at items p)) tables.types)
    ++ value_items path (map_rows (λ p. as_value (at items p)) tables.values)))
    (ap (λ rows. structure_items path (structures_of (map_rows (λ p. as_env (at items p)) rows))) (sym e)
    ∙ structures_specified items path ss)

pub env_items : (items : List Node) (path : List (List ℕ)) (env : Env) (tables : EnvTables) (ss ts : List Component)
    → ReadsEnv items env tables → specified_rows ss ≡ tables.structures → specified_rows ts ≡ tables.types
    → items_under path env ≡ of_components (structure_of_component items path) ss
    ++ (of_components (type_of_component items path) ts
    ++ value_items path (map_rows (λ p. as_value (at items p)) tables.values))
env_items items path env tables ss ts r e f =
    env_structures items path env tables ss r e
    ∙ ap (λ ys. of_components (structure_of_component items path) ss
    ++ (ys ++ value_items path (map_rows (λ p. as_value (at items p)) tables.values)))
    (ap (λ rows. type_items path (map_rows (λ p. as_type (at items p)) rows)) (sym f)
    ∙ types_specified items path ts)
