-- The initial basis: what the rows of the table are for. The Definition of Standard ML (Revised), appendices C and D.
use Rattle.std.specs.Prelude.{◌≡◌, ℕ, suc, ◌+◌, ◌-◌, List, [], ◌∷◌, ◌++◌, length, map, Bool, true, false, if◌then◌else◌, codes}
use Rattle.std.specs.List.{flat_map, list_any}
use Rattle.std.specs.Str.{bytes_eq}
use Rattle.semantic_objects.specs.declared.name.Owner.TheVariants as owner
use Rattle.semantic_objects.specs.declared.name.TyName.{TyName}
use Rattle.semantic_objects.specs.declared.entry.ConEntry.{ConEntry}
use Rattle.semantic_objects.specs.declared.entry.TypeStr.{TypeStr}
use Rattle.semantic_objects.specs.declared.entry.ValueEntry.{ValueEntry}
use Rattle.semantic_objects.specs.declared.entry.VidStatus.{VidStatus}
use Rattle.semantic_objects.specs.declared.entry.VidStatus.TheVariants as status
use Rattle.semantic_objects.specs.Tables.{Table, with_all}
use Rattle.semantic_objects.specs.Environments.{Env, env_of, Top}
use Rattle.sml_modules.specs.declared.id.EnvId.{EnvId}
use Rattle.sml_modules.specs.declared.parts.NamedEnv.{NamedEnv}
use Rattle.sml_modules.specs.declared.parts.NamedType.{NamedType}
use Rattle.sml_modules.specs.declared.parts.NamedValue.{NamedValue}
use Rattle.sml_modules.specs.Graphs.{Graph, Keeps, HasEnvs, structure_rows, type_rows, value_rows}
use Rattle.initial_basis.specs.declared.row.Row.{Row}
use Rattle.initial_basis.specs.declared.type_names.NamedName.{NamedName}
use Rattle.initial_basis.specs.Table.{type_lines, constructor_lines, exception_lines, value_lines, int_lines, string_lines, char_lines}
use Rattle.initial_basis.specs.Phrases.{rows_of, applied, scheme_of, unit_tree}

-- the last word of some, which names a type
abbrev pub last_word : List (List ℕ) → List ℕ
last_word [] = []
last_word (word ∷ []) = word
last_word (word ∷ next ∷ words) = last_word (next ∷ words)

-- ---- type names

abbrev pub is_eqtype : List (List ℕ) → Bool
is_eqtype words = list_any (λ word. bytes_eq word (codes "eqtype")) words

abbrev pub name_of : ℕ → Row → NamedName
name_of number row = record {
  name = last_word row.names;
  is = record { owner = owner.Basis; number = number; arity = length row.names - 1; eq = is_eqtype row.is };
}

-- the names of rows, numbered from a number on
abbrev pub names_from : ℕ → List Row → List NamedName
names_from number [] = []
names_from number (row ∷ rows) = name_of number row ∷ names_from (number + 1) rows

-- ---- constructors and values

-- a constructor with the type that words write
abbrev pub con_of : List NamedName → List (List ℕ) → List ℕ → ConEntry
con_of names ty name = record { name = name; scheme = scheme_of names ty }

-- the constructors of a row, where it is for those of a type: that type is what they give, and stands last
abbrev pub cons_of_row : List NamedName → List ℕ → Row → List ConEntry
cons_of_row names ty row = if bytes_eq (last_word row.is) ty then map (con_of names row.is) row.names else []

abbrev pub cons_of : List NamedName → List Row → List ℕ → List ConEntry
cons_of names rows ty = flat_map (cons_of_row names ty) rows

abbrev pub value_of : List NamedName → VidStatus → List (List ℕ) → List ℕ → NamedValue
value_of names is ty name = record { name = name; entry = record { status = is; scheme = scheme_of names ty } }

abbrev pub values_of_row : List NamedName → VidStatus → Row → List NamedValue
values_of_row names is row = map (value_of names is row.is) row.names

abbrev pub values_of : List NamedName → VidStatus → List Row → List NamedValue
values_of names is rows = flat_map (values_of_row names is) rows

-- ---- type structures

-- a type name applied to its own variables, with the constructors that give it
abbrev pub type_of_row : List NamedName → List Row → Row → NamedType
type_of_row names cons row = record {
  name = last_word row.names;
  entry = record {
    function = record { arity = length row.names - 1; body = applied names row.names };
    cons = cons_of names cons (last_word row.names);
  };
}

-- `unit`, an abbreviation
abbrev pub unit_type : NamedType
unit_type = record { name = codes "unit"; entry = record { function = record { arity = 0; body = unit_tree }; cons = [] } }

-- ---- the whole

unfoldable pub basis_names : List NamedName
basis_names = names_from 0 (rows_of type_lines)

-- .. by themselves
abbrev pub basis_type_names : List TyName
basis_type_names = map (λ (row : NamedName). row.is) basis_names

unfoldable pub basis_types : List NamedType
basis_types =
    map (type_of_row basis_names (rows_of constructor_lines)) (rows_of type_lines) ++ unit_type ∷ []

unfoldable pub basis_values : List NamedValue
basis_values =
    values_of basis_names status.Constructor (rows_of constructor_lines)
    ++ (values_of basis_names status.Exception (rows_of exception_lines)
    ++ values_of basis_names status.Variable (rows_of value_lines))

-- an environment of values alone
abbrev pub env_of_lines : List (List ℕ) → Env
env_of_lines lines =
    env_of [] [] (with_all (value_rows (values_of basis_names status.Variable (rows_of lines))) [])

-- the built-in structures
unfoldable pub basis_structures : Table Env
basis_structures =
    (codes "Int", env_of_lines int_lines)
    ∷ (codes "String", env_of_lines string_lines)
    ∷ (codes "Char", env_of_lines char_lines)
    ∷ []

-- the initial basis, with the built-in structures or without them
unfoldable pub basis_env : Bool → Env
basis_env nobasis = env_of
    (with_all (if nobasis then [] else basis_structures) [])
    (with_all (type_rows basis_types) [])
    (with_all (value_rows basis_values) [])

abbrev pub basis_top : Bool → Top
basis_top nobasis = record { env = basis_env nobasis; signatures = []; functors = []; funsigs = [] }

-- nodes were added alone: each id stands for what it stood for
pub record OnlyAdds (old new : Graph) : Type 0 where
  pub keeps : Keeps old new
  pub home : new.home ≡ old.home
  pub made : new.made ≡ old.made

-- structures of the graph, which stand for these, where nodes were added alone
pub record GivesStructures (old new : Graph) (wanted : Table Env) (given : List NamedEnv) : Type 0 where
  pub there : HasEnvs new given
  pub are : structure_rows new given ≡ wanted
  pub adds : OnlyAdds old new

-- structures under the names of the built-in ones
abbrev pub with_names : EnvId → EnvId → EnvId → List NamedEnv
with_names int string char =
    (let e : NamedEnv = record { name = codes "Int"; env = int } in e)
    ∷ (let e : NamedEnv = record { name = codes "String"; env = string } in e)
    ∷ (let e : NamedEnv = record { name = codes "Char"; env = char } in e)
    ∷ []
