-- Environments of the canonical form.
use Rattle.std.proofs.Common.{◌≡◌, ℕ, refl, sym, ap, subst, List, [], ◌∷◌, ◌++◌, map}
use Rattle.std.specs.Prelude.{All}
use Rattle.std.proofs.lemmas.List.Elements.{All-head, All-tail, All-nil, All-cons}
use Rattle.semantic_objects.specs.declared.name.TyName.{TyName}
use Rattle.semantic_objects.specs.declared.entry.ConEntry.{ConEntry}
use Rattle.semantic_objects.specs.declared.entry.TypeStr.{TypeStr}
use Rattle.semantic_objects.specs.declared.entry.ValueEntry.{ValueEntry}
use Rattle.semantic_objects.specs.Tables.{Table, names_of}
use Rattle.semantic_objects.specs.Environments.{Env, Structures, table_of}
use Rattle.env_parts.specs.Types.{con_types, type_types, types_in, types_in_types, types_in_values, types_in_structures}
use Rattle.realisation.specs.Names.{names_in_env}
use Rattle.realisation.specs.Environments.{Change, changed_con, changed_type, changed_value, each_row, changed_structures}
use Rattle.realisation.specs.Canonical.{to_canonical, canonical_env}
use Rattle.realisation.proofs.Listing.{Named, Each, each_left, each_right, each_by_names}
use Rattle.interface_format.specs.Rules.{AreNames, IsTypeName, IsClosed, IsTypeStructure, IsTypeRow, IsValueRow, IsEnv, AreEnvs}
use Rattle.canonical_interfaces.specs.Fair.{IsFairScheme, IsFairType, IsFairTypeRow, IsFairValueRow, IsFairEnv, AreFairEnvs}
use Rattle.canonical_interfaces.proofs.Types.{Keeps, Fits, scheme_written, function_written}

-- ---- names stay

abbrev con_name : ConEntry → List ℕ
con_name con = con.name

con_names : (c : Change) (cons : List ConEntry) → map con_name (map (changed_con c) cons) ≡ map con_name cons
con_names c [] = refl
con_names c (con ∷ cons) = ap (λ z. con.name ∷ z) (con_names c cons)

pub row_names : {A : Type 0} (f : A → A) (rows : Table A) → names_of (each_row f rows) ≡ names_of rows
row_names f [] = refl
row_names f (row ∷ rows) = ap (λ z. row.0 ∷ z) (row_names f rows)

structure_names : (c : Change) (ss : Structures)
    → names_of (table_of (changed_structures c ss)) ≡ names_of (table_of ss)
structure_names c Structures.Nil = refl
structure_names c (Structures.Cons name env rest) = ap (λ z. name ∷ z) (structure_names c rest)

-- ---- entries

abbrev FairCon : ConEntry → Type 0
FairCon con = IsFairScheme con.scheme

abbrev ClosedCon : ConEntry → Type 0
ClosedCon con = IsClosed con.scheme

cons_written : (h : TyName → TyName) → Keeps h → (cons : List ConEntry) → All FairCon cons
    → Each (Fits h) (con_types cons) → All ClosedCon (map (changed_con (to_canonical h)) cons)
cons_written h k [] s f = All-nil ClosedCon
cons_written h k (con ∷ cons) s f = All-cons ClosedCon (changed_con (to_canonical h) con)
    (map (changed_con (to_canonical h)) cons)
    (scheme_written h k con.scheme (All-head FairCon con cons s) f.0)
    (cons_written h k cons (All-tail FairCon con cons s) f.1)

structure_written : (h : TyName → TyName) → Keeps h → (str : TypeStr) → IsFairType str
    → Each (Fits h) (type_types str) → IsTypeStructure (changed_type (to_canonical h) str)
structure_written h k str s f = record {
  function = function_written h k str.function s.function f.0;
  names = subst AreNames (sym (con_names (to_canonical h) str.cons)) s.names;
  cons = cons_written h k str.cons s.cons f.1;
}

types_written : (h : TyName → TyName) → Keeps h → (ts : Table TypeStr) → All IsFairTypeRow ts
    → Each (Fits h) (types_in_types ts) → All IsTypeRow (each_row (changed_type (to_canonical h)) ts)
types_written h k [] s f = All-nil IsTypeRow
types_written h k (row ∷ rows) s f = All-cons IsTypeRow (row.0, changed_type (to_canonical h) row.1)
    (each_row (changed_type (to_canonical h)) rows)
    (structure_written h k row.1 (All-head IsFairTypeRow row rows s)
    (each_left (Fits h) (type_types row.1) (types_in_types rows) f))
    (types_written h k rows (All-tail IsFairTypeRow row rows s)
    (each_right (Fits h) (type_types row.1) (types_in_types rows) f))

values_written : (h : TyName → TyName) → Keeps h → (vs : Table ValueEntry) → All IsFairValueRow vs
    → Each (Fits h) (types_in_values vs) → All IsValueRow (each_row (changed_value (to_canonical h)) vs)
values_written h k [] s f = All-nil IsValueRow
values_written h k (row ∷ rows) s f = All-cons IsValueRow (row.0, changed_value (to_canonical h) row.1)
    (each_row (changed_value (to_canonical h)) rows)
    (scheme_written h k row.1.scheme (All-head IsFairValueRow row rows s) f.0)
    (values_written h k rows (All-tail IsFairValueRow row rows s) f.1)

-- ---- environments

mutual
  env_by_types : (h : TyName → TyName) → Keeps h → (env : Env) → IsFairEnv env → Each (Fits h) (types_in env)
      → IsEnv (canonical_env h env)
  env_by_types h k (Env.MakeEnv ss ts vs) s f =
      let rest : Each (Fits h) (types_in_types ts ++ types_in_values vs) =
      each_right (Fits h) (types_in_structures ss) (types_in_types ts ++ types_in_values vs) f in (
        record {
          structure_names = subst AreNames (sym (structure_names (to_canonical h) ss)) s.0.structure_names;
          type_names = subst AreNames (sym (row_names (changed_type (to_canonical h)) ts)) s.0.type_names;
          value_names = subst AreNames (sym (row_names (changed_value (to_canonical h)) vs)) s.0.value_names;
          types = types_written h k ts s.0.types (each_left (Fits h) (types_in_types ts) (types_in_values vs) rest);
          values = values_written h k vs s.0.values
              (each_right (Fits h) (types_in_types ts) (types_in_values vs) rest);
        },
        envs_by_types h k ss s.1
            (each_left (Fits h) (types_in_structures ss) (types_in_types ts ++ types_in_values vs) f),
      )

  envs_by_types : (h : TyName → TyName) → Keeps h → (ss : Structures) → AreFairEnvs ss
      → Each (Fits h) (types_in_structures ss) → AreEnvs (changed_structures (to_canonical h) ss)
  envs_by_types h k Structures.Nil s f = tt
  envs_by_types h k (Structures.Cons name env rest) s f = (
    env_by_types h k env s.0 (each_left (Fits h) (types_in env) (types_in_structures rest) f),
    envs_by_types h k rest s.1 (each_right (Fits h) (types_in env) (types_in_structures rest) f),
  )

-- an environment, where what becomes of each of its names can be written
pub env_written : (h : TyName → TyName) → Keeps h → (env : Env) → IsFairEnv env
    → Named (λ n. IsTypeName (h n)) (names_in_env env) → IsEnv (canonical_env h env)
env_written h k env s f =
    env_by_types h k env s (each_by_names (λ n. IsTypeName (h n)) (Fits h) (λ t n. n) (types_in env) f)
