-- Whether a top meets the rules of interfaces, as plain functions that say it.
use Rattle.std.specs.Prelude.{ℕ, ◌^◌, nat_lt, nat_le, eqb, List, [], ◌∷◌, length, map, filter, Bool, true, false, not, ◌&&◌, ◌||◌}
use Rattle.std.specs.List.{list_all, range_with_len}
use Rattle.std.specs.Ordering.{is_lt}
use Rattle.node_bytes.specs.Spelling.{nodes_of}
use Rattle.node_bytes.specs.Interfaces.{interfaces}
use Rattle.semantic_objects.specs.declared.name.Owner.{Owner}
use Rattle.semantic_objects.specs.declared.name.Owner.TheVariants as owner
use Rattle.semantic_objects.specs.declared.name.TyName.{TyName}
use Rattle.semantic_objects.specs.declared.symbol.Symbol.{Symbol}
use Rattle.semantic_objects.specs.declared.symbol.Symbol.TheVariants as symbol
use Rattle.semantic_objects.specs.declared.entry.ConEntry.{ConEntry}
use Rattle.semantic_objects.specs.declared.entry.TypeFn.{TypeFn}
use Rattle.semantic_objects.specs.declared.entry.TypeStr.{TypeStr}
use Rattle.semantic_objects.specs.declared.entry.ValueEntry.{ValueEntry}
use Rattle.semantic_objects.specs.Symbols.{part_count, same_list, same_text, same_owner, same_name}
use Rattle.semantic_objects.specs.Tables.{Table, by_bytes, names_of}
use Rattle.semantic_objects.specs.Trees.{Tree, Trees, TypeScheme}
use Rattle.semantic_objects.specs.Environments.{Env, Structures, Signature, Functor, Top, table_of, types, values}
use Rattle.unification.specs.Closing.{bound_in}
use Rattle.realisation.specs.Names.{names_in_env, names_in_top}
use Rattle.realisation.specs.Canonical.{met, is_own, is_bound_name}
use Rattle.canonical_interfaces.specs.Fair.{is_other}
use Rattle.interface_conditions.specs.Names.{is_graph}
use Rattle.interface_format.specs.Trees.{top_node}
use Rattle.interface_format.specs.Rules.{count_trees, is_beyond}
use Rattle.interface_format.specs.Interfaces.{interface_bytes}

-- ---- numbers, names and labels

abbrev pub is_number : ℕ → Bool
is_number n = nat_lt n (2 ^ 32)

abbrev pub is_name : List ℕ → Bool
is_name name = nat_le 1 (length name) && (nat_le (length name) 255 && list_all is_graph name)

abbrev pub are_rising : List (List ℕ) → Bool
are_rising [] = true
are_rising (l ∷ []) = true
are_rising (l ∷ m ∷ ls) = is_lt (by_bytes l m) && are_rising (m ∷ ls)

abbrev pub are_names : List (List ℕ) → Bool
are_names names = list_all is_name names && (are_rising names && is_number (length names))

-- ---- types

abbrev pub has_text : Owner → Bool
has_text owner.Basis = true
has_text (owner.«Unit» u) = is_number (length u)
has_text owner.Bound = true

abbrev pub is_type_name : TyName → Bool
is_type_name name = has_text name.owner && (is_number name.number && is_number name.arity)

abbrev pub is_symbol : Symbol → Bool
is_symbol symbol.Arrow = true
is_symbol (symbol.Record labels) = are_names labels
is_symbol (symbol.Name name) = is_type_name name

abbrev pub is_over : Symbol → ℕ → Bool
is_over c count = is_symbol c && eqb count (part_count c)

abbrev mutual
  pub is_type : ℕ → Tree → Bool
  is_type count (Tree.Bound i) = nat_lt i count
  is_type count (Tree.Free n) = false
  is_type count (Tree.Made c ts) = is_over c (count_trees ts) && are_types count ts

  pub are_types : ℕ → Trees → Bool
  are_types count Trees.Nil = true
  are_types count (Trees.Cons t ts) = is_type count t && are_types count ts

-- ---- entries

abbrev pub is_function : TypeFn → Bool
is_function function = is_number function.arity && is_type function.arity function.body

abbrev pub is_closed : TypeScheme → Bool
is_closed σ = is_number (length σ.marks) && (is_type (length σ.marks) σ.body
    && same_text (bound_in σ.body []) (range_with_len 0 (length σ.marks)))

abbrev pub con_name : ConEntry → List ℕ
con_name con = con.name

abbrev pub is_con : ConEntry → Bool
is_con con = is_closed con.scheme

abbrev pub is_type_structure : TypeStr → Bool
is_type_structure str = is_function str.function && (are_names (map con_name str.cons) && list_all is_con str.cons)

abbrev pub is_type_row : List ℕ × TypeStr → Bool
is_type_row row = is_type_structure row.1

abbrev pub is_value_row : List ℕ × ValueEntry → Bool
is_value_row row = is_closed row.1.scheme

-- ---- environments

abbrev pub are_tables : Structures → Table TypeStr → Table ValueEntry → Bool
are_tables ss ts vs = are_names (names_of (table_of ss)) && (are_names (names_of ts) && (are_names (names_of vs)
    && (list_all is_type_row ts && list_all is_value_row vs)))

abbrev mutual
  pub is_env : Env → Bool
  is_env (Env.MakeEnv ss ts vs) = are_tables ss ts vs && are_envs ss

  pub are_envs : Structures → Bool
  are_envs Structures.Nil = true
  are_envs (Structures.Cons name env rest) = is_env env && are_envs rest

-- ---- type names

abbrev pub number_of_name : TyName → ℕ
number_of_name name = name.number

abbrev pub are_numbered : ℕ → List TyName → Bool
are_numbered first names = same_text (map number_of_name names) (range_with_len first (length names))

-- two names with one owner and one number are one
abbrev pub agrees_with : TyName → TyName → Bool
agrees_with m n = not (same_owner m.owner n.owner && eqb m.number n.number) || same_name m n

abbrev pub agree : List TyName → Bool
agree names = list_all (λ m. list_all (agrees_with m) names) names

abbrev pub is_signature : Signature → Bool
is_signature sig = is_env sig.env && (same_list same_name sig.bound (met is_bound_name (names_in_env sig.env))
    && (are_numbered 0 sig.bound && is_number (length sig.bound)))

abbrev pub binds_exactly : Functor → Bool
binds_exactly fun = same_list same_name fun.bound (met is_bound_name (names_in_env fun.param))
    && same_list same_name fun.further (met (is_beyond fun.bound) (names_in_env fun.result))

abbrev pub has_numbers : Functor → Bool
has_numbers fun = are_numbered 0 fun.bound && (are_numbered (length fun.bound) fun.further
    && (is_number (length fun.bound) && is_number (length fun.further)))

abbrev pub is_functor : Functor → Bool
is_functor fun = (is_env fun.param && is_env fun.result) && (binds_exactly fun && has_numbers fun)

abbrev pub is_signature_row : List ℕ × Signature → Bool
is_signature_row row = is_signature row.1

abbrev pub is_functor_row : List ℕ × Functor → Bool
is_functor_row row = is_functor row.1

-- ---- tops

abbrev pub is_empty : {A : Type 0} → List A → Bool
is_empty [] = true
is_empty (x ∷ xs) = false

abbrev pub has_env_alone : Env → Bool
has_env_alone env = is_env env && (is_empty (types env) && is_empty (values env))

abbrev pub are_signatures : Table Signature → Bool
are_signatures rows = are_names (names_of rows) && list_all is_signature_row rows

abbrev pub are_functors : Table Functor → Bool
are_functors rows = are_names (names_of rows) && list_all is_functor_row rows

abbrev pub has_tables : Top → Bool
has_tables top = has_env_alone top.env
    && (are_signatures top.signatures && (are_functors top.functors && are_functors top.funsigs))

abbrev pub has_names : List ℕ → Top → Bool
has_names home top = are_numbered 0 (met (is_own home) (names_in_top top))
    && (agree (filter (is_other home) (names_in_top top)) && is_empty (filter is_bound_name (names_in_env top.env)))

abbrev pub is_interface : List ℕ → List ℕ → Top → Bool
is_interface home bytes top = has_tables top && (has_names home top
    && (nat_le (length (nodes_of interfaces (top_node home top))) (2 ^ 32)
    && same_text bytes (interface_bytes home top)))
