-- Trees that are too large, as what is known of variables has them. Only private functions cite this file.
use Rattle.std.specs.Prelude.{◌≡◌, ℕ, List, [], ◌∷◌, map, Bool, cond, eqb}
use Rattle.std.specs.List.{list_any}
use Rattle.semantic_objects.specs.declared.name.TyId.{TyId}
use Rattle.semantic_objects.specs.declared.entry.TypeStr.{TypeStr}
use Rattle.semantic_objects.specs.declared.entry.ValueEntry.{ValueEntry}
use Rattle.semantic_objects.specs.Tables.{Table}
use Rattle.semantic_objects.specs.Trees.{Tree}
use Rattle.unification.specs.Types.{Substitution}
use Rattle.static_semantics.specs.Inferring.{seen, is_too_large, con_bodies}

-- all of a list are this one
abbrev pub AreAll : TyId → List TyId → Type 0
AreAll id [] = Unit {0}
AreAll id (a ∷ ids) = (a ≡ id) × AreAll id ids

abbrev pub is_large_in : Substitution → Tree → Bool
is_large_in s tree = is_too_large (seen s tree)

abbrev pub any_large : Substitution → List Tree → Bool
any_large s trees = list_any (is_large_in s) trees

abbrev pub large_value : Substitution → ValueEntry → Bool
large_value s entry = is_large_in s entry.scheme.body

abbrev pub large_type : Substitution → TypeStr → Bool
large_type s str = any_large s (str.function.body ∷ con_bodies str.cons)

-- a fact as a number, and whether any of some numbers is the one of a fact that holds
abbrev pub flag : Bool → ℕ
flag b = cond b 1 0

abbrev pub any_flag : Table ℕ → Bool
any_flag rows = list_any (eqb 1) (map (λ (row : List ℕ × ℕ). row.1) rows)
