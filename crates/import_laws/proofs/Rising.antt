-- Tables whose names rise are tables, and so are all tables of an environment that meets the rules of interfaces.
use Rattle.std.proofs.Common.{◌≡◌, ℕ, List, [], ◌∷◌, map, Bool, true, ◌&&◌, refl, sym, ap, ap₂, subst, All}
use Rattle.std.proofs.lemmas.List.Elements.{All-head, All-tail}
use Rattle.std.specs.Ordering.{is_lt}
use Rattle.std.specs.Cmp.Lexicographic.{nat_list_cmp_total}
use Rattle.std.specs.FinMap.Entries.{below_all}
use Rattle.semantic_objects.specs.declared.entry.ConEntry.{ConEntry}
use Rattle.semantic_objects.specs.declared.entry.TypeStr.{TypeStr}
use Rattle.semantic_objects.specs.Symbols.{AreRising}
use Rattle.semantic_objects.specs.Tables.{Table, IsTable, by_bytes, names_of}
use Rattle.semantic_objects.specs.Environments.{Env, Structures}
use Rattle.static_semantics.specs.Holding.{AllRows}
use Rattle.table_laws.specs.Rising.{con_table, RisingType, RisingEnv, RisingStructures}
use Rattle.interface_format.specs.Rules.{IsTypeRow, IsEnv, AreEnvs}

skipped : (n r : List ℕ) (ns : List (List ℕ)) → AreRising (n ∷ r ∷ ns) → AreRising (n ∷ ns)
skipped n r [] h = tt
skipped n r (m ∷ ms) h = (nat_list_cmp_total.trans n r m h.0 h.1.0, h.1.1)

both_hold : (a b : Bool) → a ≡ true → b ≡ true → (a && b) ≡ true
both_hold a b h k = ap₂ (λ x y. x && y) h k

rows_below : {A : Type 0} (n : List ℕ) (rows : Table A) → AreRising (n ∷ names_of rows) → below_all by_bytes n rows ≡ true
rows_below n [] h = refl
rows_below n (row ∷ rows) h =
    both_hold (is_lt (by_bytes n row.0)) (below_all by_bytes n rows) (ap is_lt h.0)
    (rows_below n rows (skipped n row.0 (names_of rows) h))

behind : (n : List ℕ) (ns : List (List ℕ)) → AreRising (n ∷ ns) → AreRising ns
behind n [] h = tt
behind n (m ∷ ms) h = h.1

pub is_table : {A : Type 0} (rows : Table A) → AreRising (names_of rows) → IsTable rows
is_table [] h = refl
is_table (row ∷ rows) h =
    both_hold (below_all by_bytes row.0 rows) _ (rows_below row.0 rows h)
    (is_table rows (behind row.0 (names_of rows) h))

con_names : (cons : List ConEntry) → names_of (con_table cons) ≡ map (λ (con : ConEntry). con.name) cons
con_names [] = refl
con_names (con ∷ cons) = ap (λ names. con.name ∷ names) (con_names cons)

types_rise : (rows : Table TypeStr) → All IsTypeRow rows → AllRows RisingType rows
types_rise [] h = tt
types_rise (row ∷ rows) h = (
  is_table (con_table row.1.cons)
      (subst AreRising (sym (con_names row.1.cons)) (All-head IsTypeRow row rows h).names.rising),
  types_rise rows (All-tail IsTypeRow row rows h),
)

mutual
  pub env_rises : (env : Env) → IsEnv env → RisingEnv env
  env_rises (Env.MakeEnv ss ts vs) h = (
    is_table _ h.0.structure_names.rising,
    structures_rise ss h.1,
    (is_table ts h.0.type_names.rising, types_rise ts h.0.types),
    is_table vs h.0.value_names.rising,
  )

  structures_rise : (ss : Structures) → AreEnvs ss → RisingStructures ss
  structures_rise Structures.Nil h = tt
  structures_rise (Structures.Cons name env rest) h = (env_rises env h.0, structures_rise rest h.1)
