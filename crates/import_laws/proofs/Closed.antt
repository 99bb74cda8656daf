-- No variable of a table stands in a type that meets the rules of interfaces, and its own are below the count.
use Rattle.std.proofs.Common.{◌≡◌, ℕ, ◌<◌, List, [], ◌∷◌, Bool, true, false, ◌||◌, eqb, refl, sym, ap₂, subst, All}
use Rattle.std.proofs.lemmas.Bool.{eqb-true}
use Rattle.std.proofs.lemmas.List.Elements.{All-head, All-tail}
use Rattle.semantic_objects.specs.declared.entry.ConEntry.{ConEntry}
use Rattle.semantic_objects.specs.declared.entry.TypeStr.{TypeStr}
use Rattle.semantic_objects.specs.declared.entry.ValueEntry.{ValueEntry}
use Rattle.semantic_objects.specs.Tables.{Table}
use Rattle.semantic_objects.specs.Trees.{Tree, Trees, binds, binds_any, BindsBelow}
use Rattle.semantic_objects.specs.Environments.{Env, Structures}
use Rattle.env_parts.specs.Types.{holds_free, any_holds_free}
use Rattle.static_semantics.specs.Holding.{AllItems, AllRows, ConHas, TypeHas, ValueHas, StructuresHave}
use Rattle.unit_semantics.specs.Promises.{IsClosedScheme, IsClosedFunction, IsClosedEnv}
use Rattle.interface_format.specs.Rules.{IsType, AreTypes, IsClosed, IsTypeRow, IsValueRow, IsEnv, AreEnvs}

neither : (a b : Bool) → a ≡ false → b ≡ false → (a || b) ≡ false
neither a b h k = ap₂ (λ x y. x || y) h k

mutual
  pub no_variable : (count : ℕ) (t : Tree) → IsType count t → holds_free t ≡ false
  no_variable count (Tree.Bound i) h = refl
  no_variable count (Tree.Free n) h = absurd h
  no_variable count (Tree.Made c ts) h = no_variables count ts h.1

  no_variables : (count : ℕ) (ts : Trees) → AreTypes count ts → any_holds_free ts ≡ false
  no_variables count Trees.Nil h = refl
  no_variables count (Trees.Cons t ts) h =
      neither (holds_free t) (any_holds_free ts) (no_variable count t h.0) (no_variables count ts h.1)

equal : (i j : ℕ) → eqb i j ≡ true → j ≡ i
equal i j h = sym (eqb-true i j h)

either : {P : Type 0} (a b : Bool) → (a || b) ≡ true → (a ≡ true → P) → (b ≡ true → P) → P
either true b h f g = f refl
either false b h f g = g h

mutual
  pub binds_below : (count : ℕ) (t : Tree) → IsType count t → BindsBelow count t
  binds_below count (Tree.Bound j) h = λ i e. subst (λ k. k < count) (equal i j e) h
  binds_below count (Tree.Free n) h = absurd h
  binds_below count (Tree.Made c ts) h = all_bind_below count ts h.1

  all_bind_below : (count : ℕ) (ts : Trees) → AreTypes count ts → (i : ℕ) → binds_any i ts ≡ true → i < count
  all_bind_below count Trees.Nil h = λ i e. absurd (cc)
  all_bind_below count (Trees.Cons t ts) h = λ i e.
      either (binds i t) (binds_any i ts) e (binds_below count t h.0 i) (all_bind_below count ts h.1 i)

cons_closed : (cons : List ConEntry) → All (λ (con : ConEntry). IsClosed con.scheme) cons
    → AllItems (ConHas IsClosedScheme) cons
cons_closed [] h = tt
cons_closed (con ∷ cons) h = (
  no_variable _ con.scheme.body (All-head (λ (c : ConEntry). IsClosed c.scheme) con cons h).body,
  cons_closed cons (All-tail (λ (c : ConEntry). IsClosed c.scheme) con cons h),
)

types_closed : (rows : Table TypeStr) → All IsTypeRow rows → AllRows (TypeHas IsClosedScheme IsClosedFunction) rows
types_closed [] h = tt
types_closed (row ∷ rows) h =
    let str = All-head IsTypeRow row rows h in (
      (no_variable _ row.1.function.body str.function.body, cons_closed row.1.cons str.cons),
      types_closed rows (All-tail IsTypeRow row rows h),
    )

values_closed : (rows : Table ValueEntry) → All IsValueRow rows → AllRows (ValueHas IsClosedScheme) rows
values_closed [] h = tt
values_closed (row ∷ rows) h = (
  no_variable _ row.1.scheme.body (All-head IsValueRow row rows h).body,
  values_closed rows (All-tail IsValueRow row rows h),
)

mutual
  pub env_closed : (env : Env) → IsEnv env → IsClosedEnv env
  env_closed (Env.MakeEnv ss ts vs) h = (structures_closed ss h.1, types_closed ts h.0.types, values_closed vs h.0.values)

  structures_closed : (ss : Structures) → AreEnvs ss → StructuresHave IsClosedScheme IsClosedFunction ss
  structures_closed Structures.Nil h = tt
  structures_closed (Structures.Cons name env rest) h = (env_closed env h.0, structures_closed rest h.1)
