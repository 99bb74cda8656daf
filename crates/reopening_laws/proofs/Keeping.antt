-- What is kept in a scope with types put in.
use Rattle.std.proofs.Common.{◌≡◌, ℕ, ◌+◌, ◌<◌, ◌≤◌, List, [], ◌∷◌, ◌++◌, map, refl, sym, ap, ap₂, ◌∙◌, arith, Bool, false, ◌||◌}
use Rattle.std.proofs.lemmas.Bool.{ltb-true}
use Rattle.std.specs.Prelude.{ltb}
use Rattle.std.specs.List.{list_any}
use Rattle.semantic_objects.specs.declared.entry.ConEntry.{ConEntry}
use Rattle.semantic_objects.specs.declared.entry.TypeStr.{TypeStr}
use Rattle.semantic_objects.specs.declared.entry.ValueEntry.{ValueEntry}
use Rattle.semantic_objects.specs.Tables.{Table}
use Rattle.semantic_objects.specs.Trees.{Tree}
use Rattle.semantic_objects.specs.Environments.{Env, Structures}
use Rattle.unification.specs.Types.{Ty, Substitution, State, put, occurs}
use Rattle.unification.specs.Closing.{held_below, put_tree}
use Rattle.unification.proofs.Walking.{either_way, or_either}
use Rattle.unification.proofs.Promised.{closes_types}
use Rattle.unification.proofs.Filling.{fill_put}
use Rattle.unification.proofs.Putting.{put_free}
use Rattle.static_semantics.specs.BasicTypes.{unit_ty}
use Rattle.static_semantics.specs.Inferring.{Progress, Scope, seen, con_bodies, type_bodies, value_bodies, bodies, structure_bodies, free_in_env, free_in_written, is_kept}
use Rattle.static_semantics.specs.EnvironmentsPut.{put_con, put_type, put_value, each_entry, put_env, put_structures, put_rows, put_scope}
use Rattle.static_semantics.specs.Growing.{ScopeIn}
use Rattle.static_semantics.proofs.Ages.{kept_aged}
use Rattle.inference_laws.specs.Promises.{Any}
use Rattle.reopening_laws.specs.Reopening.{Reopened}

pub mapped_after : {A B : Type 0} (f : A → B) (xs ys : List A) → map f (xs ++ ys) ≡ map f xs ++ map f ys
mapped_after f [] ys = refl
mapped_after f (x ∷ xs) ys = ap (λ z. f x ∷ z) (mapped_after f xs ys)

con_bodies_put : (s : Substitution) (cons : List ConEntry)
    → con_bodies (map (put_con s) cons) ≡ map (put_tree s) (con_bodies cons)
con_bodies_put s [] = refl
con_bodies_put s (con ∷ cons) = ap (λ z. put_tree s con.scheme.body ∷ z) (con_bodies_put s cons)

type_bodies_put : (s : Substitution) (rows : Table TypeStr)
    → type_bodies (each_entry (put_type s) rows) ≡ map (put_tree s) (type_bodies rows)
type_bodies_put s [] = refl
type_bodies_put s (row ∷ rows) = ap (λ z. put_tree s row.1.function.body ∷ z)
    (ap₂ (λ a b. a ++ b) (con_bodies_put s row.1.cons) (type_bodies_put s rows)
    ∙ sym (mapped_after (put_tree s) (con_bodies row.1.cons) (type_bodies rows)))

value_bodies_put : (s : Substitution) (rows : Table ValueEntry)
    → value_bodies (each_entry (put_value s) rows) ≡ map (put_tree s) (value_bodies rows)
value_bodies_put s [] = refl
value_bodies_put s (row ∷ rows) = ap (λ z. put_tree s row.1.scheme.body ∷ z) (value_bodies_put s rows)

mutual
  bodies_put : (s : Substitution) (env : Env) → bodies (put_env s env) ≡ map (put_tree s) (bodies env)
  bodies_put s (Env.MakeEnv ss ts vs) =
      ap₂ (λ a b. a ++ b) (structure_bodies_put s ss)
      (ap₂ (λ a b. a ++ b) (type_bodies_put s ts) (value_bodies_put s vs)
      ∙ sym (mapped_after (put_tree s) (type_bodies ts) (value_bodies vs)))
      ∙ sym (mapped_after (put_tree s) (structure_bodies ss) (type_bodies ts ++ value_bodies vs))

  structure_bodies_put : (s : Substitution) (ss : Structures)
      → structure_bodies (put_structures s ss) ≡ map (put_tree s) (structure_bodies ss)
  structure_bodies_put s Structures.Nil = refl
  structure_bodies_put s (Structures.Cons name env rest) =
      ap₂ (λ a b. a ++ b) (bodies_put s env) (structure_bodies_put s rest)
      ∙ sym (mapped_after (put_tree s) (bodies env) (structure_bodies rest))

any_put : (s : Substitution) (v : ℕ) (trees : List Tree)
    → list_any (λ tree. occurs v (seen Ty.Var tree)) (map (put_tree s) trees)
    ≡ list_any (λ tree. occurs v (seen s tree)) trees
any_put s v [] = refl
any_put s v (x ∷ xs) = ap₂ (λ a b. a || b) (ap (occurs v) (fill_put (λ i. unit_ty) s x)) (any_put s v xs)

pub free_put : (s : Substitution) (v : ℕ) (env : Env) → free_in_env v Ty.Var (put_env s env) ≡ free_in_env v s env
free_put s v env = ap (list_any (λ tree. occurs v (seen Ty.Var tree))) (bodies_put s env) ∙ any_put s v (bodies env)

written_put : (s : Substitution) (v : ℕ) (rows : List (List ℕ × Ty))
    → free_in_written v Ty.Var (put_rows s rows) ≡ free_in_written v s rows
written_put s v [] = refl
written_put s v (row ∷ rows) = ap₂ (λ a b. a || b) (ap (occurs v) (put_free (put s row.1))) (written_put s v rows)

pub kept_put : (s : Substitution) (v : ℕ) (sc : Scope) → is_kept (put_scope s sc) Ty.Var v ≡ is_kept sc s v
kept_put s v sc = ap₂ (λ a b. a || b) (free_put s v sc.env) (written_put s v sc.written)

-- a variable that was put in for a closed one isn't kept around
pub new_apart : (closes : ℕ → Bool) (p : State) (sc : Scope) (st : Progress) (r : Reopened closes p st.types)
    → ScopeIn Any st.types sc → (v : ℕ) → is_kept (put_scope p.stands sc) Ty.Var (r.from + v) ≡ false
new_apart closes p sc st r h v = either_way (is_kept (put_scope p.stands sc) Ty.Var (r.from + v))
    (λ e. or_either (ltb (r.from + v) st.types.next) (held_below st.types.next p.stands (r.from + v))
    (kept_aged sc st p.stands (r.from + v) h (sym (kept_put p.stands (r.from + v) sc) ∙ e))
    (λ i. let below : r.from + v < st.types.next = ltb-true (r.from + v) st.types.next i in
    let new : st.types.next ≤ r.from = r.new in absurd (omega (arith, below, new)))
    (λ i. let k = (closes_types.held st.types.next p.stands (r.from + v)).0 i in
    let below : r.from + v < r.from = r.below k.0 k.1 (r.from + v) k.2 in absurd (omega (arith, below))))
    (λ e. e)
