-- An environment in which variables of a table alone stand is of what the table knows, and the other way round.
use Rattle.std.proofs.Common.{◌≡◌, ℕ, List, refl, sym, ap₂, ◌∙◌, ◌||◌}
use Rattle.semantic_objects.specs.declared.entry.TypeFn.{TypeFn}
use Rattle.semantic_objects.specs.Trees.{Tree, Trees, TypeScheme, frees, frees_any}
use Rattle.semantic_objects.specs.Environments.{Env}
use Rattle.unification.specs.Types.{Ty, State, occurs, occurs_any}
use Rattle.unification.specs.Fitting.{IsFit}
use Rattle.unification.specs.Instances.{fill_all}
use Rattle.static_semantics.specs.BasicTypes.{unit_ty}
use Rattle.static_semantics.specs.Inferring.{Progress, outermost, seen}
use Rattle.static_semantics.specs.Growing.{TyIn, SchemeIn, FunctionIn}
use Rattle.static_semantics.proofs.Holding.{env_more}
use Rattle.closing_laws.specs.Promises.{Any, IsOfState}
use Rattle.environment_ages.specs.Below.{FreesBelow, SchemeBelow, FunctionBelow, StandsBelow}

-- the variables of a type as inference reads it are those that are free in the tree
mutual
  seen_frees : (v : ℕ) (x : Tree) → occurs v (seen Ty.Var x) ≡ frees v x
  seen_frees v (Tree.Bound i) = refl
  seen_frees v (Tree.Free n) = refl
  seen_frees v (Tree.Made c xs) = all_frees v xs

  all_frees : (v : ℕ) (xs : Trees) → occurs_any v (fill_all (λ i. unit_ty) Ty.Var xs) ≡ frees_any v xs
  all_frees v Trees.Nil = refl
  all_frees v (Trees.Cons x xs) = ap₂ (λ a b. a || b) (seen_frees v x) (all_frees v xs)

type_in : (s : State) (x : Tree) → FreesBelow s.next x → TyIn Any s (seen Ty.Var x)
type_in s x h = record {
  below = λ v e. h v (sym (seen_frees v x) ∙ e);
  within = λ v e. tt;
}

type_below : (s : State) (x : Tree) → TyIn Any s (seen Ty.Var x) → FreesBelow s.next x
type_below s x h = λ v e. h.below v (seen_frees v x ∙ e)

pub ready : (home : List ℕ) (env : Env) (st : Progress) → IsFit st.types → StandsBelow st.types.next env
    → IsOfState (outermost home env) st
ready home env st fit h = record {
  fit = fit;
  new = λ v later. tt;
  scope = record {
    env = env_more (SchemeBelow st.types.next) (SchemeIn Any st.types) (FunctionBelow st.types.next)
        (FunctionIn Any st.types)
        (λ (σ : TypeScheme) k. record { closed = k.closed; body = type_in st.types σ.body k.below })
        (λ (function : TypeFn) k. type_in st.types function.body k) env h;
    written = tt;
  };
}

pub unready : (home : List ℕ) (env : Env) (st : Progress) → IsOfState (outermost home env) st
    → StandsBelow st.types.next env
unready home env st h =
    env_more (SchemeIn Any st.types) (SchemeBelow st.types.next) (FunctionIn Any st.types)
    (FunctionBelow st.types.next)
    (λ (σ : TypeScheme) k. record { closed = k.closed; below = type_below st.types σ.body k.body })
    (λ (function : TypeFn) k. type_below st.types function.body k) env h.scope.env
