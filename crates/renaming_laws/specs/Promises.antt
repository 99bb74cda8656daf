-- The laws, as the public functions of this crate state them.
use Rattle.std.specs.Prelude.{◌≡◌, ℕ, List}
use Rattle.sml_trees.specs.declared.name.At.{At}
use Rattle.semantic_objects.specs.Trees.{Tree, TypeScheme}
use Rattle.semantic_objects.specs.Environments.{Env}
use Rattle.unification.specs.Types.{Ty, State, put}
use Rattle.unification.specs.Fitting.{IsFit, no_variable}
use Rattle.unification.specs.Closing.{canonical_scheme, put_tree}
use Rattle.unification.specs.Generality.{same_tree, covers}
use Rattle.bare_phrases.specs.Phrases.{TyPhrase, PatPhrase, ExpPhrase, Rules, DecPhrase, DatPhrase, ExPhrase}
use Rattle.static_semantics.specs.Inferring.{Progress, Scope, outermost, Bound, unify_at}
use Rattle.static_semantics.specs.TypeInference.{infer_ty}
use Rattle.static_semantics.specs.PatternInference.{infer_pat}
use Rattle.static_semantics.specs.DatatypeInference.{datatypes_of, exceptions_of}
use Rattle.static_semantics.specs.CoreInference.{infer_exp, infer_match, infer_dec}
use Rattle.static_semantics.specs.EnvironmentsPut.{put_scheme, put_env, put_rows, put_scope}
use Rattle.renaming_laws.specs.Moved.{moved, IsMoved, AreMoved, Both, Moves, MovesIn, MovesBoth}
use Rattle.renaming_laws.specs.Firm.{FirmEnv, GivesSame}

-- inference in a state with `k` variables more in front, in the scope with its variables by their later numbers, gives
-- nothing too, or the same diagnostic, or what it gives without them, moved, and a state that is moved likewise
pub record InferenceMoves : Type 0 where
  pub unified : (k depth : ℕ) (sc : Scope) (at : At) (a b : Ty) (st u : Progress) → AreMoved k st u
      → Both (AreMoved k) (unify_at depth sc at a b st)
      (unify_at depth (put_scope (moved k) sc) at (put (moved k) a) (put (moved k) b) u)
  pub ty : (k : ℕ) (sc : Scope) (ty : TyPhrase)
      → Both (Moves (put (moved k))) (infer_ty sc ty) (infer_ty (put_scope (moved k) sc) ty)
  pub pat : (k depth : ℕ) (sc : Scope) (pat : PatPhrase) (bound : Bound) (st u : Progress) → AreMoved k st u
      → Both (MovesBoth k (put (moved k)) (put_rows (moved k))) (infer_pat depth sc pat bound st)
      (infer_pat depth (put_scope (moved k) sc) pat (put_rows (moved k) bound) u)
  pub exp : (k depth : ℕ) (sc : Scope) (exp : ExpPhrase) (st u : Progress) → AreMoved k st u
      → Both (MovesIn k (put (moved k))) (infer_exp depth sc exp st) (infer_exp depth (put_scope (moved k) sc) exp u)
  pub rules : (k depth : ℕ) (sc : Scope) (rules : Rules) (st u : Progress) → AreMoved k st u
      → Both (MovesIn k (put (moved k))) (infer_match depth sc rules st)
      (infer_match depth (put_scope (moved k) sc) rules u)
  pub dec : (k depth : ℕ) (sc : Scope) (dec : DecPhrase) (st u : Progress) → AreMoved k st u
      → Both (MovesIn k (put_env (moved k))) (infer_dec depth sc dec st) (infer_dec depth (put_scope (moved k) sc) dec u)
  pub datatypes : (k : ℕ) (sc : Scope) (refused : List (List ℕ)) (binds : List DatPhrase) (st u : Progress)
      → AreMoved k st u
      → Both (MovesIn k (put_env (moved k))) (datatypes_of sc refused binds st)
      (datatypes_of (put_scope (moved k) sc) refused binds u)
  pub exceptions : (k : ℕ) (sc : Scope) (binds : List ExPhrase)
      → Both (Moves (put_env (moved k))) (exceptions_of sc binds) (exceptions_of (put_scope (moved k) sc) binds)

-- a state that is fit is the empty one, moved behind all variables that it has; an environment without variables of the
-- table stays. So in such an environment a declaration gives nothing, or the same diagnostic, or what is the same as it
-- is known, from whichever fit state it is inferred
pub record BeginsAnywhere : Type 0 where
  pub begins : (s : State) → IsFit s → IsMoved s.next no_variable s
  pub stays : (k : ℕ) (env : Env) → FirmEnv env → put_env (moved k) env ≡ env
  pub dec : (depth : ℕ) (home : List ℕ) (env : Env) (dec : DecPhrase) (st u : Progress) → FirmEnv env
      → IsFit st.types → IsFit u.types → u.names ≡ st.names
      → Both GivesSame (infer_dec depth (outermost home env) dec st) (infer_dec depth (outermost home env) dec u)

-- of two schemes, moved, the one covers the other where it did before; trees are one where they were, and the one form
-- of a scheme moves with it
pub record GeneralityMoves : Type 0 where
  pub covers : (k : ℕ) (s r : State) (g h : TypeScheme) → IsMoved k s r
      → covers r (put_scheme (moved k) g) (put_scheme (moved k) h) ≡ covers s g h
  pub same : (k : ℕ) (t u : Tree) → same_tree (put_tree (moved k) t) (put_tree (moved k) u) ≡ same_tree t u
  pub canonical : (k : ℕ) (σ : TypeScheme)
      → canonical_scheme (put_scheme (moved k) σ) ≡ put_scheme (moved k) (canonical_scheme σ)
