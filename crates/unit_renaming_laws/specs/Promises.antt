-- The laws, as the public functions of this crate state them.
use Rattle.std.specs.Prelude.{◌≡◌, ℕ, List, Bool}
use Rattle.sml_trees.specs.declared.name.At.{At}
use Rattle.semantic_objects.specs.Tables.{Table}
use Rattle.semantic_objects.specs.Environments.{Env, Signature, Functor, Top}
use Rattle.unification.specs.Types.{State}
use Rattle.unification.specs.Fitting.{IsFit}
use Rattle.realisation.specs.Realised.{of_rows, realised}
use Rattle.static_semantics.specs.Inferring.{Progress, Scope}
use Rattle.static_semantics.specs.EnvironmentsPut.{each_entry, put_env, put_scope}
use Rattle.module_semantics.specs.SigPhrases.{SigPhrase}
use Rattle.module_semantics.specs.SignatureNames.{opened}
use Rattle.module_semantics.specs.SignatureInference.{signature_of}
use Rattle.module_semantics.specs.Matching.{Rows, matching, matched}
use Rattle.unit_semantics.specs.UnitPhrases.{ModulePhrase, ModuleDec, TopPhrase}
use Rattle.unit_semantics.specs.StructureInference.{functor_applied, infer_module, infer_module_dec}
use Rattle.unit_semantics.specs.UnitInference.{infer_unit}
use Rattle.unit_semantics.specs.Promises.{IsClosedEnv, IsClosedTop}
use Rattle.renaming_laws.specs.Moved.{moved, IsMoved, AreMoved, Both, Moves, MovesIn}
use Rattle.unit_renaming_laws.specs.Moved.{put_realising, put_signature, put_functor, put_top}

-- in a state with `k` variables more in front, with all that is in scope by their later numbers, a signature expression
-- gives nothing too, or the same diagnostic, or the signature that it gives without them, moved; and a signature is
-- opened, and realised, to the same, moved
pub record SignaturesMove : Type 0 where
  pub sig : (k : ℕ) (sigs : Table Signature) (sc : Scope) (sig : SigPhrase) (st u : Progress) → AreMoved k st u
      → Both (MovesIn k (put_signature (moved k))) (signature_of sigs sc sig st)
      (signature_of (each_entry (put_signature (moved k)) sigs) (put_scope (moved k) sc) sig u)
  pub opened : (k : ℕ) (home : List ℕ) (sig : Signature) (st u : Progress) → AreMoved k st u
      → MovesIn k (put_signature (moved k)) (opened home sig st) (opened home (put_signature (moved k) sig) u)
  pub realised : (k : ℕ) (rows : Rows) (env : Env)
      → realised (of_rows (put_realising (moved k) rows)) (put_env (moved k) env)
      ≡ put_env (moved k) (realised (of_rows rows) env)

-- an environment matches a signature, both moved, by the same rows, moved, or is refused by the same diagnostic
pub record MatchingMoves : Type 0 where
  pub rows : (k : ℕ) (sc : Scope) (at : At) (s r : State) (env : Env) (sig : Signature) → IsMoved k s r
      → Both (Moves (put_realising (moved k))) (matching sc at s env sig)
      (matching (put_scope (moved k) sc) at r (put_env (moved k) env) (put_signature (moved k) sig))
  pub env : (k : ℕ) (sc : Scope) (at : At) (s r : State) (env : Env) (sig : Signature) → IsMoved k s r
      → Both (Moves (put_env (moved k))) (matched sc at s env sig)
      (matched (put_scope (moved k) sc) at r (put_env (moved k) env) (put_signature (moved k) sig))

-- the same of structure expressions and the declarations in them, of a functor with its argument, and of whole units
pub record UnitsMove : Type 0 where
  pub applied : (k : ℕ) (sc : Scope) (at : At) (fun : Functor) (env : Env) (st u : Progress) → AreMoved k st u
      → Both (MovesIn k (put_env (moved k))) (functor_applied sc at fun (env, st))
      (functor_applied (put_scope (moved k) sc) at (put_functor (moved k) fun) (put_env (moved k) env, u))
  pub dec : (k depth : ℕ) (home : List ℕ) (top : Top) (dec : ModuleDec) (st u : Progress) → AreMoved k st u
      → Both (MovesIn k (put_env (moved k))) (infer_module_dec depth home top dec st)
      (infer_module_dec depth home (put_top (moved k) top) dec u)
  pub str : (k depth : ℕ) (home : List ℕ) (top : Top) (str : ModulePhrase) (st u : Progress) → AreMoved k st u
      → Both (MovesIn k (put_env (moved k))) (infer_module depth home top str st)
      (infer_module depth home (put_top (moved k) top) str u)
  pub unit : (k depth : ℕ) (home : List ℕ) (basis : Env) (given : Top) (sealing : Bool) (tops : List TopPhrase)
      (st u : Progress) → AreMoved k st u
      → Both (MovesIn k (put_top (moved k))) (infer_unit depth home basis given sealing tops st)
      (infer_unit depth home (put_env (moved k) basis) (put_top (moved k) given) sealing tops u)

-- what a unit defines in two runs is the same, and the next type name has the same number
pub record DefinesSame (r v : Top × Progress) : Type 0 where
  pub top : v.0 ≡ r.0
  pub names : v.1.names ≡ r.1.names

-- over a basis and what is given in which no type variable of a table stands, a unit gives nothing, or the same
-- diagnostic, or the same, from whichever fit state with that next type name it is inferred: what a table holds of
-- earlier units changes nothing
pub record UnitsBeginAnywhere : Type 0 where
  pub unit : (depth : ℕ) (home : List ℕ) (basis : Env) (given : Top) (sealing : Bool) (tops : List TopPhrase)
      (st u : Progress) → IsClosedEnv basis → IsClosedTop given → IsFit st.types → IsFit u.types
      → u.names ≡ st.names
      → Both DefinesSame (infer_unit depth home basis given sealing tops st)
      (infer_unit depth home basis given sealing tops u)
