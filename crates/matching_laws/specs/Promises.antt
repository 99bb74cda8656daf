-- The law of matching that `MatchesByRules` leaves open, as the public function of this crate states it.
use Rattle.std.specs.Prelude.{◌≡◌, ◌↔◌, ℕ, List, Some}
use Rattle.sml_trees.specs.declared.name.At.{At}
use Rattle.semantic_objects.specs.declared.name.TyName.{TyName}
use Rattle.semantic_objects.specs.declared.entry.TypeStr.{TypeStr}
use Rattle.semantic_objects.specs.Environments.{Env, Signature, types}
use Rattle.unification.specs.Types.{State}
use Rattle.unification.specs.Generality.{IsOf}
use Rattle.realisation.specs.Realised.{Realisation, of_rows, realised}
use Rattle.static_semantics.specs.Inferring.{Scope, gives, found_at}
use Rattle.static_semantics.specs.Holding.{AllItems}
use Rattle.module_semantics.specs.Matching.{items, Rows, matching, matched}
use Rattle.module_semantics.specs.ElaboratesSignatures.{Matches}
use Rattle.module_semantics.specs.Promises.{IsOfState, IsItemOf, StandAlone}

-- rows that matching gives, and that put what a realisation puts
pub record FindsRows (sc : Scope) (at : At) (s : State) (env : Env) (sig : Signature) (φ : Realisation) : Type 0 where
  pub rows : Rows
  pub found : matching sc at s env sig ≡ gives rows
  pub same : (name : TyName) → of_rows rows name ≡ φ name

-- wherever a realisation matches, matching gives it, and the signature's environment so realised: no place and no scope
-- refuses it. So matching refuses only where none matches. It is asked that each bound name stands alone at a type, as
-- those of a source do, and that what is matched is of the state
pub record MatchesWhereOneDoes : Type 0 where
  pub finds : (sc : Scope) (at : At) (s : State) (env : Env) (sig : Signature) (φ : Realisation) → IsOfState s env
      → StandAlone sig → AllItems (IsItemOf s) (items (realised φ sig.env)) → Matches s env sig φ
      → FindsRows sc at s env sig φ
  pub gives_it : (sc : Scope) (at : At) (s : State) (env : Env) (sig : Signature) (φ : Realisation) → IsOfState s env
      → StandAlone sig → AllItems (IsItemOf s) (items (realised φ sig.env)) → Matches s env sig φ
      → matched sc at s env sig ≡ gives (realised φ sig.env)

-- an environment and a signature of a state: their schemes and type functions have variables of the state alone, and
-- type functions their own variables alone
pub record AreOfState (s : State) (env : Env) (sig : Signature) : Type 0 where
  pub state : IsOfState s env
  pub functions : (path : List (List ℕ)) (str : TypeStr) → found_at types path env ≡ Some str
      → IsOf s str.function.body
  pub values : AllItems (IsItemOf s) (items sig.env)

-- so matching accepts exactly where a realisation matches
pub record MatchesExactlyWhereOneDoes : Type 0 where
  pub exactly : (sc : Scope) (at : At) (s : State) (env : Env) (sig : Signature) → AreOfState s env sig → StandAlone sig
      → ((rows : Rows) × (matching sc at s env sig ≡ gives rows)) ↔ ((φ : Realisation) × Matches s env sig φ)
