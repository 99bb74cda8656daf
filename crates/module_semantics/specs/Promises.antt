-- The laws of matching, as the public functions of this crate state them.
use Rattle.std.specs.Prelude.{◌≡◌, ℕ, List, [], ◌∷◌, Some, true, ◌⊎◌}
use Rattle.sml_trees.specs.declared.name.At.{At}
use Rattle.semantic_objects.specs.declared.name.TyName.{TyName}
use Rattle.semantic_objects.specs.declared.entry.TypeStr.{TypeStr}
use Rattle.semantic_objects.specs.declared.entry.ValueEntry.{ValueEntry}
use Rattle.semantic_objects.specs.Trees.{BindsBelow}
use Rattle.semantic_objects.specs.Environments.{Env, Signature, types, values}
use Rattle.unification.specs.Types.{State}
use Rattle.unification.specs.Generality.{IsOf, MarksOwn}
use Rattle.realisation.specs.Names.{is_listed}
use Rattle.realisation.specs.Realised.{Realisation, of_rows, realised}
use Rattle.static_semantics.specs.Inferring.{Scope, found_at}
use Rattle.static_semantics.specs.Holding.{Given, AllItems}
use Rattle.module_semantics.specs.SignatureNames.{name_alone}
use Rattle.module_semantics.specs.Matching.{Item, items, matching}
use Rattle.module_semantics.specs.ElaboratesSignatures.{Matches}

-- an environment of a state: type functions have their own variables alone, and schemes those of the state
pub record IsOfState (s : State) (env : Env) : Type 0 where
  pub marks : MarksOwn s
  pub functions : (path : List (List ℕ)) (str : TypeStr) → found_at types path env ≡ Some str
      → BindsBelow str.function.arity str.function.body
  pub values : (path : List (List ℕ)) (value : ValueEntry) → found_at values path env ≡ Some value
      → IsOf s value.scheme.body

-- what is specified has variables of the state alone
abbrev pub IsItemOf : State → Item → Type 0
IsItemOf s (Item.StructureItem path) = Unit {0}
IsItemOf s (Item.TypeItem path str) = Unit {0}
IsItemOf s (Item.ValueItem path value) = IsOf s value.scheme.body

-- an item of a list
abbrev pub IsOneOf : Item → List Item → Type 0
IsOneOf x [] = ⊥
IsOneOf x (y ∷ ys) = (x ≡ y) ⊎ IsOneOf x ys

-- each name that a signature binds stands alone at a type somewhere in it, as those of a source do
abbrev pub StandAlone : Signature → Type 0
StandAlone sig = (name : TyName) → is_listed name sig.bound ≡ true
    → (path : List (List ℕ)) × (str : TypeStr) × IsOneOf (Item.TypeItem path str) (items sig.env)
    × (name_alone str.function ≡ Some name)

-- what matching gives is a realisation of exactly the bound names, of equal arity and with equality where it is asked,
-- under which the environment enriches the signature
abbrev pub MatchesByRules : Type 0
MatchesByRules = (sc : Scope) (at : At) (s : State) (env : Env) (sig : Signature) → IsOfState s env
    → Given (λ rows. AllItems (IsItemOf s) (items (realised (of_rows rows) sig.env)) → Matches s env sig (of_rows rows))
    (matching sc at s env sig)

-- no more than one realisation matches
pub record MatchesOnce : Type 0 where
  pub one : (s : State) (env : Env) (sig : Signature) (φ ψ : Realisation) → StandAlone sig → Matches s env sig φ
      → Matches s env sig ψ → (name : TyName) → φ name ≡ ψ name
