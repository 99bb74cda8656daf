-- What inference matches the rules match, under each choice.
use Rattle.std.proofs.Common.{◌≡◌, ℕ, List, [], ◌∷◌, ◌++◌, refl, subst, Option, Some, Bool, true, false, cond}
use Rattle.sml_trees.specs.declared.name.At.{At}
use Rattle.semantic_objects.specs.declared.name.TyName.{TyName}
use Rattle.semantic_objects.specs.declared.entry.TypeFn.{TypeFn}
use Rattle.semantic_objects.specs.Symbols.{same_name}
use Rattle.semantic_objects.specs.Environments.{Env, Signature, Functor}
use Rattle.unification.specs.Types.{State}
use Rattle.unification.specs.Unification.{Solves}
use Rattle.unification.specs.Generality.{MarksOwn}
use Rattle.realisation.specs.Realised.{of_rows, realised}
use Rattle.realisation.proofs.Realising.{realised_agrees}
use Rattle.static_semantics.specs.Inferring.{Progress, Scope}
use Rattle.static_semantics.specs.EnvironmentsPut.{put_env}
use Rattle.static_semantics.specs.Holding.{Given, AllItems}
use Rattle.static_semantics.proofs.Holding.{given_then}
use Rattle.static_semantics.proofs.TypesGrow.{given_more}
use Rattle.inference_laws.specs.Alike.{FirmEnv}
use Rattle.inference_laws.proofs.Making.{given_both}
use Rattle.module_semantics.specs.SignatureNames.{rows_between, unit_names}
use Rattle.module_semantics.specs.Matching.{Item, items, Rows, matching, matched}
use Rattle.module_semantics.specs.Promises.{IsOfState, IsItemOf}
use Rattle.module_semantics.specs.ElaboratesSignatures.{Matches}
use Rattle.module_semantics.proofs.Sound.{matches_by_rules}
use Rattle.unit_semantics.specs.StructureInference.{known_env}
use Rattle.unit_semantics.specs.ElaboratesUnits.{or_else, beside, further_by}
use Rattle.unit_semantics.specs.Promises.{IsClosedEnv}
use Rattle.unit_semantics.proofs.Closed.{realised_closed}
use Rattle.matching_choices.proofs.Closed.{free_none}
use Rattle.matching_choices.proofs.Environments.{ClosedItem, env_wants, matching_stays}
use Rattle.module_growth.proofs.Closed.{TypesClosed, RowsClosed, rows_put, matching_closed}
use Rattle.module_laws.proofs.States.{known_firm}

-- ---- what a closed signature wants is of each state

item_of : (s : State) (x : Item) → ClosedItem x → IsItemOf s x
item_of s (Item.StructureItem path) h = tt
item_of s (Item.TypeItem path str) h = tt
item_of s (Item.ValueItem path value) h = λ n e. let k = free_none value.scheme.body h n in absurd (cc)

items_of : (s : State) (xs : List Item) → AllItems ClosedItem xs → AllItems (IsItemOf s) xs
items_of s [] h = tt
items_of s (x ∷ xs) h = (item_of s x h.0, items_of s xs h.1)

-- ---- matching gives a realisation by which the rules match

pub record MatchesBy (s : State) (env : Env) (sig : Signature) (rows : Rows) : Type 0 where
  pub closed : RowsClosed rows
  pub matches : Matches s env sig (of_rows rows)

pub matching_by : (sc : Scope) (at : At) (s : State) (env : Env) (sig : Signature) → TypesClosed env
    → IsOfState s env → IsClosedEnv sig.env → Given (MatchesBy s env sig) (matching sc at s env sig)
matching_by sc at s env sig h of closed =
    let ByRules : Rows → Type 0 =
    λ rows. AllItems (IsItemOf s) (items (realised (of_rows rows) sig.env)) → Matches s env sig (of_rows rows) in
    given_more (λ rows. RowsClosed rows × ByRules rows) (MatchesBy s env sig) (matching sc at s env sig)
    (λ rows k. record {
      closed = k.0;
      matches = k.1 (items_of s (items (realised (of_rows rows) sig.env))
          (env_wants [] (realised (of_rows rows) sig.env)
          (realised_closed (of_rows rows) (rows_put rows k.0) sig.env closed)));
    })
    (given_both RowsClosed ByRules (matching sc at s env sig) (matching_closed sc at s env sig h)
    (matches_by_rules sc at s env sig of))

pub record MatchedBy (s : State) (env : Env) (sig : Signature) (made : Env) : Type 0 where
  pub rows : Rows
  pub by : MatchesBy s env sig rows
  pub is : made ≡ realised (of_rows rows) sig.env

pub matched_by : (sc : Scope) (at : At) (s : State) (env : Env) (sig : Signature) → TypesClosed env
    → IsOfState s env → IsClosedEnv sig.env → Given (MatchedBy s env sig) (matched sc at s env sig)
matched_by sc at s env sig h of closed =
    given_then (MatchesBy s env sig) (MatchedBy s env sig) (matching sc at s env sig) _
    (matching_by sc at s env sig h of closed) (λ rows k. record { rows = rows; by = k; is = refl })

-- .. under each choice that solves the state
pub matches_under : (p : State) (u : Progress) (env : Env) (sig : Signature) (rows : Rows) → Solves p u.types
    → MarksOwn p → IsOfState u.types (known_env env u) → FirmEnv env → IsClosedEnv sig.env
    → MatchesBy u.types (known_env env u) sig rows → Matches p (put_env p.stands env) sig (of_rows rows)
matches_under p u env sig rows solves owns of firm closed k =
    subst (λ e. Matches p e sig (of_rows rows)) (matching_stays.known u.types p env solves)
    (matching_stays.matches u.types p (known_env env u) sig (of_rows rows) solves owns of
    (known_firm u.types.stands env firm)
    (realised_closed (of_rows rows) (rows_put rows k.closed) sig.env closed) (rows_put rows k.closed).by k.matches)

-- ---- rows one after another

first_or : (c : Bool) (f : TypeFn) (a o r : Option TypeFn) → a ≡ or_else o r
    → cond c (Some f) a ≡ or_else (cond c (Some f) o) r
first_or true f a o r h = refl
first_or false f a o r h = h

in_turn : (rows more : Rows) (name : TyName)
    → of_rows (rows ++ more) name ≡ or_else (of_rows rows name) (of_rows more name)
in_turn [] more name = refl
in_turn (row ∷ rows) more name = first_or (same_name row.0 name) row.1 (of_rows (rows ++ more) name)
    (of_rows rows name) (of_rows more name) (in_turn rows more name)

-- a functor's result by the rows for its parameter's names and new names for the further ones
pub result_is : (home : List ℕ) (number : ℕ) (fun : Functor) (rows : Rows)
    → realised (of_rows (rows ++ rows_between fun.further (unit_names home number fun.further))) fun.result
    ≡ realised (beside (of_rows rows) (further_by home number fun)) fun.result
result_is home number fun rows =
    let more : Rows = rows_between fun.further (unit_names home number fun.further) in
    realised_agrees (of_rows (rows ++ more)) (beside (of_rows rows) (further_by home number fun)) fun.result
    (λ name e. in_turn rows more name)
