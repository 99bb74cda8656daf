-- What matching leaves of a graph, and what the rules say of its answer.
use Rattle.std.specs.Prelude.{◌≡◌}
use Rattle.semantic_objects.specs.Environments.{Env, Signature}
use Rattle.unification.specs.Types.{State}
use Rattle.realisation.specs.Realised.{Realisation, realised}
use Rattle.static_semantics.specs.Holding.{AllItems}
use Rattle.module_semantics.specs.Matching.{items}
use Rattle.module_semantics.specs.Promises.{IsItemOf, IsOfState}
use Rattle.module_semantics.specs.ElaboratesSignatures.{Matches}
use Rattle.sml_modules.specs.Graphs.{Graph, Keeps}

-- all ids keep what they stand for, and no name is made
pub record StaysGraph (old new : Graph) : Type 0 where
  pub keeps : Keeps old new
  pub home : new.home ≡ old.home
  pub made : new.made ≡ old.made

-- by the rules an environment of a state matches a signature by this realisation, where what is specified then is of the
-- state too. The Definition of Standard ML (Revised), section 5.6
abbrev pub IsMatchedBy : State → Env → Signature → Realisation → Type 0
IsMatchedBy s env sig by = IsOfState s env → AllItems (IsItemOf s) (items (realised by sig.env)) → Matches s env sig by

-- .. and this is the signature's environment so realised
pub record IsMatched (s : State) (env : Env) (sig : Signature) (made : Env) : Type 0 where
  pub by : Realisation
  pub is : made ≡ realised by sig.env
  pub matches : IsMatchedBy s env sig by
