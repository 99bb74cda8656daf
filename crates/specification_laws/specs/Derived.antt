-- What it means that signatures and specifications have derivations: in the scope with anything put in for its variables
-- the rules give what inference gives, from the number of type names at the start to the one at the end. No variable
-- stands in a signature.
use Rattle.std.specs.Prelude.{◌≡◌, ◌++◌, false}
use Rattle.semantic_objects.specs.Tables.{Table}
use Rattle.semantic_objects.specs.Environments.{Signature, modified_by}
use Rattle.unification.specs.Types.{Substitution}
use Rattle.unification.specs.Fitting.{IsFit}
use Rattle.static_semantics.specs.Inferring.{Progress, Scope, under}
use Rattle.static_semantics.specs.EnvironmentsPut.{put_scope}
use Rattle.module_semantics.specs.SigPhrases.{SigPhrase, SpecPhrase, SpecPhrases}
use Rattle.module_semantics.specs.SignatureInference.{have_common}
use Rattle.module_semantics.specs.ElaboratesSignatures.{ElaboratesSig, ElaboratesSpec, ElaboratesSpecs}
use Rattle.unit_semantics.specs.Promises.{IsClosedEnv}
use Rattle.table_laws.specs.Rising.{RisingEnv}
use Rattle.phrase_laws.specs.Derived.{SolvesBefore, LeavesBefore}

-- a state after another one
pub record IsAfter (st u : Progress) : Type 0 where
  pub fit : IsFit u.types
  pub solved : SolvesBefore st u
  pub leaves : LeavesBefore st u

-- a signature is one with another one behind it, which has no name of the first
pub record Follows (first own all : Signature) : Type 0 where
  pub bound : all.bound ≡ first.bound ++ own.bound
  pub env : all.env ≡ modified_by first.env own.env
  pub apart : have_common own.env first.env ≡ false
  pub rises : RisingEnv own.env
  pub closed : IsClosedEnv own.env

pub record SigDerived (sigs : Table Signature) (sc : Scope) (sig : SigPhrase) (st : Progress) (r : Signature × Progress) :
    Type 0 where
  pub after : IsAfter st r.1
  pub closed : IsClosedEnv r.0.env
  pub derives : (s : Substitution) → ElaboratesSig sigs (put_scope s sc) st.names sig r.0 r.1.names

-- a specification after what was specified before it
pub record SpecDerived (sigs : Table Signature) (sc : Scope) (spec : SpecPhrase) (made : Signature) (st : Progress)
    (r : Signature × Progress) : Type 0 where
  pub own : Signature
  pub follows : Follows made own r.0
  pub after : IsAfter st r.1
  pub derives : (s : Substitution) → ElaboratesSpec sigs (put_scope s sc) st.names spec own r.1.names

pub record SpecsDerived (sigs : Table Signature) (sc : Scope) (specs : SpecPhrases) (made : Signature) (st : Progress)
    (r : Signature × Progress) : Type 0 where
  pub own : Signature
  pub follows : Follows made own r.0
  pub after : IsAfter st r.1
  pub derives : (s : Substitution)
      → ElaboratesSpecs sigs (put_scope s (under made.env sc)) st.names specs own r.1.names
