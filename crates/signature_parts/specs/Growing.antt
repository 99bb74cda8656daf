-- What a call that elaborates a part of a signature leaves, and what it says of its answer.
use Rattle.std.specs.Prelude.{◌≡◌, OnOk, IfOk, Result}
use Rattle.cm_base.specs.declared.fault.Fault.{Fault}
use Rattle.semantic_objects.specs.declared.entry.ValueEntry.{ValueEntry}
use Rattle.semantic_objects.specs.Environments.{Env, Signature, modified_by}
use Rattle.type_nodes.specs.Tables.{Table}
use Rattle.sml_modules.specs.declared.parts.SigParts.{SigParts}
use Rattle.sml_modules.specs.Graphs.{Graph, signature_of, HasSigParts, Keeps}
use Rattle.static_semantics.specs.Inferring.{Progress, Scope, Answer}
use Rattle.core_scopes.specs.Scopes.{Bindings, seen, written_of, AreEnvs, IsScopeOf}
use Rattle.core_scopes.specs.Marks as marks
use Rattle.type_phrases.specs.Inferred.{Answers, KeepsTypes, progress, scope_in}
use Rattle.signature_specs.specs.declared.specified.Specified.{Specified}
use Rattle.signature_specs.specs.Specs.{env_so_far, signature_so_far, IsFrontOf}

-- all ids keep what they stand for, and type names may have been made
pub record Grows (old new : Graph) : Type 0 where
  pub keeps : Keeps old new
  pub home : new.home ≡ old.home

-- what is specified is in scope: the scope is another environment modified by it
abbrev pub IsUnder : {V : Type 0} → Graph → (V → ValueEntry) → Specified → Bindings V → Env → Type 0
IsUnder g read made sc env = modified_by env (env_so_far g made) ≡ seen g read sc

-- more was specified, and it is in scope in the same way
pub record IsBound {V : Type 0} (g h : Graph) (past made : Specified) (old new : Bindings V) : Type 0 where
  pub front : IsFrontOf past made
  pub envs : AreEnvs h made.structures
  pub under : (read : V → ValueEntry) (env : Env) → IsUnder g read past old env → IsUnder h read made new env
  pub written : written_of new ≡ written_of old
  pub there : IsScopeOf h new
  pub behind : marks.IsFrontOf old new
  pub whole : marks.IsFrontOf new new

-- a signature expression was elaborated: with the answer of inference, and the scope is left as it was
pub record IsOpenSig {V : Type 0} (g h : Graph) (t u : Table) (old new : Bindings V)
    (want : Scope → Progress → Answer (Signature × Progress)) (result : Result SigParts Fault) : Type 0 where
  pub infers : (w : Table) (read : V → ValueEntry)
      → Answers (want (scope_in g w read old) (progress t g)) (λ parts. (signature_of h parts, progress u h)) result
  pub there : IfOk result (HasSigParts h)
  pub keeps : KeepsTypes t u
  pub graph : Grows g h
  pub scope : OnOk result (new ≡ old)

-- a specification was, after others: with the answer of inference, and what it specifies is in scope
pub record IsSpecified {V : Type 0} (g h : Graph) (t u : Table) (past made : Specified) (old new : Bindings V)
    (want : Scope → Signature → Progress → Answer (Signature × Progress)) (result : Result (Unit {0}) Fault) : Type 0
  where
    pub infers : (w : Table) (read : V → ValueEntry)
        → Answers (want (scope_in g w read old) (signature_so_far g past) (progress t g))
        (λ done. (signature_so_far h made, progress u h)) result
    pub keeps : KeepsTypes t u
    pub graph : Grows g h
    pub bound : OnOk result (IsBound g h past made old new)

-- more was specified, and the scope is left as it was
pub record IsListed {V : Type 0} (g h : Graph) (t u : Table) (past made : Specified) (old new : Bindings V)
    (want : Scope → Signature → Progress → Answer (Signature × Progress)) (result : Result (Unit {0}) Fault) : Type 0
  where
    pub infers : (w : Table) (read : V → ValueEntry)
        → Answers (want (scope_in g w read old) (signature_so_far g past) (progress t g))
        (λ done. (signature_so_far h made, progress u h)) result
    pub keeps : KeepsTypes t u
    pub graph : Grows g h
    pub scope : OnOk result (new ≡ old)
    pub front : OnOk result (IsFrontOf past made)
    pub envs : OnOk result (AreEnvs h made.structures)
