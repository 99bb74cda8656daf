-- How calls that elaborate signature expressions tell of inference. Only private functions cite this file.
use Rattle.std.specs.Prelude.{◌≡◌, List}
use Rattle.sml_trees.specs.declared.name.Name.{Name}
use Rattle.sml_trees.specs.declared.name.LongName.{LongName}
use Rattle.sml_trees.specs.declared.sig_exp.SigBind.{SigBind}
use Rattle.sml_trees.specs.declared.sig_exp.SigExp.TheFolds.{fold-SigBind}
use Rattle.semantic_objects.specs.declared.entry.ValueEntry.{ValueEntry}
use Rattle.semantic_objects.specs.Tables.{Table as Named}
use Rattle.semantic_objects.specs.Environments.{Signature, modified_by}
use Rattle.sml_modules.specs.Graphs.{Graph}
use Rattle.static_semantics.specs.Inferring.{Progress, Scope, Answer, ◌>>=◌, gives}
use Rattle.core_scopes.specs.Scopes.{Bindings, seen, AreEnvs}
use Rattle.module_semantics.specs.SigPhrases.{SigPhrase, SpecPhrase, sig_level, spec_level, sig_bind_level}
use Rattle.bare_phrases.specs.Phrases.{ConPhrase}
use Rattle.module_semantics.specs.SignatureInference.{infer_sig, infer_exception_specs}
use Rattle.datatype_specs.specs.Replicas.{infer_replication_spec}
use Rattle.module_scopes.specs.declared.top.TopScope.{TopScope}
use Rattle.module_scopes.specs.Tops.{top_seen, IsTopScope}
use Rattle.signature_specs.specs.declared.specified.Specified.{Specified}
use Rattle.signature_specs.specs.Specs.{env_so_far}
use Rattle.signature_parts.specs.Ending.{structure_specified}

-- a name with its signature
unfoldable pub bind_phrase : SigBind → Name × SigPhrase
bind_phrase = fold-SigBind SigPhrase SpecPhrase (Name × SigPhrase) sig_level spec_level sig_bind_level

-- the signatures in scope by their names
abbrev pub signatures_seen : Graph → TopScope → Named Signature
signatures_seen g top = (top_seen g top).signatures

-- all in scope but what phrases of the core see is as it was
pub record KeepsNames (old new : TopScope) : Type 0 where
  pub given : new.given ≡ old.given
  pub defined : new.defined ≡ old.defined

-- a signature expression, whose signature is then added to what is specified
abbrev pub infer_added : Named Signature → (Scope → Signature → Signature → Answer Signature) → Scope → SigPhrase
    → Signature → Progress → Answer (Signature × Progress)
infer_added sigs add sc sig made st =
    infer_sig sigs sc sig st >>= λ r. add sc r.0 made >>= λ with. gives (with, r.1)

-- a replication, and exceptions: nothing is passed on but what was
abbrev pub infer_replicated : Scope → Name → LongName → Signature → Progress → Answer (Signature × Progress)
infer_replicated sc name long made st =
    infer_replication_spec sc name long made >>= λ with. gives (with, st)

abbrev pub infer_exceptions : Scope → List ConPhrase → Signature → Progress → Answer (Signature × Progress)
infer_exceptions sc cons made st = infer_exception_specs sc cons made >>= λ with. gives (with, st)

-- one structure of a specification
abbrev pub infer_structure : Named Signature → Name × SigPhrase → Scope → Signature → Progress
    → Answer (Signature × Progress)
infer_structure sigs bind sc made st =
    infer_added sigs (λ inner sig so. structure_specified inner bind.0 sig so) sc bind.1 made st

-- what is specified so far is in scope: the environment in scope modified by it is itself
abbrev pub IsOwn : {V : Type 0} → Graph → Specified → Bindings V → Type 0
IsOwn {V} g made sc = (read : V → ValueEntry) → modified_by (seen g read sc) (env_so_far g made) ≡ seen g read sc

-- .. and all that is in scope, and the structures that are specified, are of the graph
pub record IsReadyIn (g : Graph) (made : Specified) (top : TopScope) : Type 0 where
  pub ready : IsTopScope g top
  pub envs : AreEnvs g made.structures
  pub own : IsOwn g made top.core
