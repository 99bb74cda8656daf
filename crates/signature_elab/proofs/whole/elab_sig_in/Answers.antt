use Rattle.sml_modules.specs.declared.id.SigId.{SigId}
use Rattle.sml_modules.specs.Graphs.{signature_at}
use Rattle.module_semantics.specs.SigPhrases.{sig_phrase}
use Rattle.type_phrases.specs.Inferred.{progress}
use Rattle.signature_parts.proofs.Elaborated.{grows_then, grows_nodes}
use Rattle.signature_elab.proofs.Ending.{same_top, whole_fails, whole_ends}
use Rattle.signature_elab.proofs.whole.elab_sig_in.Goals as goal

pub returns-in_err-open-clause-infers : goal.returns-in_err-open-clause-infers
returns-in_err-open-clause-infers c =
    whole_fails (sig_phrase c.args.sig.now) c.requires c.from_residual.result c.from_residual.ensures.1
    (λ (id : SigId). (signature_at c.elab_open_sig.new.g id, progress c.elab_open_sig.new.t c.elab_open_sig.new.g))
    c.in_err-open.ensures.phrase

pub returns-clause-infers : goal.returns-clause-infers
returns-clause-infers c =
    whole_ends (sig_phrase c.args.sig.now) c.requires c.in_ok-close_signature.field-0 c.in_ok-open.ensures.phrase
    c.in_ok-close_signature.ensures.is c.in_ok-close_signature.ensures.grows

pub returns-clause-top : goal.returns-clause-top
returns-clause-top c =
    same_top c.args.top.now c.elab_open_sig.new.top c.in_ok-open.ensures.phrase.scope c.in_ok-open.ensures.names

pub returns-clause-graph : goal.returns-clause-graph
returns-clause-graph c =
    (grows_then c.in_ok-open.ensures.phrase.graph (grows_nodes c.in_ok-close_signature.ensures.grows)).keeps
