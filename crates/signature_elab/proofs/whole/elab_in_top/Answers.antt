use Rattle.sml_modules.specs.declared.id.SigId.{SigId}
use Rattle.sml_modules.specs.Graphs.{signature_at, top_at}
use Rattle.static_semantics.specs.Inferring.{outermost}
use Rattle.module_semantics.specs.SigPhrases.{sig_phrase}
use Rattle.unit_semantics.specs.StructureInference.{core_scope}
use Rattle.type_phrases.specs.Inferred.{progress}
use Rattle.module_scopes.specs.Tops.{top_seen}
use Rattle.signature_elab.proofs.Ending.{as_whole}
use Rattle.signature_elab.proofs.whole.elab_in_top.Goals as goal

pub returns-clause-infers : goal.returns-clause-infers
returns-clause-infers c =
    as_whole (top_at c.args.g.now c.args.top).signatures (top_seen c.args.g.now c.in_ok-scope.scope).signatures
    (outermost c.args.g.now.home (top_at c.args.g.now c.args.top).env)
    (core_scope c.args.g.now.home (top_seen c.args.g.now c.in_ok-scope.scope)) (sig_phrase c.args.sig.now)
    (progress c.args.t.now c.args.g.now)
    (λ (id : SigId). (signature_at c.elab_sig_in.new.g id, progress c.elab_sig_in.new.t c.elab_sig_in.new.g))
    c.elab_sig_in.result c.in_ok-scope.ensures.signatures c.in_ok-scope.ensures.core c.elab_sig_in.ensures.infers
