use Rattle.sml_modules.specs.Graphs.{signature_at, top_at}
use Rattle.static_semantics.specs.Inferring.{outermost}
use Rattle.module_semantics.specs.SigPhrases.{sig_phrase}
use Rattle.type_phrases.specs.Inferred.{progress}
use Rattle.signature_elab.proofs.Ruled.{signature_follows}
use Rattle.signature_elab.proofs.whole.elab_sig.Goals as goal

pub returns-in-Ok-clause-sound : goal.returns-in-Ok-clause-sound
returns-in-Ok-clause-sound c = λ good spelt around.
    signature_follows good (top_at c.args.g.now c.args.env).signatures
    (outermost c.args.g.now.home (top_at c.args.g.now c.args.env).env) (sig_phrase c.args.sig.now)
    (progress c.args.t.now c.args.g.now)
    (signature_at c.elab_in_top.new.g c.in-Ok.id, progress c.elab_in_top.new.t c.elab_in_top.new.g)
    c.in-Ok.ensures.infers spelt around
