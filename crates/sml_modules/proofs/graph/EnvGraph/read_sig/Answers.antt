use Rattle.std.proofs.Common.{refl, subst}
use Rattle.sml_modules.specs.Adding.{StandsAt}
use Rattle.sml_modules.proofs.Looking.{reads_signature, signature_there}
use Rattle.sml_modules.proofs.graph.EnvGraph.read_sig.Goals as goal

pub returns-in_ok-bound-in-Signature-clause-parts : goal.returns-in_ok-bound-in-Signature-clause-parts
returns-in_ok-bound-in-Signature-clause-parts c = reads_signature c.args.self.now c.args.sig c.in-Signature.kept
    (record { bound = c.in_ok-bound-in-Signature.bound; env = record { place = c.in-Signature.kept.env } })
    (subst (StandsAt c.args.self.now.items c.args.sig.place) c.in-Signature.is c.in-Some.ensures.node)
    c.in_ok-bound-in-Signature.ensures refl

pub returns-in_ok-bound-in-Signature-clause-there : goal.returns-in_ok-bound-in-Signature-clause-there
returns-in_ok-bound-in-Signature-clause-there c = signature_there c.args.self.now.items c.args.sig.place c.in-Signature.kept
    (subst (StandsAt c.args.self.now.items c.args.sig.place) c.in-Signature.is c.in-Some.ensures.node)
