use Rattle.std.proofs.Common.{◌≡◌, refl}
use Rattle.sml_modules.specs.declared.id.SigId.{SigId}
use Rattle.sml_modules.specs.Graphs.{signature_at, signature_of, GivesSignature}
use Rattle.module_semantics.specs.SignatureNames.{closed}
use Rattle.core_scopes.proofs.Pathing.{if_ok}
use Rattle.signature_parts.proofs.Finishing.{sig_finished}
use Rattle.signature_parts.proofs.closing.close_signature.Goals as goal

pub returns-clause-is : goal.returns-clause-is
returns-clause-is c =
    if_ok c.make_sig.result
    (GivesSignature c.realise.new.graph c.make_sig.new.self
    (signature_of c.realise.new.graph (record { bound = c.in_ok-new.new.names; env = c.in_ok-env.env })))
    (λ (id : SigId). signature_at c.make_sig.new.self id ≡ closed (signature_of c.args.g.now c.args.sig.now))
    (λ id made. sig_finished c.args.g.now c.realise.new.graph c.make_sig.new.self c.args.sig.now
    c.in_ok-new.new.names c.as_slice.result.now c.in_ok-new.new.by.list
    (record { bound = c.in_ok-new.new.names; env = c.in_ok-env.env }) id c.as_slice.ensures
    c.in_ok-new.ensures.names c.in_ok-new.ensures.rows c.in_ok-env.ensures.ok refl made)
    c.make_sig.ensures.ok
