use Rattle.std.proofs.Common.{refl}
use Rattle.sml_modules.specs.Graphs.{signature_at}
use Rattle.signature_sealing.proofs.Naming.{opened_by}
use Rattle.signature_sealing.proofs.sealing.open_signature.Goals as goal

pub returns-clause-ok : goal.returns-clause-ok
returns-clause-ok c = opened_by c.args.g.now c.new_names.new.g c.realise.new.graph (signature_at c.args.g.now c.args.sig)
    c.in_ok-parts.parts (record { bound = c.in_ok-new.new.names; env = c.in_ok-env.env }) c.in_ok-new.new
    c.as_slice.result.now c.in_ok-parts.ensures.parts c.as_slice.ensures c.in_ok-new.ensures.names
    c.in_ok-new.ensures.rows c.in_ok-new.ensures.made c.in_ok-env.ensures.ok refl
