use Rattle.signature_specs.proofs.Listing.{list_made}
use Rattle.signature_specs.proofs.variables.new_variables.Goals as goal

pub returns-in-Ok-clause-listed : goal.returns-in-Ok-clause-listed
returns-in-Ok-clause-listed c =
    list_made c.args.g.now c.args.t.now c.list_variables.new.t c.args.names.now c.as_slice.result.now c.in-Ok.own
    c.is_kept.ensures c.as_slice.ensures c.in-Ok.ensures.made (λ inner home. c.in-Ok.ensures.listed inner home)
