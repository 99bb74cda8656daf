use Rattle.std.proofs.Common.{◌∙◌}
use Rattle.module_scopes.proofs.Listing.{made_listed, envs_listed}
use Rattle.module_scopes.proofs.binding.made_of_structures.Goals as goal

pub returns-clause-is : goal.returns-clause-is
returns-clause-is c g = made_listed g c.in_ok-list_structures.field-0 c.new.result c.new-2.result c.args.made.now
    (c.in_ok-list_structures.ensures ∙ c.rows.ensures) c.new.ensures c.new-2.ensures

pub returns-clause-there : goal.returns-clause-there
returns-clause-there c g h = envs_listed g c.in_ok-list_structures.field-0 c.args.made.now
    (c.in_ok-list_structures.ensures ∙ c.rows.ensures) h
