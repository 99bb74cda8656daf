use Rattle.type_nodes.specs.Tables.{state}
use Rattle.core_scopes.proofs.Pathing.{if_ok}
use Rattle.declaration_ends.proofs.Nesting.{structures_large}
use Rattle.declaration_ends.proofs.structures.any_structure_large.Goals as goal

pub returns-clause-large : goal.returns-clause-large
returns-clause-large c = if_ok c.any_place_large.result _ _
    (λ b h. structures_large (state c.args.t.now).stands c.args.g.now c.args.structures.now c.in_ok-places.places b
    c.requires c.in_ok-places.ensures h) c.any_place_large.ensures.large
