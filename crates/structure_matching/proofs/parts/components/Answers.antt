use Rattle.structure_matching.proofs.Finding.{component_more}
use Rattle.structure_matching.proofs.parts.components.Goals as goal

pub loop-at-preserved : goal.loop-at-preserved
loop-at-preserved c =
    let made = component_more c.args.specified.now c.args.found.now c.in_ok-names.names c.in_ok-places.places
    c.loop-at.made c.add.new.self c.in_ok-row.row c.loop-at.at c.in_ok-names.ensures.names c.in_ok-places.ensures
    c.loop-at.invariant.rows c.loop-at.invariant.found c.in_ok-row.ensures c.in_ok-add.ensures.ok in
    record { rows = made.0; found = made.1 }
