use Rattle.std.proofs.Common.{refl}
use Rattle.type_schemes.proofs.Flattening.{flat_more}
use Rattle.type_schemes.proofs.flat.add_next.Goals as goal

pub returns-clause-flat : goal.returns-clause-flat
returns-clause-flat c =
    let mid = c.add_node.new.self in
    flat_more c.args.table.now c.args.numbers.now.variables c.args.reached.now.ids c.args.flat.now mid
    (record { nodes = mid.nodes; places = c.add.new.self; known = mid.known }) c.args.id c.in_ok-node.node
    c.in_ok-place.place c.requires.flat c.in_ok-node.ensures c.in_ok-place.ensures c.requires.next refl
    c.in_ok-add.ensures.ok
