use Rattle.type_schemes.proofs.Flattening.{tree_placed}
use Rattle.type_schemes.proofs.flat.flat_place.Goals as goal

pub returns-in_ok-place_at-in-Some : goal.returns-in_ok-place_at-in-Some
returns-in_ok-place_at-in-Some c = tree_placed c.args.table.now c.args.reached.now c.args.numbers.now.variables
    c.args.flat.now c.args.id c.in-Some.at c.in_ok-place_at-in-Some.field-0 c.requires.flat
    (c.place_of.ensures c.in-Some.at c.in-Some.is) c.in_ok-place_at-in-Some.ensures
