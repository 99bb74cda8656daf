use Rattle.std.proofs.Common.{◌+◌, length, get_or, drop}
use Rattle.semantic_objects.specs.declared.name.TyId.TheVariants as id
use Rattle.type_schemes.proofs.Items.{rest_at}
use Rattle.type_schemes.proofs.Flattening.{parts_below, parts_on}
use Rattle.type_schemes.proofs.flat.flat_parts.Goals as goal

pub loop-part-preserved : goal.loop-part-preserved
loop-part-preserved c =
    let nodes = c.args.flat.now.nodes in
    let parts = c.args.parts.now in
    let items = c.as_slice-part-items.result.now in
    let i = c.loop-part.part-index in
    let p = c.in_ok-place.place in
    record {
      below = parts_below (length nodes) p c.loop-part.places c.add.new.self c.in_ok-add.ensures.ok
          c.loop-part.invariant.below c.in_ok-place.ensures.within;
      trees = parts_on c.args.table.now c.args.numbers.now.variables nodes (get_or items i (id.Variable 0))
          p c.loop-part.places c.add.new.self (drop i parts) (drop (i + 1) parts) _ c.in_ok-place.ensures
          (rest_at parts items i (id.Variable 0) c.as_slice-part-items.ensures c.loop-part-test.true)
          c.in_ok-add.ensures.ok c.loop-part.invariant.trees;
    }
