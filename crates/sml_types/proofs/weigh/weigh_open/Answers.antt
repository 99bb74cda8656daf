use Rattle.std.proofs.Common.{◌≡◌, Some, slice_get, subst}
use Rattle.semantic_objects.specs.declared.name.TyId.TheVariants as id
use Rattle.type_nodes.specs.Tables.{Table}
use Rattle.sml_types.proofs.Weighing.{weighed_by, weighed_parts}
use Rattle.sml_types.proofs.weigh.weigh_open.Goals as goal

pub returns-in-Some-clause-weighed : goal.returns-in-Some-clause-weighed
returns-in-Some-clause-weighed c = weighed_by c.args.table.now (id.Made c.args.at) c.args.counted c.in-Some.weight
    c.more.result c.args.left.now c.more.ensures.size c.more.ensures.above c.in-Some.ensures.weighs.size
    c.in-Some.ensures.weighs.below c.requires.all

pub returns-in_ok-add_all-in-None-clause-weighed : goal.returns-in_ok-add_all-in-None-clause-weighed
returns-in_ok-add_all-in-None-clause-weighed c = weighed_parts c.args.table.now c.args.at c.args.counted c.one_node.result
    c.more-in-None.result c.node.result.now c.args.left.now c.add_all.new.ids c.is_kept.ensures.kept
    (subst (λ (t : Table). slice_get t.nodes c.args.at ≡ Some c.node.result.now) c.in-None.ensures.same c.node.ensures)
    c.in_ok-add_all-in-None.ensures c.more-in-None.ensures.size c.more-in-None.ensures.above c.one_node.ensures.size
    c.requires.all
