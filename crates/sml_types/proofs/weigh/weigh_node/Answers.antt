use Rattle.semantic_objects.specs.declared.name.TyId.TheVariants as id
use Rattle.sml_types.proofs.Weighing.{weighed_by, fixed_size, under_fixed}
use Rattle.sml_types.proofs.weigh.weigh_node.Goals as goal

pub returns-clause-weighed : goal.returns-clause-weighed
returns-clause-weighed c =
    let t = c.args.table.now in
    let f = c.facts-facts.result in
    weighed_by t (id.Made c.args.at) c.args.counted (record { size = f.size; above = 0 }) c.more.result c.args.left.now
    c.more.ensures.size c.more.ensures.above
    (fixed_size t c.args.at f c.is_kept.ensures.kept c.facts-facts.ensures c.if-facts.false)
    (under_fixed t c.args.at f c.is_kept.ensures.kept c.facts-facts.ensures c.if-facts.false) c.requires.all
