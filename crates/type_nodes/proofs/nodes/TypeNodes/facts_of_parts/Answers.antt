use Rattle.std.proofs.Common.{◌<◌, length, get_or, subst, ap, ◌∙◌}
use Rattle.semantic_objects.specs.declared.name.TyId.TheVariants as id
use Rattle.type_nodes.specs.Facts.{joined}
use Rattle.type_nodes.specs.Nodes.{made}
use Rattle.type_nodes.proofs.Knowing.{facts_more}
use Rattle.type_nodes.proofs.nodes.TypeNodes.facts_of_parts.Goals as goal

pub loop-part-preserved : goal.loop-part-preserved
loop-part-preserved c = c.joined-facts.ensures ∙ ap (joined c.loop-part.facts) c.facts_at.ensures
    ∙ facts_more c.args.self.now.births (made c.args.self.now.nodes) c.args.parts.now c.loop-part.part-index c.loop-part.facts
    (get_or c.as_slice-part-items.result.now c.loop-part.part-index (id.Variable 0)) (id.Variable 0)
    (subst (λ xs. c.loop-part.part-index < length xs) c.as_slice-part-items.ensures c.loop-part-test.true)
    (ap (λ xs. get_or xs c.loop-part.part-index (id.Variable 0)) c.as_slice-part-items.ensures) c.loop-part.invariant
