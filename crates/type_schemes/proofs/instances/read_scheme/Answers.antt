use Rattle.std.proofs.Common.{sym, ap, ◌∙◌}
use Rattle.semantic_objects.specs.Nodes.{root}
use Rattle.type_nodes.specs.Tables.{state}
use Rattle.type_schemes.specs.Instances.{instance_at}
use Rattle.type_schemes.proofs.instances.read_scheme.Goals as goal

pub returns-clause-made : goal.returns-clause-made
returns-clause-made c = c.in_ok-read_nodes.ensures.read.type
    ∙ ap (λ b. instance_at b (root c.nodes.result.now)) (c.variables-base.ensures ∙ sym c.is_kept.ensures.kept.next)
    ∙ ap (instance_at (state c.args.table.now).next) (c.nodes.ensures.tree ∙ c.body.ensures)
