use Rattle.std.proofs.Common.{[], ap, ◌∙◌}
use Rattle.unification.specs.Closing.{bound_in}
use Rattle.semantic_objects.specs.Nodes.{root}
use Rattle.type_walks.proofs.Imaging.{if_ok}
use Rattle.name_walks.proofs.Once.{variables_noted}
use Rattle.canonical_types.proofs.variables.variables_of.Goals as goal

pub returns : goal.returns
returns c = if_ok c.note_nodes.result c.note_nodes.ensures
    (λ made h. h ∙ c.in_ok-places.ensures.variables [] ∙ variables_noted (root c.nodes-nodes.result.now) []
    ∙ ap (λ t. bound_in t []) c.nodes-nodes.ensures.tree)
