use Rattle.std.proofs.Common.{◌∙◌}
use Rattle.semantic_objects.proofs.Adding.{front_root}
use Rattle.shared_types.proofs.walking.tree_to.Goals as goal

pub returns : goal.returns
returns c = c.from_nodes.ensures ∙ front_root c.args.copies c.from_vec.result c.args.place (cc) c.requires.within
