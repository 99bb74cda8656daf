use Rattle.std.proofs.Common.{◌+◌, take, ap, ◌∙◌}
use Rattle.type_walks.proofs.Imaging.{cut_tree, cut_root}
use Rattle.known_environments.proofs.images.up_to.Goals as goal

pub returns-clause-tree : goal.returns-clause-tree
returns-clause-tree c = cut_tree c.args.nodes c.from_vec.result c.args.place
    (c.from_vec.ensures ∙ c.truncate.ensures.items ∙ ap (take (c.args.place + 1)) c.into_vec-nodes.ensures)
    c.requires.within c.requires.nodes

pub returns-clause-root : goal.returns-clause-root
returns-clause-root c = cut_root c.args.nodes c.from_vec.result c.args.place
    (c.from_vec.ensures ∙ c.truncate.ensures.items ∙ ap (take (c.args.place + 1)) c.into_vec-nodes.ensures)
    c.requires.within
