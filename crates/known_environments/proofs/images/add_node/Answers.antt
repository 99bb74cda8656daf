use Rattle.type_walks.proofs.Imaging.{appended_one}
use Rattle.known_environments.proofs.images.add_node.Goals as goal

pub returns : goal.returns
returns c = appended_one c.args.made.now c.add.new.self c.args.node c.len-place.result c.in_ok-add.ensures.ok
    c.len-place.ensures c.requires
