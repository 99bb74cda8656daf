use Rattle.sml_modules.specs.Nodes.{node_item}
use Rattle.type_walks.proofs.Imaging.{on_ok}
use Rattle.environment_walks.proofs.Changes.{added_all, made_some}
use Rattle.environment_walks.proofs.changing.finish_entry.Goals as goal

pub returns-in_ok-image-in-Some-clause-changed : goal.returns-in_ok-image-in-Some-clause-changed
returns-in_ok-image-in-Some-clause-changed g c = on_ok c.set.result c.set.ensures
    (λ s. added_all (g.C.TypeChanges.change c.args.by.now) c.args.graph.now c.add.new.self c.args.images.now c.set.new.self
    (node_item c.args.graph.now.items c.in-Some.node) c.args.place c.in_ok-image-in-Some.image
    c.in_ok-image-in-Some.ensures.ok c.requires
    (made_some (g.C.TypeChanges.change c.args.by.now) c.args.graph.now.items c.args.place c.in_ok-node.field-0 c.in-Some.node
    c.in_ok-node.ensures c.in-Some.is) s)
