use Rattle.shared_types.proofs.Copying.{on_ok, copy_added, found_at}
use Rattle.shared_types.proofs.walking.leave.Goals as goal

pub returns-in_ok-add-in-Some : goal.returns-in_ok-add-in-Some
returns-in_ok-add-in-Some c =
    on_ok c.set.result c.set.ensures
    (λ s. copy_added c.args.nodes.now c.args.copies.now c.add.new.self c.args.images.now c.set.new.self c.args.place
    c.len-image.result c.in-Some.node.now c.in_ok-copy-in-Some.copy c.requires.nodes c.requires.copied
    (found_at c.args.nodes.now c.args.place c.in-Some.node.now _ c.in-Some.ensures.lookup.0 c.in-Some.ensures.lookup.1)
    c.in_ok-copy-in-Some.ensures c.in_ok-add-in-Some.ensures.ok c.len-image.ensures s)
