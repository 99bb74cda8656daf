use Rattle.path_anchors.proofs.PartLemmas.{path_of_first}
use Rattle.path_anchors.proofs.parts.path_of.Goals as goal

pub loop-part-init : goal.loop-part-init
loop-part-init c = path_of_first c.args.parts.now c.first-item.result c.extend_from_slice.new.self.items c.in-len1-up.len_at_least
    c.first-item.is (cc (c.in_ok-extend_from_slice.ensures.items, c.new-path.ensures.items, c.as_bytes.ensures))
