use Rattle.bin_store.proofs.Parts.{later_step}
use Rattle.bin_store.proofs.paths.append_later.Goals as goal

pub loop-part-preserved : goal.loop-part-preserved
loop-part-preserved c = later_step _ _ _ _ _ _ _ c.in_ok-append_marked.ensures c.in_ok-u8.ensures.ok
    c.in-Some.ensures.parts c.loop-part.invariant
