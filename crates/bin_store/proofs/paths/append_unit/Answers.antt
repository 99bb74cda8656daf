use Rattle.bin_store.proofs.Parts.{unit_step}
use Rattle.bin_store.proofs.paths.append_unit.Goals as goal

pub returns : goal.returns
returns c =
    unit_step c.append_later.result _ _ _ _ _ _ _ c.in_ok-append_first.ensures c.in_ok-u8.ensures.ok
    c.in-Some.ensures.parts
    c.append_later.ensures
