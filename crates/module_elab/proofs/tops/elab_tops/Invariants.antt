use Rattle.std.proofs.Common.{map, drop}
use Rattle.unit_semantics.specs.UnitPhrases.{top_phrase, read_top}
use Rattle.structure_elab.specs.Moments.{moment}
use Rattle.module_elab.proofs.Defining.{TopsSoFar}
use Rattle.module_elab.proofs.tops.elab_tops.Given as goal

-- what was defined so far, and the declarations that are left
abbrev pub invariant-loop-dec : goal.invariant-loop-dec
invariant-loop-dec l =
    TopsSoFar (moment l.fn.g l.fn.t l.fn.top) (moment l.g l.t l.top) (map (read_top l.sealing) (map top_phrase l.decs))
    (map (read_top l.sealing) (map top_phrase (drop l.dec-index l.decs)))
