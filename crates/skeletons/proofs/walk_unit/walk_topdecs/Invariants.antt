use Rattle.std.proofs.Common.{◌≡◌, map, drop}
use Rattle.skeletons.specs.Scopes.{sequence}
use Rattle.skeletons.specs.Skeletons.{top_brings}
use Rattle.skeletons.specs.Walks.{declared}
use Rattle.skeletons.proofs.walk_unit.walk_topdecs.Given as goal

-- what is declared, and what is left
abbrev pub invariant-loop-topdec : goal.invariant-loop-topdec
invariant-loop-topdec l =
    declared l.walk (sequence (map top_brings (drop l.topdec-index l.topdecs)))
    ≡ declared l.fn.walk (sequence (map top_brings l.fn.topdecs))
