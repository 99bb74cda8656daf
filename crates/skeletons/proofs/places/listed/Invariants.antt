use Rattle.std.proofs.Common.{◌≡◌, ◌++◌, map}
use Rattle.cm_base.specs.declared.record.Need.{Need}
use Rattle.skeletons.specs.declared.places.Position.{Position}
use Rattle.skeletons.proofs.places.listed.Given as goal

-- the uses so far and those that are left are all
abbrev pub invariant-loop-need : goal.invariant-loop-need
invariant-loop-need l =
    l.list ++ map (λ (e : Position × Need). e.1) l.need-iterator
    ≡ map (λ (e : Position × Need). e.1) l.fn.table.entries
