use Rattle.std.proofs.Common.{◌≡◌, map, take}
use Rattle.datatype_elab.specs.Making.{places_from, scheme_in, entry_at}
use Rattle.datatype_elab.proofs.entries.con_entries.Given as goal

abbrev pub invariant-loop-at : goal.invariant-loop-at
invariant-loop-at l =
    l.entries ≡ map (entry_at (scheme_in l.new.home l.new.first l.choice l.marks l.of l.cons))
    (take l.at (places_from 0 l.cons))
