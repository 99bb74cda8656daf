use Rattle.std.proofs.Common.{◌≡◌, drop}
use Rattle.std.specs.List.{list_all}
use Rattle.imported_interfaces.specs.Known.{fits}
use Rattle.imported_interfaces.proofs.fitting.all_fit.Given as goal

abbrev pub invariant-loop-name : goal.invariant-loop-name
invariant-loop-name l = list_all (fits l.fn.known.names l.fn.unit) (drop l.name-index l.fn.names)
    ≡ list_all (fits l.fn.known.names l.fn.unit) l.fn.names
