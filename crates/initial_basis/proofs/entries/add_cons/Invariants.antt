use Rattle.std.proofs.Common.{◌≡◌, ◌++◌, map, drop}
use Rattle.initial_basis.specs.Phrases.{scheme_of}
use Rattle.initial_basis.specs.Basis.{con_of}
use Rattle.initial_basis.proofs.entries.add_cons.Given as goal

abbrev pub invariant-loop-name : goal.invariant-loop-name
invariant-loop-name l =
    l.cons ++ map (con_of l.names l.fn.row.is) (drop l.name-index l.fn.row.names)
    ≡ l.fn.cons ++ map (con_of l.names l.fn.row.is) l.fn.row.names
