use Rattle.std.proofs.Common.{◌≡◌, drop}
use Rattle.std.specs.List.{list_any}
use Rattle.type_walks.specs.Replaced.{rows_of}
use Rattle.module_semantics.specs.Matching.{is_left}
use Rattle.structure_matching.proofs.realisation_search.is_any_left.Given as goal

abbrev pub invariant-loop-name : goal.invariant-loop-name
invariant-loop-name l = list_any (is_left (rows_of l.search.rows)) (drop l.name-index l.bound)
    ≡ list_any (is_left (rows_of l.search.rows)) l.bound
