use Rattle.std.proofs.Common.{◌≡◌, flat_map, drop}
use Rattle.repeated_names.specs.Repeats.{earliest_with, repeats_in}
use Rattle.repeated_names.specs.Finding.{found_behind}
use Rattle.repeated_names.specs.RepeatedTypes.{dat_cons}
use Rattle.repeated_names.proofs.find_ty.find_cons.Given as goal

-- what is found, and the datatypes that are left
abbrev pub invariant-loop-bind : goal.invariant-loop-bind
invariant-loop-bind l =
    earliest_with l.finder (found_behind l.seen.keys (flat_map dat_cons (drop l.bind-index l.binds)))
    ≡ earliest_with l.fn.finder (repeats_in (flat_map dat_cons l.binds))
