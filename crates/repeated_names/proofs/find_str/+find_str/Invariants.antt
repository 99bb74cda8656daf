use Rattle.std.proofs.Common.{◌≡◌, map, drop}
use Rattle.repeated_names.specs.Repeats.{earliest_with, repeats_in, all_repeats}
use Rattle.repeated_names.specs.Finding.{found_behind}
use Rattle.repeated_names.specs.RepeatedUnits.{str_dec_repeats, str_bind_member}
use Rattle.repeated_names.proofs.find_str.+find_str.Given as goal

-- in each loop: what is found, and what is left
abbrev pub invariant-find_str_decs-loop-dec : goal.invariant-find_str_decs-loop-dec
invariant-find_str_decs-loop-dec l =
    earliest_with l.finder (all_repeats (map str_dec_repeats (drop l.dec-index l.decs)))
    ≡ earliest_with l.fn.finder (all_repeats (map str_dec_repeats l.decs))

abbrev pub invariant-find_str_binds-loop-bind : goal.invariant-find_str_binds-loop-bind
invariant-find_str_binds-loop-bind l =
    earliest_with l.finder (found_behind l.seen.keys (map str_bind_member (drop l.bind-index l.binds)))
    ≡ earliest_with l.fn.finder (repeats_in (map str_bind_member l.binds))
