use Rattle.std.proofs.Common.{◌≡◌, map, drop}
use Rattle.repeated_names.specs.Repeats.{earliest_with, repeats_in, all_repeats}
use Rattle.repeated_names.specs.Finding.{found_behind}
use Rattle.repeated_names.specs.RepeatedTypes.{spec_repeats, sig_bind_member}
use Rattle.repeated_names.proofs.find_sig.+find_sig.Given as goal

-- in each loop: what is found, and what is left
abbrev pub invariant-find_specs-loop-spec : goal.invariant-find_specs-loop-spec
invariant-find_specs-loop-spec l =
    earliest_with l.finder (all_repeats (map spec_repeats (drop l.spec-index l.specs)))
    ≡ earliest_with l.fn.finder (all_repeats (map spec_repeats l.specs))

abbrev pub invariant-find_sig_binds-loop-bind : goal.invariant-find_sig_binds-loop-bind
invariant-find_sig_binds-loop-bind l =
    earliest_with l.finder (found_behind l.seen.keys (map sig_bind_member (drop l.bind-index l.binds)))
    ≡ earliest_with l.fn.finder (repeats_in (map sig_bind_member l.binds))
