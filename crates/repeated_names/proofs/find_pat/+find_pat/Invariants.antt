use Rattle.std.proofs.Common.{◌≡◌, map, drop}
use Rattle.repeated_names.specs.Repeats.{earliest_with, repeats_in, all_repeats}
use Rattle.repeated_names.specs.Finding.{found_behind}
use Rattle.repeated_names.specs.RepeatedTypes.{pat_repeats, pat_item_repeats, pat_field_member}
use Rattle.repeated_names.proofs.find_pat.+find_pat.Given as goal

-- in each loop: what is found, and what is left
abbrev pub invariant-find_pats-loop-pat : goal.invariant-find_pats-loop-pat
invariant-find_pats-loop-pat l =
    earliest_with l.finder (all_repeats (map pat_repeats (drop l.pat-index l.pats)))
    ≡ earliest_with l.fn.finder (all_repeats (map pat_repeats l.pats))

abbrev pub invariant-find_pat_items-loop-item : goal.invariant-find_pat_items-loop-item
invariant-find_pat_items-loop-item l =
    earliest_with l.finder (all_repeats (map pat_item_repeats (drop l.item-index l.items)))
    ≡ earliest_with l.fn.finder (all_repeats (map pat_item_repeats l.items))

abbrev pub invariant-find_pat_fields-loop-field : goal.invariant-find_pat_fields-loop-field
invariant-find_pat_fields-loop-field l =
    earliest_with l.finder (found_behind l.seen.keys (map pat_field_member (drop l.field-index l.fields)))
    ≡ earliest_with l.fn.finder (repeats_in (map pat_field_member l.fields))
