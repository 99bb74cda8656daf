use Rattle.std.proofs.Common.{◌≡◌, ◌++◌, ◌+◌, drop, map}
use Rattle.bare_forms.specs.Patterns.{pat_fields_from, joined_pat, applied_pat, missing_pat, bare_pat, bare_pat_field, bare_pat_item}
use Rattle.bare_forms.specs.Runs.{run_from, run_of}
use Rattle.phrase_forms.proofs.pat.+to_pat.Given as goal

-- in each loop: what is made, and the items that are left
abbrev pub invariant-to_pats-loop-pat : goal.invariant-to_pats-loop-pat
invariant-to_pats-loop-pat l = l.made.items ++ map bare_pat (drop l.pat-index l.pats) ≡ map bare_pat l.pats

abbrev pub invariant-to_pat_fields-loop-field : goal.invariant-to_pat_fields-loop-field
invariant-to_pat_fields-loop-field l =
    l.made ++ map bare_pat_field (drop l.field-index l.fields) ≡ map bare_pat_field l.fields

abbrev pub invariant-to_pat_tuple-loop-part : goal.invariant-to_pat_tuple-loop-part
invariant-to_pat_tuple-loop-part l =
    (l.number ≡ l.part-index + 1)
    × (l.made ++ pat_fields_from l.at l.number (map bare_pat (drop l.part-index l.parts))
    ≡ pat_fields_from l.at 1 (map bare_pat l.parts))

abbrev pub invariant-to_pat_run-loop-item : goal.invariant-to_pat_run-loop-item
invariant-to_pat_run-loop-item l =
    run_from joined_pat applied_pat (missing_pat l.at) l.before.items l.begun
    (map bare_pat_item (drop l.item-index l.items))
    ≡ run_of joined_pat applied_pat (missing_pat l.at) (map bare_pat_item l.items)
