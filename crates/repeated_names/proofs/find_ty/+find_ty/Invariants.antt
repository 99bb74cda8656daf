use Rattle.std.proofs.Common.{◌≡◌, map, drop}
use Rattle.repeated_names.specs.Repeats.{earliest_with, repeats_in, all_repeats}
use Rattle.repeated_names.specs.Finding.{found_behind}
use Rattle.repeated_names.specs.RepeatedTypes.{ty_repeats, ty_field_member}
use Rattle.repeated_names.proofs.find_ty.+find_ty.Given as goal

-- in each loop: what is found, and what is left
abbrev pub invariant-find_tys-loop-ty : goal.invariant-find_tys-loop-ty
invariant-find_tys-loop-ty l =
    earliest_with l.finder (all_repeats (map ty_repeats (drop l.ty-index l.tys)))
    ≡ earliest_with l.fn.finder (all_repeats (map ty_repeats l.tys))

abbrev pub invariant-find_ty_fields-loop-field : goal.invariant-find_ty_fields-loop-field
invariant-find_ty_fields-loop-field l =
    earliest_with l.finder (found_behind l.seen.keys (map ty_field_member (drop l.field-index l.fields)))
    ≡ earliest_with l.fn.finder (repeats_in (map ty_field_member l.fields))
