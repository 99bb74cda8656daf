use Rattle.std.proofs.Common.{◌≡◌, ◌++◌, drop, flat_map}
use Rattle.cm_bytes.specs.Fields.{list_of}
use Rattle.sml_syntax.specs.Code.{pat_field_of}
use Rattle.sml_syntax.proofs.write_pat.+write_pat.Given as goal

-- in each loop: what is written, and the items that are left
abbrev pub invariant-write_pat_fields-loop-field : goal.invariant-write_pat_fields-loop-field
invariant-write_pat_fields-loop-field l =
    l.out ++ flat_map pat_field_of (drop l.field-index l.fields) ≡ l.fn.out ++ list_of pat_field_of l.fn.fields
