use Rattle.std.proofs.Common.{◌≡◌, ◌++◌, map, drop}
use Rattle.bare_phrases.specs.PhraseOf.{pat_field_phrase, pat_fields}
use Rattle.static_semantics.specs.WrittenVariables.{tyvars_of_pat_fields}
use Rattle.written_variables.proofs.walk_pat.+walk_pat.Given as goal

-- what was met, and the fields that are left
abbrev pub invariant-walk_pat_fields-loop-field : goal.invariant-walk_pat_fields-loop-field
invariant-walk_pat_fields-loop-field l =
    l.met.items ++ tyvars_of_pat_fields (pat_fields (map pat_field_phrase (drop l.field-index l.fields)))
    ≡ l.fn.met.items ++ tyvars_of_pat_fields (pat_fields (map pat_field_phrase l.fn.fields))
