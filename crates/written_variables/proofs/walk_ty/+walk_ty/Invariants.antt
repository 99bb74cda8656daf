use Rattle.std.proofs.Common.{◌≡◌, ◌++◌, map, drop}
use Rattle.bare_phrases.specs.PhraseOf.{ty_phrase, ty_field_phrase, ty_fields, ty_phrases}
use Rattle.static_semantics.specs.WrittenVariables.{tyvars_of_ty_fields, tyvars_of_tys}
use Rattle.written_variables.proofs.walk_ty.+walk_ty.Given as goal

-- what was met, and the fields that are left
abbrev pub invariant-walk_ty_fields-loop-field : goal.invariant-walk_ty_fields-loop-field
invariant-walk_ty_fields-loop-field l =
    l.met.items ++ tyvars_of_ty_fields (ty_fields (map ty_field_phrase (drop l.field-index l.fields)))
    ≡ l.fn.met.items ++ tyvars_of_ty_fields (ty_fields (map ty_field_phrase l.fn.fields))

-- .. and the arguments
abbrev pub invariant-walk_tys-loop-arg : goal.invariant-walk_tys-loop-arg
invariant-walk_tys-loop-arg l =
    l.met.items ++ tyvars_of_tys (ty_phrases (map ty_phrase (drop l.arg-index l.args)))
    ≡ l.fn.met.items ++ tyvars_of_tys (ty_phrases (map ty_phrase l.fn.args))
