use Rattle.std.proofs.Common.{◌≡◌, map, drop}
use Rattle.semantic_objects.specs.declared.entry.ValueEntry.{ValueEntry}
use Rattle.type_nodes.specs.Tables.{state}
use Rattle.bare_phrases.specs.PhraseOf.{ty_phrase, ty_phrases, ty_field_phrase, ty_fields}
use Rattle.type_phrases.specs.Inferred.{scope_in}
use Rattle.firm_types.specs.Firm.{AreFirmFields, AreFirmArgs}
use Rattle.firm_types.proofs.phrase.+check_firm.Given as goal

-- if what is left is firm, all is
abbrev pub invariant-check_args-loop-arg : goal.invariant-check_args-loop-arg
invariant-check_args-loop-arg g l = record {
  same : l.t ≡ l.fn.t;
  left : (read : g.row.V.Denot → ValueEntry)
      → AreFirmArgs (state l.fn.t).stands (scope_in l.fn.g l.fn.t read l.fn.scope)
      (ty_phrases (map ty_phrase (drop l.arg-index l.fn.args)))
      → AreFirmArgs (state l.fn.t).stands (scope_in l.fn.g l.fn.t read l.fn.scope)
      (ty_phrases (map ty_phrase l.fn.args));
}

abbrev pub invariant-check_fields-loop-field : goal.invariant-check_fields-loop-field
invariant-check_fields-loop-field g l = record {
  same : l.t ≡ l.fn.t;
  left : (read : g.row.V.Denot → ValueEntry)
      → AreFirmFields (state l.fn.t).stands (scope_in l.fn.g l.fn.t read l.fn.scope)
      (ty_fields (map ty_field_phrase (drop l.field-index l.fn.fields)))
      → AreFirmFields (state l.fn.t).stands (scope_in l.fn.g l.fn.t read l.fn.scope)
      (ty_fields (map ty_field_phrase l.fn.fields));
}
