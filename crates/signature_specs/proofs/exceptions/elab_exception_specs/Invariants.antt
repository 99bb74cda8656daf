use Rattle.std.proofs.Common.{◌≡◌, drop, map}
use Rattle.semantic_objects.specs.declared.entry.ValueEntry.{ValueEntry}
use Rattle.type_nodes.specs.Tables.{Table}
use Rattle.bare_phrases.specs.PhraseOf.{con_phrase}
use Rattle.type_phrases.specs.Inferred.{scope_in}
use Rattle.type_phrases.specs.Steps.{OnlyMakes}
use Rattle.module_semantics.specs.SignatureInference.{infer_exception_specs}
use Rattle.signature_specs.specs.Specs.{signature_so_far, IsFrontOf}
use Rattle.signature_specs.proofs.exceptions.elab_exception_specs.Given as goal

-- what is specified so far, and the exceptions that are left; and the scope is as it was
abbrev pub invariant-loop-con : goal.invariant-loop-con
invariant-loop-con g l = record {
  makes : OnlyMakes l.fn.t l.t;
  scope : l.scope ≡ l.fn.scope;
  front : IsFrontOf l.fn.made l.made;
  structures : l.made.structures ≡ l.fn.made.structures;
  left_is : (u : Table) (read : g.row.V.Denot → ValueEntry)
      → infer_exception_specs (scope_in l.fn.g u read l.fn.scope) (map con_phrase l.fn.cons)
      (signature_so_far l.fn.g l.fn.made)
      ≡ infer_exception_specs (scope_in l.fn.g u read l.fn.scope) (map con_phrase (drop l.con-index l.fn.cons))
      (signature_so_far l.fn.g l.made);
}
