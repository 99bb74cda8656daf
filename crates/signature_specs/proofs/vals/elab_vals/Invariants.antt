use Rattle.std.proofs.Common.{◌≡◌, drop, map}
use Rattle.semantic_objects.specs.declared.entry.ValueEntry.{ValueEntry}
use Rattle.type_nodes.specs.Tables.{Table}
use Rattle.type_phrases.specs.Inferred.{KeepsTypes, progress, scope_in}
use Rattle.module_semantics.specs.SigPhrases.{val_phrase}
use Rattle.module_semantics.specs.SignatureInference.{infer_vals}
use Rattle.signature_specs.specs.Specs.{signature_so_far, IsFrontOf}
use Rattle.signature_specs.proofs.vals.elab_vals.Given as goal

-- what is specified so far, and the values that are left; and the scope is as it was
abbrev pub invariant-loop-desc : goal.invariant-loop-desc
invariant-loop-desc g l = record {
  keeps : KeepsTypes l.fn.t l.t;
  scope : l.scope ≡ l.fn.scope;
  front : IsFrontOf l.fn.made l.made;
  structures : l.made.structures ≡ l.fn.made.structures;
  left_is : (u : Table) (read : g.row.V.Denot → ValueEntry)
      → infer_vals (scope_in l.fn.g u read l.fn.scope) (map val_phrase l.fn.descs) (signature_so_far l.fn.g l.fn.made)
      (progress l.fn.t l.fn.g)
      ≡ infer_vals (scope_in l.fn.g u read l.fn.scope) (map val_phrase (drop l.desc-index l.fn.descs))
      (signature_so_far l.fn.g l.made) (progress l.t l.fn.g);
}
