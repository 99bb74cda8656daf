use Rattle.std.proofs.Common.{◌≡◌, drop, map}
use Rattle.static_semantics.specs.Inferring.{Scope}
use Rattle.type_phrases.specs.Inferred.{KeepsTypes, progress}
use Rattle.module_semantics.specs.SigPhrases.{type_desc_phrase}
use Rattle.module_semantics.specs.SignatureInference.{infer_type_descs}
use Rattle.signature_specs.specs.Specs.{signature_so_far, IsFrontOf}
use Rattle.signature_specs.proofs.types.elab_types.Given as goal

-- what is specified so far, and the types that are left; and what the graph had is as it was
abbrev pub invariant-loop-desc : goal.invariant-loop-desc
invariant-loop-desc l = record {
  keeps : KeepsTypes l.fn.t l.t;
  items : l.g.items ≡ l.fn.g.items;
  home : l.g.home ≡ l.fn.g.home;
  front : IsFrontOf l.fn.made l.made;
  structures : l.made.structures ≡ l.fn.made.structures;
  left_is : (inner : Scope) → inner.home ≡ l.fn.g.home
      → infer_type_descs inner l.fn.eq (map type_desc_phrase l.fn.descs) (signature_so_far l.fn.g l.fn.made)
      (progress l.fn.t l.fn.g)
      ≡ infer_type_descs inner l.fn.eq (map type_desc_phrase (drop l.desc-index l.fn.descs))
      (signature_so_far l.g l.made) (progress l.t l.g);
}
