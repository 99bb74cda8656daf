use Rattle.std.proofs.Common.{◌≡◌, drop, map}
use Rattle.bare_phrases.specs.PhraseOf.{dat_phrase}
use Rattle.static_semantics.specs.Inferring.{Scope}
use Rattle.signature_specs.specs.Specs.{signature_so_far, IsFrontOf}
use Rattle.datatype_specs.specs.Steps.{env_of_new}
use Rattle.datatype_specs.proofs.Specifying.{TypesLeft}
use Rattle.datatype_specs.proofs.datatypes.specify_datatypes.Given as goal

-- what is specified so far, and the datatypes that are left
abbrev pub invariant-loop-bind : goal.invariant-loop-bind
invariant-loop-bind l = record {
  front : IsFrontOf l.fn.made l.made;
  structures : l.made.structures ≡ l.fn.made.structures;
  left_is : (inner : Scope) → inner.home ≡ l.g.home
      → TypesLeft inner (env_of_new l.new) (map dat_phrase l.binds) (signature_so_far l.g l.fn.made)
      (map dat_phrase (drop l.bind-index l.binds)) (signature_so_far l.g l.made);
}
