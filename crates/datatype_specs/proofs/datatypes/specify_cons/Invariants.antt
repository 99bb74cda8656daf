use Rattle.std.proofs.Common.{◌≡◌, drop, map}
use Rattle.bare_phrases.specs.PhraseOf.{con_phrase}
use Rattle.static_semantics.specs.Inferring.{Scope}
use Rattle.signature_specs.specs.Specs.{signature_so_far, IsFrontOf}
use Rattle.datatype_specs.specs.Steps.{env_of_new}
use Rattle.datatype_specs.proofs.Specifying.{ConsLeft}
use Rattle.datatype_specs.proofs.datatypes.specify_cons.Given as goal

-- what is specified so far, and the constructors that are left
abbrev pub invariant-loop-con : goal.invariant-loop-con
invariant-loop-con l = record {
  front : IsFrontOf l.fn.made l.made;
  structures : l.made.structures ≡ l.fn.made.structures;
  left_is : (inner : Scope) → inner.home ≡ l.g.home
      → ConsLeft inner (env_of_new l.new) (map con_phrase l.cons) (signature_so_far l.g l.fn.made)
      (map con_phrase (drop l.con-index l.cons)) (signature_so_far l.g l.made);
}
