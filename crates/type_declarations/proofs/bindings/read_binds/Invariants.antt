use Rattle.std.proofs.Common.{◌≡◌, map, drop}
use Rattle.bare_phrases.specs.PhraseOf.{typ_phrase}
use Rattle.type_declarations.proofs.Binding.{TypesSoFar}
use Rattle.type_declarations.proofs.bindings.read_binds.Given as goal

-- what was made so far, and the bindings that are left; and the scope is as it was
abbrev pub invariant-loop-bind : goal.invariant-loop-bind
invariant-loop-bind g l = record {
  same : l.scope ≡ l.fn.scope;
  sofar : TypesSoFar l.fn.g l.fn.t l.fn.scope (map typ_phrase l.fn.binds) (map typ_phrase (drop l.bind-index l.fn.binds))
      l.t l.names l.made;
}
