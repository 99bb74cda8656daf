use Rattle.std.proofs.Common.{◌≡◌, map, drop}
use Rattle.bare_phrases.specs.PhraseOf.{ex_phrase}
use Rattle.type_phrases.specs.Inferred.{scope_in}
use Rattle.exception_bindings.proofs.Binding.{ExceptionsSoFar}
use Rattle.exception_bindings.proofs.bindings.exception_values.Given as goal

-- what was made so far, and the bindings that are left
abbrev pub invariant-loop-exception : goal.invariant-loop-exception
invariant-loop-exception g l = record {
  same : l.t ≡ l.fn.t;
  sofar : ExceptionsSoFar g.row.V.Denot (λ read. scope_in l.fn.g l.fn.t read l.fn.scope) (map ex_phrase l.fn.binds)
      (map ex_phrase (drop l.exception-index l.fn.binds)) l.names l.made;
}
