use Rattle.std.proofs.Common.{◌≡◌, ◌++◌, map, drop}
use Rattle.bare_phrases.specs.PhraseOf.{ex_phrase}
use Rattle.static_semantics.specs.WrittenVariables.{tyvars_of_exceptions}
use Rattle.written_variables.proofs.walk_exp.walk_exceptions.Given as goal

-- what was met, and the exceptions that are left
abbrev pub invariant-loop-bind : goal.invariant-loop-bind
invariant-loop-bind l =
    l.met.items ++ tyvars_of_exceptions (map ex_phrase (drop l.bind-index l.binds))
    ≡ l.fn.met.items ++ tyvars_of_exceptions (map ex_phrase l.fn.binds)
