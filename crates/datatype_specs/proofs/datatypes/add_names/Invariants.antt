use Rattle.std.proofs.Common.{◌≡◌, ◌++◌, drop, map}
use Rattle.bare_phrases.specs.PhraseOf.{dat_phrase}
use Rattle.module_semantics.specs.SignatureInference.{names_of_types}
use Rattle.datatype_specs.specs.Steps.{env_of_new}
use Rattle.datatype_specs.proofs.datatypes.add_names.Given as goal

-- the names so far, and those that are left
abbrev pub invariant-loop-bind : goal.invariant-loop-bind
invariant-loop-bind l =
    l.bound ++ names_of_types (map dat_phrase (drop l.bind-index l.binds)) (env_of_new l.new)
    ≡ l.fn.bound ++ names_of_types (map dat_phrase l.binds) (env_of_new l.new)
