use Rattle.std.proofs.Common.{◌≡◌, ◌++◌, map, drop}
use Rattle.bare_phrases.specs.PhraseOf.{dec_phrase, dec_phrases}
use Rattle.static_semantics.specs.WrittenVariables.{tyvars_of_decs}
use Rattle.written_variables.proofs.walk_exp.+walk_dec.Given as goal

-- what was met, and the declarations that are left
abbrev pub invariant-walk_decs-loop-dec : goal.invariant-walk_decs-loop-dec
invariant-walk_decs-loop-dec l =
    l.met.items ++ tyvars_of_decs (dec_phrases (map dec_phrase (drop l.dec-index l.decs)))
    ≡ l.fn.met.items ++ tyvars_of_decs (dec_phrases (map dec_phrase l.fn.decs))
