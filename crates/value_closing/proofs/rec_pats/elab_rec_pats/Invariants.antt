use Rattle.std.proofs.Common.{map, drop}
use Rattle.bare_phrases.specs.PhraseOf.{rule_phrase}
use Rattle.value_closing.specs.Groups.{groups_of}
use Rattle.value_closing.proofs.RecPats.{RecPatsSoFar}
use Rattle.value_closing.proofs.rec_pats.elab_rec_pats.Given as goal

-- what was made so far, and the rules that are left
abbrev pub invariant-loop-rule : goal.invariant-loop-rule
invariant-loop-rule l =
    RecPatsSoFar l.g l.fn.t l.scope (map rule_phrase l.recs) (map rule_phrase (drop l.rule-index l.recs)) l.t l.fn.bound
    l.bound (groups_of l.fn.groups) (groups_of l.groups) l.types
