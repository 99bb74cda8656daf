use Rattle.std.proofs.Common.{map, drop}
use Rattle.bare_phrases.specs.PhraseOf.{dec_phrase, dec_phrases, str_bind_phrase, str_binds}
use Rattle.unit_semantics.specs.UnitPhrases.{module_decs, module_binds}
use Rattle.structure_elab.specs.Moments.{moment}
use Rattle.structure_elab.proofs.Binding.{BindsSoFar}
use Rattle.structure_elab.proofs.Joining.{DecsSoFar}
use Rattle.structure_elab.proofs.phrase.+elab_str.Given as goal

-- what was bound so far, and the bindings that are left
abbrev pub invariant-elab_binds-loop-bind : goal.invariant-elab_binds-loop-bind
invariant-elab_binds-loop-bind l =
    BindsSoFar (moment l.fn.g l.fn.t l.fn.top) (moment l.g l.t l.top)
    (module_binds (str_binds (map str_bind_phrase l.binds)))
    (module_binds (str_binds (map str_bind_phrase (drop l.bind-index l.binds)))) l.fn.made l.made

-- what was made so far, and the declarations that are left
abbrev pub invariant-elab_each-loop-dec : goal.invariant-elab_each-loop-dec
invariant-elab_each-loop-dec l =
    DecsSoFar (moment l.fn.g l.fn.t l.fn.top) (moment l.g l.t l.top) (module_decs (dec_phrases (map dec_phrase l.decs)))
    (module_decs (dec_phrases (map dec_phrase (drop l.dec-index l.decs)))) l.all
