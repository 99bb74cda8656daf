use Rattle.std.proofs.Common.{map, drop}
use Rattle.module_semantics.specs.SigPhrases.{sig_binds, spec_phrase, spec_phrases}
use Rattle.signature_elab.specs.Phrases.{bind_phrase, signatures_seen}
use Rattle.signature_elab.proofs.Chaining.{StructuresIn, SpecsIn}
use Rattle.signature_elab.proofs.phrase.+elab_open_sig.Given as goal

-- what was specified so far, and the structures that are left
abbrev pub invariant-elab_structures-loop-bind : goal.invariant-elab_structures-loop-bind
invariant-elab_structures-loop-bind l =
    StructuresIn (signatures_seen l.fn.g l.fn.top) l.fn.g l.g l.fn.t l.t l.fn.made l.made l.fn.top l.top
    (sig_binds (map bind_phrase l.binds)) (sig_binds (map bind_phrase (drop l.bind-index l.binds)))

-- what was specified so far, and the specifications that are left
abbrev pub invariant-elab_specs-loop-spec : goal.invariant-elab_specs-loop-spec
invariant-elab_specs-loop-spec l =
    SpecsIn (signatures_seen l.fn.g l.fn.top) l.fn.g l.g l.fn.t l.t l.fn.made l.made l.fn.top l.top
    (spec_phrases (map spec_phrase l.specs)) (spec_phrases (map spec_phrase (drop l.spec-index l.specs)))
