use Rattle.bare_phrases.proofs.Forms.{dec_phrase-Open}
use Rattle.bare_phrases.specs.PhraseOf.{dec_phrase}
use Rattle.std.proofs.Common.{◌≡◌, true, false, sym, ap, ◌∙◌}
use Rattle.core_elab.specs.Inside.{is_open}
use Rattle.core_elab.proofs.entering.enter_declared.Goals as goal

pub returns-in-Open-clause-given : goal.returns-in-Open-clause-given
returns-in-Open-clause-given c = λ h.
    let is : true ≡ false =
    sym (ap is_open (ap dec_phrase c.in-Open.is ∙ dec_phrase-Open c.in-Open.field-0 c.in-Open.field-1)) ∙ h in
    absurd (cc)
