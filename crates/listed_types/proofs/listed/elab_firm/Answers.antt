use Rattle.bare_phrases.specs.PhraseOf.{ty_phrase}
use Rattle.listed_types.proofs.Firmness.{firm_answer}
use Rattle.listed_types.proofs.FirmPhrases.{where_true}
use Rattle.listed_types.proofs.listed.elab_firm.Goals as goal

pub returns-then-branch-clause-whole : goal.returns-then-branch-clause-whole
returns-then-branch-clause-whole g c =
    firm_answer c.args.g.now c.args.t.now c.elab_ty.new.t c.args.scope.now (ty_phrase c.args.phrase.now)
    c.elab_ty.result c.requires.alone c.elab_ty.ensures.state
    (where_true c.in_ok-is_firm.field-0 c.if-branch.true c.in_ok-is_firm.ensures) c.elab_ty.ensures.infers
