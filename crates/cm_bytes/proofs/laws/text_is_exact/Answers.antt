use Rattle.cm_bytes.proofs.Fields.{IsBytes-text_of, length-text_of, text_again, text_at-none, text_takes}
use Rattle.cm_bytes.proofs.laws.text_is_exact.Goals as goal

pub returns-clause-again : goal.returns-clause-again
returns-clause-again c = text_again

pub returns-clause-spelled : goal.returns-clause-spelled
returns-clause-spelled c = λ bytes x rest h e. ((text_takes bytes x rest h e).0.parts, (text_takes bytes x rest h e).1)

pub returns-clause-short : goal.returns-clause-short
returns-clause-short c = text_at-none

pub returns-clause-size : goal.returns-clause-size
returns-clause-size c = length-text_of

pub returns-clause-bytes : goal.returns-clause-bytes
returns-clause-bytes c = IsBytes-text_of
