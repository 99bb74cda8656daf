use Rattle.cm_bytes.proofs.Fields.{IsBytes-u32_of, length-u32_of, u32_again, u32_at-none, u32_takes}
use Rattle.cm_bytes.proofs.laws.u32_is_exact.Goals as goal

pub returns-clause-again : goal.returns-clause-again
returns-clause-again c = u32_again

pub returns-clause-spelled : goal.returns-clause-spelled
returns-clause-spelled c = λ bytes x rest h e. ((u32_takes bytes x rest h e).0.parts, (u32_takes bytes x rest h e).1)

pub returns-clause-short : goal.returns-clause-short
returns-clause-short c = u32_at-none

pub returns-clause-size : goal.returns-clause-size
returns-clause-size c = length-u32_of

pub returns-clause-bytes : goal.returns-clause-bytes
returns-clause-bytes c = IsBytes-u32_of
