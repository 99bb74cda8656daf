use Rattle.cm_bytes.proofs.Fields.{raw_takes, raw_again, raw_at-none}
use Rattle.cm_bytes.proofs.laws.raw_is_exact.Goals as goal

pub returns-clause-again : goal.returns-clause-again
returns-clause-again c = raw_again

pub returns-clause-short : goal.returns-clause-short
returns-clause-short c = raw_at-none

pub returns-clause-spelled : goal.returns-clause-spelled
returns-clause-spelled c =
    λ n bytes text rest h e. ((raw_takes n bytes text rest h e).0.parts, (raw_takes n bytes text rest h e).1)
