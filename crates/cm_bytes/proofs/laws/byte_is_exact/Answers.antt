use Rattle.cm_bytes.proofs.Fields.{byte_takes, byte_again}
use Rattle.cm_bytes.proofs.laws.byte_is_exact.Goals as goal

pub returns-clause-again : goal.returns-clause-again
returns-clause-again c = byte_again

pub returns-clause-spelled : goal.returns-clause-spelled
returns-clause-spelled c = λ bytes b rest h e. ((byte_takes bytes b rest h e).0.parts, (byte_takes bytes b rest h e).1)
