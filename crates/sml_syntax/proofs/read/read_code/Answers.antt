use Rattle.sml_syntax.proofs.ReadUnit.{reads_code}
use Rattle.sml_syntax.proofs.read.read_code.Goals as goal

pub returns-clause-spelled : goal.returns-clause-spelled
returns-clause-spelled c =
    reads_code c.args.bytes.now c.read_unit.result (record { below = λ i. (c.type_inv.bytes i).fits }) c.read_unit.ensures
