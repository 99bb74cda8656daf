use Rattle.linker.proofs.Programs.{program_spelled, no_program}
use Rattle.linker.proofs.reading.read_linked.Goals as goal

pub returns-in-Ok-clause-exact : goal.returns-in-Ok-clause-exact
returns-in-Ok-clause-exact c =
    program_spelled c.args.bytes.now c.in-Ok.program (record { below = λ i. (c.type_inv.bytes i).fits }) c.in-Ok.ensures

pub returns-in-Err-BadCode-clause-exact : goal.returns-in-Err-BadCode-clause-exact
returns-in-Err-BadCode-clause-exact c =
    no_program c.args.bytes.now c.in-Err-BadCode.field-0 (record { below = λ i. (c.type_inv.bytes i).fits })
    c.in-Err-BadCode.field-0-is c.in-Err-BadCode.ensures
