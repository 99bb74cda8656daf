use Rattle.linker.proofs.Programs.{written_again}
use Rattle.linker.proofs.laws.program_is_read_again.Goals as goal

pub returns : goal.returns
returns c = written_again
