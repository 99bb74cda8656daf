use Rattle.linker.proofs.Programs.{one_program, program_front}
use Rattle.linker.proofs.laws.programs_are_apart.Goals as goal

pub returns-clause-one : goal.returns-clause-one
returns-clause-one c = one_program

pub returns-clause-front : goal.returns-clause-front
returns-clause-front c = program_front
