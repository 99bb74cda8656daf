-- What the call that reads a linked program answers.
use Rattle.std.specs.Prelude.{◌≡◌, ℕ, List, Some, None, Result, Ok, Err}
use Rattle.sml_syntax.specs.declared.fault.CodeFault.{CodeFault}
use Rattle.sml_syntax.specs.declared.fault.CodeFault.TheVariants as fault
use Rattle.linker.specs.declared.program.Program.{Program}
use Rattle.linker.specs.Reading.{program_of}

-- the program that the bytes are; a refusal where they are none; want of memory is free
abbrev pub IsProgramOf : List ℕ → Result Program CodeFault → Type 0
IsProgramOf bytes (Ok program) = program_of bytes ≡ Some program
IsProgramOf bytes (Err fault.BadCode) = program_of bytes ≡ None
IsProgramOf bytes (Err fault.NoMemory) = Unit {0}
