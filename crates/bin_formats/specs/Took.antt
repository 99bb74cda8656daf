-- What a call that reads a file, or a part of one, answers.
use Rattle.std.specs.Prelude.{◌≡◌, ℕ, List, Option, Some, None, Result, Ok, Err}
use Rattle.bin_formats.specs.Format.{IsBin, binfile}
use Rattle.bin_formats.specs.declared.bin.Bin.{Bin}
use Rattle.bin_formats.specs.declared.fault.ReadFault.{ReadFault}
use Rattle.bin_formats.specs.declared.fault.ReadFault.TheVariants as fault

-- what a step makes of the bytes, with those that it leaves; a refusal where they spell nothing; want of memory is free
abbrev pub Took : {A : Type 0} → Option (A × List ℕ) → Result A ReadFault → List ℕ → Type 0
Took answer (Ok x) rest = answer ≡ Some (x, rest)
Took answer (Err fault.Unspelled) rest = answer ≡ None
Took answer (Err fault.NoMemory) rest = Unit {0}

-- the value of which all the bytes are the spelling; a refusal where there is none
abbrev pub TookAll : {A : Type 0} → Option A → Result A ReadFault → Type 0
TookAll answer (Ok x) = answer ≡ Some x
TookAll answer (Err fault.Unspelled) = answer ≡ None
TookAll answer (Err fault.NoMemory) = Unit {0}

-- the binfile that some bytes are; none exactly where they are no binfile
abbrev pub ReadsBin : Option Bin → List ℕ → Type 0
ReadsBin (Some bin) bytes = IsBin bin × (bytes ≡ binfile bin)
ReadsBin None bytes = (bin : Bin) → IsBin bin → bytes ≡ binfile bin → ⊥
