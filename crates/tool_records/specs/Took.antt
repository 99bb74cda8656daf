-- What a call that reads a part of a record answers.
use Rattle.std.specs.Prelude.{◌≡◌, List, ℕ, Option, Some, None, Result, Ok, Err}
use Rattle.tool_records.specs.declared.fault.ReadFault.{ReadFault}
use Rattle.tool_records.specs.declared.fault.ReadFault.TheVariants as fault

-- what a step makes of the bytes, with those that it leaves; a refusal where they spell nothing; want of memory is free
abbrev pub Took : {A : Type 0} → Option (A × List ℕ) → Result A ReadFault → List ℕ → Type 0
Took answer (Ok x) rest = answer ≡ Some (x, rest)
Took answer (Err fault.Unspelled) rest = answer ≡ None
Took answer (Err fault.NoMemory) rest = Unit {0}

-- the value of which all the bytes are the spelling; a refusal where there is none
abbrev pub TookAll : {A : Type 0} → Option A → Result A ReadFault → Type 0
TookAll answer (Ok x) = answer ≡ Some x
TookAll answer (Err fault.Unspelled) = answer ≡ None
TookAll answer (Err fault.NoMemory) = Unit {0}
