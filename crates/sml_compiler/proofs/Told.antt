-- What a step gives is what a compiler answers, where a fault is told.
use Rattle.std.proofs.Common.{Result, Ok, Err}
use Rattle.cm_base.specs.Calls.{Gives, Answers}
use Rattle.cm_base.specs.declared.diag.Diag.{Diag}
use Rattle.cm_base.specs.declared.fault.Fault.{Fault}
use Rattle.cm_base.specs.declared.fault.Fault.TheVariants as fault
use Rattle.sml_compiler.specs.Front.{told}

pub answers : {A : Type 0} (why : Fault) (defined : Result A Diag) → Gives {A = A} (Err why) defined
    → Answers {A = A} (Err (told why)) defined
answers (fault.Diag diag) defined e = e
answers fault.NoMemory defined e = tt
