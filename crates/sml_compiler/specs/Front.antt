-- The skeleton of a source of the whole language, or its first diagnostic: its bare unit has a skeleton.
use Rattle.std.specs.Prelude.{ℕ, List, Result, Ok}
use Rattle.cm_base.specs.Diags.{◌>>=◌}
use Rattle.cm_base.specs.declared.diag.Diag.{Diag}
use Rattle.cm_base.specs.declared.fault.Fault.{Fault}
use Rattle.cm_base.specs.declared.fault.Fault.TheVariants as fault
use Rattle.cm_base.specs.declared.fault.CompileFault.{CompileFault}
use Rattle.cm_base.specs.declared.fault.CompileFault.TheVariants as compile
use Rattle.cm_base.specs.declared.record.Skeleton.{Skeleton}
use Rattle.skeletons.specs.Skeletons.{skeleton_of}
use Rattle.unit_compiling.specs.Compiled.{bare_of_source}

-- the skeleton of a source, or its first diagnostic; diagnostics name the unit as their file
abbrev pub skeleton_definition : List ℕ → List ℕ → Result Skeleton Diag
skeleton_definition unit source = bare_of_source unit source >>= λ bare. Ok (skeleton_of bare)

-- a fault, as a compiler tells it
abbrev pub told : Fault → CompileFault
told (fault.Diag diag) = compile.Diag diag
told fault.NoMemory = compile.NoMemory
