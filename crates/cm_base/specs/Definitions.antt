-- What a compiler is determined by: it answers nothing but what these definitions say, or that it wants memory.
use Rattle.std.specs.Prelude.{ℕ, List, Result}
use Rattle.cm_base.specs.declared.diag.Diag.{Diag}
use Rattle.cm_base.specs.declared.record.Skeleton.{Skeleton}
use Rattle.cm_base.specs.declared.record.CompileInput.{CompileInput}
use Rattle.cm_base.specs.declared.record.Compiled.{Compiled}

-- the skeleton of a unit's source, and the interface and the code of an input, or the first diagnostic of each
pub record Definitions : Type 0 where
  pub skel : List ℕ → List ℕ → Result Skeleton Diag
  pub compiled : CompileInput → Result Compiled Diag
