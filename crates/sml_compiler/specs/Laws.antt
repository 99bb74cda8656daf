-- The laws of the compiler's two definitions, as the public function states them.
use Rattle.std.specs.Prelude.{◌≡◌, Ok, Err}
use Rattle.cm_base.specs.declared.diag.Diag.{Diag}
use Rattle.cm_base.specs.declared.record.Skeleton.{Skeleton}
use Rattle.cm_base.specs.declared.record.CompileInput.{CompileInput}
use Rattle.cm_base.specs.declared.record.Compiled.{Compiled}
use Rattle.unit_compiling.specs.Compiled.{compiled_of}
use Rattle.sml_compiler.specs.Front.{skeleton_definition}

pub record CompilesWhatHasASkeleton : Type 0 where
  -- a unit that is compiled has a skeleton
  pub has : (input : CompileInput) (compiled : Compiled) → compiled_of input ≡ Ok compiled
      → (skeleton : Skeleton) × (skeleton_definition input.unit input.source ≡ Ok skeleton)
  -- a source without one is refused with the same diagnostic, whatever options and imports the unit has
  pub lacks : (input : CompileInput) (diag : Diag) → skeleton_definition input.unit input.source ≡ Err diag
      → compiled_of input ≡ Err diag
