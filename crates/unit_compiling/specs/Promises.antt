-- The law of compiled units, as the public function states it.
use Rattle.std.specs.Prelude.{◌≡◌, ◌≤◌, length, Ok}
use Rattle.cm_base.specs.declared.record.CompileInput.{CompileInput}
use Rattle.cm_base.specs.declared.record.Compiled.{Compiled}
use Rattle.unit_compiling.specs.Compiled.{compiled_of}

-- interface and code are within their limits
pub record IsSmall (compiled : Compiled) : Type 0 where
  pub interface : length compiled.interface ≤ 1048576
  pub code : length compiled.code ≤ 8388608

pub record CompiledUnitsAreSmall : Type 0 where
  pub all : (input : CompileInput) (compiled : Compiled) → compiled_of input ≡ Ok compiled → IsSmall compiled
