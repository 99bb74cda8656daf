-- What is answered where the interface of a unit is written.
use Rattle.std.specs.Prelude.{◌≡◌, ℕ, ◌<◌, ◌≤◌, List, length, Result, Ok, Err}
use Rattle.cm_base.specs.Diags.{whole_file}
use Rattle.cm_base.specs.declared.fault.Fault.{Fault}
use Rattle.cm_base.specs.declared.fault.Fault.TheVariants as fault
use Rattle.semantic_objects.specs.Environments.{Top}
use Rattle.interface_format.specs.Interfaces.{interface_bytes}

-- the interface, or 12 at the unit where it has more than 1,048,576 bytes; want of memory is free
abbrev pub WritesInterface : List ℕ → Top → Result (List ℕ) Fault → Type 0
WritesInterface home top (Ok text) = (text ≡ interface_bytes home top) × (length text ≤ 1048576)
WritesInterface home top (Err (fault.Diag diag)) =
    (diag ≡ whole_file 12 home) × (1048576 < length (interface_bytes home top))
WritesInterface home top (Err fault.NoMemory) = Unit {0}
