-- The interfaces of two units: the bytes are computed.
use Rattle.std.proofs.Common.{◌≡◌, refl, ◌++◌}
use Rattle.cm_bytes.specs.Fields.{u32_of}
use Rattle.node_bytes.specs.Examples.{value_bytes, datatype_bytes}
use Rattle.interface_format.specs.Interfaces.{mark, interface_bytes}
use Rattle.interface_format.specs.Examples.{TopsAreSpelled, home, value_top, datatype_top}

value_spelled : interface_bytes home value_top ≡ mark ++ value_bytes
unfolding u32_of
value_spelled = refl

datatype_spelled : interface_bytes home datatype_top ≡ mark ++ datatype_bytes
unfolding u32_of
datatype_spelled = refl

pub are_spelled : TopsAreSpelled
are_spelled = record { value = value_spelled; datatype = datatype_spelled }
