-- The two interfaces: the bytes are computed.
use Rattle.std.proofs.Common.{◌≡◌, refl, [], Some, None}
use Rattle.cm_bytes.specs.Fields.{byte_at, raw_at, u32_of, u32_at}
use Rattle.node_bytes.specs.Shapes.{number}
use Rattle.node_bytes.specs.Spelling.{spelling}
use Rattle.node_bytes.specs.Reading.{alone_at}
use Rattle.node_bytes.specs.Interfaces.{interfaces}
use Rattle.node_bytes.specs.Examples.{InterfacesAreSo, value_interface, value_bytes, datatype_interface, datatype_bytes, written_again, refers_to}

value_spelled : spelling interfaces value_interface ≡ value_bytes
unfolding u32_of
value_spelled = refl

value_again : alone_at interfaces value_bytes ≡ Some (value_interface, [])
unfolding byte_at raw_at u32_of u32_at number alone_at
value_again = refl

datatype_spelled : spelling interfaces datatype_interface ≡ datatype_bytes
unfolding u32_of
datatype_spelled = refl

datatype_again : alone_at interfaces datatype_bytes ≡ Some (datatype_interface, [])
unfolding byte_at raw_at u32_of u32_at number alone_at
datatype_again = refl

twice_refused : alone_at interfaces written_again ≡ None
unfolding byte_at raw_at u32_of u32_at number alone_at
twice_refused = refl

open_refused : alone_at interfaces (refers_to 2) ≡ None
unfolding byte_at raw_at u32_of u32_at number alone_at
open_refused = refl

later_refused : alone_at interfaces (refers_to 6) ≡ None
unfolding byte_at raw_at u32_of u32_at number alone_at
later_refused = refl

pub are_so : InterfacesAreSo
are_so = record {
  value = value_spelled;
  value_size = refl;
  value_read = value_again;
  datatype = datatype_spelled;
  datatype_size = refl;
  datatype_read = datatype_again;
  twice = twice_refused;
  open_one = open_refused;
  later_one = later_refused;
}
