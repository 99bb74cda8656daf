use Rattle.bin_formats.proofs.Spelled.{bin_spelled, interface_spelled, record_spelled}
use Rattle.bin_formats.proofs.laws.read_is_spelled.Goals as goal

pub returns : goal.returns
returns c = record { bins = bin_spelled; interfaces = interface_spelled; records = record_spelled }
