use Rattle.bin_formats.proofs.Formats.{bin_again, interface_again, record_again}
use Rattle.bin_formats.proofs.laws.spelled_is_read.Goals as goal

pub returns : goal.returns
returns c = record { bins = bin_again; interfaces = interface_again; records = record_again }
