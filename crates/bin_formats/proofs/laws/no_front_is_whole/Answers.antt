use Rattle.bin_formats.proofs.Formats.{bin_no_front, interface_no_front, record_no_front}
use Rattle.bin_formats.proofs.laws.no_front_is_whole.Goals as goal

pub returns : goal.returns
returns c = record {
  bins = bin_no_front;
  interfaces = interface_no_front;
  records = record_no_front;
}
