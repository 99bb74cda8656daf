use Rattle.interface_reading.proofs.Awaited.{four_bytes}
use Rattle.interface_reading.proofs.open.read_count.Goals as goal

pub number_in-requires : goal.number_in-requires
number_in-requires c =
    four_bytes c.args.reader.now c.in_ok-text.text.now c.read_piece.new.reader c.in_ok-text.ensures.0
