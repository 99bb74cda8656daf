use Rattle.interface_reading.proofs.Awaited.{one_byte}
use Rattle.interface_reading.proofs.open.read_byte.Goals as goal

pub first_in-requires : goal.first_in-requires
first_in-requires c =
    one_byte c.args.reader.now c.in_ok-text.text.now c.read_piece.new.reader c.in_ok-text.ensures.0
