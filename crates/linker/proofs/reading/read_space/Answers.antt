use Rattle.linker.proofs.Exact.{signature_read}
use Rattle.linker.proofs.reading.read_space.Goals as goal

pub returns-in-1 : goal.returns-in-1
returns-in-1 c = signature_read c.args.reader.now c.read_byte.new.reader c.in_ok-read_byte.field-0 c.in_ok-read_byte.ensures c.in-1.is
