use Rattle.std.proofs.Common.{ap, arith}
use Rattle.interface_reading.proofs.Awaited.{open_of, raw_met}
use Rattle.interface_reading.proofs.Weighing.{raw_taken}
use Rattle.interface_reading.proofs.open.meet_raw.Goals as goal

pub returns-clause-goes : goal.returns-clause-goes
returns-clause-goes c =
    raw_met c.args.n c.args.top.now
    (open_of c.args.top.now.tag c.args.top.now.number c.args.top.now.needs c.read_piece.new.items) c.args.reader.now
    c.in_ok-read_piece.field-0.now c.read_piece.new.reader c.in_ok-read_piece.ensures.0
    (ap (open_of c.args.top.now.tag c.args.top.now.number c.args.top.now.needs) c.in_ok-read_piece.ensures.1)

pub returns-clause-less : goal.returns-clause-less
returns-clause-less c =
    let fewer = raw_taken c.args.n c.args.reader.now c.in_ok-read_piece.field-0.now c.read_piece.new.reader
    c.in_ok-read_piece.ensures.0 in
    omega (arith, fewer)
