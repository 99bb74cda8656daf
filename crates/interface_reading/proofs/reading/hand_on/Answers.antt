use Rattle.std.proofs.Common.{ap}
use Rattle.interface_reading.proofs.Awaited.{open_of, on_ok_then}
use Rattle.interface_reading.proofs.Closing.{handed_some}
use Rattle.interface_reading.proofs.reading.hand_on.Goals as goal

pub returns : goal.returns
returns c =
    let outer = c.in-Some.outer in
    on_ok_then c.add-2.result c.add-2.ensures.ok
    (λ e. handed_some c.args.place c.args.opens.now c.add-2.new.self c.pop.new.self outer
    (open_of outer.tag outer.number outer.needs c.add.new.self) c.in-Some.ensures
    (ap (open_of outer.tag outer.number outer.needs) c.in_ok-add.ensures.ok) e)
