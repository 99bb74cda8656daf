use Rattle.std.proofs.Common.{◌++◌, ◌∷◌, [], ap, ap₂, ◌∙◌, arith}
use Rattle.interface_reading.specs.declared.needs.Need.TheVariants as need
use Rattle.interface_reading.proofs.Awaited.{open_of, text_met}
use Rattle.interface_reading.proofs.Weighing.{raw_taken, one_lighter}
use Rattle.interface_reading.proofs.open.meet_text.Goals as goal

pub returns-clause-goes : goal.returns-clause-goes
returns-clause-goes c =
    let top = c.args.top.now in
    text_met c.args.top.now (open_of top.tag top.number c.add.new.self c.read_count.new.items) c.args.reader.now
    c.in_ok-len.ensures.text c.read_count.new.reader c.in_ok-len.ensures.read
    (ap₂ (open_of top.tag top.number)
    (c.in_ok-add.ensures.ok ∙ ap (λ n. top.needs ++ need.Raw n ∷ []) c.in_ok-len.ensures.is) c.in_ok-len.ensures.items)

pub returns-clause-less : goal.returns-clause-less
returns-clause-less c =
    let fewer = raw_taken 4 c.args.reader.now c.in_ok-len.ensures.text c.read_count.new.reader
    c.in_ok-len.ensures.read in
    one_lighter need.Text (need.Raw c.in_ok-len.len) c.args.reader.now c.read_count.new.reader c.args.top.now.needs
    c.add.new.self c.in_ok-add.ensures.ok (omega (arith, fewer)) (omega arith)
