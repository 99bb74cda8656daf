use Rattle.std.proofs.Common.{◌++◌, ◌∷◌, [], ap, ap₂, ◌∙◌, arith, rules}
use Rattle.interface_reading.specs.declared.needs.Need.TheVariants as need
use Rattle.interface_reading.proofs.Awaited.{open_of, list_met}
use Rattle.interface_reading.proofs.Weighing.{raw_taken, one_lighter}
use Rattle.interface_reading.proofs.open.meet_list.Goals as goal

pub returns-clause-goes : goal.returns-clause-goes
returns-clause-goes c =
    let top = c.args.top.now in
    list_met c.args.listed c.args.top.now (open_of top.tag top.number c.add.new.self c.read_count.new.items) c.args.reader.now
    c.in_ok-count.ensures.text c.read_count.new.reader c.in_ok-count.ensures.read
    (ap₂ (open_of top.tag top.number)
    (c.in_ok-add.ensures.ok ∙ ap (λ n. top.needs ++ need.Items c.args.listed n ∷ []) c.in_ok-count.ensures.is) c.in_ok-count.ensures.items)

pub returns-clause-less : goal.returns-clause-less
returns-clause-less c =
    let fewer = raw_taken 4 c.args.reader.now c.in_ok-count.ensures.text c.read_count.new.reader
    c.in_ok-count.ensures.read in
    one_lighter (need.List c.args.listed) (need.Items c.args.listed c.in_ok-count.count) c.args.reader.now
    c.read_count.new.reader c.args.top.now.needs c.add.new.self c.in_ok-add.ensures.ok (omega (arith, fewer))
    (search rules)
