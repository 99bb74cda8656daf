use Rattle.type_schemes.proofs.Walks.{walk_less, walk_on}
use Rattle.type_schemes.proofs.young.Young.meet.Goals as goal

pub loop-next-smaller : goal.loop-next-smaller
loop-next-smaller c = walk_less c.args.table.now c.in-Some.next c.loop-next.self c.step.new.self c.loop-next.ids c.pop.new.self
    c.step.new.ids c.in-Some.ensures c.in_ok-step.ensures.step

pub loop-next-preserved : goal.loop-next-preserved
loop-next-preserved c = record {
  walk = walk_on c.args.table.now c.args.id c.in-Some.next c.args.self.now c.loop-next.self c.step.new.self
      c.loop-next.ids c.pop.new.self c.step.new.ids c.loop-next.invariant.walk c.in-Some.ensures c.in_ok-step.ensures.step;
  heads = c.in_ok-step.ensures.heads;
}
