use Rattle.std.proofs.Common.{refl, sym, ap, subst, length, List, Bool}
use Rattle.given_tops.specs.Names.{nodes_of}
use Rattle.given_tops.specs.Knowing.{AreTold}
use Rattle.given_tops.proofs.Knowing.{told_nothing, held_next, held_counted}
use Rattle.given_tops.proofs.table.nodes_hold.Goals as goal

pub loop-at-init : goal.loop-at-init
loop-at-init c = record {
  told = subst (AreTold c.args.t.now (nodes_of c.args.limits.now)) (sym c.new-held.ensures)
      (told_nothing c.args.t.now (nodes_of c.args.limits.now));
  counted = ap (λ (xs : List Bool). length xs) c.new-held.ensures;
}

pub loop-at-preserved : goal.loop-at-preserved
loop-at-preserved c = record {
  told = held_next c.args.t.now (nodes_of c.args.limits.now) c.loop-at.held c.add.new.self c.loop-at.at
      c.in_ok-holds.holds c.in_ok-add.ensures.ok c.loop-at.invariant.told c.loop-at.invariant.counted
      c.in_ok-holds.ensures;
  counted = held_counted c.args.t.now (nodes_of c.args.limits.now) c.loop-at.held c.add.new.self c.loop-at.at
      c.in_ok-holds.holds c.in_ok-add.ensures.ok c.loop-at.invariant.counted;
}
