use Rattle.std.proofs.Common.{◌≡◌, length, subst, arith}
use Rattle.type_schemes.specs.Ages.{MetEntries}
use Rattle.type_schemes.proofs.Walks.{entries_then}
use Rattle.type_schemes.proofs.young.Young.meet_entries.Goals as goal

pub loop-at-preserved : goal.loop-at-preserved
loop-at-preserved c = record {
  met = entries_then c.args.table.now c.args.from c.loop-at.at c.args.self.now c.loop-at.self c.meet_entry.new.self
      c.loop-at.invariant.met c.in_ok-meet_entry.ensures.met;
  heads = c.in_ok-meet_entry.ensures.heads;
}

pub returns-clause-met : goal.returns-clause-met
returns-clause-met c =
    let k : c.loop-at.at ≡ length c.args.table.now.trail =
    let k = c.loop-at-test.false in let l = c.loop-at.auto.at-end in let e = c.entries-at-end.ensures in omega (arith, k, l, e) in
    subst (λ n. MetEntries c.args.table.now c.args.from n c.args.self.now c.loop-at.self) k c.loop-at.invariant.met
