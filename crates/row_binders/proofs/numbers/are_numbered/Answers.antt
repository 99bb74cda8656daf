use Rattle.std.proofs.Common.{◌≡◌, arith, sym, subst}
use Rattle.row_binders.proofs.Numbered.{NumberedAlike, numbered_first, numbered_on, numbered_not, numbered_end}
use Rattle.row_binders.proofs.numbers.are_numbered.Goals as goal

pub loop-name-init : goal.loop-name-init
loop-name-init c =
    let same : c.from-next.result ≡ c.args.first = omega arith in
    record {
      is = omega arith;
      alike = subst (λ n. NumberedAlike c.args.first c.args.names.now n c.args.names.now) (sym same)
          (numbered_first c.args.first c.args.names.now);
    }

pub loop-name-preserved : goal.loop-name-preserved
loop-name-preserved c = record {
  is = omega arith;
  alike = numbered_on c.args.first c.loop-name.next c.args.names.now c.loop-name.name-index c.name-item.result
      c.name-item.result c.name-item.is c.loop-name-test.true c.if-name-next.false c.loop-name.invariant.alike;
}

pub returns-then-name-next : goal.returns-then-name-next
returns-then-name-next c =
    numbered_not c.args.first c.loop-name.next c.args.names.now c.loop-name.name-index c.name-item.result
    c.name-item.result c.name-item.is c.loop-name-test.true c.if-name-next.true c.loop-name.invariant.alike

pub returns : goal.returns
returns c =
    numbered_end c.args.first c.loop-name.next c.args.names.now c.loop-name.name-index c.loop-name-test.false
    c.loop-name.invariant.alike
