use Rattle.std.proofs.Common.{arith, ◌<◌, ℕ}
use Rattle.std.proofs.lemmas.List.{take_all}
use Rattle.std.proofs.lemmas.List.Elements.{All-more}
use Rattle.project_cases.proofs.graphs.all_below.Goals as goal

-- one more unit
pub loop-unit-preserved : goal.loop-unit-preserved
loop-unit-preserved c =
    All-more (λ (unit : ℕ). unit < c.args.count) c.args.list.now c.loop-unit.unit-index 0 c.loop-unit-test.true
    c.loop-unit.invariant (omega arith)

-- all units
pub returns : goal.returns
returns c same =
    rw (take_all c.loop-unit.unit-index c.args.list.now c.loop-unit-test.false) at c.loop-unit.invariant
