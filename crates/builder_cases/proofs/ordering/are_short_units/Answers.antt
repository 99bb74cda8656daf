use Rattle.std.proofs.Common.{refl, subst}
use Rattle.std.proofs.lemmas.List.{take_all}
use Rattle.std.proofs.lemmas.List.Elements.{All-more}
use Rattle.cutoff_builder.specs.Small.{IsShortUnit}
use Rattle.builder_cases.proofs.ordering.are_short_units.Goals as goal

-- one more unit
pub loop-unit-preserved : goal.loop-unit-preserved
loop-unit-preserved c =
    All-more IsShortUnit c.args.units.now c.loop-unit.unit-index c.unit-item.result c.loop-unit-test.true
    c.loop-unit.invariant
    (subst IsShortUnit c.unit-item.is (c.if-not-is_short_unit.ensures refl))

-- all units
pub returns : goal.returns
returns c same =
    rw (take_all c.loop-unit.unit-index c.args.units.now c.loop-unit-test.false) at c.loop-unit.invariant
