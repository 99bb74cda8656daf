use Rattle.std.proofs.Common.{◌∙◌, refl, subst}
use Rattle.std.proofs.lemmas.List.{take_all}
use Rattle.std.proofs.lemmas.List.Elements.{All-more}
use Rattle.cutoff_builder.specs.Small.{AreShortNames}
use Rattle.builder_cases.proofs.ordering.are_short.Goals as goal

-- one more list
pub loop-list-preserved : goal.loop-list-preserved
loop-list-preserved c =
    All-more AreShortNames c.args.wanted.now c.loop-list.list-index c.list-item.result c.loop-list-test.true
    c.loop-list.invariant
    (subst AreShortNames (c.as_slice.ensures ∙ c.list-item.is) (c.if-not-is_short_list.ensures refl))

-- all lists
pub returns : goal.returns
returns c same =
    rw (take_all c.loop-list.list-index c.args.wanted.now c.loop-list-test.false) at c.loop-list.invariant
