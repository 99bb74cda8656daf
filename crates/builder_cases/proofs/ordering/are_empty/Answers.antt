use Rattle.std.proofs.Common.{refl, subst}
use Rattle.std.proofs.lemmas.List.{take_all}
use Rattle.std.proofs.lemmas.List.Elements.{All-more}
use Rattle.skeleton_asking.specs.Short.{IsShortSkeleton}
use Rattle.builder_cases.proofs.ordering.are_empty.Goals as goal

-- one more skeleton
pub loop-skeleton-preserved : goal.loop-skeleton-preserved
loop-skeleton-preserved c =
    All-more IsShortSkeleton c.args.skeletons.now c.loop-skeleton.skeleton-index c.skeleton-item.result
    c.loop-skeleton-test.true c.loop-skeleton.invariant
    (subst IsShortSkeleton c.skeleton-item.is (c.if-not-is_empty.ensures refl))

-- all skeletons
pub returns : goal.returns
returns c same =
    rw (take_all c.loop-skeleton.skeleton-index c.args.skeletons.now c.loop-skeleton-test.false)
    at c.loop-skeleton.invariant
