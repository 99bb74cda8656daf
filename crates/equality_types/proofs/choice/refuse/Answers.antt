use Rattle.std.proofs.Common.{refl}
use Rattle.equality_types.proofs.Fallen.{falls_one}
use Rattle.equality_types.proofs.choice.refuse.Goals as goal

-- the type admitted equality so far
pub returns-in_ok-push : goal.returns-in_ok-push
returns-in_ok-push c =
    falls_one c.args.at c.args.choice.now _ c.args.work.now.items _ c.requires c.if-choice-at.true refl
    c.in_ok-push.ensures.items
