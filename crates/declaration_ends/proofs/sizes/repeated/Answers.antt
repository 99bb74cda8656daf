use Rattle.std.proofs.Common.{sym, subst}
use Rattle.declaration_ends.specs.Sizes.{AreAll}
use Rattle.declaration_ends.proofs.Sizing.{all_more}
use Rattle.declaration_ends.proofs.sizes.repeated.Goals as goal

pub loop-init : goal.loop-init
loop-init c = subst (AreAll c.args.id) (sym c.new-ids.ensures) tt

pub loop-preserved : goal.loop-preserved
loop-preserved c = all_more c.args.id c.loop.ids c.add.new.self c.loop.invariant c.in_ok-add.ensures.ok
