use Rattle.std.proofs.Common.{subst, take}
use Rattle.infix_names.specs.Fixities.{Fixities}
use Rattle.infix_names.specs.FixityTables.{IsPlaced}
use Rattle.infix_names.proofs.FixityTables.{cut}
use Rattle.infix_names.proofs.fixity.Fixities.truncate.Goals as goal

pub invariant_of-self : goal.invariant_of-self
invariant_of-self c =
    cut c.forget.new.last c.args.len c.self.inside.entries.items c.truncate.new.self.items c.self.inside.links.items
    c.truncate-then-len.new.self.items c.self.invariant.linked
    (subst (λ (xs : Fixities). IsPlaced c.forget.new.last (take c.args.len xs)) c.deref.ensures.value c.forget.ensures.placed)
    c.truncate-then-len.ensures.items c.truncate.ensures.items
