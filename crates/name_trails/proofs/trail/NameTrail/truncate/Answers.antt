use Rattle.std.proofs.Common.{subst, take}
use Rattle.name_trails.specs.Places.{IsPlaced}
use Rattle.name_trails.proofs.Placing.{cut}
use Rattle.name_trails.proofs.trail.NameTrail.truncate.Goals as goal

pub invariant_of-self : goal.invariant_of-self
invariant_of-self g c =
    cut c.forget.new.last c.args.len c.self.inside.rows.items c.truncate.new.self.items c.self.inside.links.items
    c.truncate-then-len.new.self.items c.self.invariant.linked
    (subst (λ all. IsPlaced c.forget.new.last (take c.args.len all)) c.deref.ensures.value c.forget.ensures)
    c.truncate-then-len.ensures.items c.truncate.ensures.items
