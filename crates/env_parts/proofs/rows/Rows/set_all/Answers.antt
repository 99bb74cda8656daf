use Rattle.std.proofs.Common.{◌≡◌, ◌∷◌, rules}
use Rattle.env_parts.proofs.Tabling.{set_next}
use Rattle.env_parts.proofs.rows.Rows.set_all.Goals as goal

pub loop-name-preserved : goal.loop-name-preserved
loop-name-preserved c =
    let next : c.loop-name.name-iterator ≡ (c.in-Some.name.now, c.in-Some.place.now) ∷ c.next.new.self = search rules in
    set_next c.in-Some.name.now c.in_ok-copy.field-0 c.in-Some.place.now c.loop-name.name-iterator c.next.new.self
    c.loop-name.self-inside.places.entries c.insert.new.self.entries _ next c.in_ok-insert.ensures.entries
    c.in_ok-copy.ensures c.loop-name.invariant
