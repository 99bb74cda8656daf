use Rattle.std.proofs.Common.{◌≡◌}
use Rattle.semantic_objects.specs.Tables.{with_all}
use Rattle.env_parts.proofs.rows.Rows.set_all.Given as goal

-- the rows that are left over those set so far are all over the first ones
abbrev pub invariant-loop-name : goal.invariant-loop-name
invariant-loop-name l = with_all l.name-iterator l.self-inside.places.entries ≡ with_all l.fn.rows l.fn.self
