use Rattle.std.proofs.Common.{refl, None}
use Rattle.row_types.proofs.Parts.{not_end, at_tag}
use Rattle.row_types.proofs.Found.{arrow_short, arrow_longer}
use Rattle.row_types.proofs.symbols.arrow_of.Goals as goal

pub returns-in_default-part : goal.returns-in_default-part
returns-in_default-part c = λ home.
    at_tag home 3 3 c.args.items.now c.new-fields.result c.args.rows.now None refl c.new-fields.ensures
    (arrow_short home c.new-fields.result c.part.new.self c.args.rows.now c.in-Some.from c.in-Some.ensures
    c.in_default-part.ensures)

pub returns-then-not-at_end : goal.returns-then-not-at_end
returns-then-not-at_end c = λ home.
    at_tag home 3 3 c.args.items.now c.new-fields.result c.args.rows.now None refl c.new-fields.ensures
    (arrow_longer home c.new-fields.result c.part.new.self c.part-2.new.self c.args.rows.now c.in-Some.from
    c.in-Some-part.to c.in-Some.ensures c.in-Some-part.ensures
    (not_end c.at_end.result c.at_end.ensures c.if-not-at_end.true))
