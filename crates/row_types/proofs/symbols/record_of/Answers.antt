use Rattle.std.proofs.Common.{refl, None}
use Rattle.row_types.proofs.Parts.{not_end, at_tag}
use Rattle.row_types.proofs.Found.{record_longer}
use Rattle.row_types.proofs.symbols.record_of.Goals as goal

pub returns-then-not-at_end : goal.returns-then-not-at_end
returns-then-not-at_end c = λ home.
    at_tag home 2 2 c.args.items.now c.new-fields.result c.args.rows.now None refl c.new-fields.ensures
    (record_longer home c.new-fields.result c.table.new.self c.args.rows.now c.in-Some.table
    (rw c.in-Some.is at c.in_ok-table.ensures) (not_end c.at_end.result c.at_end.ensures c.if-not-at_end.true))
