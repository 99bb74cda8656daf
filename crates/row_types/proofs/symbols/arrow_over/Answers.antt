use Rattle.row_types.proofs.Parts.{types_hold, types_lack, two_places}
use Rattle.row_types.proofs.Found.{arrow_lacks, arrow_found}
use Rattle.row_types.proofs.symbols.arrow_over.Goals as goal

pub returns-then-not-branch : goal.returns-then-not-branch
returns-then-not-branch c = λ home.
    arrow_lacks home c.args.from c.args.to c.add-2.new.self c.args.rows.now
    (two_places _ _ _ c.args.from c.args.to c.new-places.ensures c.in_ok-add.ensures.ok c.in_ok-add-2.ensures.ok)
    (types_lack c.args.rows.now c.as_slice.result.now c.add-2.new.self c.in_ok-are_types.field-0
    c.in_ok-are_types.ensures c.as_slice.ensures c.if-not-branch.true home)

pub returns : goal.returns
returns c = λ home.
    arrow_found home c.args.from c.args.to c.add-2.new.self c.args.rows.now
    (two_places _ _ _ c.args.from c.args.to c.new-places.ensures c.in_ok-add.ensures.ok c.in_ok-add-2.ensures.ok)
    (types_hold c.args.rows.now c.as_slice.result.now c.add-2.new.self c.in_ok-are_types.field-0
    c.in_ok-are_types.ensures c.as_slice.ensures c.if-not-branch.false home)
