use Rattle.std.proofs.Common.{refl, None}
use Rattle.node_bytes.specs.Nodes.{Content}
use Rattle.node_bytes.specs.Shapes.{with_list}
use Rattle.row_fields.specs.Taking.{IsAny, part_of}
use Rattle.row_fields.specs.Listing.{AreItems, each_of}
use Rattle.row_types.proofs.Parts.{not_end, at_tag, none_begins}
use Rattle.row_types.proofs.Found.{named_short, named_longer}
use Rattle.row_types.proofs.symbols.named_of.Goals as goal

pub returns-in_default-2 : goal.returns-in_default-2
returns-in_default-2 c =
    at_tag c.args.home.now 4 4 c.args.items.now c.new-fields.result c.args.rows.now None refl c.new-fields.ensures
    (named_short c.args.home.now c.new-fields.result c.type_name.new.self c.args.rows.now c.in-Some.name
    (rw c.in-Some.is at c.in_ok-name.ensures)
    (none_begins (each_of part_of) (AreItems IsAny) (with_list Content.part) c.in_ok-args.field-0 c.type_name.new.self
    c.parts.new.self c.in_ok-args.ensures (λ args e. c.in_default-2.not-Some args e)))

pub returns-then-not-at_end : goal.returns-then-not-at_end
returns-then-not-at_end c =
    at_tag c.args.home.now 4 4 c.args.items.now c.new-fields.result c.args.rows.now None refl c.new-fields.ensures
    (named_longer c.args.home.now c.new-fields.result c.type_name.new.self c.parts.new.self c.args.rows.now
    c.in-Some.name c.in-Some-2.args (rw c.in-Some.is at c.in_ok-name.ensures)
    (rw c.in-Some-2.is at c.in_ok-args.ensures) (not_end c.at_end.result c.at_end.ensures c.if-not-at_end.true))
