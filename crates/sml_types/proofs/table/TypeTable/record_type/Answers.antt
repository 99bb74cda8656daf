use Rattle.std.proofs.Common.{subst, sym}
use Rattle.type_schemes.specs.Schemes.{HaveAll}
use Rattle.sml_types.proofs.Looking.{sorted_node, record_is}
use Rattle.sml_types.proofs.table.TypeTable.record_type.Goals as goal

pub add-requires : goal.add-requires
add-requires c = sorted_node c.args.self.now c.in_ok-fields_of.field-0 c.in_ok-fields.fields.labels c.in_ok-fields.fields.parts
    c.in_ok-fields.ensures (subst (HaveAll c.args.self.now) (sym c.in_ok-fields_of.ensures.parts) c.requires.parts)

pub returns-clause-made : goal.returns-clause-made
returns-clause-made c = record_is c.args.self.now c.in_ok-fields_of.field-0 _ _ _ _ _ c.in_ok-fields_of.ensures.labels
    c.in_ok-fields_of.ensures.parts c.in_ok-fields.ensures c.in_ok-add.ensures.made
