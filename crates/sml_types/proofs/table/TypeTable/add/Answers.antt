use Rattle.std.proofs.Common.{subst, ap, ◌∙◌}
use Rattle.unification.specs.Types.{Ty}
use Rattle.type_nodes.specs.Tables.{types_of, with_node_of}
use Rattle.type_schemes.specs.Instances.{Extends}
use Rattle.sml_types.proofs.Looking.{new_type, extends_node, extends_to}
use Rattle.sml_types.proofs.table.TypeTable.add.Goals as goal

pub returns-clause-made : goal.returns-clause-made
returns-clause-made c = new_type c.self.inside.bindings c.add_node.new.self (record { symbol = c.args.symbol; parts = c.args.parts })
    c.in_ok-add_node.field-0 c.in_ok-add_node.ensures.added c.in_ok-add_node.ensures.id
    ∙ ap (λ t. Ty.Made c.args.symbol (types_of t c.args.parts)) c.self.view_is

pub returns-clause-extends : goal.returns-clause-extends
returns-clause-extends c = subst (λ t. Extends t c.add_node.new.self) c.self.view_is
    (extends_to c.self.inside.bindings (with_node_of (record { symbol = c.args.symbol; parts = c.args.parts }) c.self.inside.bindings) c.add_node.new.self
    (extends_node c.self.inside.bindings (record { symbol = c.args.symbol; parts = c.args.parts })) c.in_ok-add_node.ensures.added)
