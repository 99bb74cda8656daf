use Rattle.std.proofs.Common.{sym, ap, ◌∙◌}
use Rattle.type_schemes.specs.Instances.{instance_at}
use Rattle.table_schemes.specs.Meaning.{unfolded}
use Rattle.table_schemes.proofs.Later.{nodes_later}
use Rattle.table_schemes.proofs.Entering.{adds_keeps}
use Rattle.table_schemes.proofs.Instances.{made_have, root_made}
use Rattle.table_schemes.proofs.uses.make_instance.Goals as goal

pub make_nodes-requires : goal.make_nodes-requires
make_nodes-requires c =
    nodes_later c.args.table.now c.add_variables.new.table c.args.made.now.nodes
    (adds_keeps c.args.table.now c.add_variables.new.table c.add_variables.ensures.added) c.requires.nodes

pub part_id-requires-clause-ids : goal.part_id-requires-clause-ids
part_id-requires-clause-ids c =
    made_have c.make_nodes.new.table c.variables-base.result (unfolded c.add_variables.new.table c.args.made.now.nodes)
    c.in_ok-ids.ids c.in_ok-ids.ensures.made

pub returns-in-Some-clause-made : goal.returns-in-Some-clause-made
returns-in-Some-clause-made c =
    root_made c.args.table.now c.add_variables.new.table c.make_nodes.new.table c.variables-base.result c.args.scheme.now.body
    c.args.made.now.nodes c.args.made.now.root c.in_ok-ids.ids c.in-Some.id c.add_variables.ensures.added
    c.make_nodes.ensures.added c.requires.nodes c.requires.root c.in_ok-ids.ensures.made c.in-Some.ensures.read
    ∙ ap (λ b. instance_at b c.args.scheme.now.body) (c.variables-base.ensures ∙ sym c.is_kept.ensures.kept.next)
