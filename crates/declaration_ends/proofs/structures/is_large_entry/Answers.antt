use Rattle.std.proofs.Common.{ap, ◌∙◌}
use Rattle.type_nodes.specs.Tables.{state}
use Rattle.core_scopes.proofs.Pathing.{if_ok}
use Rattle.sml_modules.specs.Nodes.{node_item}
use Rattle.declaration_ends.specs.Sizes.{is_large_in}
use Rattle.declaration_ends.proofs.Nesting.{type_tells, value_tells}
use Rattle.declaration_ends.proofs.structures.is_large_entry.Goals as goal

pub returns-in-TypeStr-clause-large : goal.returns-in-TypeStr-clause-large
returns-in-TypeStr-clause-large c = if_ok c.is_large_type.result _ _
    (λ b h. type_tells (state c.args.t.now).stands c.args.g.now.items c.args.place c.in-TypeStr.kept.entry b
    (c.in-Some.ensures.node.is ∙ ap (node_item c.args.g.now.items) c.in-TypeStr.is) h)
    c.is_large_type.ensures.large

pub returns-in-Value-clause-large : goal.returns-in-Value-clause-large
returns-in-Value-clause-large c = if_ok c.is_large.result _ _
    (λ b h. value_tells (state c.args.t.now).stands c.args.g.now.items c.args.place c.in-Value.kept.entry b
    (c.in-Some.ensures.node.is ∙ ap (node_item c.args.g.now.items) c.in-Value.is)
    (h ∙ ap (is_large_in (state c.args.t.now).stands) c.body.ensures))
    c.is_large.ensures.large
