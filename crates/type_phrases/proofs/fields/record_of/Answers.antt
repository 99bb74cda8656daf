use Rattle.std.proofs.Common.{ap, ◌∙◌}
use Rattle.semantic_objects.specs.Tables.{names_of}
use Rattle.type_nodes.specs.Tables.{type_of}
use Rattle.core_scopes.proofs.Pathing.{if_ok}
use Rattle.type_phrases.specs.Steps.{ids_in}
use Rattle.type_phrases.proofs.Records.{have_parts, record_made}
use Rattle.type_phrases.proofs.fields.record_of.Goals as goal

pub record_type-requires-clause-parts : goal.record_type-requires-clause-parts
record_type-requires-clause-parts c =
    have_parts c.args.t.now c.args.fields.now c.in_ok-parts.parts c.requires.have
    (c.in_ok-parts.ensures ∙ ap ids_in c.rows-2.ensures)

pub returns-clause-made : goal.returns-clause-made
returns-clause-made c =
    if_ok c.record_type.result _ _
    (λ id h. record_made c.args.t.now c.args.fields.now c.in_ok-labels.labels c.in_ok-parts.parts
    (type_of c.record_type.new.self id) c.requires.differing
    (c.in_ok-labels.ensures ∙ ap names_of c.rows.ensures) (c.in_ok-parts.ensures ∙ ap ids_in c.rows-2.ensures) h)
    c.record_type.ensures.made
