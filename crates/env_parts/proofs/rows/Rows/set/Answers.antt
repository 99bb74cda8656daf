use Rattle.std.proofs.Common.{ap, ◌∙◌}
use Rattle.semantic_objects.specs.Tables.{with_entry}
use Rattle.env_parts.proofs.Tabling.{insert_is}
use Rattle.env_parts.proofs.rows.Rows.set.Goals as goal

pub returns-clause-ok : goal.returns-clause-ok
returns-clause-ok c = c.in_ok-insert.ensures.entries
    ∙ insert_is c.args.name c.args.place c.self.inside.places.entries
    ∙ ap (with_entry c.args.name c.args.place) c.self.view_is
