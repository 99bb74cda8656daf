use Rattle.std.proofs.Common.{ap, ◌∙◌}
use Rattle.semantic_objects.specs.Tables.{entry}
use Rattle.env_parts.proofs.Tabling.{lookup_is}
use Rattle.env_parts.proofs.rows.Rows.get.Goals as goal

pub returns-in-Some : goal.returns-in-Some
returns-in-Some c = c.in-Some.ensures.value ∙ lookup_is c.args.name.now c.self.inside.places.entries
    ∙ ap (entry c.args.name.now) c.self.view_is

pub returns-in-None : goal.returns-in-None
returns-in-None c = c.in-None.ensures.value ∙ lookup_is c.args.name.now c.self.inside.places.entries
    ∙ ap (entry c.args.name.now) c.self.view_is
