use Rattle.std.proofs.Common.{ap, ◌∙◌}
use Rattle.env_parts.specs.Types.{both}
use Rattle.sml_modules.proofs.Making.{tables_facts}
use Rattle.sml_modules.proofs.graph.EnvGraph.facts_of_tables.Goals as goal

pub returns : goal.returns
returns c = c.with-2.ensures ∙ ap (both c.in_ok-structures.structures) c.with.ensures
    ∙ tables_facts c.args.self.now.items c.args.tables.now c.in_ok-structures.structures c.in_ok-types.types
    c.in_ok-values.values c.requires c.in_ok-structures.ensures c.in_ok-types.ensures c.in_ok-values.ensures
