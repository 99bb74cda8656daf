use Rattle.std.proofs.Common.{◌≡◌, drop}
use Rattle.env_parts.specs.TypeSteps.{joined}
use Rattle.sml_modules.specs.Adding.{facts_at_places, rows_facts}
use Rattle.sml_modules.proofs.graph.EnvGraph.facts_of_rows.Given as goal

abbrev pub invariant-loop-place : goal.invariant-loop-place
invariant-loop-place l =
    joined l.facts (facts_at_places l.fn.self.items (drop l.place-index l.place-items))
    ≡ rows_facts l.fn.self.items l.fn.rows
