use Rattle.std.proofs.Common.{◌≡◌, drop, map}
use Rattle.env_parts.specs.Types.{facts_of_tree, no_facts, con_types}
use Rattle.env_parts.specs.TypeSteps.{joined}
use Rattle.env_parts.proofs.entry_facts.con_facts.Given as goal

abbrev pub invariant-loop-con : goal.invariant-loop-con
invariant-loop-con l =
    joined l.facts (map facts_of_tree (con_types (drop l.con-index l.fn.cons)))
    ≡ joined no_facts (map facts_of_tree (con_types l.fn.cons))
