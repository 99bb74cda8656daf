use Rattle.sml_modules.specs.Graphs.{HasEnvs}
use Rattle.scope_cases.proofs.packing_steps.known_of.Given as goal

abbrev pub invariant-loop-structure : goal.invariant-loop-structure
invariant-loop-structure l = HasEnvs l.graph l.known
