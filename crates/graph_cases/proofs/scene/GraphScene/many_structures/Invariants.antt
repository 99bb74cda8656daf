use Rattle.sml_modules.specs.Graphs.{HasEnv, HasEnvs}
use Rattle.graph_cases.proofs.scene.GraphScene.many_structures.Given as goal

abbrev pub invariant-loop-number : goal.invariant-loop-number
invariant-loop-number l = record {
  structures : HasEnvs l.self.graph l.structures;
  env : HasEnv l.self.graph l.env;
}
