use Rattle.sml_modules.specs.Graphs.{env_at}
use Rattle.sml_modules.proofs.Looking.{finds_env, finds_no_env}
use Rattle.sml_modules.proofs.graph.EnvGraph.find_structure.Goals as goal

pub returns-in-Some : goal.returns-in-Some
returns-in-Some c = finds_env c.args.self.now (env_at c.args.self.now c.args.env) c.in_ok-tables.tables.now c.args.name.now
    (record { place = c.in-Some.place }) c.in_ok-tables.ensures c.in-Some.ensures

pub returns-in-None : goal.returns-in-None
returns-in-None c = finds_no_env c.args.self.now (env_at c.args.self.now c.args.env) c.in_ok-tables.tables.now
    c.args.name.now c.in_ok-tables.ensures c.in-None.ensures
