use Rattle.sml_modules.specs.Graphs.{env_at}
use Rattle.sml_modules.proofs.Looking.{finds_value, finds_no_value}
use Rattle.sml_modules.proofs.graph.EnvGraph.find_value.Goals as goal

pub returns-in_ok-entry-in-Some : goal.returns-in_ok-entry-in-Some
returns-in_ok-entry-in-Some c = finds_value c.args.self.now.items (env_at c.args.self.now c.args.env) c.in_ok-tables.tables.now
    c.args.name.now c.in-Some.place c.in_ok-entry-in-Some.entry c.in_ok-tables.ensures c.in-Some.ensures
    c.in_ok-entry-in-Some.ensures

pub returns-in-None : goal.returns-in-None
returns-in-None c = finds_no_value c.args.self.now.items (env_at c.args.self.now c.args.env) c.in_ok-tables.tables.now
    c.args.name.now c.in_ok-tables.ensures c.in-None.ensures
