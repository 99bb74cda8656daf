use Rattle.sml_modules.specs.Graphs.{env_at}
use Rattle.sml_modules.proofs.Looking.{finds_type, finds_no_type}
use Rattle.sml_modules.proofs.graph.EnvGraph.find_type.Goals as goal

pub returns-in_ok-entry-in-Some : goal.returns-in_ok-entry-in-Some
returns-in_ok-entry-in-Some c = finds_type c.args.self.now.items (env_at c.args.self.now c.args.env) c.in_ok-tables.tables.now
    c.args.name.now c.in-Some.place c.in_ok-entry-in-Some.entry c.in_ok-tables.ensures c.in-Some.ensures
    c.in_ok-entry-in-Some.ensures

pub returns-in-None : goal.returns-in-None
returns-in-None c = finds_no_type c.args.self.now.items (env_at c.args.self.now c.args.env) c.in_ok-tables.tables.now
    c.args.name.now c.in_ok-tables.ensures c.in-None.ensures
