use Rattle.sml_modules.specs.Graphs.{top_at}
use Rattle.sml_modules.proofs.Looking.{finds_funsig, finds_no_funsig}
use Rattle.sml_modules.proofs.graph.EnvGraph.find_funsig.Goals as goal

pub returns-in-Some : goal.returns-in-Some
returns-in-Some c = finds_funsig c.args.self.now (top_at c.args.self.now c.args.top) c.in_ok-tables.tables.now c.args.name.now
    (record { place = c.in-Some.place }) c.in_ok-tables.ensures c.in-Some.ensures

pub returns-in-None : goal.returns-in-None
returns-in-None c = finds_no_funsig c.args.self.now (top_at c.args.self.now c.args.top) c.in_ok-tables.tables.now
    c.args.name.now c.in_ok-tables.ensures c.in-None.ensures
