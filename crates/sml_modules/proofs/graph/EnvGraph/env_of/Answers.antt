use Rattle.std.proofs.Common.{refl}
use Rattle.sml_modules.specs.Graphs.{top_at}
use Rattle.sml_modules.proofs.Looking.{env_of_top}
use Rattle.sml_modules.proofs.graph.EnvGraph.env_of.Goals as goal

pub returns : goal.returns
returns c = env_of_top c.args.self.now (top_at c.args.self.now c.args.top) c.in_ok-tables.tables.now
    (record { place = c.in_ok-tables.tables.now.env }) c.in_ok-tables.ensures refl
