use Rattle.std.proofs.Common.{◌∙◌, ap, refl}
use Rattle.std.specs.Prelude.{Some}
use Rattle.std.specs.Option.{option_map}
use Rattle.sml_modules.specs.Items.{at, as_type, function_of}
use Rattle.sml_modules.specs.Graphs.{env_at}
use Rattle.sml_modules.proofs.Looking.{finds_type, finds_no_type}
use Rattle.sml_modules.proofs.graph.EnvGraph.find_type_function.Goals as goal

pub returns-in_ok-function-in-Some : goal.returns-in_ok-function-in-Some
returns-in_ok-function-in-Some c =
    ap Some c.in_ok-function-in-Some.ensures
    ∙ ap (option_map function_of) (finds_type c.args.self.now.items (env_at c.args.self.now c.args.env)
    c.in_ok-tables.tables.now c.args.name.now c.in-Some.place (as_type (at c.args.self.now.items c.in-Some.place))
    c.in_ok-tables.ensures c.in-Some.ensures refl)

pub returns-in-None : goal.returns-in-None
returns-in-None c = ap (option_map function_of) (finds_no_type c.args.self.now.items (env_at c.args.self.now c.args.env)
    c.in_ok-tables.tables.now c.args.name.now c.in_ok-tables.ensures c.in-None.ensures)
