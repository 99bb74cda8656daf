use Rattle.sml_modules.specs.Graphs.{env_at}
use Rattle.signature_parts.proofs.Opening.{nameless_opened}
use Rattle.signature_parts.proofs.including.entries_of.Goals as goal

pub open_nameless-requires : goal.open_nameless-requires
open_nameless-requires c =
    (c.in_ok-bind_structure.ensures.ok c.args.g.now c.requires).there (c.new-scope.ensures.there c.args.g.now c.requires)

pub returns-clause-is : goal.returns-clause-is
returns-clause-is c = nameless_opened c.args.g.now c.new-scope.result c.bind_structure.new.self c.in_ok-nameless.field-0
    (env_at c.args.g.now c.args.env) c.open_nameless.result c.in_ok-nameless.ensures
    (c.in_ok-bind_structure.ensures.ok c.args.g.now c.requires) c.open_nameless.ensures.is
