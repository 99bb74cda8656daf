use Rattle.semantic_objects.specs.Environments.{values}
use Rattle.sml_modules.specs.Graphs.{env_at}
use Rattle.core_scopes.proofs.Scoping.{opened, adds_entries}
use Rattle.core_scopes.proofs.scope.Scope.open_env.Goals as goal

pub returns-in-Ok-clause-ok : goal.returns-in-Ok-clause-ok
returns-in-Ok-clause-ok g c =
    opened c.args.g.now c.args.env c.args.self.now c.open_all.new.self c.mark-before.ensures.front.hidden
    c.in-Ok.ensures.ok

pub returns-in-Ok-clause-bare : goal.returns-in-Ok-clause-bare
returns-in-Ok-clause-bare g c =
    adds_entries c.args.self.now c.open_all.new.self (values (env_at c.args.g.now c.args.env)) c.in-Ok.ensures.ok.values
