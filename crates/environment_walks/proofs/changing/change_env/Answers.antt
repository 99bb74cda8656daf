use Rattle.std.proofs.Common.{sym, ◌∙◌}
use Rattle.sml_modules.specs.declared.id.EnvId.{EnvId}
use Rattle.environment_walks.proofs.Changes.{env_made}
use Rattle.environment_walks.proofs.changing.change_env.Goals as goal

pub returns-in-Some-clause-env : goal.returns-in-Some-clause-env
returns-in-Some-clause-env g c =
    let made : EnvId = record { place = c.in-Some.place } in
    env_made (g.C.TypeChanges.change c.args.by.now) c.args.graph.now c.walk.new.graph c.walk.new.images c.args.env made
    c.requires.env c.walk.ensures.extends c.in_ok-walk.ensures.changed (sym c.of.ensures ∙ c.in-Some.is)
