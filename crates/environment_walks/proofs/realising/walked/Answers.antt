use Rattle.type_walks.specs.Replaced.{replacing}
use Rattle.environment_walks.proofs.Changes.{no_images, env_kept_ok}
use Rattle.environment_walks.proofs.realising.walked.Goals as goal

pub change_env-requires-clause-changed : goal.change_env-requires-clause-changed
change_env-requires-clause-changed c =
    no_images (replacing c.args.by.now) c.args.graph.now.items c.new-images.result (λ p. c.new-images.ensures p)

pub returns-clause-gives : goal.returns-clause-gives
returns-clause-gives c = env_kept_ok (replacing c.args.by.now) c.args.graph.now c.change_env.new.graph c.args.env
    c.change_env.result c.change_env.ensures.extends c.change_env.ensures.env
