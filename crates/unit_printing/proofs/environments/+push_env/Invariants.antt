use Rattle.unit_printing.proofs.environments.+push_env.Given as goal

abbrev pub decreases-push_env : goal.decreases-push_env
decreases-push_env l = l.levels
