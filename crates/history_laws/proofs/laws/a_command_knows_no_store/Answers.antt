use Rattle.history_laws.proofs.Histories.{commands_know_no_store, projects_stand_alone}
use Rattle.history_laws.proofs.laws.a_command_knows_no_store.Goals as goal

pub returns-clause-same : goal.returns-clause-same
returns-clause-same c = commands_know_no_store

pub returns-clause-alone : goal.returns-clause-alone
returns-clause-alone c = projects_stand_alone
