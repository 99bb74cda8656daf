use Rattle.tool_deriving.proofs.Runs.{text_is}
use Rattle.tool_deriving.proofs.Truth.{use_keeps_true}
use Rattle.tool_deriving.proofs.laws.true_records_serve.Goals as goal

pub returns-clause-text : goal.returns-clause-text
returns-clause-text c = text_is

pub returns-clause-keeps : goal.returns-clause-keeps
returns-clause-keeps c = use_keeps_true
