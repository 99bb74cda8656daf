use Rattle.visibility_laws.proofs.OneNaming.{names_are_refused, names_are_these}
use Rattle.visibility_laws.proofs.laws.names_are_by_number.Goals as goal

pub returns-clause-names : goal.returns-clause-names
returns-clause-names c = names_are_these

pub returns-clause-refusal : goal.returns-clause-refusal
returns-clause-refusal c = names_are_refused
