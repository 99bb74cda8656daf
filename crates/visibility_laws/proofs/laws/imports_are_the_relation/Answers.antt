use Rattle.visibility_laws.proofs.Imported.{imports_are_refused, imports_are_these, provided_are_imported}
use Rattle.visibility_laws.proofs.laws.imports_are_the_relation.Goals as goal

pub returns-clause-imports : goal.returns-clause-imports
returns-clause-imports c = imports_are_these

pub returns-clause-refusal : goal.returns-clause-refusal
returns-clause-refusal c = imports_are_refused

pub returns-clause-provided : goal.returns-clause-provided
returns-clause-provided c = provided_are_imported
