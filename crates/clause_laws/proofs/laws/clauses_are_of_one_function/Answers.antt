use Rattle.clause_laws.proofs.HeadForms.{clauses_of_one}
use Rattle.clause_laws.proofs.laws.clauses_are_of_one_function.Goals as goal

pub returns : goal.returns
returns c = clauses_of_one
