use Rattle.declaration_ends.proofs.Walking.{none_passed}
use Rattle.declaration_ends.proofs.passed.Passed.new.Goals as goal

pub returns : goal.returns
returns c = none_passed (record { variables = c.new.result; nodes = c.new-2.result }) c.new.ensures c.new-2.ensures
