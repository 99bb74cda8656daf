use Rattle.core_scopes.proofs.Scoping.{empty_seen}
use Rattle.core_scopes.proofs.scope.Scope.new.Goals as goal

pub returns-clause-seen : goal.returns-clause-seen
returns-clause-seen g c = λ graph read. empty_seen graph read (record {
  below = c.args.below;
  structures = c.new.result;
  types = c.new-2.result;
  values = c.new-3.result;
  written = c.new-4.result;
  hidden = 0;
}) c.new.ensures c.new-2.ensures c.new-3.ensures
