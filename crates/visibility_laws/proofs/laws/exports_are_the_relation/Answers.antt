use Rattle.visibility_laws.proofs.Clashes.{clashes_are_several}
use Rattle.visibility_laws.proofs.Exported.{exports_are_refused, exports_are_these, frozen_recorded}
use Rattle.visibility_laws.proofs.laws.exports_are_the_relation.Goals as goal

pub returns-clause-clashes : goal.returns-clause-clashes
returns-clause-clashes c = clashes_are_several

pub returns-clause-exports : goal.returns-clause-exports
returns-clause-exports c = exports_are_these

pub returns-clause-refusal : goal.returns-clause-refusal
returns-clause-refusal c = exports_are_refused

pub returns-clause-frozen : goal.returns-clause-frozen
returns-clause-frozen c = frozen_recorded
