use Rattle.loading_laws.proofs.Outside.{anchors_bound, goes_by_names, names_outside}
use Rattle.loading_laws.proofs.laws.names_lie_outside_the_store.Goals as goal

pub returns-clause-anchors : goal.returns-clause-anchors
returns-clause-anchors c = anchors_bound

pub returns-clause-names : goal.returns-clause-names
returns-clause-names c = goes_by_names

pub returns-clause-outside : goal.returns-clause-outside
returns-clause-outside c = names_outside
