use Rattle.use_laws.proofs.Records.{cut_leaves, whole_leaves}
use Rattle.use_laws.proofs.laws.loading_leaves_fronts.Goals as goal

pub returns-clause-whole : goal.returns-clause-whole
returns-clause-whole c = whole_leaves

pub returns-clause-cut : goal.returns-clause-cut
returns-clause-cut c = cut_leaves
