use Rattle.skeleton_asking.proofs.StoredSkeletons.{stored_same}
use Rattle.skeleton_asking.proofs.laws.stored_are_the_compilers.Goals as goal

pub returns : goal.returns
returns c = stored_same
