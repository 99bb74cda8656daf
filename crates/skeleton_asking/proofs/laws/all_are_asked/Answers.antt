use Rattle.skeleton_asking.proofs.StoredSkeletons.{all_asked}
use Rattle.skeleton_asking.proofs.laws.all_are_asked.Goals as goal

pub returns : goal.returns
returns c = all_asked
