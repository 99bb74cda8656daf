use Rattle.path_anchors.proofs.NameLaws.{file_has_one_name, name_means_itself}
use Rattle.path_anchors.proofs.laws.a_file_has_one_name.Goals as goal

pub returns-clause-one : goal.returns-clause-one
returns-clause-one c = file_has_one_name

pub returns-clause-itself : goal.returns-clause-itself
returns-clause-itself c = name_means_itself
