use Rattle.path_anchors.proofs.NameLaws.{lies_in_project, lies_where_it_says}
use Rattle.path_anchors.proofs.laws.names_lie_in_the_project.Goals as goal

pub returns-clause-project : goal.returns-clause-project
returns-clause-project c = lies_in_project

pub returns-clause-place : goal.returns-clause-place
returns-clause-place c = lies_where_it_says
